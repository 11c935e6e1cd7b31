-- The pass finds what the parts of a declaration give.
use Rattle.std.proofs.Common.{◌≡◌, ◌∙◌, ℕ, suc, ◌-◌, Bool, true, false, List, [], ◌∷◌, ◌++◌}
use Rattle.std.proofs.Common.{refl, sym, ap, length, arith, append_assoc, map, ⊎_elim}
use Rattle.std.proofs.lemmas.Bool.{cases_Bool, false≢true}
use Rattle.std.proofs.lemmas.List.{append-nil, map-append}
use Rattle.std.specs.Prelude.{◌&&◌, ◌||◌, ◌==◌, not, cond, drop, take, if◌then◌else◌}
use Rattle.std.specs.List.{flat_map, list_any, onto_first, slice_split}
use Rattle.cb_scan.specs.declared.rules.wide.declaration.Declaration.{Declaration}
use Rattle.cb_scan.specs.declared.rules.wide.part.Part.{Part}
use Rattle.cb_scan.specs.declared.rules.wide.token.WideToken.{WideToken}
use Rattle.cb_scan.specs.rules.Typedefs.{nesting_after}
use Rattle.cb_scan.specs.rules.wide.Declarations as rules
use Rattle.cb_scan.specs.rules.wide.Declarations.{but_last, defines_type, ends_part, has_stray}
use Rattle.cb_scan.specs.rules.wide.Declarations.{has_value, is_extern_part, is_static_part, naming_parts}
use Rattle.cb_scan.specs.rules.wide.Declarations.{part_after}
use Rattle.cb_scan.specs.rules.wide.Levels.{Numbered, is_byte, is_outer, is_outer_byte, numbered}
use Rattle.cb_scan.specs.rules.wide.Names.{part_name}
use Rattle.cb_scan.specs.rules.wide.Prototypes.{prototype_name}
use Rattle.cb_scan.specs.rules.wide.Words.{is_extern_word, is_sign, is_static_word, is_typedef_word}
use Rattle.cb_scan.specs.rules.wide.Words.{is_wide_word}
use Rattle.cb_scan.specs.steps.wide.Along.{items, part_from}
use Rattle.cb_scan.specs.steps.wide.Declarations as steps
use Rattle.cb_scan.specs.steps.wide.Declarations.{Given, declaration_start, given, given_from, grown}
use Rattle.cb_scan.specs.steps.wide.Declarations.{may_name, next_part_of, noted}
use Rattle.cb_scan.specs.steps.wide.Parts.{function, named, next_part, part_start}
use Rattle.cb_scan.proofs.WideAhead.{cut_at}
use Rattle.cb_scan.proofs.WideEnumerators.{and_right, first_part, onto}
use Rattle.cb_scan.proofs.WideHeads.{part_until}
use Rattle.cb_scan.proofs.WideNaming.{is_empty, naming_is, parts_beyond}
use Rattle.cb_scan.proofs.WideParts.{function_name_is, name_is, stray_is, value_is}
use Rattle.cb_scan.proofs.WideTails.{any_last, or_together, sign_is}

-- ---- the parts of a declaration

-- where a part ends
abbrev ends : Numbered → Bool
ends x = is_outer_byte 44 x || is_byte 59 x

abbrev split : List Numbered → List (List Numbered)
split xs = slice_split ends_part xs

pub end_is_not : (b : ℕ) (x : Numbered) → (44 == b) ≡ false → (59 == b) ≡ false → ends_part x ≡ true
    → is_byte b x ≡ false
end_is_not b x comma semicolon is =
    by_sign (is_outer_byte 44 x) (is_byte 59 x) is
    (λ e. ap (is_sign b) (sign_is 44 x.item.role (and_right (is_outer x) (is_byte 44 x) e)) ∙ comma)
    (λ e. ap (is_sign b) (sign_is 59 x.item.role e) ∙ semicolon)
  where
    by_sign : (c s : Bool) → (c || s) ≡ true → (c ≡ true → is_byte b x ≡ false)
        → (s ≡ true → is_byte b x ≡ false) → is_byte b x ≡ false
    by_sign true s is by_c by_s = by_c refl
    by_sign false true is by_c by_s = by_s refl
    by_sign false false is by_c by_s = absurd (false≢true is)

end_is_no_word : (x : Numbered) → ends_part x ≡ true → is_wide_word x.item.role ≡ false
end_is_no_word x is =
    by_sign (is_outer_byte 44 x) (is_byte 59 x) is
    (λ e. ap is_wide_word (sign_is 44 x.item.role (and_right (is_outer x) (is_byte 44 x) e)))
    (λ e. ap is_wide_word (sign_is 59 x.item.role e))
  where
    by_sign : (c s : Bool) → (c || s) ≡ true → (c ≡ true → is_wide_word x.item.role ≡ false)
        → (s ≡ true → is_wide_word x.item.role ≡ false) → is_wide_word x.item.role ≡ false
    by_sign true s is by_c by_s = by_c refl
    by_sign false true is by_c by_s = by_s refl
    by_sign false false is by_c by_s = absurd (false≢true is)

split_form : (xs : List Numbered) → split xs ≡ first_part (split xs) ∷ drop 1 (split xs)
split_form [] = refl
split_form (x ∷ xs) =
    ⊎_elim
    (λ is. ap (λ b. cond b ([] ∷ split xs) (onto_first x (split xs))) is
    ∙ sym (ap (λ b. first_part (cond b ([] ∷ split xs) (onto_first x (split xs)))
    ∷ drop 1 (cond b ([] ∷ split xs) (onto_first x (split xs)))) is))
    (λ isnt. ap (λ b. cond b ([] ∷ split xs) (onto_first x (split xs))) isnt
    ∙ onto x (split xs)
    ∙ sym (ap (λ l. first_part l ∷ drop 1 l) (onto x (split xs)))
    ∙ sym (ap (λ b. first_part (cond b ([] ∷ split xs) (onto_first x (split xs)))
    ∷ drop 1 (cond b ([] ∷ split xs) (onto_first x (split xs)))) isnt))
    (cases_Bool (ends_part x))

first_is : (xs : List Numbered) → first_part (split xs) ≡ cut_at ends_part xs
first_is [] = refl
first_is (x ∷ xs) =
    ⊎_elim
    (λ is. ap (λ b. first_part (cond b ([] ∷ split xs) (onto_first x (split xs)))) is
    ∙ sym (ap (λ b. cond b [] (x ∷ cut_at ends_part xs)) is))
    (λ isnt. ap (λ b. first_part (cond b ([] ∷ split xs) (onto_first x (split xs)))) isnt
    ∙ ap first_part (onto x (split xs))
    ∙ ap (λ l. x ∷ l) (first_is xs)
    ∙ sym (ap (λ b. cond b [] (x ∷ cut_at ends_part xs)) isnt))
    (cases_Bool (ends_part x))

-- ---- what they give, part by part

-- a word outside parentheses and brackets came before, or is among these
any_from : (Numbered → Bool) → Bool → List Numbered → Bool
any_from test b [] = b
any_from test b (x ∷ xs) = any_from test (b || test x) xs

abbrev is_type : Numbered → Bool
is_type x = is_outer x && is_typedef_word x.item.role

abbrev is_static : Numbered → Bool
is_static x = is_outer x && is_static_word x.item.role

abbrev is_extern : Numbered → Bool
is_extern x = is_outer x && is_extern_word x.item.role

-- what a part gives that ends in this state
abbrev giving : Part → Bool → Bool → Bool → Bool → List Given
giving p y t s e =
    if not y && not p.is_stray
    then record {
      name = named p;
      function = function p;
      of_type = t;
      of_static = s;
      of_extern = e;
      valued = p.has_value;
    } ∷ []
    else []

-- what the parts give, all but the last, from a state on
givens : Part → Bool → Bool → Bool → Bool → List (List Numbered) → List Given
givens p y t s e [] = []
givens p y t s e (q ∷ []) = []
givens p y t s e (q ∷ r ∷ qs) =
    giving (part_from p q) y (any_from is_type t q) (any_from is_static s q) (any_from is_extern e q)
    ++ givens (part_start false) (y || (part_from p q).is_stray) (any_from is_type t q)
    (any_from is_static s q) (any_from is_extern e q) (r ∷ qs)

-- ---- the pass along a declaration

pub part_same : (p : Part) (m : Numbered) (n : ℕ) (xs : List WideToken)
    → next_part p (is_outer m) (m.item ∷ xs) m.item
    ≡ next_part p (is_outer m) (items (m ∷ cut_at ends_part (numbered n xs))) m.item
part_same =
    part_until ends_part (λ x is. end_is_not 40 x refl refl is)
    (λ x is. end_is_not 41 x refl refl is) (λ x is. end_is_not 42 x refl refl is) end_is_no_word

-- the same test, written in another order
pub ends_same : (d : Declaration) (x : WideToken)
    → steps.ends_part d x ≡ ends_part (record { item = x; count = d.count })
ends_same d x = by_tests (is_sign 59 x.role) (d.count == 0 && is_sign 44 x.role)
  where
    by_tests : (a b : Bool) → (a || b) ≡ (b || a)
    by_tests true true = refl
    by_tests true false = refl
    by_tests false true = refl
    by_tests false false = refl

type_after : (o : Bool) (d : Declaration) (x : WideToken)
    → (if o then noted d x else d).has_typedef ≡ (d.has_typedef || (o && is_typedef_word x.role))
type_after true d x = refl
type_after false d x = kept d.has_typedef
  where
    kept : (b : Bool) → b ≡ (b || false)
    kept true = refl
    kept false = refl

static_after : (o : Bool) (d : Declaration) (x : WideToken)
    → (if o then noted d x else d).has_static ≡ (d.has_static || (o && is_static_word x.role))
static_after true d x = refl
static_after false d x = kept d.has_static
  where
    kept : (b : Bool) → b ≡ (b || false)
    kept true = refl
    kept false = refl

extern_after : (o : Bool) (d : Declaration) (x : WideToken)
    → (if o then noted d x else d).has_extern ≡ (d.has_extern || (o && is_extern_word x.role))
extern_after true d x = refl
extern_after false d x = kept d.has_extern
  where
    kept : (b : Bool) → b ≡ (b || false)
    kept true = refl
    kept false = refl

stray_after : (o : Bool) (d : Declaration) (x : WideToken) → (if o then noted d x else d).is_stray ≡ d.is_stray
stray_after true d x = refl
stray_after false d x = refl

-- what is given from a state on
abbrev meant : Declaration → List Numbered → List Given
meant d ns = givens d.part d.is_stray d.has_typedef d.has_static d.has_extern (split ns)

-- a token before the first part's other tokens
grown_first : (p : Part) (y t s e : Bool) (m : Numbered) (q : List Numbered) (ss : List (List Numbered))
    → givens (next_part p (is_outer m) (items (m ∷ q)) m.item) y (t || is_type m) (s || is_static m)
    (e || is_extern m) (q ∷ ss)
    ≡ givens p y t s e ((m ∷ q) ∷ ss)
unfolding givens any_from part_from
grown_first p y t s e m q [] = refl
grown_first p y t s e m q (r ∷ ss) = refl

-- after the end of a part
ended_first : (p : Part) (y t s e : Bool) (r : List Numbered) (ss : List (List Numbered))
    → giving p y t s e ++ givens (part_start false) (y || p.is_stray) t s e (r ∷ ss)
    ≡ givens p y t s e ([] ∷ r ∷ ss)
unfolding givens any_from part_from
ended_first p y t s e r ss = refl

-- a token that ends no part
grown_is : (d : Declaration) (x : WideToken) (xs : List WideToken)
    → meant (grown d (x ∷ xs) x) (numbered (nesting_after x.token d.count) xs)
    ≡ givens d.part d.is_stray d.has_typedef d.has_static d.has_extern
    (onto_first (record { item = x; count = d.count }) (split (numbered (nesting_after x.token d.count) xs)))
grown_is d x xs =
    let ns = numbered (nesting_after x.token d.count) xs in
    let m : Numbered = record { item = x; count = d.count } in
    let o = is_outer m in
    let first = first_part (split ns) in
    let others = drop 1 (split ns) in
    ap (λ y. givens (next_part d.part o (x ∷ xs) x) y (if o then noted d x else d).has_typedef
    (if o then noted d x else d).has_static (if o then noted d x else d).has_extern (split ns))
    (stray_after o d x)
    ∙ ap (λ t. givens (next_part d.part o (x ∷ xs) x) d.is_stray t
    (if o then noted d x else d).has_static (if o then noted d x else d).has_extern (split ns))
    (type_after o d x)
    ∙ ap (λ s. givens (next_part d.part o (x ∷ xs) x) d.is_stray (d.has_typedef || is_type m) s
    (if o then noted d x else d).has_extern (split ns))
    (static_after o d x)
    ∙ ap (λ e. givens (next_part d.part o (x ∷ xs) x) d.is_stray (d.has_typedef || is_type m)
    (d.has_static || is_static m) e (split ns))
    (extern_after o d x)
    ∙ ap (λ p. givens p d.is_stray (d.has_typedef || is_type m) (d.has_static || is_static m)
    (d.has_extern || is_extern m) (split ns))
    (part_same d.part m (nesting_after x.token d.count) xs
    ∙ ap (λ l. next_part d.part o (items (m ∷ l)) x) (sym (first_is ns)))
    ∙ ap (givens (next_part d.part o (items (m ∷ first)) x) d.is_stray (d.has_typedef || is_type m)
    (d.has_static || is_static m) (d.has_extern || is_extern m)) (split_form ns)
    ∙ grown_first d.part d.is_stray d.has_typedef d.has_static d.has_extern m first others
    ∙ ap (givens d.part d.is_stray d.has_typedef d.has_static d.has_extern) (sym (onto m (split ns)))

-- a token that ends one
ended_is : (d : Declaration) (x : WideToken) (ns : List Numbered)
    → (if may_name d then given d ∷ [] else []) ++ meant (next_part_of d x) ns
    ≡ givens d.part d.is_stray d.has_typedef d.has_static d.has_extern ([] ∷ split ns)
ended_is d x ns =
    let start : List (List Numbered) → List Given = λ ss.
    giving d.part d.is_stray d.has_typedef d.has_static d.has_extern
    ++ givens (part_start false) (d.is_stray || d.part.is_stray) d.has_typedef d.has_static d.has_extern ss in
    ap start (split_form ns)
    ∙ ended_first d.part d.is_stray d.has_typedef d.has_static d.has_extern (first_part (split ns)) (drop 1 (split ns))
    ∙ ap (λ ss. givens d.part d.is_stray d.has_typedef d.has_static d.has_extern ([] ∷ ss)) (sym (split_form ns))

along : (d : Declaration) (xs : List WideToken) → given_from d xs ≡ meant d (numbered d.count xs)
unfolding given_from numbered givens
along d [] = refl
along d (x ∷ xs) =
    let n = nesting_after x.token d.count in
    let ns = numbered n xs in
    let m : Numbered = record { item = x; count = d.count } in
    let out : Bool → List Given = λ b.
    givens d.part d.is_stray d.has_typedef d.has_static d.has_extern (cond b ([] ∷ split ns) (onto_first m (split ns))) in
    ap (λ b. if b then (if may_name d then given d ∷ [] else []) ++ given_from (next_part_of d x) xs
    else given_from (grown d (x ∷ xs) x) xs) (ends_same d x)
    ∙ ⊎_elim
    (λ is.
    ap (λ b. if b then (if may_name d then given d ∷ [] else []) ++ given_from (next_part_of d x) xs
    else given_from (grown d (x ∷ xs) x) xs) is
    ∙ ap (λ l. (if may_name d then given d ∷ [] else []) ++ l) (along (next_part_of d x) xs)
    ∙ ended_is d x ns
    ∙ sym (ap out is))
    (λ isnt.
    ap (λ b. if b then (if may_name d then given d ∷ [] else []) ++ given_from (next_part_of d x) xs
    else given_from (grown d (x ∷ xs) x) xs) isnt
    ∙ along (grown d (x ∷ xs) x) xs
    ∙ grown_is d x xs
    ∙ sym (ap out isnt))
    (cases_Bool (ends_part m))

-- ---- what that means

-- what the rules say that a part gives
abbrev pub of_part : rules.Part → Given
of_part p = record {
  name = part_name p;
  function = prototype_name p;
  of_type = defines_type p;
  of_static = is_static_part p;
  of_extern = is_extern_part p;
  valued = has_value p.tokens;
}

-- all tokens of some parts
abbrev flat : List (List Numbered) → List Numbered
flat ps = flat_map (λ p. p) ps

flat_snoc : (ps : List (List Numbered)) (q : List Numbered) → flat (ps ++ q ∷ []) ≡ flat ps ++ q
flat_snoc [] q = append-nil q
flat_snoc (p ∷ ps) q = ap (λ l. p ++ l) (flat_snoc ps q) ∙ sym (append_assoc p (flat ps) q)

any_along : (test : Numbered → Bool) (l q : List Numbered)
    → any_from test (list_any test l) q ≡ list_any test (l ++ q)
unfolding any_from
any_along test l [] = sym (ap (list_any test) (append-nil l))
any_along test l (x ∷ q) =
    ap (λ b. any_from test b q) (sym (any_last test l x))
    ∙ any_along test (l ++ x ∷ []) q
    ∙ ap (list_any test) (append_assoc l (x ∷ []) q)

any_parts : (ps : List (List Numbered)) (q : List Numbered)
    → list_any has_stray (ps ++ q ∷ []) ≡ (list_any has_stray ps || has_stray q)
any_parts [] q = elim (has_stray q) as (λ b. (b || false) ≡ (false || b)) [ true ↦ refl | false ↦ refl ]
any_parts (p ∷ ps) q =
    ap (λ b. has_stray p || b) (any_parts ps q)
    ∙ sym (or_together (has_stray p) (list_any has_stray ps) (has_stray q))

not_empty : (ps : List (List Numbered)) (q : List Numbered) → is_empty (ps ++ q ∷ []) ≡ false
not_empty [] q = refl
not_empty (p ∷ ps) q = refl

but_last_more : (q r : List Numbered) (qs : List (List Numbered))
    → but_last (q ∷ r ∷ qs) ≡ q ∷ but_last (r ∷ qs)
but_last_more q r qs =
    let one : suc (suc (length qs)) - 1 ≡ suc (length qs) = omega arith in
    let none : suc (length qs) - 1 ≡ length qs = omega arith in
    ap (λ k. take k (q ∷ r ∷ qs)) one ∙ ap (λ k. q ∷ take k (r ∷ qs)) (sym none)

-- one part
by_stray : (y h : Bool) (g : Given) (p : rules.Part) → g ≡ of_part p
    → (if not y && not h then g ∷ [] else []) ≡ map of_part (if y || h then [] else p ∷ [])
by_stray true h g p same = refl
by_stray false true g p same = refl
by_stray false false g p same = ap (λ l. l ∷ []) same

-- the state before a part, and what it gives
abbrev begun : List (List Numbered) → Part
begun before = part_start (is_empty before)

abbrev any_before : (Numbered → Bool) → List (List Numbered) → Bool
any_before test before = list_any test (flat before)

any_next : (test : Numbered → Bool) (before : List (List Numbered)) (q : List Numbered)
    → any_from test (any_before test before) q ≡ any_before test (before ++ q ∷ [])
any_next test before q =
    any_along test (flat before) q ∙ sym (ap (list_any test) (flat_snoc before q))

giving_is : (before : List (List Numbered)) (q : List Numbered)
    → giving (part_from (begun before) q) (list_any has_stray before)
    (any_from is_type (any_before is_type before) q) (any_from is_static (any_before is_static before) q)
    (any_from is_extern (any_before is_extern before) q)
    ≡ map of_part (part_after (is_empty before) (before ++ q ∷ []) q)
giving_is before q =
    let passed = flat (before ++ q ∷ []) in
    let p : rules.Part = record { first = is_empty before; tokens = q; passed = passed } in
    let ended = part_from (begun before) q in
    let g : Given = record {
      name = named ended;
      function = function ended;
      of_type = any_from is_type (any_before is_type before) q;
      of_static = any_from is_static (any_before is_static before) q;
      of_extern = any_from is_extern (any_before is_extern before) q;
      valued = ended.has_value;
    } in
    let same : g ≡ of_part p = (λ i. record {
      name = name_is (is_empty before) q passed i;
      function = function_name_is (is_empty before) q passed i;
      of_type = any_next is_type before q i;
      of_static = any_next is_static before q i;
      of_extern = any_next is_extern before q i;
      valued = value_is (is_empty before) q passed i;
    }) in
    ap (λ h. if not (list_any has_stray before) && not h then g ∷ [] else [])
    (stray_is (is_empty before) q passed)
    ∙ by_stray (list_any has_stray before) (has_stray q) g p same
    ∙ ap (λ b. map of_part (if b then [] else p ∷ [])) (sym (any_parts before q))

meaning : (before segments : List (List Numbered))
    → givens (begun before) (list_any has_stray before) (any_before is_type before)
    (any_before is_static before) (any_before is_extern before) segments
    ≡ map of_part (parts_beyond before (but_last segments))
unfolding givens parts_beyond
meaning before [] = refl
meaning before (q ∷ []) = refl
meaning before (q ∷ r ∷ qs) =
    let after = before ++ q ∷ [] in
    let ended = part_from (begun before) q in
    let here = giving ended (list_any has_stray before) (any_from is_type (any_before is_type before) q)
    (any_from is_static (any_before is_static before) q) (any_from is_extern (any_before is_extern before) q) in
    let rest : Part → Bool → Bool → Bool → Bool → List Given = λ p y t s e. here ++ givens p y t s e (r ∷ qs) in
    ap (λ h. rest (part_start false) (list_any has_stray before || h)
    (any_from is_type (any_before is_type before) q) (any_from is_static (any_before is_static before) q)
    (any_from is_extern (any_before is_extern before) q)) (stray_is (is_empty before) q [])
    ∙ ap (λ y. rest (part_start false) y
    (any_from is_type (any_before is_type before) q) (any_from is_static (any_before is_static before) q)
    (any_from is_extern (any_before is_extern before) q)) (sym (any_parts before q))
    ∙ ap (λ t. rest (part_start false) (list_any has_stray after) t
    (any_from is_static (any_before is_static before) q)
    (any_from is_extern (any_before is_extern before) q)) (any_next is_type before q)
    ∙ ap (λ s. rest (part_start false) (list_any has_stray after) (any_before is_type after) s
    (any_from is_extern (any_before is_extern before) q)) (any_next is_static before q)
    ∙ ap (λ e. rest (part_start false) (list_any has_stray after) (any_before is_type after)
    (any_before is_static after) e) (any_next is_extern before q)
    ∙ ap (λ b. rest (part_start b) (list_any has_stray after) (any_before is_type after)
    (any_before is_static after) (any_before is_extern after)) (sym (not_empty before q))
    ∙ ap (λ l. here ++ l) (meaning after (r ∷ qs))
    ∙ ap (λ l. l ++ map of_part (parts_beyond after (but_last (r ∷ qs)))) (giving_is before q)
    ∙ sym (map-append of_part (part_after (is_empty before) after q) (parts_beyond after (but_last (r ∷ qs))))
    ∙ sym (ap (λ l. map of_part (parts_beyond before l)) (but_last_more q r qs))

-- the pass over a declaration
pub given_is : (xs : List WideToken)
    → given_from declaration_start xs ≡ map of_part (naming_parts (numbered 0 xs))
given_is xs =
    along declaration_start xs
    ∙ meaning [] (split (numbered 0 xs))
    ∙ sym (ap (map of_part) (naming_is (numbered 0 xs)))
