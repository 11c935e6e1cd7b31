-- A pass over a level that cuts it into declarations finds what their parts give.
use Rattle.std.proofs.Common.{◌≡◌, ◌∙◌, ℕ, zero, suc, ◌+◌, ◌≤◌, Bool, true, false, List, [], ◌∷◌}
use Rattle.std.proofs.Common.{◌++◌, refl, sym, ap, length, arith, add-one, append_assoc, drop, map}
use Rattle.std.proofs.Common.{subst, ⊎_elim}
use Rattle.std.proofs.Math.Seq.{drop-nil}
use Rattle.std.proofs.lemmas.Bool.{cases_Bool, false≢true, or_parts}
use Rattle.std.proofs.Math.Bool.{or-false}
use Rattle.std.proofs.lemmas.List.{append-nil, map-append}
use Rattle.std.specs.Prelude.{◌&&◌, ◌||◌, ◌==◌, cond, find, take, unwrap_or, Some, if◌then◌else◌}
use Rattle.std.specs.List.{flat_map, list_any, range_with_len}
use Rattle.cb_scan.specs.declared.rules.wide.declaration.Declaration.{Declaration}
use Rattle.cb_scan.specs.declared.rules.wide.part.Part.{Part}
use Rattle.cb_scan.specs.declared.rules.wide.token.WideToken.{WideToken}
use Rattle.cb_scan.specs.rules.Typedefs.{nesting_after}
use Rattle.cb_scan.specs.rules.wide.Declarations.{declaration_len, declarations_from, ends_part}
use Rattle.cb_scan.specs.rules.wide.Declarations.{has_outer_equals, naming_parts}
use Rattle.cb_scan.specs.rules.wide.Levels.{Numbered, is_outer, is_outer_byte, numbered}
use Rattle.cb_scan.specs.rules.wide.Levels.{numbered_at}
use Rattle.cb_scan.specs.rules.wide.Words.{is_sign}
use Rattle.cb_scan.specs.steps.wide.Along.{items}
use Rattle.cb_scan.specs.steps.wide.Declarations as steps
use Rattle.cb_scan.specs.steps.wide.Declarations.{Given, closes, declaration_start, given}
use Rattle.cb_scan.specs.steps.wide.Declarations.{given_from, grown, may_name, next_part_of, noted}
use Rattle.cb_scan.specs.steps.wide.Parts.{next_part}
use Rattle.cb_scan.proofs.WideAhead.{cut_at}
use Rattle.cb_scan.proofs.WideDeclarations.{end_is_not, ends_same, given_is, of_part, part_same}
use Rattle.cb_scan.proofs.WideTails.{drop_one, or_together}

-- ---- a token of a declaration

-- what the token gives
abbrev pub here : Declaration → WideToken → List Given
here d x = if steps.ends_part d x then (if may_name d then given d ∷ [] else []) else []

-- the state after the first token
abbrev pub after : Declaration → List WideToken → WideToken → Declaration
after d xs x = if steps.ends_part d x then next_part_of d x else grown d xs x

-- one step of the pass over a declaration
one : (d : Declaration) (x : WideToken) (xs : List WideToken)
    → given_from d (x ∷ xs) ≡ here d x ++ given_from (after d (x ∷ xs) x) xs
unfolding given_from
one d x xs =
    let named : List Given = if may_name d then given d ∷ [] else [] in
    elim (steps.ends_part d x) as (λ b.
    (if b then named ++ given_from (next_part_of d x) xs else given_from (grown d (x ∷ xs) x) xs)
    ≡ (if b then named else [])
    ++ given_from (if b then next_part_of d x else grown d (x ∷ xs) x) xs)
    [ true ↦ refl | false ↦ refl ]

-- ---- what a state knows

-- how many parentheses and brackets are open, whether an `=` came outside of them, and whether the
-- token before is `)` or a brace
pub record Known : Type 0 where
  pub count : ℕ
  pub has_equals : Bool
  pub closes : Bool

abbrev pub known : Declaration → Known
known d = record { count = d.count; has_equals = d.has_equals; closes = d.closes }

abbrev pub start : Known
start = record { count = 0; has_equals = false; closes = false }

abbrev pub next : Known → WideToken → Known
next s x = record {
  count = nesting_after x.token s.count;
  has_equals = s.has_equals || (s.count == 0 && is_sign 61 x.role);
  closes = closes x;
}

-- a token that ends a part is no `=`
equals_after : (d : Declaration) (xs : List WideToken) (x : WideToken)
    → (after d xs x).has_equals ≡ (d.has_equals || (d.count == 0 && is_sign 61 x.role))
equals_after d xs x =
    ⊎_elim
    (λ is.
    ap (λ b. (if b then next_part_of d x else grown d xs x).has_equals) is
    ∙ or_none d.has_equals (d.count == 0)
    ∙ sym (ap (λ b. d.has_equals || (d.count == 0 && b))
    (end_is_not 61 (record { item = x; count = d.count }) refl refl (sym (ends_same d x) ∙ is))))
    (λ isnt.
    ap (λ b. (if b then next_part_of d x else grown d xs x).has_equals) isnt
    ∙ noted_equals (d.count == 0))
    (cases_Bool (steps.ends_part d x))
  where
    or_none : (a o : Bool) → a ≡ (a || (o && false))
    or_none true o = refl
    or_none false true = refl
    or_none false false = refl

    noted_equals : (o : Bool)
        → (if o then noted d x else d).has_equals ≡ (d.has_equals || (o && is_sign 61 x.role))
    noted_equals true = refl
    noted_equals false = or_none d.has_equals false

-- the state after a token knows what follows from the state before
pub known_after : (d : Declaration) (xs : List WideToken) (x : WideToken)
    → known (after d xs x) ≡ next (known d) x
known_after d xs x =
    let count : (after d xs x).count ≡ nesting_after x.token d.count =
    elim (steps.ends_part d x) as (λ b.
    (if b then next_part_of d x else grown d xs x).count ≡ nesting_after x.token d.count)
    [ true ↦ refl | false ↦ refl ] in
    let close : (after d xs x).closes ≡ closes x =
    elim (steps.ends_part d x) as (λ b.
    (if b then next_part_of d x else grown d xs x).closes ≡ closes x)
    [ true ↦ refl | false ↦ refl ] in
    λ i. record { count = count i; has_equals = equals_after d xs x i; closes = close i }

-- ---- what is beyond the end of a declaration is not looked at

-- where a part ends before it, the part is cut there
cut_before : (n : ℕ) (l r : List WideToken) → list_any ends_part (numbered n l) ≡ true
    → cut_at ends_part (numbered n (l ++ r)) ≡ cut_at ends_part (numbered n l)
unfolding numbered
cut_before n [] r is = absurd (false≢true is)
cut_before n (x ∷ l) r is =
    let m : Numbered = record { item = x; count = n } in
    let n' = nesting_after x.token n in
    ⊎_elim
    (λ ends.
    ap (λ b. cond b [] (m ∷ cut_at ends_part (numbered n' (l ++ r)))) ends
    ∙ sym (ap (λ b. cond b [] (m ∷ cut_at ends_part (numbered n' l))) ends))
    (λ on.
    ap (λ c. cond (ends_part m) [] (m ∷ c))
    (cut_before n' l r (sym (ap (λ b. b || list_any ends_part (numbered n' l)) on) ∙ is)))
    (cases_Bool (ends_part m))

-- where none ends, nothing is given
nothing : (d : Declaration) (xs : List WideToken) → list_any ends_part (numbered d.count xs) ≡ false
    → given_from d xs ≡ []
unfolding given_from numbered
nothing d [] none = refl
nothing d (x ∷ xs) none =
    let m : Numbered = record { item = x; count = d.count } in
    let later = list_any ends_part (numbered (nesting_after x.token d.count) xs) in
    let on : steps.ends_part d x ≡ false = ends_same d x ∙ (or_parts (ends_part m) later none).0 in
    ap (λ b. if b then (if may_name d then given d ∷ [] else []) ++ given_from (next_part_of d x) xs
    else given_from (grown d (x ∷ xs) x) xs) on
    ∙ nothing (grown d (x ∷ xs) x) xs ((or_parts (ends_part m) later none).1)

grown_same : (d : Declaration) (x : WideToken) (l r : List WideToken)
    → list_any ends_part (numbered (nesting_after x.token d.count) l) ≡ true
    → grown d (x ∷ (l ++ r)) x ≡ grown d (x ∷ l) x
grown_same d x l r is =
    let m : Numbered = record { item = x; count = d.count } in
    let n = nesting_after x.token d.count in
    let with : Part → Declaration = λ p. record (if d.count == 0 then noted d x else d) {
      part = p;
      closes = closes x;
      count = n;
    } in
    ap with (part_same d.part m n (l ++ r)
    ∙ ap (λ c. next_part d.part (is_outer m) (items (m ∷ c)) x) (cut_before n l r is)
    ∙ sym (part_same d.part m n l))

-- after a token, whatever is beyond
after_same : (d : Declaration) (x : WideToken) (l r : List WideToken)
    → given_from (after d (x ∷ (l ++ r)) x) l ≡ given_from (after d (x ∷ l) x) l
after_same d x l r =
    let n = nesting_after x.token d.count in
    let far = grown d (x ∷ (l ++ r)) x in
    let near = grown d (x ∷ l) x in
    elim (steps.ends_part d x) as (λ b.
    given_from (if b then next_part_of d x else far) l
    ≡ given_from (if b then next_part_of d x else near) l) [
      | true ↦ refl
      | false ↦ ⊎_elim
          (λ is. ap (λ g. given_from g l) (grown_same d x l r is))
          (λ none. nothing far l none ∙ sym (nothing near l none))
          (cases_Bool (list_any ends_part (numbered n l)))
    ]

-- the list is not empty, and a new declaration begins with its first token
abbrev pub over_next : (Known → WideToken → Bool) → Known → List WideToken → Bool
over_next over s [] = false
over_next over s (x ∷ xs) = over s x

-- what the parts give of a declaration of these tokens
named_in : List WideToken → List Given
named_in xs = map of_part (naming_parts (numbered 0 xs))

flat_named : (ps : List (List WideToken))
    → flat_map named_in ps ≡ map of_part (flat_map naming_parts (map (numbered 0) ps))
unfolding named_in
flat_named [] = refl
flat_named (p ∷ ps) =
    let parts = flat_map naming_parts (map (numbered 0) ps) in
    ap (λ l. named_in p ++ l) (flat_named ps)
    ∙ sym (map-append of_part (naming_parts (numbered 0 p)) parts)

-- an `=` is among one more
pub equals_more : (ds : List Numbered) (k : ℕ) (y : Numbered) (ys : List Numbered)
    → drop k ds ≡ y ∷ ys
    → has_outer_equals ds (suc k) ≡ (has_outer_equals ds k || is_outer_byte 61 y)
equals_more [] k y ys left = absurd (false≢true (ap is_nil (sym left ∙ drop-nil k)))
  where
    is_nil : List Numbered → Bool
    is_nil [] = true
    is_nil (z ∷ zs) = false
equals_more (d ∷ ds) zero y ys left =
    or-false (is_outer_byte 61 d) ∙ ap (is_outer_byte 61) (ap (λ l. numbered_at l 0) left)
equals_more (d ∷ ds) (suc k) y ys left =
    ap (λ b. is_outer_byte 61 d || b) (equals_more ds k y ys left)
    ∙ sym (or_together (is_outer_byte 61 d) (has_outer_equals ds k) (is_outer_byte 61 y))

-- ---- a pass by two tests

-- whether a declaration is over before a token, and whether a token is its last; no declaration is
-- over before its first token
module _ (over : Known → WideToken → Bool) (last : Known → WideToken → Bool)
    (begun : (x : WideToken) → over start x ≡ false) where
  -- the tokens of the first declaration, from a state on, those beyond it, and how many it has
  upto : Known → List WideToken → List WideToken
  upto s [] = []
  upto s (x ∷ xs) = cond (over s x) [] (cond (last s x) (x ∷ []) (x ∷ upto (next s x) xs))

  beyond : Known → List WideToken → List WideToken
  beyond s [] = []
  beyond s (x ∷ xs) = cond (over s x) (x ∷ xs) (cond (last s x) xs (beyond (next s x) xs))

  len : Known → List WideToken → ℕ
  len s [] = 0
  len s (x ∷ xs) = cond (over s x) 0 (cond (last s x) 1 (suc (len (next s x) xs)))

  parted : (s : Known) (xs : List WideToken) → xs ≡ upto s xs ++ beyond s xs
  unfolding upto beyond
  parted s [] = refl
  parted s (x ∷ xs) =
      elim (over s x) as (λ o. x ∷ xs
      ≡ cond o [] (cond (last s x) (x ∷ []) (x ∷ upto (next s x) xs))
      ++ cond o (x ∷ xs) (cond (last s x) xs (beyond (next s x) xs))) [
        | true ↦ refl
        | false ↦ elim (last s x) as (λ e. x ∷ xs
            ≡ cond e (x ∷ []) (x ∷ upto (next s x) xs) ++ cond e xs (beyond (next s x) xs))
            [ true ↦ refl | false ↦ ap (λ l. x ∷ l) (parted (next s x) xs) ]
      ]

  take_is : (s : Known) (xs : List WideToken)
      → take (len s xs) (numbered s.count xs) ≡ numbered s.count (upto s xs)
  unfolding numbered upto len
  take_is s [] = refl
  take_is s (x ∷ xs) =
      let m : Numbered = record { item = x; count = s.count } in
      let ns = numbered (nesting_after x.token s.count) xs in
      elim (over s x) as (λ o.
      take (cond o 0 (cond (last s x) 1 (suc (len (next s x) xs)))) (m ∷ ns)
      ≡ numbered s.count (cond o [] (cond (last s x) (x ∷ []) (x ∷ upto (next s x) xs)))) [
        | true ↦ refl
        | false ↦ elim (last s x) as (λ e. take (cond e 1 (suc (len (next s x) xs))) (m ∷ ns)
            ≡ numbered s.count (cond e (x ∷ []) (x ∷ upto (next s x) xs)))
            [ true ↦ refl | false ↦ ap (λ l. m ∷ l) (take_is (next s x) xs) ]
      ]

  drop_is : (s : Known) (xs : List WideToken) → drop (len s xs) xs ≡ beyond s xs
  unfolding beyond len
  drop_is s [] = refl
  drop_is s (x ∷ xs) =
      elim (over s x) as (λ o.
      drop (cond o 0 (cond (last s x) 1 (suc (len (next s x) xs)))) (x ∷ xs)
      ≡ cond o (x ∷ xs) (cond (last s x) xs (beyond (next s x) xs))) [
        | true ↦ refl
        | false ↦ elim (last s x) as (λ e. drop (cond e 1 (suc (len (next s x) xs))) (x ∷ xs)
            ≡ cond e xs (beyond (next s x) xs)) [ true ↦ refl | false ↦ drop_is (next s x) xs ]
      ]

  beyond_short : (s : Known) (xs : List WideToken) → length (beyond s xs) ≤ length xs
  unfolding beyond
  beyond_short s [] = omega arith
  beyond_short s (x ∷ xs) =
      let less = beyond_short (next s x) xs in
      elim (over s x) as (λ o.
      length (cond o (x ∷ xs) (cond (last s x) xs (beyond (next s x) xs))) ≤ suc (length xs)) [
        | true ↦ omega arith
        | false ↦ elim (last s x) as (λ e.
            length (cond e xs (beyond (next s x) xs)) ≤ suc (length xs))
            [ true ↦ omega arith | false ↦ omega arith ]
      ]

  beyond_less : (x : WideToken) (xs : List WideToken) → length (beyond start (x ∷ xs)) ≤ length xs
  unfolding beyond
  beyond_less x xs =
      let r = beyond (next start x) xs in
      let less = beyond_short (next start x) xs in
      subst (λ o. length (cond o (x ∷ xs) (cond (last start x) xs r)) ≤ length xs) (sym (begun x))
      (elim (last start x) as (λ e. length (cond e xs r) ≤ length xs)
      [ true ↦ omega arith | false ↦ less ])

  -- the declarations of a level
  pieces_of : ℕ → List WideToken → List (List WideToken)
  pieces_of zero xs = []
  pieces_of (suc fuel) [] = []
  pieces_of (suc fuel) (x ∷ xs) = upto start (x ∷ xs) ∷ pieces_of fuel (beyond start (x ∷ xs))

  -- ---- a pass and a rule that agree with the tests

  -- the pass gives what a token gives, and begins anew where a declaration ends; the rule tells how
  -- many tokens end a declaration
  module _ (pass : Declaration → List WideToken → List Given)
      (none : (d : Declaration) → pass d [] ≡ [])
      (anew : (d : Declaration) (x : WideToken) (xs : List WideToken) → over (known d) x ≡ true
      → pass d (x ∷ xs) ≡ pass declaration_start (x ∷ xs))
      (on : (d : Declaration) (x : WideToken) (xs : List WideToken) → over (known d) x ≡ false
      → pass d (x ∷ xs) ≡ here d x
      ++ pass (if last (known d) x then declaration_start else after d (x ∷ xs) x) xs)
      (ends : List Numbered → ℕ → Bool)
      (rule : (ds : List Numbered) (k : ℕ) (s : Known) (x : WideToken) (xs : List WideToken)
      → drop k ds ≡ numbered s.count (x ∷ xs) → has_outer_equals ds k ≡ s.has_equals
      → ends ds (suc k) ≡ (last s x || over_next over (next s x) xs)) where
    -- what the first declaration gives and what those after it do, where the test before the token
    -- says this
    whole : Declaration → WideToken → List WideToken → Bool → List Given
    whole d x xs o =
        let s = known d in
        given_from d (cond o [] (cond (last s x) (x ∷ []) (x ∷ upto (next s x) xs)))
        ++ pass declaration_start (cond o (x ∷ xs) (cond (last s x) xs (beyond (next s x) xs)))

    -- the pass up to the end of the first declaration
    first : (d : Declaration) (xs : List WideToken)
        → pass d xs
        ≡ given_from d (upto (known d) xs) ++ pass declaration_start (beyond (known d) xs)
    unfolding upto beyond given_from whole
    first d [] = none d ∙ sym (none declaration_start)
    first d (x ∷ xs) =
        let s = known d in
        let a = after d (x ∷ xs) x in
        let l = upto (next s x) xs in
        let r = beyond (next s x) xs in
        let rest = pass declaration_start r in
        let ended : Bool → List Given = λ e.
        given_from d (cond e (x ∷ []) (x ∷ l)) ++ pass declaration_start (cond e xs r) in
        ⊎_elim
        (λ is. anew d x xs is ∙ sym (ap (whole d x xs) is))
        (λ isnt.
        on d x xs isnt
        ∙ elim (last s x) as (λ e.
        here d x ++ pass (if e then declaration_start else a) xs ≡ ended e) [
          | true ↦ ap (λ g. g ++ pass declaration_start xs)
              (sym (append-nil (here d x)) ∙ sym (one d x []))
          | false ↦
              ap (λ g. here d x ++ g) (first a xs
              ∙ ap (λ t. given_from a (upto t xs) ++ pass declaration_start (beyond t xs))
              (known_after d (x ∷ xs) x)
              ∙ ap (λ g. g ++ rest)
              (ap (λ ts. given_from (after d (x ∷ ts) x) l) (parted (next s x) xs)
              ∙ after_same d x l r))
              ∙ sym (append_assoc (here d x) (given_from (after d (x ∷ l) x) l) rest)
              ∙ ap (λ g. g ++ rest) (sym (one d x l))
        ]
        ∙ sym (ap (whole d x xs) isnt))
        (cases_Bool (over s x))

    -- the pass over all declarations
    passed : (fuel : ℕ) (xs : List WideToken) → length xs ≤ fuel
        → pass declaration_start xs ≡ flat_map named_in (pieces_of fuel xs)
    unfolding pieces_of named_in
    passed zero [] le = none declaration_start
    passed (suc fuel) [] le = none declaration_start
    passed zero (x ∷ xs) le = absurd (omega arith)
    passed (suc fuel) (x ∷ xs) le =
        let l = upto start (x ∷ xs) in
        let r = beyond start (x ∷ xs) in
        let less = beyond_less x xs in
        let short : length r ≤ fuel = omega arith in
        first declaration_start (x ∷ xs)
        ∙ ap (λ g. g ++ pass declaration_start r) (given_is l)
        ∙ ap (λ g. named_in l ++ g) (passed fuel r short)

    -- a declaration that is over takes no token
    over_none : (s : Known) (xs : List WideToken) → over_next over s xs ≡ true → len s xs ≡ 0
    unfolding len
    over_none s [] is = refl
    over_none s (x ∷ xs) is = ap (λ o. cond o 0 (cond (last s x) 1 (suc (len (next s x) xs)))) is

    -- the rule ends the first declaration where the tests do, k tokens of it being passed
    search : (ds : List Numbered) (k : ℕ) (s : Known) (xs : List WideToken)
        → drop k ds ≡ numbered s.count xs → has_outer_equals ds k ≡ s.has_equals
        → over_next over s xs ≡ false
        → unwrap_or (find (ends ds) (range_with_len (suc k) (length (numbered s.count xs))))
        (k + length (numbered s.count xs)) ≡ k + len s xs
    unfolding len numbered
    search ds k s [] left equal new = refl
    search ds k s (x ∷ xs) left equal new =
        let y : Numbered = record { item = x; count = s.count } in
        let t = next s x in
        let ys = numbered t.count xs in
        let follows : drop (suc k) ds ≡ ys = sym (drop_one k ds) ∙ ap (drop 1) left in
        let equals : has_outer_equals ds (suc k) ≡ t.has_equals =
        equals_more ds k y ys left ∙ ap (λ b. b || is_outer_byte 61 y) equal in
        let later = find (ends ds) (range_with_len (suc k + 1) (length ys)) in
        let long : k + suc (length ys) ≡ suc k + length ys = omega arith in
        let more : suc k + len t xs ≡ k + suc (len t xs) = omega arith in
        let found : suc k ≡ k + 1 = omega arith in
        let by : Bool → ℕ = λ b. unwrap_or (cond b (Some (suc k)) later) (k + suc (length ys)) in
        ap by (rule ds k s x xs left equal)
        ∙ elim (last s x) as (λ e. by (e || over_next over t xs) ≡ k + cond e 1 (suc (len t xs))) [
          | true ↦ found
          | false ↦ ⊎_elim
              (λ is. ap by is ∙ found ∙ sym (ap (λ n. k + suc n) (over_none t xs is)))
              (λ isnt.
              ap by isnt
              ∙ ap (λ j.
              unwrap_or (find (ends ds) (range_with_len j (length ys))) (k + suc (length ys)))
              (add-one (suc k))
              ∙ ap (unwrap_or (find (ends ds) (range_with_len (suc (suc k)) (length ys)))) long
              ∙ search ds (suc k) t xs follows equals isnt
              ∙ more)
              (cases_Bool (over_next over t xs))
        ]
        ∙ sym (ap (λ o. k + cond o 0 (cond (last s x) 1 (suc (len t xs)))) new)

    len_is : (x : WideToken) (xs : List WideToken)
        → declaration_len ends (numbered 0 (x ∷ xs)) ≡ len start (x ∷ xs)
    len_is x xs =
        let ds = numbered 0 (x ∷ xs) in
        let from : length ds ≡ 0 + length ds = omega arith in
        let to : 0 + len start (x ∷ xs) ≡ len start (x ∷ xs) = omega arith in
        ap (unwrap_or (find (ends ds) (range_with_len 1 (length ds)))) from
        ∙ search ds 0 start (x ∷ xs) refl refl (begun x)
        ∙ to

    -- the declarations of the rule
    declared : (fuel : ℕ) (xs : List WideToken)
        → declarations_from ends fuel xs ≡ map (numbered 0) (pieces_of fuel xs)
    unfolding declarations_from pieces_of
    declared zero xs = refl
    declared (suc fuel) [] = refl
    declared (suc fuel) (x ∷ xs) =
        let ts = x ∷ xs in
        let ds = numbered 0 ts in
        ap (λ n. take n ds ∷ declarations_from ends fuel (drop n ts)) (len_is x xs)
        ∙ ap (λ l. l ∷ declarations_from ends fuel (drop (len start ts) ts)) (take_is start ts)
        ∙ ap (λ l. numbered 0 (upto start ts) ∷ declarations_from ends fuel l) (drop_is start ts)
        ∙ ap (λ l. numbered 0 (upto start ts) ∷ l) (declared fuel (beyond start ts))

    -- the pass over a level
    pub level_is : (level : List WideToken) → pass declaration_start level
        ≡ map of_part (flat_map naming_parts (declarations_from ends (length level) level))
    level_is level =
        passed (length level) level (omega arith)
        ∙ flat_named (pieces_of (length level) level)
        ∙ sym (ap (λ l. map of_part (flat_map naming_parts l)) (declared (length level) level))
