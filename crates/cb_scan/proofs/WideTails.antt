-- The pass finds the names of the tail of a part.
use Rattle.std.proofs.Common.{◌≡◌, ◌∙◌, ℕ, zero, suc, ◌+◌, ◌-◌, ◌<◌, ◌≤◌, Bool, true, false, List, []}
use Rattle.std.proofs.Common.{◌∷◌, ◌++◌, Option, Some, None, refl, sym, ap, length, drop, arith, add-one}
use Rattle.std.proofs.Common.{append_assoc, length-drop, subst, ⊎_elim}
use Rattle.std.proofs.lemmas.Bool.{cases_Bool, eqb-true, false≢true, false_from_ne_true}
use Rattle.std.proofs.lemmas.List.{append-nil, drop_more, reverse-append, take_more}
use Rattle.std.specs.Prelude.{◌&&◌, ◌||◌, ◌==◌, not, cond, filter, take, slice_get, if◌then◌else◌}
use Rattle.std.specs.List.{flat_map, list_any, range_with_len}
use Rattle.std.specs.Option.{option_map}
use Rattle.cb_scan.specs.declared.rules.wide.role.WideRole.{WideRole}
use Rattle.cb_scan.specs.declared.rules.wide.role.WideRole.TheVariants as wide
use Rattle.cb_scan.specs.declared.rules.wide.tail.Tail.{Tail}
use Rattle.cb_scan.specs.declared.rules.wide.token.WideToken.{WideToken}
use Rattle.cb_scan.specs.rules.wide.Levels.{Numbered, is_byte, is_outer, no_wide_token, numbered_at}
use Rattle.cb_scan.specs.rules.wide.Names.{bars_candidate, begins_with, follows, is_candidate, is_trailing}
use Rattle.cb_scan.specs.rules.wide.Names.{is_typed, last_index, names, parts_tail, precedes, tail_begin}
use Rattle.cb_scan.specs.rules.wide.Names.{tail_name, tail_of}
use Rattle.cb_scan.specs.rules.wide.Prototypes.{begins_in_parentheses, called_at, declared_at, ends_type}
use Rattle.cb_scan.specs.rules.wide.Prototypes.{is_called, is_enclosed, tail_prototype}
use Rattle.cb_scan.specs.rules.wide.Words.{is_keyword, is_sign, is_specifier, is_text, is_underscored}
use Rattle.cb_scan.specs.rules.wide.Words.{is_wide_name}
use Rattle.cb_scan.specs.steps.wide.Ahead.{encloses_name, first_is, opens_twice}
use Rattle.cb_scan.specs.steps.wide.Along.{items, tail_from}
use Rattle.cb_scan.specs.steps.wide.Tails as tails
use Rattle.cb_scan.specs.steps.wide.Tails.{name_before, next_tail, or_first, outer_tail, passes, tail_start}
use Rattle.cb_scan.specs.steps.wide.Tails.{type_before}
use Rattle.cb_scan.proofs.WidePointers.{same_byte}

-- ---- small facts

-- a lone byte is that byte
pub sign_is : (b : ℕ) (r : WideRole) → is_sign b r ≡ true → r ≡ wide.Mark b
sign_is b (wide.Mark x) is = ap wide.Mark (eqb-true x b is)
sign_is b wide.Name is = absurd (false≢true is)
sign_is b wide.Underscored is = absurd (false≢true is)
sign_is b wide.Struct is = absurd (false≢true is)
sign_is b wide.Union is = absurd (false≢true is)
sign_is b wide.Enum is = absurd (false≢true is)
sign_is b wide.Typedef is = absurd (false≢true is)
sign_is b wide.Extern is = absurd (false≢true is)
sign_is b wide.Static is = absurd (false≢true is)
sign_is b wide.Specifier is = absurd (false≢true is)
sign_is b wide.Attribute is = absurd (false≢true is)
sign_is b wide.Statement is = absurd (false≢true is)
sign_is b wide.Reserved is = absurd (false≢true is)
sign_is b wide.Str is = absurd (false≢true is)
sign_is b wide.Number is = absurd (false≢true is)
sign_is b wide.Character is = absurd (false≢true is)

pub or_together : (a b c : Bool) → ((a || b) || c) ≡ (a || (b || c))
or_together true b c = refl
or_together false b c = refl

pub any_last : (p : Numbered → Bool) (xs : List Numbered) (x : Numbered)
    → list_any p (xs ++ x ∷ []) ≡ (list_any p xs || p x)
any_last p [] x = elim (p x) as (λ b. (b || false) ≡ (false || b)) [ true ↦ refl | false ↦ refl ]
any_last p (y ∷ xs) x =
    ap (λ b. p y || b) (any_last p xs x) ∙ sym (or_together (p y) (list_any p xs) (p x))

pub drop_one : (j : ℕ) (xs : List Numbered) → drop 1 (drop j xs) ≡ drop (suc j) xs
drop_one zero [] = refl
drop_one (suc j) [] = refl
drop_one zero (x ∷ xs) = refl
drop_one (suc j) (x ∷ xs) = drop_one j xs

pub at_drop : (j : ℕ) (xs : List Numbered) (y : Numbered) (ys : List Numbered) → drop j xs ≡ y ∷ ys
    → numbered_at xs j ≡ y
at_drop zero [] y ys e = ap (λ l. numbered_at l 0) e
at_drop (suc j) [] y ys e = ap (λ l. numbered_at l 0) e
at_drop zero (x ∷ xs) y ys e = ap (λ l. numbered_at l 0) e
at_drop (suc j) (x ∷ xs) y ys e = at_drop j xs y ys e

twice : (x : Numbered) (r : List Numbered)
    → (begins_with 40 r && begins_with 40 (drop 1 r)) ≡ opens_twice (items (x ∷ r))
twice x [] = refl
twice x (y ∷ ys) = ap (λ b. is_byte 40 y && b) (sym (same_byte 40 ys))

no_fourth : (a b c : Bool) → false ≡ (a && b && c && false)
no_fourth true true true = refl
no_fourth true true false = refl
no_fourth true false c = elim c as (λ d. false ≡ (true && false && d && false)) [ true ↦ refl | false ↦ refl ]
no_fourth false b c = elim b as (λ e. false ≡ (false && e && c && false)) [
  | true ↦ elim c as (λ d. false ≡ (false && true && d && false)) [ true ↦ refl | false ↦ refl ]
  | false ↦ elim c as (λ d. false ≡ (false && false && d && false)) [ true ↦ refl | false ↦ refl ]
]

enclosed : (xs : List Numbered) → begins_in_parentheses xs ≡ encloses_name (items xs)
enclosed [] = refl
enclosed (a ∷ []) = refl
enclosed (a ∷ b ∷ []) = refl
enclosed (a ∷ b ∷ c ∷ []) = no_fourth (is_byte 40 a) (names b) (is_byte 41 c)
enclosed (a ∷ b ∷ c ∷ d ∷ xs) = refl

range_last : (a n : ℕ) → range_with_len a (suc n) ≡ range_with_len a n ++ (a + n) ∷ []
range_last a zero =
    let same : a ≡ a + 0 = omega arith in
    ap (λ j. j ∷ []) same
range_last a (suc n) =
    let same : a + 1 + n ≡ a + suc n = omega arith in
    ap (λ l. a ∷ l) (range_last (a + 1) n) ∙ ap (λ j. a ∷ (range_with_len (a + 1) n ++ j ∷ [])) same

filter_snoc : (p : ℕ → Bool) (ks : List ℕ) (k : ℕ)
    → filter p (ks ++ k ∷ []) ≡ filter p ks ++ cond (p k) (k ∷ []) []
filter_snoc p [] k = refl
filter_snoc p (j ∷ ks) k =
    ap (λ l. cond (p j) (j ∷ l) l) (filter_snoc p ks k)
    ∙ elim (p j) as (λ b. cond b (j ∷ (filter p ks ++ cond (p k) (k ∷ []) [])) (filter p ks ++ cond (p k) (k ∷ []) [])
    ≡ cond b (j ∷ filter p ks) (filter p ks) ++ cond (p k) (k ∷ []) []) [ true ↦ refl | false ↦ refl ]

last_snoc : (ks : List ℕ) (k : ℕ) → last_index (ks ++ k ∷ []) ≡ Some k
last_snoc ks k = ap (λ l. slice_get l 0) (reverse-append ks (k ∷ []))

flat_snoc : (f : ℕ → List WideToken) (ks : List ℕ) (k : ℕ)
    → flat_map f (ks ++ k ∷ []) ≡ flat_map f ks ++ f k
flat_snoc f [] k = append-nil (f k)
flat_snoc f (j ∷ ks) k =
    ap (λ l. f j ++ l) (flat_snoc f ks k) ∙ sym (append_assoc (f j) (flat_map f ks) (f k))

pub get_append : (xs ys : List WideToken)
    → slice_get (xs ++ ys) 0 ≡ or_first (slice_get xs 0) (slice_get ys 0)
get_append [] ys = refl
get_append (x ∷ xs) ys = refl

-- ---- what the state knows before index k
module _ (first : Bool) (xs : List Numbered) where
  -- the token at index k, and the tokens from there on
  abbrev at : ℕ → Numbered
  at k = numbered_at xs k

  abbrev onward : ℕ → List Numbered
  onward k = at k ∷ drop (suc k) xs

  last_at : ℕ → Option WideToken
  last_at zero = None
  last_at (suc k) = Some (at k).item

  may_trail : ℕ → Bool
  may_trail zero = false
  may_trail (suc k) =
      (at k).item.counted || is_trailing first xs k
      || (is_candidate first xs k && not (is_underscored (at k).item.role))

  name_at : ℕ → Option WideToken
  name_at zero = None
  name_at (suc k) =
      cond (parts_tail (at k)) None
      (cond (is_candidate first xs k && not (is_trailing first xs k)) (Some (at k).item) (name_at k))

  function_at : ℕ → Option WideToken
  function_at zero = None
  function_at (suc k) =
      cond (parts_tail (at k)) None (or_first (function_at k) (slice_get (declared_at first xs k) 0))

  record Known (k : ℕ) (t : Tail) : Type 0 where
    typed : t.typed ≡ is_typed first xs k
    last : t.last ≡ last_at k
    trailed : t.trailed ≡ may_trail k
    name : t.name ≡ name_at k
    prototype : t.prototype ≡ function_at k

  -- ---- the tests of the rules and those of the state
  barred_is : (k : ℕ) → follows bars_candidate xs k
      ≡ passes (λ x. is_keyword x.role || is_sign 93 x.role) (last_at k)
  unfolding last_at
  barred_is zero = refl
  barred_is (suc k) = refl

  type_is : (k : ℕ) → (k == 0 || follows ends_type xs k) ≡ type_before (last_at k)
  unfolding last_at
  type_is zero = refl
  type_is (suc k) =
      let more : (suc k == 0) ≡ false =
      false_from_ne_true (suc k == 0) (λ e. let none : suc k ≡ 0 = eqb-true (suc k) 0 e in absurd (omega arith)) in
      ap (λ b. b || ends_type (at k)) more

  candidate_of : (o n t p b : Bool) → (o && n && t && not p && not b) ≡ (o && (n && t && not p && not b))
  candidate_of true n t p b = refl
  candidate_of false n t p b = refl

  candidate_is : (k : ℕ) (t : Tail) → Known k t
      → is_candidate first xs k ≡ (is_outer (at k) && tails.is_candidate t (items (onward k)))
  candidate_is k t known =
      ap (λ b. is_outer (at k) && names (at k) && b && not (precedes 40 xs k) && not (follows bars_candidate xs k))
      (sym known.typed)
      ∙ ap (λ b. is_outer (at k) && names (at k) && t.typed && not b && not (follows bars_candidate xs k))
      (sym (same_byte 40 (drop (suc k) xs)))
      ∙ ap (λ b. is_outer (at k) && names (at k) && t.typed && not (first_is 40 (items (drop (suc k) xs))) && not b)
      (barred_is k ∙ ap (passes (λ x. is_keyword x.role || is_sign 93 x.role)) (sym known.last))
      ∙ candidate_of (is_outer (at k)) (names (at k)) t.typed (first_is 40 (items (drop (suc k) xs)))
      (tails.is_barred t)

  never_trails : (o u : Bool) → false ≡ (o && (u && false))
  never_trails true true = refl
  never_trails true false = refl
  never_trails false u = refl

  trails_of : (o u m : Bool) → (o && u && m) ≡ (o && (u && m))
  trails_of true u m = refl
  trails_of false u m = refl

  trailing_is : (k : ℕ) → is_trailing first xs k
      ≡ (is_outer (at k) && (is_underscored (at k).item.role && may_trail k))
  unfolding is_trailing may_trail
  trailing_is zero = never_trails (is_outer (at 0)) (is_underscored (at 0).item.role)
  trailing_is (suc k) =
      trails_of (is_outer (at (suc k))) (is_underscored (at (suc k)).item.role) (may_trail (suc k))

  trails_is : (k : ℕ) (t : Tail) → Known k t
      → is_trailing first xs k ≡ (is_outer (at k) && tails.trails t (at k).item)
  trails_is k t known =
      trailing_is k
      ∙ ap (λ b. is_outer (at k) && (is_underscored (at k).item.role && b)) (sym known.trailed)

  -- ---- a `*` is no name
  star_no_underscore : (k : ℕ) → is_byte 42 (at k) ≡ true → is_underscored (at k).item.role ≡ false
  star_no_underscore k is = ap is_underscored (sign_is 42 (at k).item.role is)

  star_no_candidate : (k : ℕ) (t : Tail) → is_byte 42 (at k) ≡ true
      → tails.is_candidate t (items (onward k)) ≡ false
  star_no_candidate k t is =
      ap (λ b. b && t.typed && not (first_is 40 (items (drop (suc k) xs))) && not (tails.is_barred t))
      (ap is_wide_name (sign_is 42 (at k).item.role is))

  -- ---- one step
  typed_next : (k : ℕ) → k < length xs
      → (is_typed first xs k || not (is_specifier (at k).item.role || is_text (at k).item.role))
      ≡ is_typed first xs (suc k)
  typed_next k within =
      let p : Numbered → Bool = λ x. not (is_specifier x.item.role || is_text x.item.role) in
      or_together (not first) (list_any p (take k xs)) (p (at k))
      ∙ ap (λ b. not first || b) (sym (any_last p (take k xs) (at k)))
      ∙ ap (λ l. not first || list_any p l)
      (sym (take_more xs k (record { item = no_wide_token; count = 0 }) within))
      ∙ ap (λ n. not first || list_any p (take n xs)) (add-one k)

  -- the state after a token, by whether the tail begins anew and the token is outside
  abbrev after : Tail → List WideToken → WideToken → Bool → Bool → Tail
  after t l x e o =
      cond e (record t { trailed = x.counted; name = None; prototype = None })
      (cond o (outer_tail t l x) (record t { trailed = false }))

  trailed_of : (t : Tail) (l : List WideToken) (x : WideToken) (e o : Bool)
      → (after t l x e o).trailed
      ≡ cond e x.counted
      (cond o (tails.trails t x || (tails.is_candidate t l && not (is_underscored x.role))) false)
  trailed_of t l x true o = refl
  trailed_of t l x false true = refl
  trailed_of t l x false false = refl

  name_of : (t : Tail) (l : List WideToken) (x : WideToken) (e o : Bool)
      → (after t l x e o).name ≡ cond e None (cond o (tails.named_after t l x) t.name)
  name_of t l x true o = refl
  name_of t l x false true = refl
  name_of t l x false false = refl

  function_of : (t : Tail) (l : List WideToken) (x : WideToken) (e o : Bool)
      → (after t l x e o).prototype ≡ cond e None (cond o (tails.prototype_of t l) t.prototype)
  function_of t l x true o = refl
  function_of t l x false true = refl
  function_of t l x false false = refl

  trail_by : (c o s w q u : Bool) → (s ≡ true → w ≡ false) → (s ≡ true → q ≡ false)
      → cond (c || (o && s)) c (cond o (w || (q && not u)) false)
      ≡ (c || (o && w) || ((o && q) && not u))
  trail_by true o s w q u hw hq = refl
  trail_by false false s w q u hw hq = refl
  trail_by false true false w q u hw hq = refl
  trail_by false true true w q u hw hq =
      sym (ap (λ b. b || (q && not u)) (hw refl) ∙ ap (λ b. b && not u) (hq refl))

  trails_none : (k : ℕ) (t : Tail) → is_byte 42 (at k) ≡ true → tails.trails t (at k).item ≡ false
  trails_none k t is = ap (λ b. b && t.trailed) (star_no_underscore k is)

  trailed_next : (k : ℕ) (t : Tail) → Known k t
      → (after t (items (onward k)) (at k).item (parts_tail (at k)) (is_outer (at k))).trailed
      ≡ may_trail (suc k)
  unfolding may_trail
  trailed_next k t known =
      trailed_of t (items (onward k)) (at k).item (parts_tail (at k)) (is_outer (at k))
      ∙ trail_by (at k).item.counted (is_outer (at k)) (is_byte 42 (at k)) (tails.trails t (at k).item)
      (tails.is_candidate t (items (onward k))) (is_underscored (at k).item.role)
      (trails_none k t) (star_no_candidate k t)
      ∙ ap (λ b. (at k).item.counted || b
      || ((is_outer (at k) && tails.is_candidate t (items (onward k))) && not (is_underscored (at k).item.role)))
      (sym (trails_is k t known))
      ∙ ap (λ b. (at k).item.counted || is_trailing first xs k || (b && not (is_underscored (at k).item.role)))
      (sym (candidate_is k t known))

  name_by : (e o q w : Bool) (x n : Option WideToken)
      → cond e None (cond o (if q && not w then x else n) n)
      ≡ cond e None (cond ((o && q) && not (o && w)) x n)
  name_by true o q w x n = refl
  name_by false true q w x n = refl
  name_by false false q w x n = refl

  name_next : (k : ℕ) (t : Tail) → Known k t
      → (after t (items (onward k)) (at k).item (parts_tail (at k)) (is_outer (at k))).name ≡ name_at (suc k)
  unfolding name_at
  name_next k t known =
      name_of t (items (onward k)) (at k).item (parts_tail (at k)) (is_outer (at k))
      ∙ name_by (parts_tail (at k)) (is_outer (at k)) (tails.is_candidate t (items (onward k)))
      (tails.trails t (at k).item) (Some (at k).item) t.name
      ∙ ap (λ b. cond (parts_tail (at k)) None
      (cond ((is_outer (at k) && tails.is_candidate t (items (onward k))) && not b) (Some (at k).item) t.name))
      (sym (trails_is k t known))
      ∙ ap (λ b. cond (parts_tail (at k)) None
      (cond (b && not (is_trailing first xs k)) (Some (at k).item) t.name)) (sym (candidate_is k t known))
      ∙ ap (λ n. cond (parts_tail (at k)) None
      (cond (is_candidate first xs k && not (is_trailing first xs k)) (Some (at k).item) n)) known.name

  -- ---- functions
  doubled_is : (k : ℕ) → (precedes 40 xs k && precedes 40 xs (suc k)) ≡ opens_twice (items (onward k))
  doubled_is k =
      ap (λ l. precedes 40 xs k && begins_with 40 l) (sym (drop_one (suc k) xs))
      ∙ twice (at k) (drop (suc k) xs)

  called_is : (k : ℕ) → called_at xs k
      ≡ name_before (last_at k) (precedes 40 xs k && precedes 40 xs (suc k)) (at k).item
  unfolding last_at
  called_is zero = refl
  called_is (suc k) = refl

  called_name_is : (k : ℕ) (t : Tail) → Known k t
      → called_at xs k ≡ tails.declared_by t (items (onward k)) (at k).item
  called_name_is k t known =
      called_is k
      ∙ ap (λ b. name_before (last_at k) b (at k).item) (doubled_is k)
      ∙ ap (λ o. name_before o (opens_twice (items (onward k))) (at k).item) (sym known.last)

  called_of : (o n t p w r y : Bool)
      → (o && n && t && p && not (o && w) && not r && y)
      ≡ (o && (n && t && p && not w && not r && y))
  called_of true n t p w r y = refl
  called_of false n t p w r y = refl

  called_test : (k : ℕ) (t : Tail) → Known k t
      → is_called first xs k ≡ (is_outer (at k) && tails.is_called t (items (onward k)))
  called_test k t known =
      let l = items (drop (suc k) xs) in
      let o = is_outer (at k) in
      let n = names (at k) in
      let w = tails.trails t (at k).item in
      ap (λ b. o && n && b && precedes 40 xs k && not (is_trailing first xs k)
      && not (begins_in_parentheses (drop (suc k) xs)) && (k == 0 || follows ends_type xs k)) (sym known.typed)
      ∙ ap (λ b. o && n && t.typed && b && not (is_trailing first xs k)
      && not (begins_in_parentheses (drop (suc k) xs)) && (k == 0 || follows ends_type xs k))
      (sym (same_byte 40 (drop (suc k) xs)))
      ∙ ap (λ b. o && n && t.typed && first_is 40 l && not b
      && not (begins_in_parentheses (drop (suc k) xs)) && (k == 0 || follows ends_type xs k)) (trails_is k t known)
      ∙ ap (λ b. o && n && t.typed && first_is 40 l && not (o && w)
      && not b && (k == 0 || follows ends_type xs k)) (enclosed (drop (suc k) xs))
      ∙ ap (λ b. o && n && t.typed && first_is 40 l && not (o && w) && not (encloses_name l) && b)
      (type_is k ∙ ap type_before (sym known.last))
      ∙ called_of o n t.typed (first_is 40 l) w (encloses_name l) (type_before t.last)

  enclosed_of : (o t b : Bool) → (o && t && b) ≡ (o && (t && b))
  enclosed_of true t b = refl
  enclosed_of false t b = refl

  enclosed_test : (k : ℕ) (t : Tail) → k < length xs → Known k t
      → is_enclosed first xs k ≡ (is_outer (at k) && (t.typed && encloses_name (items (onward k))))
  enclosed_test k t within known =
      ap (λ b. is_outer (at k) && b && begins_in_parentheses (drop k xs)) (sym known.typed)
      ∙ ap (λ l. is_outer (at k) && t.typed && begins_in_parentheses l)
      (drop_more xs k (record { item = no_wide_token; count = 0 }) within)
      ∙ ap (λ j. is_outer (at k) && t.typed && begins_in_parentheses (at k ∷ drop j xs)) (add-one k)
      ∙ ap (λ b. is_outer (at k) && t.typed && b) (enclosed (onward k))
      ∙ enclosed_of (is_outer (at k)) t.typed (encloses_name (items (onward k)))

  -- what the state declares at a token
  declares_is : (k : ℕ) (t : Tail) (r : List Numbered) → drop (suc k) xs ≡ r
      → tails.prototype_at t (items (at k ∷ r))
      ≡ cond (t.typed && encloses_name (items (at k ∷ r))) (Some (at (suc k)).item)
      (cond (tails.is_called t (items (at k ∷ r)))
      (Some (tails.declared_by t (items (at k ∷ r)) (at k).item)) None)
  declares_is k t [] e =
      let o : Option WideToken = cond (tails.is_called t (items (at k ∷ [])))
      (Some (tails.declared_by t (items (at k ∷ [])) (at k).item)) None in
      elim (t.typed) as (λ b. o ≡ cond (b && false) (Some (at (suc k)).item) o) [ true ↦ refl | false ↦ refl ]
  declares_is k t (y ∷ ys) e =
      ap (λ (z : Numbered). cond (t.typed && encloses_name (items (at k ∷ y ∷ ys))) (Some z.item)
      (cond (tails.is_called t (items (at k ∷ y ∷ ys)))
      (Some (tails.declared_by t (items (at k ∷ y ∷ ys)) (at k).item)) None))
      (sym (at_drop (suc k) xs y ys e))

  first_declared : (a b : Bool) (u v : WideToken)
      → slice_get (cond a (u ∷ []) (cond b (v ∷ []) [])) 0 ≡ cond a (Some u) (cond b (Some v) None)
  first_declared true b u v = refl
  first_declared false true u v = refl
  first_declared false false u v = refl

  outside : (o a b : Bool) (u v : Option WideToken)
      → cond (o && a) u (cond (o && b) v None) ≡ cond o (cond a u (cond b v None)) None
  outside true a b u v = refl
  outside false a b u v = refl

  declared_is : (k : ℕ) (t : Tail) → k < length xs → Known k t
      → slice_get (declared_at first xs k) 0
      ≡ cond (is_outer (at k)) (tails.prototype_at t (items (onward k))) None
  declared_is k t within known =
      let o = is_outer (at k) in
      let a = t.typed && encloses_name (items (onward k)) in
      let b = tails.is_called t (items (onward k)) in
      let u = (at (suc k)).item in
      first_declared (is_enclosed first xs k) (is_called first xs k) u (called_at xs k)
      ∙ ap (λ c. cond c (Some u) (cond (is_called first xs k) (Some (called_at xs k)) None))
      (enclosed_test k t within known)
      ∙ ap (λ c. cond (o && a) (Some u) (cond c (Some (called_at xs k)) None)) (called_test k t known)
      ∙ ap (λ v. cond (o && a) (Some u) (cond (o && b) (Some v) None)) (called_name_is k t known)
      ∙ outside o a b (Some u) (Some (tails.declared_by t (items (onward k)) (at k).item))
      ∙ ap (λ v. cond o v None) (sym (declares_is k t (drop (suc k) xs) refl))

  first_kept : (p : Option WideToken) → p ≡ or_first p None
  first_kept None = refl
  first_kept (Some x) = refl

  function_by : (e o : Bool) (p q : Option WideToken)
      → cond e None (cond o (or_first p q) p) ≡ cond e None (or_first p (cond o q None))
  function_by true o p q = refl
  function_by false true p q = refl
  function_by false false p q = first_kept p

  function_next : (k : ℕ) (t : Tail) → k < length xs → Known k t
      → (after t (items (onward k)) (at k).item (parts_tail (at k)) (is_outer (at k))).prototype
      ≡ function_at (suc k)
  unfolding function_at
  function_next k t within known =
      function_of t (items (onward k)) (at k).item (parts_tail (at k)) (is_outer (at k))
      ∙ function_by (parts_tail (at k)) (is_outer (at k)) t.prototype (tails.prototype_at t (items (onward k)))
      ∙ ap (λ p. cond (parts_tail (at k)) None
      (or_first p (cond (is_outer (at k)) (tails.prototype_at t (items (onward k))) None))) known.prototype
      ∙ ap (λ q. cond (parts_tail (at k)) None (or_first (function_at k) q)) (sym (declared_is k t within known))

  -- ---- along all tokens
  step : (k : ℕ) (t : Tail) → k < length xs → Known k t
      → Known (suc k) (next_tail t (is_outer (at k)) (items (onward k)) (at k).item)
  unfolding last_at
  step k t within known = record {
    typed = ap (λ b. b || not (is_specifier (at k).item.role || is_text (at k).item.role)) known.typed
        ∙ typed_next k within;
    last = refl;
    trailed = trailed_next k t known;
    name = name_next k t known;
    prototype = function_next k t within known;
  }

  along : (k : ℕ) (r : List Numbered) (t : Tail) → k ≤ length xs → drop k xs ≡ r → Known k t
      → Known (length xs) (tail_from t r)
  unfolding tail_from
  along k [] t le left known =
      let whole : k ≡ length xs = omega (arith, length-drop k xs, ap length left) in
      subst (λ n. Known n t) whole known
  along k (x ∷ rest) t le left known =
      let within : k < length xs = omega (arith, length-drop k xs, ap length left) in
      let split : at k ∷ drop (k + 1) xs ≡ x ∷ rest =
      sym (drop_more xs k (record { item = no_wide_token; count = 0 }) within) ∙ left in
      let x_is : at k ≡ x = cc in
      let rest_was : drop (k + 1) xs ≡ rest = cc in
      let rest_is : drop (suc k) xs ≡ rest = ap (λ j. drop j xs) (sym (add-one k)) ∙ rest_was in
      let later : suc k ≤ length xs = omega arith in
      along (suc k) rest (next_tail t (is_outer x) (items (x ∷ rest)) x.item) later rest_is
      (subst (Known (suc k))
      (λ i. next_tail t (is_outer (x_is i)) (items (x_is i ∷ rest_is i)) (x_is i).item)
      (step k t within known))

  or_nothing : (b : Bool) → b ≡ (b || false)
  or_nothing true = refl
  or_nothing false = refl

  at_start : Known 0 (tail_start first)
  unfolding last_at may_trail name_at function_at
  at_start = record {
    typed = or_nothing (not first);
    last = refl;
    trailed = refl;
    name = refl;
    prototype = refl;
  }

  known : Known (length xs) (tail_from (tail_start first) xs)
  known = along 0 xs (tail_start first) (omega arith) refl at_start

  -- ---- the indices of the tail
  begin_le : (k : ℕ) → tail_begin xs k ≤ k
  unfolding tail_begin
  begin_le zero = omega arith
  begin_le (suc k) =
      let before = begin_le k in
      elim (parts_tail (at k)) as (λ b. (if b then suc k else tail_begin xs k) ≤ suc k)
      [ true ↦ omega arith | false ↦ omega arith ]

  tail_none : (k : ℕ) → parts_tail (at k) ≡ true → tail_of xs (suc k) ≡ []
  unfolding tail_begin
  tail_none k is =
      let none : suc k - suc k ≡ 0 = omega arith in
      ap (λ b. range_with_len (if b then suc k else tail_begin xs k)
      (suc k - (if b then suc k else tail_begin xs k))) is
      ∙ ap (range_with_len (suc k)) none

  tail_more : (k : ℕ) → parts_tail (at k) ≡ false → tail_of xs (suc k) ≡ tail_of xs k ++ k ∷ []
  unfolding tail_begin
  tail_more k isnt =
      let le = begin_le k in
      let more : suc k - tail_begin xs k ≡ suc (k - tail_begin xs k) = omega arith in
      let here : tail_begin xs k + (k - tail_begin xs k) ≡ k = omega arith in
      ap (λ b. range_with_len (if b then suc k else tail_begin xs k)
      (suc k - (if b then suc k else tail_begin xs k))) isnt
      ∙ ap (range_with_len (tail_begin xs k)) more
      ∙ range_last (tail_begin xs k) (k - tail_begin xs k)
      ∙ ap (λ j. tail_of xs k ++ j ∷ []) here

  -- a candidate that is no trailing word
  abbrev may_name : ℕ → Bool
  may_name k = is_candidate first xs k && not (is_trailing first xs k)

  name_is : (k : ℕ) → name_at k ≡ option_map (λ j. (at j).item) (last_index (filter may_name (tail_of xs k)))
  unfolding name_at tail_begin
  name_is zero = refl
  name_is (suc k) =
      let meant : List ℕ → Option WideToken =
      λ ks. option_map (λ j. (at j).item) (last_index (filter may_name ks)) in
      ⊎_elim
      (λ is.
      ap (λ b. cond b None (cond (may_name k) (Some (at k).item) (name_at k))) is
      ∙ sym (ap meant (tail_none k is)))
      (λ isnt.
      ap (λ b. cond b None (cond (may_name k) (Some (at k).item) (name_at k))) isnt
      ∙ elim (may_name k) as (λ b. cond b (Some (at k).item) (name_at k)
      ≡ option_map (λ j. (at j).item) (last_index (filter may_name (tail_of xs k) ++ cond b (k ∷ []) []))) [
        | true ↦ sym (ap (option_map (λ j. (at j).item)) (last_snoc (filter may_name (tail_of xs k)) k))
        | false ↦ name_is k
            ∙ sym (ap (λ ks. option_map (λ j. (at j).item) (last_index ks))
            (append-nil (filter may_name (tail_of xs k))))
      ]
      ∙ sym (ap (λ ks. option_map (λ j. (at j).item) (last_index ks))
      (filter_snoc may_name (tail_of xs k) k))
      ∙ sym (ap meant (tail_more k isnt)))
      (cases_Bool (parts_tail (at k)))

  function_is : (k : ℕ) → function_at k ≡ slice_get (flat_map (declared_at first xs) (tail_of xs k)) 0
  unfolding function_at tail_begin
  function_is zero = refl
  function_is (suc k) =
      let meant : List ℕ → Option WideToken = λ ks. slice_get (flat_map (declared_at first xs) ks) 0 in
      let here = slice_get (declared_at first xs k) 0 in
      ⊎_elim
      (λ is.
      ap (λ b. cond b None (or_first (function_at k) here)) is ∙ sym (ap meant (tail_none k is)))
      (λ isnt.
      ap (λ b. cond b None (or_first (function_at k) here)) isnt
      ∙ ap (λ o. or_first o here) (function_is k)
      ∙ sym (get_append (flat_map (declared_at first xs) (tail_of xs k)) (declared_at first xs k))
      ∙ sym (ap (λ l. slice_get l 0) (flat_snoc (declared_at first xs) (tail_of xs k) k))
      ∙ sym (ap meant (tail_more k isnt)))
      (cases_Bool (parts_tail (at k)))

  -- the pass over a part
  pub tail_name_is : (tail_from (tail_start first) xs).name ≡ tail_name first xs
  tail_name_is = known.name ∙ name_is (length xs)

  pub tail_function_is : (tail_from (tail_start first) xs).prototype ≡ tail_prototype first xs
  tail_function_is = known.prototype ∙ function_is (length xs)
