-- The pass finds the enumerators of a level.
use Rattle.std.proofs.Common.{◌≡◌, ◌∙◌, ℕ, Bool, true, false, List, [], ◌∷◌, ◌++◌, refl}
use Rattle.std.proofs.Common.{sym, ap, ⊎_elim}
use Rattle.std.proofs.lemmas.Bool.{cases_Bool, eqb-true, false≢true}
use Rattle.std.specs.Prelude.{◌&&◌, ◌==◌, not, cond, drop, if◌then◌else◌}
use Rattle.std.specs.List.{flat_map, onto_first, slice_split}
use Rattle.cb_scan.specs.declared.lex.token.Token.{Token}
use Rattle.cb_scan.specs.declared.rules.wide.enumeration.Enumeration.{Enumeration}
use Rattle.cb_scan.specs.declared.rules.wide.role.WideRole.{WideRole}
use Rattle.cb_scan.specs.declared.rules.wide.role.WideRole.TheVariants as wide
use Rattle.cb_scan.specs.declared.rules.wide.token.WideToken.{WideToken}
use Rattle.cb_scan.specs.rules.Typedefs.{nesting_after}
use Rattle.cb_scan.specs.rules.wide.Bodies.{enumerators, first_enumerator}
use Rattle.cb_scan.specs.rules.wide.Levels.{Numbered, is_outer_byte, numbered}
use Rattle.cb_scan.specs.rules.wide.Words.{is_sign, is_wide_name}
use Rattle.cb_scan.specs.steps.wide.Enumerators.{enumeration_start, enumerators_from, is_enumerator}
use Rattle.cb_scan.specs.steps.wide.Enumerators.{next_enumeration}
use Rattle.cb_scan.specs.steps.wide.Ahead.{second_is}

-- the parts between commas
abbrev pub split : List Numbered → List (List Numbered)
split xs = slice_split (is_outer_byte 44) xs

-- the first part
abbrev pub first_part : List (List Numbered) → List Numbered
first_part [] = []
first_part (s ∷ ss) = s

-- the enumerators from a state on, where a name may come next or not
abbrev meant : ℕ → Bool → List WideToken → List Token
meant n expects xs =
    flat_map first_enumerator
    (if expects then split (numbered n xs) else drop 1 (split (numbered n xs)))

-- a comma is no name and no `(`
comma_is_no_name : (r : WideRole) → is_sign 44 r ≡ true → is_wide_name r ≡ false
comma_is_no_name wide.Name is = absurd (false≢true is)
comma_is_no_name wide.Underscored is = absurd (false≢true is)
comma_is_no_name wide.Struct is = refl
comma_is_no_name wide.Union is = refl
comma_is_no_name wide.Enum is = refl
comma_is_no_name wide.Typedef is = refl
comma_is_no_name wide.Extern is = refl
comma_is_no_name wide.Static is = refl
comma_is_no_name wide.Specifier is = refl
comma_is_no_name wide.Attribute is = refl
comma_is_no_name wide.Statement is = refl
comma_is_no_name wide.Reserved is = refl
comma_is_no_name wide.Str is = refl
comma_is_no_name wide.Number is = refl
comma_is_no_name wide.Character is = refl
comma_is_no_name (wide.Mark x) is = refl

pub and_right : (a b : Bool) → (a && b) ≡ true → b ≡ true
and_right true b is = is
and_right false b is = absurd (false≢true is)

comma_is_no_paren : (r : WideRole) → is_sign 44 r ≡ true → is_sign 40 r ≡ false
comma_is_no_paren (wide.Mark x) is = ap (λ b. b == 40) (eqb-true x 44 is)
comma_is_no_paren wide.Name is = refl
comma_is_no_paren wide.Underscored is = refl
comma_is_no_paren wide.Struct is = refl
comma_is_no_paren wide.Union is = refl
comma_is_no_paren wide.Enum is = refl
comma_is_no_paren wide.Typedef is = refl
comma_is_no_paren wide.Extern is = refl
comma_is_no_paren wide.Static is = refl
comma_is_no_paren wide.Specifier is = refl
comma_is_no_paren wide.Attribute is = refl
comma_is_no_paren wide.Statement is = refl
comma_is_no_paren wide.Reserved is = refl
comma_is_no_paren wide.Str is = refl
comma_is_no_paren wide.Number is = refl
comma_is_no_paren wide.Character is = refl

second_false : (a b : Bool) → (a && false && b) ≡ false
second_false true b = refl
second_false false b = refl

-- a token before some parts
pub onto : (m : Numbered) (ss : List (List Numbered)) → onto_first m ss ≡ (m ∷ first_part ss) ∷ drop 1 ss
onto m [] = refl
onto m (s ∷ ss) = refl

pub drop_onto : (m : Numbered) (ss : List (List Numbered)) → drop 1 (onto_first m ss) ≡ drop 1 ss
drop_onto m [] = refl
drop_onto m (s ∷ ss) = refl

-- the first of a part is an enumerator if it is a name that `(` does not follow
abbrev one : WideToken → Bool → Bool → List Token
one x name called = if name && not called then x.token ∷ [] else []

alone : (x : WideToken) (c : ℕ)
    → first_enumerator (record { item = x; count = c } ∷ []) ≡ one x (is_wide_name x.role) false
alone x c =
    elim (is_wide_name x.role) as (λ b. (if b then x.token ∷ [] else []) ≡ one x b false)
    [ true ↦ refl | false ↦ refl ]

followed : (x y : WideToken) (c n : ℕ) (ss : List (List Numbered))
    → first_enumerator (record { item = x; count = c }
    ∷ first_part (onto_first (record { item = y; count = n }) ss))
    ≡ one x (is_wide_name x.role) (is_sign 40 y.role)
followed x y c n [] = refl
followed x y c n (s ∷ ss) = refl

first_named : (x : WideToken) (c n : ℕ) (xs : List WideToken)
    → first_enumerator (record { item = x; count = c } ∷ first_part (split (numbered n xs)))
    ≡ one x (is_wide_name x.role) (second_is 40 (x ∷ xs))
unfolding numbered
first_named x c n [] = alone x c
first_named x c n (y ∷ ys) =
    let ss = split (numbered (nesting_after y.token n) ys) in
    let m : Numbered = record { item = y; count = n } in
    ⊎_elim
    (λ is.
    ap (λ b. first_enumerator (record { item = x; count = c } ∷ first_part (cond b ([] ∷ ss) (onto_first m ss)))) is
    ∙ alone x c
    ∙ ap (λ b. one x (is_wide_name x.role) b)
    (sym (comma_is_no_paren y.role (and_right (n == 0) (is_sign 44 y.role) is))))
    (λ isnt.
    ap (λ b. first_enumerator (record { item = x; count = c } ∷ first_part (cond b ([] ∷ ss) (onto_first m ss)))) isnt
    ∙ followed x y c n ss)
    (cases_Bool (is_outer_byte 44 m))

-- after a comma, and after another token
module _ (x : WideToken) (c : ℕ) (xs : List WideToken) (ss : List (List Numbered)) where
  after_comma : (e : Bool)
      → flat_map first_enumerator ss
      ≡ flat_map first_enumerator (if e then [] ∷ ss else drop 1 ([] ∷ ss))
  after_comma true = refl
  after_comma false = refl

  after_other : (e : Bool)
      → first_enumerator (record { item = x; count = c } ∷ first_part ss)
      ≡ one x (is_wide_name x.role) (second_is 40 (x ∷ xs))
      → (if e && is_wide_name x.role && not (second_is 40 (x ∷ xs)) then x.token ∷ [] else [])
      ++ flat_map first_enumerator (drop 1 ss)
      ≡ flat_map first_enumerator (if e then onto_first (record { item = x; count = c }) ss
      else drop 1 (onto_first (record { item = x; count = c }) ss))
  after_other true first =
      ap (λ l. l ++ flat_map first_enumerator (drop 1 ss)) (sym first)
      ∙ ap (flat_map first_enumerator) (sym (onto (record { item = x; count = c }) ss))
  after_other false first =
      ap (flat_map first_enumerator) (sym (drop_onto (record { item = x; count = c }) ss))

-- the pass from a state on
from : (e : Enumeration) (xs : List WideToken) → enumerators_from e xs ≡ meant e.count e.expects xs
unfolding enumerators_from numbered
from e [] =
    elim (e.expects) as (λ b. [] ≡ flat_map first_enumerator (if b then [] ∷ [] else drop 1 ([] ∷ [])))
    [ true ↦ refl | false ↦ refl ]
from e (x ∷ xs) =
    let n = nesting_after x.token e.count in
    let ss = split (numbered n xs) in
    let m : Numbered = record { item = x; count = e.count } in
    let here = if is_enumerator e (x ∷ xs) then x.token ∷ [] else [] in
    ap (λ l. here ++ l) (from (next_enumeration e x) xs)
    ∙ ⊎_elim
    (λ is.
    ap (λ b. here ++ flat_map first_enumerator (if b then ss else drop 1 ss)) is
    ∙ ap (λ b. (if e.expects && b && not (second_is 40 (x ∷ xs)) then x.token ∷ [] else [])
    ++ flat_map first_enumerator ss)
    (comma_is_no_name x.role (and_right (e.count == 0) (is_sign 44 x.role) is))
    ∙ ap (λ b. (if b then x.token ∷ [] else []) ++ flat_map first_enumerator ss)
    (second_false e.expects (not (second_is 40 (x ∷ xs))))
    ∙ after_comma x e.count xs ss e.expects
    ∙ ap (λ b. flat_map first_enumerator (if e.expects then cond b ([] ∷ ss) (onto_first m ss)
    else drop 1 (cond b ([] ∷ ss) (onto_first m ss)))) (sym is))
    (λ isnt.
    ap (λ b. here ++ flat_map first_enumerator (if b then ss else drop 1 ss)) isnt
    ∙ after_other x e.count xs ss e.expects (first_named x e.count n xs)
    ∙ ap (λ b. flat_map first_enumerator (if e.expects then cond b ([] ∷ ss) (onto_first m ss)
    else drop 1 (cond b ([] ∷ ss) (onto_first m ss)))) (sym isnt))
    (cases_Bool (is_outer_byte 44 m))

-- the pass over a level
pub enumerators_from_start : (xs : List WideToken) → enumerators_from enumeration_start xs ≡ enumerators xs
enumerators_from_start xs = from enumeration_start xs
