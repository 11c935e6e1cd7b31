-- The pass finds what the parts give on the level of the file.
use Rattle.std.proofs.Common.{◌≡◌, ◌∙◌, ℕ, zero, suc, ◌-◌, Bool, true, false, List, [], ◌∷◌, ◌++◌}
use Rattle.std.proofs.Common.{refl, sym, ap, arith, drop, map}
use Rattle.std.specs.Prelude.{◌&&◌, ◌||◌, ◌==◌, not, if◌then◌else◌}
use Rattle.std.specs.List.{flat_map}
use Rattle.cb_scan.specs.declared.rules.wide.declaration.Declaration.{Declaration}
use Rattle.cb_scan.specs.declared.rules.wide.token.WideToken.{WideToken}
use Rattle.cb_scan.specs.rules.wide.Bodies.{Body}
use Rattle.cb_scan.specs.rules.wide.Declarations as rules
use Rattle.cb_scan.specs.rules.wide.Declarations.{begins_anew, ends_in_file, file_declarations}
use Rattle.cb_scan.specs.rules.wide.Declarations.{has_outer_equals, naming_parts}
use Rattle.cb_scan.specs.rules.wide.Levels.{Numbered, is_byte, is_outer, numbered, numbered_at}
use Rattle.cb_scan.specs.rules.wide.Levels.{no_wide_token}
use Rattle.cb_scan.specs.rules.wide.Words.{is_extern_word, is_sign, is_static_word}
use Rattle.cb_scan.specs.steps.wide.Declarations as steps
use Rattle.cb_scan.specs.steps.wide.Declarations.{Given, closes, declaration_start, file_from}
use Rattle.cb_scan.specs.steps.wide.Declarations.{given, grown, is_block, is_linkage}
use Rattle.cb_scan.specs.steps.wide.Declarations.{may_name, next_in_file, next_part_of}
use Rattle.cb_scan.proofs.WideCuts.{Known, after, equals_more, here, known, known_after, level_is}
use Rattle.cb_scan.proofs.WideCuts.{next, over_next}
use Rattle.cb_scan.proofs.WideDeclarations.{of_part}
use Rattle.cb_scan.proofs.WideTails.{at_drop, drop_one}

-- `static` or `extern`
abbrev begins : WideToken → Bool
begins x = is_static_word x.role || is_extern_word x.role

-- a declaration of the file is over before a token
abbrev over : Known → WideToken → Bool
over s x = s.count == 0 && s.closes && begins x

none : (bs : List Body) (d : Declaration) → file_from bs d [] ≡ []
unfolding file_from
none bs d = refl

-- there is no token at the end
at_none : (j : ℕ) (ds : List Numbered) → drop j ds ≡ []
    → numbered_at ds j ≡ (record { item = no_wide_token; count = 0 })
at_none zero [] left = refl
at_none (suc j) [] left = refl
at_none zero (d ∷ ds) left = ap (λ l. numbered_at l 0) left
at_none (suc j) (d ∷ ds) left = at_none j ds left

module _ (bs : List Body) where
  -- a token is its last
  abbrev ends_without_value : WideToken → Bool
  ends_without_value x = is_sign 125 x.role || is_block bs x

  abbrev ended : WideToken → Bool → Bool
  ended x equals = is_sign 59 x.role || is_linkage x || (not equals && ends_without_value x)

  abbrev last : Known → WideToken → Bool
  last s x = ended x (next s x).has_equals

  -- ---- the pass

  -- after a token that leaves a declaration in this state; the token itself
  onward : Declaration → WideToken → List WideToken → List Given
  onward d x xs = file_from bs (next_in_file d (is_block bs x) x) xs

  from : Declaration → WideToken → List WideToken → List Given
  from e x xs =
      if steps.ends_part e x
      then (if may_name e then given e ∷ [] else []) ++ onward (next_part_of e x) x xs
      else onward (grown e (x ∷ xs) x) x xs

  anew : (d : Declaration) (x : WideToken) (xs : List WideToken) → over (known d) x ≡ true
      → file_from bs d (x ∷ xs) ≡ file_from bs declaration_start (x ∷ xs)
  unfolding file_from from onward
  anew d x xs is = ap (λ b. from (if b then declaration_start else d) x xs) is

  on : (d : Declaration) (x : WideToken) (xs : List WideToken) → over (known d) x ≡ false
      → file_from bs d (x ∷ xs) ≡ here d x
      ++ file_from bs (if last (known d) x then declaration_start else after d (x ∷ xs) x) xs
  unfolding file_from from onward
  on d x xs isnt =
      let named : List Given = if may_name d then given d ∷ [] else [] in
      let p = next_part_of d x in
      let g = grown d (x ∷ xs) x in
      let a = after d (x ∷ xs) x in
      ap (λ b. from (if b then declaration_start else d) x xs) isnt
      ∙ elim (steps.ends_part d x) as (λ b.
      (if b then named ++ onward p x xs else onward g x xs)
      ≡ (if b then named else []) ++ onward (if b then p else g) x xs)
      [ true ↦ refl | false ↦ refl ]
      ∙ ap (λ (s : Known).
      here d x ++ file_from bs (if ended x s.has_equals then declaration_start else a) xs)
      (known_after d (x ∷ xs) x)

  -- ---- the rule
  begins_same : (x : WideToken) (n : ℕ) (z : Numbered)
      → begins_anew (record { item = x; count = n }) z
      ≡ (is_outer z && closes x && begins z.item)
  begins_same x n z = turned (is_outer z) (begins z.item) (closes x)
    where
      turned : (o b c : Bool) → (o && b && c) ≡ (o && c && b)
      turned true true true = refl
      turned true true false = refl
      turned true false true = refl
      turned true false false = refl
      turned false b c = refl

  begins_next : (ds : List Numbered) (j : ℕ) (s : Known) (x : WideToken) (xs : List WideToken)
      → drop j ds ≡ numbered (next s x).count xs
      → begins_anew (record { item = x; count = s.count }) (numbered_at ds j)
      ≡ over_next over (next s x) xs
  unfolding numbered
  begins_next ds j s x [] left =
      ap (begins_anew (record { item = x; count = s.count })) (at_none j ds left)
  begins_next ds j s x (z ∷ zs) left =
      let m : Numbered = record { item = z; count = (next s x).count } in
      ap (begins_anew (record { item = x; count = s.count }))
      (at_drop j ds m (numbered (next (next s x) z).count zs) left)
      ∙ begins_same x s.count m

  together : (a b c d : Bool) → (a || b || c || d) ≡ ((a || b || c) || d)
  together true b c d = refl
  together false true c d = refl
  together false false c d = refl

  rule : (ds : List Numbered) (k : ℕ) (s : Known) (x : WideToken) (xs : List WideToken)
      → drop k ds ≡ numbered s.count (x ∷ xs) → has_outer_equals ds k ≡ s.has_equals
      → ends_in_file bs ds (suc k) ≡ (last s x || over_next over (next s x) xs)
  unfolding numbered
  rule ds k s x xs left equal =
      let y : Numbered = record { item = x; count = s.count } in
      let ys = numbered (next s x).count xs in
      let before : suc k - 1 ≡ k = omega arith in
      let at : numbered_at ds (suc k - 1) ≡ y =
      ap (numbered_at ds) before ∙ at_drop k ds y ys left in
      let equals : has_outer_equals ds (suc k) ≡ (next s x).has_equals =
      equals_more ds k y ys left ∙ ap (λ b. b || (s.count == 0 && is_sign 61 x.role)) equal in
      let follows : drop (suc k) ds ≡ ys = sym (drop_one k ds) ∙ ap (drop 1) left in
      let ends : Numbered → Bool → Bool → Bool = λ z e b.
      is_byte 59 z || rules.is_linkage z || (not e && rules.is_end_without_value bs z) || b in
      ap (λ z. ends z (has_outer_equals ds (suc k)) (begins_anew z (numbered_at ds (suc k)))) at
      ∙ ap (λ e. ends y e (begins_anew y (numbered_at ds (suc k)))) equals
      ∙ ap (ends y (next s x).has_equals) (begins_next ds (suc k) s x xs follows)
      ∙ together (is_sign 59 x.role) (is_linkage x)
      (not (next s x).has_equals && ends_without_value x) (over_next over (next s x) xs)

-- the pass over the level of the file
pub file_is : (bs : List Body) (level : List WideToken)
    → file_from bs declaration_start level
    ≡ map of_part (flat_map naming_parts (file_declarations bs level))
file_is bs =
    level_is over (last bs) (λ x. refl) (file_from bs) (none bs) (anew bs) (on bs)
    (ends_in_file bs) (rule bs)
