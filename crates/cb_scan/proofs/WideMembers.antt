-- The pass finds what the parts give on the level of a structure or union.
use Rattle.std.proofs.Common.{◌≡◌, ◌∙◌, ℕ, suc, ◌-◌, Bool, true, false, List, [], ◌∷◌, ◌++◌, refl}
use Rattle.std.proofs.Common.{ap, arith, drop, map}
use Rattle.std.proofs.lemmas.Bool.{false≢true}
use Rattle.std.specs.Prelude.{◌&&◌, ◌||◌, ◌==◌, if◌then◌else◌}
use Rattle.std.specs.List.{flat_map}
use Rattle.cb_scan.specs.declared.rules.wide.declaration.Declaration.{Declaration}
use Rattle.cb_scan.specs.declared.rules.wide.token.WideToken.{WideToken}
use Rattle.cb_scan.specs.rules.wide.Declarations.{body_declarations, ends_at_semicolon}
use Rattle.cb_scan.specs.rules.wide.Declarations.{has_outer_equals, naming_parts}
use Rattle.cb_scan.specs.rules.wide.Levels.{Numbered, is_byte, numbered, numbered_at}
use Rattle.cb_scan.specs.rules.wide.Words.{is_sign}
use Rattle.cb_scan.specs.steps.wide.Declarations.{Given, declaration_start, given, grown, may_name}
use Rattle.cb_scan.specs.steps.wide.Declarations.{members_from, next_part_of}
use Rattle.cb_scan.proofs.WideCuts.{Known, after, here, known, level_is, next, over_next}
use Rattle.cb_scan.proofs.WideDeclarations.{of_part}
use Rattle.cb_scan.proofs.WideTails.{at_drop}

-- a declaration ends with a `;` alone
abbrev over : Known → WideToken → Bool
over s x = false

abbrev last : Known → WideToken → Bool
last s x = is_sign 59 x.role

none : (d : Declaration) → members_from d [] ≡ []
unfolding members_from
none d = refl

on : (d : Declaration) (x : WideToken) (xs : List WideToken) → over (known d) x ≡ false
    → members_from d (x ∷ xs) ≡ here d x
    ++ members_from (if last (known d) x then declaration_start else after d (x ∷ xs) x) xs
unfolding members_from
on d x xs _ =
    let named : List Given = if may_name d then given d ∷ [] else [] in
    let c = d.count == 0 && is_sign 44 x.role in
    let g = grown d (x ∷ xs) x in
    elim (is_sign 59 x.role) as (λ b.
    (if b || c then named ++ members_from (if b then declaration_start else next_part_of d x) xs
    else members_from g xs)
    ≡ (if b || c then named else [])
    ++ members_from
    (if b then declaration_start else (if b || c then next_part_of d x else g)) xs) [
      | true ↦ refl
      | false ↦ elim c as (λ e.
          (if e then named ++ members_from (next_part_of d x) xs else members_from g xs)
          ≡ (if e then named else []) ++ members_from (if e then next_part_of d x else g) xs)
          [ true ↦ refl | false ↦ refl ]
    ]

rule : (ds : List Numbered) (k : ℕ) (s : Known) (x : WideToken) (xs : List WideToken)
    → drop k ds ≡ numbered s.count (x ∷ xs) → has_outer_equals ds k ≡ s.has_equals
    → ends_at_semicolon ds (suc k) ≡ (last s x || over_next over (next s x) xs)
unfolding numbered
rule ds k s x xs left _ =
    let y : Numbered = record { item = x; count = s.count } in
    let before : suc k - 1 ≡ k = omega arith in
    ap (λ j. is_byte 59 (numbered_at ds j)) before
    ∙ ap (is_byte 59) (at_drop k ds y (numbered (next s x).count xs) left)
    ∙ alone (last s x) xs
  where
    alone : (b : Bool) (l : List WideToken) → b ≡ (b || over_next over (next s x) l)
    alone true l = refl
    alone false [] = refl
    alone false (z ∷ zs) = refl

-- the pass over a level
pub members_are : (level : List WideToken)
    → members_from declaration_start level
    ≡ map of_part (flat_map naming_parts (body_declarations level))
members_are =
    level_is over last (λ x. refl) members_from none (λ d x xs is. absurd (false≢true is)) on
    ends_at_semicolon rule
