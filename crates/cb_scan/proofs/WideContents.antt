-- The pass finds on one level what the rules say.
use Rattle.std.proofs.Common.{◌≡◌, ◌∙◌, true, false, List, [], ◌∷◌, ◌++◌, refl, ap, map, Option}
use Rattle.std.specs.Prelude.{cond, if◌then◌else◌}
use Rattle.std.specs.List.{flat_map}
use Rattle.cb_scan.specs.declared.rules.wide.declaration.Declaration.{Declaration}
use Rattle.cb_scan.specs.declared.facts.Tag.{Tag}
use Rattle.cb_scan.specs.declared.facts.Kind.TheVariants as kind
use Rattle.cb_scan.specs.declared.rules.wide.enumeration.Enumeration.{Enumeration}
use Rattle.cb_scan.specs.declared.rules.wide.level.Level.TheVariants.{Enumerators, Members}
use Rattle.cb_scan.specs.declared.rules.wide.token.WideToken.{WideToken}
use Rattle.cb_scan.specs.rules.wide.Bodies.{enumerators}
use Rattle.cb_scan.specs.rules.wide.Declarations.{Part, body_declarations, naming_parts}
use Rattle.cb_scan.specs.rules.wide.Kinds.{def_in, member_of}
use Rattle.cb_scan.specs.steps.wide.Contents.{level_defs, member_given}
use Rattle.cb_scan.specs.steps.wide.Declarations.{declaration_start, ends_part, given, grown, may_name}
use Rattle.cb_scan.specs.steps.wide.Declarations.{members_from, next_member}
use Rattle.cb_scan.specs.steps.wide.Enumerators.{enumeration_start, enumerators_from, is_enumerator}
use Rattle.cb_scan.specs.steps.wide.Enumerators.{next_enumeration}
use Rattle.cb_scan.proofs.WideDeclarations.{of_part}
use Rattle.cb_scan.proofs.WideEnumerators.{enumerators_from_start}
use Rattle.cb_scan.proofs.WideMembers.{members_are}

module _ (tag : Option Tag) where
  -- ---- members

  from_declaration : (d : Declaration) (xs : List WideToken)
      → level_defs (Members tag d) xs ≡ flat_map (member_given tag) (members_from d xs)
  unfolding level_defs members_from
  from_declaration d [] = refl
  from_declaration d (x ∷ xs) =
      elim (ends_part d x) as (λ b.
      cond b (if may_name d then member_given tag (given d) else []) []
      ++ level_defs (Members tag (cond b (next_member d x) (grown d (x ∷ xs) x))) xs
      ≡ flat_map (member_given tag) (cond b ((if may_name d then given d ∷ [] else [])
      ++ members_from (next_member d x) xs) (members_from (grown d (x ∷ xs) x) xs))) [
        | true ↦ elim (may_name d) as (λ b.
            cond b (member_given tag (given d)) [] ++ level_defs (Members tag (next_member d x)) xs
            ≡ flat_map (member_given tag) (cond b (given d ∷ []) [] ++ members_from (next_member d x) xs)) [
              | true ↦ ap (λ l. member_given tag (given d) ++ l) (from_declaration (next_member d x) xs)
              | false ↦ from_declaration (next_member d x) xs
            ]
        | false ↦ from_declaration (grown d (x ∷ xs) x) xs
      ]

  of_parts : (ps : List Part) → flat_map (member_given tag) (map of_part ps) ≡ flat_map (member_of tag) ps
  of_parts [] = refl
  of_parts (p ∷ ps) = ap (λ l. member_of tag p ++ l) (of_parts ps)

  pub members_of_level : (level : List WideToken) → level_defs (Members tag declaration_start) level
      ≡ flat_map (member_of tag) (flat_map naming_parts (body_declarations level))
  members_of_level level =
      from_declaration declaration_start level
      ∙ ap (flat_map (member_given tag)) (members_are level)
      ∙ of_parts (flat_map naming_parts (body_declarations level))

  -- ---- enumerators

  from_enumeration : (e : Enumeration) (xs : List WideToken)
      → level_defs (Enumerators tag e) xs ≡ map (def_in kind.Enumerator tag) (enumerators_from e xs)
  unfolding level_defs enumerators_from
  from_enumeration e [] = refl
  from_enumeration e (x ∷ xs) =
      elim (is_enumerator e (x ∷ xs)) as (λ b.
      cond b (def_in kind.Enumerator tag x.token ∷ []) []
      ++ level_defs (Enumerators tag (next_enumeration e x)) xs
      ≡ map (def_in kind.Enumerator tag) (cond b (x.token ∷ []) []
      ++ enumerators_from (next_enumeration e x) xs)) [
        | true ↦ ap (λ l. def_in kind.Enumerator tag x.token ∷ l) (from_enumeration (next_enumeration e x) xs)
        | false ↦ from_enumeration (next_enumeration e x) xs
      ]

  pub enumerators_of_level : (level : List WideToken) → level_defs (Enumerators tag enumeration_start) level
      ≡ map (def_in kind.Enumerator tag) (enumerators level)
  enumerators_of_level level =
      from_enumeration enumeration_start level
      ∙ ap (map (def_in kind.Enumerator tag)) (enumerators_from_start level)
