-- The parts of a declaration that can name something, one after the other.
use Rattle.std.proofs.Common.{◌≡◌, ◌∙◌, suc, ◌+◌, Bool, true, false, List, [], ◌∷◌, ◌++◌, refl}
use Rattle.std.proofs.Common.{sym, ap, append_assoc, length, arith, add-one}
use Rattle.std.proofs.lemmas.Bool.{eqb-true, false_from_ne_true}
use Rattle.std.specs.Prelude.{◌==◌, take, slice_index_or}
use Rattle.std.specs.List.{flat_map, range_with_len}
use Rattle.cb_scan.specs.rules.wide.Declarations.{Part, ended_parts, naming_parts, part_after, part_at}
use Rattle.cb_scan.specs.rules.wide.Levels.{Numbered}

-- no part is before
abbrev pub is_empty : List (List Numbered) → Bool
is_empty [] = true
is_empty (p ∷ ps) = false

-- the parts after some, that can name something
unfoldable pub parts_beyond : List (List Numbered) → List (List Numbered) → List Part
parts_beyond before [] = []
parts_beyond before (p ∷ ps) =
    part_after (is_empty before) (before ++ p ∷ []) p ++ parts_beyond (before ++ p ∷ []) ps

take_parts : (before : List (List Numbered)) (p : List Numbered) (ps : List (List Numbered))
    → take (suc (length before)) (before ++ p ∷ ps) ≡ before ++ p ∷ []
take_parts [] p ps = refl
take_parts (b ∷ before) p ps = ap (λ l. b ∷ l) (take_parts before p ps)

at_parts : (before : List (List Numbered)) (p : List Numbered) (ps : List (List Numbered))
    → slice_index_or (before ++ p ∷ ps) (length before) [] ≡ p
at_parts [] p ps = refl
at_parts (b ∷ before) p ps = at_parts before p ps

empty_is : (before : List (List Numbered)) → (length before == 0) ≡ is_empty before
empty_is [] = refl
empty_is (b ∷ before) =
    false_from_ne_true (suc (length before) == 0) (λ e.
    let none : suc (length before) ≡ 0 = eqb-true (suc (length before)) 0 e in absurd (omega arith))

long_snoc : (before : List (List Numbered)) (p : List Numbered) → length (before ++ p ∷ []) ≡ suc (length before)
long_snoc [] p = refl
long_snoc (b ∷ before) p = ap suc (long_snoc before p)

part_here : (before : List (List Numbered)) (p : List Numbered) (ps : List (List Numbered))
    → part_at (before ++ p ∷ ps) (length before) ≡ part_after (is_empty before) (before ++ p ∷ []) p
part_here before p ps =
    ap (λ b. part_after b (take (length before + 1) (before ++ p ∷ ps))
    (slice_index_or (before ++ p ∷ ps) (length before) [])) (empty_is before)
    ∙ ap (λ n. part_after (is_empty before) (take n (before ++ p ∷ ps))
    (slice_index_or (before ++ p ∷ ps) (length before) [])) (add-one (length before))
    ∙ ap (λ l. part_after (is_empty before) l (slice_index_or (before ++ p ∷ ps) (length before) []))
    (take_parts before p ps)
    ∙ ap (part_after (is_empty before) (before ++ p ∷ [])) (at_parts before p ps)

from : (before rest : List (List Numbered))
    → flat_map (part_at (before ++ rest)) (range_with_len (length before) (length rest))
    ≡ parts_beyond before rest
unfolding parts_beyond
from before [] = refl
from before (p ∷ ps) =
    let more : length before + 1 ≡ length (before ++ p ∷ []) =
    add-one (length before) ∙ sym (long_snoc before p) in
    ap (λ l. l ++ flat_map (part_at (before ++ p ∷ ps)) (range_with_len (length before + 1) (length ps)))
    (part_here before p ps)
    ∙ ap (λ n. part_after (is_empty before) (before ++ p ∷ []) p
    ++ flat_map (part_at (before ++ p ∷ ps)) (range_with_len n (length ps))) more
    ∙ ap (λ all. part_after (is_empty before) (before ++ p ∷ []) p
    ++ flat_map (part_at all) (range_with_len (length (before ++ p ∷ [])) (length ps)))
    (sym (append_assoc before (p ∷ []) ps))
    ∙ ap (λ l. part_after (is_empty before) (before ++ p ∷ []) p ++ l) (from (before ++ p ∷ []) ps)

-- all parts of a declaration
pub naming_is : (ds : List Numbered) → naming_parts ds ≡ parts_beyond [] (ended_parts ds)
naming_is ds = from [] (ended_parts ds)
