-- What is held back is taken in the end as it would be at once.
use Rattle.std.proofs.Common.{◌≡◌, ◌∙◌, ◌≤◌, true, false, List, [], ◌∷◌, ◌++◌, refl, arith}
use Rattle.std.proofs.Common.{append_assoc, drop, length}
use Rattle.std.proofs.lemmas.List.{append-nil}
use Rattle.std.proofs.Math.ListN.{get_or}
use Rattle.std.specs.Prelude.{cond, take, if◌then◌else◌}
use Rattle.cb_scan.specs.declared.rules.wide.attribute.Attribute.{Attribute}
use Rattle.cb_scan.specs.declared.rules.wide.token.WideToken.{WideToken}
use Rattle.cb_scan.specs.steps.wide.Attributes.{kept_from, leaves_out, next_attribute}
use Rattle.cb_scan.specs.declared.rules.wide.pass.Pass.{Pass}
use Rattle.cb_scan.specs.steps.wide.Lists.{Lists}
use Rattle.cb_scan.specs.steps.wide.Pass.{Taken, next_lists, next_pass, take_all, take_first}
use Rattle.cb_scan.specs.steps.wide.Reading.{the_taken}

-- the first token is left out or kept
pub settled_keeps : (bare : List WideToken) (a : Attribute) (raw : List WideToken) → 1 ≤ length raw
    → (if leaves_out a raw then bare else bare ++ take 1 raw)
    ++ kept_from (next_attribute a raw) (drop 1 raw)
    ≡ bare ++ kept_from a raw
unfolding kept_from
settled_keeps bare a [] some = absurd (omega arith)
settled_keeps bare a (x ∷ xs) some =
    let rest = kept_from (next_attribute a (x ∷ xs)) xs in
    elim (leaves_out a (x ∷ xs)) as (λ b.
    cond b bare (bare ++ (x ∷ [])) ++ rest ≡ bare ++ cond b rest (x ∷ rest))
    [ true ↦ refl | false ↦ append_assoc bare (x ∷ []) rest ]

-- nothing is left
pub none_kept : (bare : List WideToken) (a : Attribute) → bare ++ kept_from a [] ≡ bare
unfolding kept_from
none_kept bare a = append-nil bare

pub empty : (xs : List WideToken) → length xs ≡ 0 → xs ≡ []
empty [] none = refl
empty (x ∷ xs) none = absurd (omega arith)

-- ---- what is taken

pub take_none : (t : Taken) → take_all t [] ≡ t
unfolding take_all
take_none t = refl

takes_on : (t : Taken) (xs : List WideToken) (d : WideToken) → 1 ≤ length xs
    → take_all (take_first t xs (get_or xs 0 d)) (drop 1 xs) ≡ take_all t xs
unfolding take_all
takes_on t [] d some = absurd (omega arith)
takes_on t (x ∷ xs) d some = refl

-- the same, as the code does it
pub one_taken : (t : Taken) (xs ys : List WideToken) (d : WideToken) (p : Pass) (l : Lists)
    → 1 ≤ length xs → p ≡ next_pass t.pass xs (get_or xs 0 d)
    → l ≡ next_lists t.lists t.pass xs (get_or xs 0 d) → ys ≡ drop 1 xs
    → take_all (the_taken p l) ys ≡ take_all t xs
one_taken t xs ys d p l some p_is l_is ys_are =
    (λ k. take_all (the_taken (p_is k) (l_is k)) (ys_are k)) ∙ takes_on t xs d some
