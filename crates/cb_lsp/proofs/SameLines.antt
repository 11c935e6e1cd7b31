-- A place between the starts of a line and of the next one is on that line.
use Rattle.std.proofs.Common.{◌≡◌, ◌∙◌, ◌+◌, ◌-◌, ◌<◌, ◌≤◌, ℕ, zero, suc, Bool, true, List, length, get_or, refl}
use Rattle.std.proofs.Common.{ap, arith, inl, inr, subst, sym, ⊎_elim}
use Rattle.std.proofs.lemmas.Bool.{cases_Bool, le-leb, leb-true}
use Rattle.std.proofs.lemmas.Bool.Decides.{leb_tells}
use Rattle.std.proofs.lemmas.List.{get_or_default}
use Rattle.std.specs.Prelude.{nat_le}
use Rattle.cb_scan.proofs.LinePlaces.{line_start-within, start_ends, start_reads}
use Rattle.cb_scan.proofs.LinePlaces.{starts_before, starts_parted}
use Rattle.cb_scan.specs.Lines.{line_of, line_start}
use Rattle.cb_scan.specs.steps.LineStarts.{line_starts}

abbrev begun : ℕ → ℕ → Bool
begun place start = nat_le start place

pub on-line : (text : List ℕ) (n place : ℕ) → 0 < n → line_start text n ≤ place
    → place < line_start text (n + 1) → n ≡ line_of text place
on-line text zero place some from to = absurd (omega arith)
on-line text (suc k) place some from to =
    let starts = line_starts text in
    let within : place < length text = omega (arith, to, line_start-within text (suc k + 1)) in
    let few : k < length starts =
    elim (leb_tells (length starts) k) as (λ _. k < length starts) [
      | inl h ↦ absurd (omega (
        arith,
        from,
        within,
        start_ends text starts refl (suc k) (omega (arith, h.1)),
      ))
      | inr h ↦ omega (arith, h.1)
    ] in
    let one : suc k - 1 ≡ k = omega arith in
    let reads : get_or starts k 0 ≡ line_start text (suc k) =
    sym (ap (λ n. get_or starts n 0) one)
    ∙ start_reads text starts refl (suc k) (omega (arith, few)) in
    let first : begun place (get_or starts k 0) ≡ true =
    le-leb (get_or starts k 0) place (omega (arith, from, reads)) in
    starts_before text starts refl place (suc k) within (omega (arith, few)) (
      λ i d low high. starts_parted text starts refl place i k d (omega (arith, high)) few
          (subst (λ s. begun place s ≡ true) (get_or_default starts k 0 d few) first),
      λ i d low high. ⊎_elim
          (λ yes.
          let next : suc k < length starts = omega (arith, low, high) in
          let here : begun place (get_or starts (suc k) 0) ≡ true =
          subst (λ s. begun place s ≡ true) (get_or_default starts (suc k) d 0 next)
          (starts_parted text starts refl place (suc k) i d low high yes) in
          let two : suc k + 1 - 1 ≡ suc k = omega arith in
          let later : get_or starts (suc k) 0 ≡ line_start text (suc k + 1) =
          sym (ap (λ n. get_or starts n 0) two)
          ∙ start_reads text starts refl (suc k + 1) (omega (arith, next)) in
          absurd (omega (arith, to, leb-true (get_or starts (suc k) 0) place here, later)))
          (λ no. no)
          (cases_Bool (begun place (get_or starts i d))),
    )
