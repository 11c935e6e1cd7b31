-- The places of a byte are as many as the bytes that are equal to it.
use Rattle.std.proofs.Common.{◌≡◌, ◌∙◌, sym, ap, ℕ, zero, suc, ◌+◌, ◌-◌, Bool, true, false, cond}
use Rattle.std.proofs.Common.{List, ◌∷◌, drop, length, count_by, slice_index, arith}
use Rattle.std.proofs.Math.Seq.{drop-cons}
use Rattle.std.proofs.Math.ListN.{drop_of_length-le}
use Rattle.std.proofs.lemmas.List.Sums.{sum_by-cons}
use Rattle.memchr.specs.Find.{places_from, places, is_byte}

counted-from : (test : ℕ → Bool) (hay : List ℕ) (i n : ℕ) → i + n ≡ length hay
    → length (places_from test hay i n) ≡ count_by test (drop i hay)
unfolding places_from
counted-from test hay i zero whole =
    let at : i ≡ length hay = omega (arith, whole) in sym (ap (λ k. count_by test (drop k hay)) at
    ∙ ap (count_by test) (drop_of_length-le hay (omega arith)))
counted-from test hay i (suc n) whole =
    let rest : length (places_from test hay (i + 1) n) ≡ count_by test (drop (i + 1) hay) =
    counted-from test hay (i + 1) n (omega (arith, whole)) in
    let next : drop i hay ≡ slice_index hay i ∷ drop (i + 1) hay =
    drop-cons hay i 0 (omega (arith, whole)) ∙ ap (λ k. slice_index hay i ∷ drop k hay) (after i) in
    (elim (test (slice_index hay i)) as (λ b. length (cond b (i ∷ places_from test hay (i + 1) n)
    (places_from test hay (i + 1) n)) ≡ cond b 1 0 + count_by test (drop (i + 1) hay)) [
      | true ↦ ap suc rest ∙ one-more (count_by test (drop (i + 1) hay))
      | false ↦ rest ∙ none-more (count_by test (drop (i + 1) hay))
    ])
    ∙ sym (ap (count_by test) next
    ∙ sum_by-cons (λ x. cond (test x) 1 0) (slice_index hay i) (drop (i + 1) hay))
  where
    one-more : (n : ℕ) → suc n ≡ 1 + n
    one-more n = omega arith

    none-more : (n : ℕ) → n ≡ 0 + n
    none-more n = omega arith

    after : (n : ℕ) → suc n ≡ n + 1
    after n = omega arith

pub places-counted : (byte : ℕ) (hay : List ℕ)
    → length (places (is_byte byte) hay) ≡ count_by (is_byte byte) hay
places-counted byte hay =
    let all : length hay - 0 ≡ length hay = omega arith in
    ap (λ n. length (places_from (is_byte byte) hay 0 n)) all
    ∙ counted-from (is_byte byte) hay 0 (length hay) (omega arith)
