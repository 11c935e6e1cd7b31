-- Paths with escapes, and what follows some letters.
use Rattle.std.proofs.Common.{◌≡◌, ℕ, Bool, cond, List}
use Rattle.std.proofs.Common.{length, take, drop, min, Some, None, sym, ap, ◌∙◌, arith, inl, inr}
use Rattle.std.specs.Str.{str_eq_ignore_ascii_case}
use Rattle.std.proofs.lemmas.Bool.Decides.{leb_tells}
use Rattle.std.proofs.lemmas.List.{take_all, drop_all}
use Rattle.cb_wire.specs.Uris.{after}

take_min : (n : ℕ) (xs : List ℕ) → take (min n (length xs)) xs ≡ take n xs
take_min n xs =
    elim (leb_tells n (length xs)) as (λ _. take (min n (length xs)) xs ≡ take n xs) [
      | inl h ↦ let e : min n (length xs) ≡ n = omega (arith, h.1) in ap (λ m. take m xs) e
      | inr h ↦ take_all (min n (length xs)) xs (omega (arith, h.1))
          ∙ sym (take_all n xs (omega (arith, h.1)))
    ]

drop_min : (n : ℕ) (xs : List ℕ) → drop (min n (length xs)) xs ≡ drop n xs
drop_min n xs =
    elim (leb_tells n (length xs)) as (λ _. drop (min n (length xs)) xs ≡ drop n xs) [
      | inl h ↦ let e : min n (length xs) ≡ n = omega (arith, h.1) in ap (λ m. drop m xs) e
      | inr h ↦ drop_all (min n (length xs)) xs (omega (arith, h.1))
          ∙ sym (drop_all n xs (omega (arith, h.1)))
    ]

pub after-is : (letters text front rest : List ℕ) (t : Bool)
    → front ≡ take (min (length letters) (length text)) text
    → rest ≡ drop (min (length letters) (length text)) text
    → t ≡ str_eq_ignore_ascii_case front letters → cond t (Some rest) None ≡ after letters text
after-is letters text front rest t f r e =
    let n = length letters in
    ap (λ b. cond b (Some rest) None) e
    ∙ ap (λ l. cond (str_eq_ignore_ascii_case l letters) (Some rest) None) (f ∙ take_min n text)
    ∙ ap (λ l. cond (str_eq_ignore_ascii_case (take n text) letters) (Some l) None)
    (r ∙ drop_min n text)
