-- Rows that are equal in all columns are one row.
use Rattle.std.proofs.Common.{◌≡◌, refl, ℕ, Bool, true, false, ◌&&◌, List}
use Rattle.std.proofs.lemmas.Slice.Eq.{bytes_eq-Decides}
use Rattle.std.proofs.lemmas.Bool.Decides.{Decides-eqb}
use Rattle.cb_desk.specs.Answer.{AnswerRow, row_eq}

abbrev row_from : List ℕ → List ℕ → ℕ → List ℕ → AnswerRow
row_from file function line text =
    record { file = file; function = function; line = line; text = text }

pub and-left : (a b : Bool) → a && b ≡ true → a ≡ true
and-left true b e = refl
and-left false b e = e

pub and-right : (a b : Bool) → a && b ≡ true → b ≡ true
and-right true b e = e
and-right false b e = cc

row-of-equal : (f₁ f₂ g₁ g₂ : List ℕ) (l₁ l₂ : ℕ) (t₁ t₂ : List ℕ) → f₁ ≡ f₂ → g₁ ≡ g₂ → l₁ ≡ l₂
    → t₁ ≡ t₂ → row_from f₁ g₁ l₁ t₁ ≡ row_from f₂ g₂ l₂ t₂
row-of-equal f₁ f₂ g₁ g₂ l₁ l₂ t₁ t₂ f g l t = rw (f, g, l, t) refl

-- rows that are equal in all columns are one row
pub row_same : (r q : AnswerRow) → row_eq r q ≡ true → r ≡ q
row_same r q e =
    let abc = and-left _ _ e in
    let ab = and-left _ _ abc in
    row-of-equal r.file q.file r.function q.function r.line q.line r.text q.text
    ((bytes_eq-Decides r.file q.file).0 (and-left _ _ ab))
    ((bytes_eq-Decides r.function q.function).0 (and-right _ _ ab))
    ((Decides-eqb r.line q.line).0 (and-right _ _ abc))
    ((bytes_eq-Decides r.text q.text).0 (and-right _ _ e))

pub row_itself : (r : AnswerRow) → row_eq r r ≡ true
row_itself r =
    rw (
      (bytes_eq-Decides r.file r.file).1 refl,
      (bytes_eq-Decides r.function r.function).1 refl,
      (Decides-eqb r.line r.line).1 refl,
      (bytes_eq-Decides r.text r.text).1 refl,
    ) refl
