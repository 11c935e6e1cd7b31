-- A text stays as it is where it grows by no escape.
use Rattle.std.proofs.Common.{◌≡◌, ◌≤◌, ◌+◌, ◌*◌, not, ℕ, Bool, true, false, cond, List, [], ◌∷◌, ◌++◌, length}
use Rattle.std.proofs.Common.{arith, ap₂, refl, length-append, ◌/◌, ◌%◌}
use Rattle.std.specs.Prelude.{count_by, nat_lt}
use Rattle.std.specs.Char.{digit_char}
use Rattle.std.specs.List.{flat_map}
use Rattle.std.proofs.lemmas.List.Sums.{sum_by-cons}
use Rattle.json.specs.Print.{escape, escape_byte as json_byte, escape_letter}
use Rattle.percent_encoding.specs.Percent.{percent_encode_byte}
use Rattle.cb_wire.specs.Uris.{escape_byte, escaped, is_kept}

-- what stands for a byte is no text, or that byte alone, or more
abbrev pub StandsFor : List ℕ → ℕ → Type 0
StandsFor text b = (1 ≤ length text) × (length text ≡ 1 → text ≡ b ∷ [])

module _ (f : ℕ → List ℕ) (stands : (b : ℕ) → StandsFor (f b) b) where
  grows : (text : List ℕ) → length text ≤ length (flat_map f text)
  grows [] = omega arith
  grows (b ∷ bs) =
      omega (arith, (stands b).0, grows bs, length-append (f b) (flat_map f bs))

  same : (text : List ℕ) → length (flat_map f text) ≡ length text → flat_map f text ≡ text
  same [] e = refl
  same (b ∷ bs) e =
      let both = length-append (f b) (flat_map f bs) in
      ap₂ (λ a l. a ++ l) ((stands b).1 (omega (arith, e, both, (stands b).0, grows bs)))
      (same bs (omega (arith, e, both, (stands b).0, grows bs)))

-- a long text, another, or the byte
picked : (t u : Bool) (pair six : List ℕ) (b : ℕ) → 2 ≤ length pair → 2 ≤ length six
    → StandsFor (cond t pair (cond u six (b ∷ []))) b
picked true u pair six b p q = (omega (arith, p), λ e. absurd (omega (arith, p, e)))
picked false true pair six b p q = (omega (arith, q), λ e. absurd (omega (arith, q, e)))
picked false false pair six b p q = (omega arith, λ e. refl)

-- the byte, or a long text
kept_or : (t : Bool) (three : List ℕ) (b : ℕ) → 2 ≤ length three
    → StandsFor (cond t (b ∷ []) three) b
kept_or true three b p = (omega arith, λ e. refl)
kept_or false three b p = (omega (arith, p), λ e. absurd (omega (arith, p, e)))

in-json : (b : ℕ) → StandsFor (json_byte b) b
unfolding json_byte
in-json b =
    picked (nat_lt 0 (escape_letter b)) (nat_lt b 32) (92 ∷ escape_letter b ∷ [])
    (92 ∷ 117 ∷ 48 ∷ 48 ∷ digit_char (b / 16) ∷ digit_char (b % 16) ∷ []) b (omega arith)
    (omega arith)

in-path : (b : ℕ) → StandsFor (escape_byte b) b
unfolding percent_encode_byte
in-path b = kept_or (is_kept b) (percent_encode_byte b) b (omega arith)

-- in a string of JSON
pub same-json : (text : List ℕ) → length (escape text) ≡ length text → escape text ≡ text
same-json = same json_byte in-json

-- ---- in a URI

kept-grows : (t : Bool) (b : ℕ)
    → length (cond t (b ∷ []) (percent_encode_byte b)) ≡ 1 + 2 * cond (not t) 1 0
unfolding percent_encode_byte
kept-grows true b = refl
kept-grows false b = refl

-- each escape takes two bytes more
pub path-length : (path : List ℕ)
    → length (escaped path) ≡ length path + 2 * count_by (λ b. not (is_kept b)) path
path-length [] = refl
path-length (b ∷ bs) =
    omega (
      arith,
      length-append (escape_byte b) (escaped bs),
      kept-grows (is_kept b) b,
      path-length bs,
      sum_by-cons (λ c. cond (not (is_kept c)) 1 0) b bs,
    )

pub same-path : (path : List ℕ) → count_by (λ b. not (is_kept b)) path ≡ 0 → escaped path ≡ path
same-path path none = same escape_byte in-path path (omega (arith, path-length path, none))
