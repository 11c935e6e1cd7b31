-- A path with escapes needs none in a string of JSON.
use Rattle.std.proofs.Common.{◌≡◌, ◌≢◌, ℕ, ◌≤◌, true, List, [], ◌∷◌, ◌++◌, sym, ap, ap₂, ◌∙◌}
use Rattle.std.proofs.Common.{refl, arith, subst, ⊎_elim, length, length-append, ◌+◌}
use Rattle.std.specs.Prelude.{All}
use Rattle.std.proofs.lemmas.Bool.{cases_Bool, cond-true, cond-false, false≢true}
use Rattle.std.proofs.lemmas.Bool.Decides.{nat_tests}
use Rattle.std.proofs.lemmas.Grind.{flat_map-append}
use Rattle.std.proofs.lemmas.List.Elements.{All-nil, All-cons, All-head, All-tail}
use Rattle.std.proofs.lemmas.List.Elements.{All-append, All-weaker}
use Rattle.json.specs.Print.{escape, escape_byte as json_byte}
use Rattle.json.proofs.Printed.Strings.{escape_byte_plain}
use Rattle.percent_encoding.specs.Percent.{percent_encode_byte}
use Rattle.percent_encoding.proofs.PercentLemmas.{IsEscapeByte, All-percent_encode_byte}
use Rattle.cb_wire.specs.Uris.{escape_byte, escaped, is_kept}

-- a byte that stands for itself in a string of JSON
abbrev IsPlain : ℕ → Type 0
IsPlain b = (b ≢ 34) × (b ≢ 92) × (32 ≤ b)

escape-plain : (text : List ℕ) → All IsPlain text → escape text ≡ text
escape-plain [] p = refl
escape-plain (b ∷ bs) p =
    let h = All-head IsPlain b bs p in
    ap₂ (λ a l. a ++ l) (escape_byte_plain b h.0 h.1 h.2)
    (escape-plain bs (All-tail IsPlain b bs p))

kept-high : (b : ℕ) → is_kept b ≡ true → 32 ≤ b
kept-high b k = grind (arith, nat_tests)

kept-plain : (b : ℕ) → is_kept b ≡ true → IsPlain b
kept-plain b k = (
  λ e. false≢true (ap is_kept (sym e) ∙ k),
  λ e. false≢true (ap is_kept (sym e) ∙ k),
  kept-high b k,
)

escaped-byte-plain : (b : ℕ) → IsEscapeByte b → IsPlain b
escaped-byte-plain b p = (λ e. grind arith, λ e. grind arith, grind arith)

byte-plain : (b : ℕ) → All IsPlain (escape_byte b)
byte-plain b = ⊎_elim
    (λ t. subst (All IsPlain) (sym (cond-true _ _ _ t))
    (All-cons IsPlain b [] (kept-plain b t) (All-nil IsPlain)))
    (λ f. subst (All IsPlain) (sym (cond-false _ _ _ f))
    (All-weaker IsEscapeByte IsPlain escaped-byte-plain (percent_encode_byte b)
    (All-percent_encode_byte b)))
    (cases_Bool (is_kept b))

path-plain : (bs : List ℕ) → All IsPlain (escaped bs)
path-plain [] = All-nil IsPlain
path-plain (b ∷ bs) = All-append IsPlain (escape_byte b) (escaped bs) (byte-plain b) (path-plain bs)

-- a path with escapes
pub escape-escaped : (path : List ℕ) → escape (escaped path) ≡ escaped path
escape-escaped path = escape-plain (escaped path) (path-plain path)

-- a front of two texts, and a path with escapes
pub escape-uri : (a b path uri : List ℕ) → a ++ (b ++ escaped path) ≡ uri
    → escape uri ≡ escape a ++ (escape b ++ escaped path)
escape-uri a b path uri p =
    ap escape (sym p) ∙ flat_map-append json_byte a (b ++ escaped path)
    ∙ ap (λ l. escape a ++ l)
    (flat_map-append json_byte b (escaped path)
    ∙ ap (λ l. escape b ++ l) (escape-escaped path))

-- how long it is
pub escape-uri-length : (a b path uri : List ℕ) → a ++ (b ++ escaped path) ≡ uri
    → length (escape uri) ≡ length (escape a) + length (escape b) + length (escaped path)
escape-uri-length a b path uri p =
    omega (
      arith,
      ap length (escape-uri a b path uri p),
      length-append (escape a) (escape b ++ escaped path),
      length-append (escape b) (escaped path),
    )
