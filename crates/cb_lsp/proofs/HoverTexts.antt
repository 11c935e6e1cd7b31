-- The text of a hover, inside a string of JSON.
use Rattle.std.proofs.Common.{◌≡◌, ◌∙◌, ◌++◌, ◌+◌, ◌<◌, ◌^◌, ◌%◌, sym, ap, arith}
use Rattle.std.proofs.Common.{ℕ, List, [], ◌∷◌, decimal, append_assoc, append-nil}
use Rattle.std.specs.Prelude.{codes}
use Rattle.std.proofs.lemmas.Fmt.{decimal_by_steps}
use Rattle.std.proofs.lemmas.Grind.{flat_map-append}
use Rattle.json.specs.Print.{escape, escape_byte}
use Rattle.json.proofs.Printed.Strings.{escape_byte_plain}
use Rattle.cb_wire.specs.Texts.{readable}

-- a digit stands for itself
digit-plain : (d : ℕ) → d < 10 → escape ((48 + d) ∷ []) ≡ (48 + d) ∷ []
digit-plain d small =
    ap (λ l. l ++ []) (escape_byte_plain (48 + d) (λ e. omega arith) (λ e. omega arith)
    (omega arith))

-- and so does a number
number-plain : (n : ℕ) → n < 2 ^ 64 → escape (decimal n) ≡ decimal n
number-plain =
    decimal_by_steps (λ n ds. escape ds ≡ ds) (λ n small. digit-plain n small)
    (λ n ds big plain.
    flat_map-append escape_byte ds ((48 + n % 10) ∷ [])
    ∙ (λ i. plain i ++ digit-plain (n % 10) (omega arith) i))

regrouped : (a b c d e : List ℕ) → a ++ b ++ c ++ d ++ e ≡ a ++ (b ++ (c ++ (d ++ e)))
regrouped a b c d e = simp append_assoc

escapes : (a b c d e : List ℕ) → escape c ≡ c
    → escape (a ++ b ++ c ++ d ++ e)
    ≡ escape a ++ (escape b ++ (c ++ (escape d ++ escape e)))
escapes a b c d e plain =
    flat_map-append escape_byte (a ++ b ++ c ++ d) e
    ∙ ap (λ l. l ++ escape e) (flat_map-append escape_byte (a ++ b ++ c) d
    ∙ ap (λ l. l ++ escape d) (flat_map-append escape_byte (a ++ b) c
    ∙ (λ i. flat_map-append escape_byte a b i ++ plain i)))
    ∙ regrouped (escape a) (escape b) c (escape d) (escape e)

pub hover-parts : (file text : List ℕ) (line : ℕ) → line < 2 ^ 64
    → escape (readable file) ++ (codes ":" ++ (decimal line ++ (codes "\\n"
    ++ (escape (readable text) ++ []))))
    ≡ escape (readable file ++ codes ":" ++ decimal line ++ codes "\n" ++ readable text)
unfolding escape_byte
hover-parts file text line small =
    ap (λ l. escape (readable file) ++ (codes ":" ++ (decimal line ++ (codes "\\n" ++ l))))
    (append-nil (escape (readable text)))
    ∙ sym (escapes (readable file) (codes ":") (decimal line) (codes "\n") (readable text)
    (number-plain line small))

-- a file and a line of it, and what is behind
pub place-parts : (file : List ℕ) (line : ℕ) (more : List ℕ) → line < 2 ^ 64
    → escape file ++ (codes ":" ++ (decimal line ++ more))
    ≡ escape (file ++ (codes ":" ++ decimal line)) ++ more
unfolding escape_byte
place-parts file line more small =
    ap (λ l. escape file ++ (codes ":" ++ (l ++ more))) (sym (number-plain line small))
    ∙ sym (append_assoc (escape file) (codes ":" ++ escape (decimal line)) more)
    ∙ ap (λ l. (escape file ++ l) ++ more) (sym (flat_map-append escape_byte (codes ":") (decimal line)))
    ∙ ap (λ l. l ++ more) (sym (flat_map-append escape_byte file (codes ":" ++ decimal line)))
