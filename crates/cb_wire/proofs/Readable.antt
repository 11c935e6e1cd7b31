-- Bytes as UTF-8, a sequence at a time.
use Rattle.std.proofs.Common.{◌≡◌, ℕ, zero, suc, ◌<◌, ◌≤◌, List, [], ◌∷◌, ◌++◌, length}
use Rattle.std.proofs.Common.{drop, Option, Some, None, refl, sym, ap, ◌∙◌, subst, arith}
use Rattle.std.proofs.Common.{append_assoc, append-nil, length-drop}
use Rattle.std.specs.Prelude.{slice_index, IsAscii}
use Rattle.std.proofs.lemmas.Grind.{flat_map-append}
use Rattle.bstr.specs.Utf8.{decoded}
use Rattle.bstr.proofs.lemmas.PieceLemmas.{piece-bounds, value-1}
use Rattle.json.specs.Print.{escape, escape_byte}
use Rattle.cb_tags.specs.Writers.{Writer}
use Rattle.cb_tags.specs.Writing.{PutsAll, PutsPrefix}
use Rattle.cb_tags.proofs.Prefixes.{PutsAll-after, PutsAll-none, PutsPrefix-after, PutsPrefix-more}
use Rattle.cb_wire.specs.Texts.{readable, readable_from, sequence_size, sequence_text}

size-some : (o : Option ℕ) (n : ℕ) → 1 ≤ n → 1 ≤ sequence_size o n
size-some None n p = omega arith
size-some (Some c) n p = p

fuel : (n m : ℕ) (bytes : List ℕ) → length bytes ≤ n → length bytes ≤ m
    → readable_from n bytes ≡ readable_from m bytes
unfolding readable_from
fuel zero zero [] p q = refl
fuel zero (suc m) [] p q = refl
fuel (suc n) zero [] p q = refl
fuel (suc n) (suc m) [] p q = refl
fuel zero m (b ∷ rest) p q = absurd (omega arith)
fuel (suc n) zero (b ∷ rest) p q = absurd (omega arith)
fuel (suc n) (suc m) (b ∷ rest) p q =
    let bytes = b ∷ rest in
    let found = decoded bytes in
    let size = sequence_size found.char found.size in
    let some = size-some found.char found.size (piece-bounds bytes (omega arith)).0 in
    ap (λ l. sequence_text found.char found.size bytes ++ l)
    (fuel n m (drop size bytes) (omega (arith, some, length-drop size bytes))
    (omega (arith, some, length-drop size bytes)))

pub readable-step : (bytes : List ℕ) → 0 < length bytes
    → readable bytes ≡ sequence_text (decoded bytes).char (decoded bytes).size bytes
    ++ readable (drop (sequence_size (decoded bytes).char (decoded bytes).size) bytes)
unfolding readable_from
readable-step [] p = absurd (omega arith)
readable-step (b ∷ rest) p =
    let bytes = b ∷ rest in
    let found = decoded bytes in
    let size = sequence_size found.char found.size in
    let some = size-some found.char found.size (piece-bounds bytes p).0 in
    ap (λ l. sequence_text found.char found.size bytes ++ l)
    (fuel (length rest) (length (drop size bytes)) (drop size bytes)
    (omega (arith, some, length-drop size bytes)) (omega arith))

pub readable-nil : (bytes : List ℕ) → length bytes ≡ 0 → readable bytes ≡ []
unfolding readable_from
readable-nil [] p = refl
readable-nil (b ∷ rest) p = absurd (omega arith)

-- ASCII reads as it is
pub ascii-reads : (bytes : List ℕ) → IsAscii bytes → readable bytes ≡ bytes
ascii-reads [] low = readable-nil [] refl
ascii-reads (b ∷ rest) low =
    let bytes = b ∷ rest in
    let one = value-1 (length bytes) (slice_index bytes 0) (slice_index bytes 1)
    (slice_index bytes 2) (slice_index bytes 3) (omega arith, low 0) in
    readable-step bytes (omega arith)
    ∙ ap (λ d. sequence_text d.char d.size bytes
    ++ readable (drop (sequence_size d.char d.size) bytes)) one
    ∙ ap (λ l. b ∷ l) (ascii-reads rest (λ i. low (suc i)))

-- the text of the first sequence, and what is left
module _ (bytes rest text : List ℕ) (size : ℕ) (some : 0 < length bytes)
    (reads : text ≡ sequence_text (decoded bytes).char (decoded bytes).size bytes)
    (is : size ≡ sequence_size (decoded bytes).char (decoded bytes).size)
    (left : rest ≡ drop size bytes)
  where
    pub escape-step : escape (readable bytes) ≡ escape text ++ escape (readable rest)
    escape-step =
        ap escape (readable-step bytes some)
        ∙ ap (λ n. escape (sequence_text (decoded bytes).char (decoded bytes).size bytes
        ++ readable (drop n bytes))) (sym is)
        ∙ ap (λ l. escape (l ++ readable (drop size bytes))) (sym reads)
        ∙ ap (λ l. escape (text ++ readable l)) (sym left)
        ∙ flat_map-append escape_byte text (readable rest)

-- sequences that were written
pub record Written (old new : Writer) (left all : List ℕ) : Type 0 where
  pub so_far : List ℕ
  pub wrote : PutsAll old new so_far
  pub rest : so_far ++ escape (readable left) ≡ escape (readable all)

pub written-none : (out : Writer) (all : List ℕ) → Written out out all all
written-none out all = record { so_far = []; wrote = PutsAll-none out; rest = refl }

pub written-more : (old mid new : Writer) (left rest all text : List ℕ) → Written old mid left all
    → escape (readable left) ≡ escape text ++ escape (readable rest)
    → PutsAll mid new (escape text) → Written old new rest all
written-more old mid new left rest all text w step p = record {
  so_far = w.so_far ++ escape text;
  wrote = PutsAll-after old mid new w.so_far (escape text) w.wrote p;
  rest = append_assoc w.so_far (escape text) (escape (readable rest))
      ∙ ap (λ l. w.so_far ++ l) (sym step) ∙ w.rest;
}

pub written-fault : (old mid new : Writer) (left rest all text : List ℕ) → Written old mid left all
    → escape (readable left) ≡ escape text ++ escape (readable rest)
    → PutsPrefix mid new (escape text) → PutsPrefix old new (escape (readable all))
written-fault old mid new left rest all text w step p =
    subst (PutsPrefix old new) (ap (λ l. w.so_far ++ l) (sym step) ∙ w.rest)
    (PutsPrefix-after old mid new w.so_far (escape text ++ escape (readable rest)) w.wrote
    (PutsPrefix-more mid new (escape text) (escape (readable rest)) p))

pub written-all : (old new : Writer) (left all : List ℕ) → length left ≡ 0
    → Written old new left all → PutsAll old new (escape (readable all))
written-all old new left all none w =
    subst (PutsAll old new) (sym (append-nil w.so_far)
    ∙ ap (λ l. w.so_far ++ escape l) (sym (readable-nil left none)) ∙ w.rest) w.wrote
