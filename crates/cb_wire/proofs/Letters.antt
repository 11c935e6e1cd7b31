-- A letter of a text is a character of its own: it stands in a shown line, and a place is before it
-- and one behind it.
use Rattle.std.proofs.Common.{◌≡◌, ◌≢◌, ◌∙◌, ◌≤◌, ◌<◌, ◌+◌, ◌-◌, ◌==◌, ◌&&◌, ℕ, zero, suc}
use Rattle.std.proofs.Common.{true, cond, nat_lt, List, [], ◌∷◌, length, take, drop, Option}
use Rattle.std.proofs.Common.{Some, None, refl, sym, ap, subst, arith, inl, inr, ⊎_elim, zero-add}
use Rattle.std.proofs.Common.{length-drop, get_or-drop, get_or-take}
use Rattle.std.specs.Prelude.{slice_index}
use Rattle.std.proofs.lemmas.Bool.{and_right, cases_Bool, cond-true, cond-false, true≢false}
use Rattle.std.proofs.lemmas.Bool.Decides.{eqb_tells, leb_tells, nat_tests}
use Rattle.std.proofs.lemmas.List.{length-take}
use Rattle.std.proofs.lemmas.List.Sums.{sum_by-cons, sum_by-take-drop}
use Rattle.bstr.specs.Text.{line_len, no_cr, without_terminator}
use Rattle.bstr.specs.Utf8.{continues, decoded}
use Rattle.bstr.proofs.lemmas.LineLemmas.{line_len-bounds}
use Rattle.bstr.proofs.lemmas.PieceLemmas.{piece-bounds, tail-continues, value-1}
use Rattle.cb_wire.specs.declared.units.Character.{Character}
use Rattle.cb_wire.specs.declared.units.Encoding.{Encoding}
use Rattle.cb_wire.specs.declared.units.Encoding.TheVariants.{Utf8, Utf16}
use Rattle.cb_wire.specs.Positions.{IsPlace, line_feeds, line_start, shown_line}
use Rattle.cb_wire.specs.Units.{IsBoundary, bytes_of, characters, first, one_byte, sequence}
use Rattle.cb_wire.proofs.Fitting.{characters-step, first_is}
use Rattle.cb_wire.proofs.Positions.{ended, feeds-no, feeds-yes, shown-suc, shown-zero, start-suc}

-- a byte of ASCII that ends no line
pub record IsLetter (b : ℕ) : Type 0 where
  pub low : b < 128
  pub no_feed : b ≢ 10
  pub no_return : b ≢ 13

-- ---- in a line

pub high : (b : ℕ) → continues b ≡ true → 128 ≤ b
high b is = grind (arith, nat_tests)

-- the bytes of a character behind its first one are no letters
module _ (line : List ℕ) (some : 0 < length line) where
  tails : (2 ≤ (decoded line).size → continues (slice_index line 1) ≡ true)
      × (3 ≤ (decoded line).size → continues (slice_index line 2) ≡ true)
      × (4 ≤ (decoded line).size → continues (slice_index line 3) ≡ true)
  tails =
      tail-continues (length line) (slice_index line 0) (slice_index line 1) (slice_index line 2)
      (slice_index line 3)

  inner : (o : Option ℕ) (k : ℕ) → 0 < k → k < (sequence o (decoded line).size).bytes
      → 128 ≤ slice_index line k
  inner None k p q = absurd (omega arith)
  inner (Some c) zero p q = absurd (omega arith)
  inner (Some c) (suc zero) p q = high (slice_index line 1) (tails.0 (omega arith))
  inner (Some c) (suc (suc zero)) p q = high (slice_index line 2) (tails.1 (omega arith))
  inner (Some c) (suc (suc (suc zero))) p q = high (slice_index line 3) (tails.2 (omega arith))
  inner (Some c) (suc (suc (suc (suc k)))) p q =
      let bounds = piece-bounds line some in absurd (omega arith)

  pub inner-high : (e : Encoding) (k : ℕ) → 0 < k → k < (first e line).bytes
      → 128 ≤ slice_index line k
  inner-high Utf8 k p q = absurd (omega arith)
  inner-high Utf16 k p q = inner (decoded line).char k p q

  pub letter-first : (e : Encoding) → slice_index line 0 < 128 → first e line ≡ one_byte
  letter-first Utf8 low = refl
  letter-first Utf16 low =
      ap (λ d. sequence d.char d.size)
      (value-1 (length line) (slice_index line 0) (slice_index line 1) (slice_index line 2)
      (slice_index line 3) (some, low))

  -- a place of the rest of a line, as one of the line
  boundary-on : (e : Encoding) (k : ℕ) → IsBoundary e (drop (first e line).bytes line) k
      → IsBoundary e line ((first e line).bytes + k)
  boundary-on e k at =
      let c = first e line in
      let more = characters e (drop c.bytes line) in (
        suc at.0,
        sym (ap (λ cs. bytes_of (take (suc at.0) cs)) (characters-step e line some)
            ∙ sum_by-cons (λ d. d.bytes) c (take at.0 more) ∙ ap (λ n. c.bytes + n) (sym at.1)),
      )

-- where a letter begins, and where it ends
pub before-letter : (e : Encoding) (most : ℕ) (line : List ℕ) (k : ℕ) → length line ≤ most
    → k < length line → slice_index line k < 128 → IsBoundary e line k
before-letter e most line zero small inside low = (0, refl)
before-letter e zero line (suc k) small inside low = absurd (omega arith)
before-letter e (suc most) line (suc k) small inside low =
    let some : 0 < length line = omega arith in
    let c = first e line in
    let is = first_is e line some in
    elim (leb_tells c.bytes (suc k)) as (λ _. IsBoundary e line (suc k)) [
      | inl h ↦
          let at : c.bytes + (suc k - c.bytes) ≡ suc k = omega (arith, h.1) in
          subst (IsBoundary e line) at
          (boundary-on line some e (suc k - c.bytes)
          (before-letter e most (drop c.bytes line) (suc k - c.bytes)
          (omega (arith, is.some, is.few, length-drop c.bytes line))
          (omega (arith, h.1, length-drop c.bytes line))
          (subst (λ b. b < 128) (sym (get_or-drop c.bytes line (suc k - c.bytes) 0
          ∙ ap (slice_index line) at)) low)))
      | inr h ↦ absurd (omega (arith, h.1, inner-high line some e (suc k) (omega arith) h.1))
    ]

pub behind-letter : (e : Encoding) (most : ℕ) (line : List ℕ) (k : ℕ) → length line ≤ most
    → k < length line → slice_index line k < 128 → IsBoundary e line (suc k)
behind-letter e zero line k small inside low = absurd (omega arith)
behind-letter e (suc most) line zero small inside low =
    let some : 0 < length line = omega arith in
    subst (IsBoundary e line) (one (ap (λ (c : Character). c.bytes) (letter-first line some e low)))
    (boundary-on line some e 0 (0, refl))
  where
    one : {n : ℕ} → n ≡ 1 → n + 0 ≡ 1
    one is = omega (arith, is)
behind-letter e (suc most) line (suc k) small inside low =
    let some : 0 < length line = omega arith in
    let c = first e line in
    let is = first_is e line some in
    elim (leb_tells c.bytes (suc k)) as (λ _. IsBoundary e line (suc (suc k))) [
      | inl h ↦
          let at : c.bytes + (suc k - c.bytes) ≡ suc k = omega (arith, h.1) in
          let end : c.bytes + suc (suc k - c.bytes) ≡ suc (suc k) = omega (arith, h.1) in
          subst (IsBoundary e line) end
          (boundary-on line some e (suc (suc k - c.bytes))
          (behind-letter e most (drop c.bytes line) (suc k - c.bytes)
          (omega (arith, is.some, is.few, length-drop c.bytes line))
          (omega (arith, h.1, length-drop c.bytes line))
          (subst (λ b. b < 128) (sym (get_or-drop c.bytes line (suc k - c.bytes) 0
          ∙ ap (slice_index line) at)) low)))
      | inr h ↦ absurd (omega (arith, h.1, inner-high line some e (suc k) (omega arith) h.1))
    ]

-- ---- in a text

-- a byte that is not the last one, or is another, stays where a last byte is cut off
abbrev pub Stays : (line cut : List ℕ) → ℕ → Type 0
Stays line cut k = (k < length cut) × (slice_index cut k ≡ slice_index line k)

stays-cut : (x : ℕ) (line : List ℕ) (k : ℕ) → k < length line → slice_index line k ≢ x
    → Stays line (cond (nat_lt 0 (length line) && slice_index line (length line - 1) == x)
    (take (length line - 1) line) line) k
stays-cut x line k inside other =
    let last = slice_index line (length line - 1) in
    let test = nat_lt 0 (length line) && last == x in
    let cut = take (length line - 1) line in
    ⊎_elim
    (λ yes. subst (λ l. Stays line l k) (sym (cond-true test cut line yes))
    (elim (eqb_tells last x) as (λ _. Stays line cut k) [
      | inl h ↦
          let before : k < length line - 1 = earlier h.1 in
          (omega (arith, before, length-take (length line - 1) line), get_or-take (length line - 1) line k 0 before)
      | inr h ↦ absurd (true≢false (sym yes ∙ and_right (nat_lt 0 (length line)) (last == x) h.0))
    ]))
    (λ no. subst (λ l. Stays line l k) (sym (cond-false test cut line no)) (inside, refl))
    (cases_Bool test)
  where
    earlier : slice_index line (length line - 1) ≡ x → k < length line - 1
    earlier is =
        elim (eqb_tells k (length line - 1)) as (λ _. k < length line - 1) [
          | inl h ↦ absurd (other (ap (slice_index line) h.1 ∙ is))
          | inr h ↦ omega (arith, h.1)
        ]

pub stays-shown : (line : List ℕ) (k : ℕ) → k < length line → IsLetter (slice_index line k)
    → Stays line (without_terminator line) k
stays-shown line k inside letter =
    let test = nat_lt 0 (length line) && slice_index line (length line - 1) == 10 in
    let cut = take (length line - 1) line in
    let first = stays-cut 10 line k inside letter.no_feed in
    ⊎_elim
    (λ yes.
    let here : Stays line cut k = subst (λ l. Stays line l k) (cond-true test cut line yes) first in
    let then = stays-cut 13 cut k here.0 (λ is. letter.no_return (sym here.1 ∙ is)) in
    subst (λ l. Stays line l k) (sym (cond-true test (no_cr cut) line yes))
    (then.0, then.1 ∙ here.1))
    (λ no. subst (λ l. Stays line l k) (sym (cond-false test (no_cr cut) line no)) (inside, refl))
    (cases_Bool test)

-- a text without line feeds is one line
pub one-line : (text : List ℕ) → line_feeds text ≡ 0 → line_len text ≡ length text
unfolding line_len
one-line [] none = refl
one-line (b ∷ bs) none =
    elim (eqb_tells b 10) as (λ _. line_len (b ∷ bs) ≡ suc (length bs)) [
      | inl h ↦ absurd (omega (arith, feeds-yes b bs h.0))
      | inr h ↦ cond-false (b == 10) 1 (suc (line_len bs)) h.0
          ∙ ap suc (one-line bs (sym (feeds-no b bs h.0) ∙ none))
    ]

-- where a letter of a text stands
pub record Stands (text : List ℕ) (at : ℕ) : Type 0 where
  pub line : ℕ
  pub place : ℕ
  pub few : line ≤ line_feeds text
  pub is : at ≡ line_start text line + place
  pub inside : place < length (shown_line text line)
  pub same : slice_index (shown_line text line) place ≡ slice_index text at

stands : (most : ℕ) (text : List ℕ) (at : ℕ) → length text ≤ most → at < length text
    → IsLetter (slice_index text at) → Stands text at
stands zero text at small inside letter = absurd (omega arith)
stands (suc most) text at small inside letter =
    let some : 0 < length text = omega arith in
    let long = line_len text in
    let bounds = line_len-bounds text some in
    let head = take long text in
    let tail = drop long text in
    elim (leb_tells long at) as (λ _. Stands text at) [
      | inl h ↦
          let left = at - long in
          let back : long + left ≡ at = omega (arith, h.1) in
          let there = get_or-drop long text left 0 ∙ ap (slice_index text) back in
          let rest = stands most tail left (omega (arith, bounds.0, length-drop long text))
          (omega (arith, h.1, length-drop long text)) (subst IsLetter (sym there) letter) in
          let shown = shown-suc text some rest.line in
          let feeds : line_feeds text ≡ line_feeds head + line_feeds tail =
          sym (sum_by-take-drop (λ c. cond (c == 10) 1 0) text long) in
          record {
            line = suc rest.line;
            place = rest.place;
            few = ⊎_elim
                (λ e.
                let one : line_feeds head ≡ 1 =
                ap (λ m. line_feeds (take m text)) e.long ∙ e.feeds in
                omega (arith, feeds, one, rest.few))
                (λ none. absurd (omega (arith, h.1, one-line text none)))
                (ended text);
            is = omega (arith, h.1, rest.is, start-suc text some rest.line);
            inside = omega (arith, rest.inside, ap length shown);
            same = ap (λ l. slice_index l rest.place) shown ∙ rest.same ∙ there;
          }
      | inr h ↦
          let first : slice_index head at ≡ slice_index text at = get_or-take long text at 0 h.1 in
          let stays = stays-shown head at (omega (arith, h.1, bounds.1, length-take long text))
          (subst IsLetter (sym first) letter) in
          let shown = shown-zero text some in
          record {
            line = 0;
            place = at;
            few = omega arith;
            is = sym (zero-add at);
            inside = omega (arith, stays.0, ap length shown);
            same = ap (λ l. slice_index l at) shown ∙ stays.1 ∙ first;
          }
    ]

pub letter-stands : (text : List ℕ) (at : ℕ) → at < length text → IsLetter (slice_index text at)
    → Stands text at
letter-stands text at = stands (length text) text at (omega arith)

-- the places before and behind it
pub letter-place : (e : Encoding) (text : List ℕ) (at : ℕ) → at < length text
    → IsLetter (slice_index text at) → IsPlace e text at × IsPlace e text (suc at)
letter-place e text at inside letter =
    let s = letter-stands text at inside letter in
    let shown = shown_line text s.line in
    let low : slice_index shown s.place < 128 = subst (λ b. b < 128) (sym s.same) letter.low in (
      (s.line, s.place, s.few, s.is, before-letter e (length shown) shown s.place (omega arith) s.inside low),
      (
        s.line,
        suc s.place,
        s.few,
        omega (arith, s.is),
        behind-letter e (length shown) shown s.place (omega arith) s.inside low,
      ),
    )
