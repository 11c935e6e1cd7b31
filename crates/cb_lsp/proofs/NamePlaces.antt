-- A place is before a name and one behind it.
use Rattle.std.proofs.Common.{◌≡◌, ◌∙◌, ◌<◌, ◌+◌, ◌-◌, ◌&&◌, not, ℕ, suc, true}
use Rattle.std.proofs.Common.{false, List, [], ◌∷◌, length, drop, sym, ap, subst, refl, arith}
use Rattle.std.proofs.Common.{length-drop, get_or-drop, get_or-take}
use Rattle.std.specs.Prelude.{slice_index}
use Rattle.std.specs.List.{list_all}
use Rattle.std.proofs.lemmas.Bool.{true≢false}
use Rattle.std.proofs.lemmas.Bool.Decides.{nat_tests}
use Rattle.std.proofs.lemmas.List.{length-take}
use Rattle.std.proofs.lemmas.List.Folds.{list_all_at}
use Rattle.cb_scan.specs.Definitions.{IsNameOf}
use Rattle.cb_scan.specs.declared.lex.piece.Span.{Span}
use Rattle.cb_scan.specs.lex.Lexeme.{is_identifier, is_word}
use Rattle.cb_scan.specs.lex.Reserved.{is_name, is_reserved}
use Rattle.cb_scan.specs.lex.Tokens.{bytes_of}
use Rattle.cb_wire.specs.declared.units.Encoding.{Encoding}
use Rattle.cb_wire.specs.Positions.{IsPlace}
use Rattle.cb_wire.proofs.Letters.{IsLetter, letter-place}
use Rattle.cb_lsp.proofs.Ranged.{letter-word}

word-low : (b : ℕ) → is_word b ≡ true → b < 128
word-low b is = grind (arith, nat_tests)

word-other : (b x : ℕ) → is_word b ≡ true → is_word x ≡ false → b ≡ x → ⊥
word-other b x is other same = true≢false (sym is ∙ ap is_word same ∙ other)

word-letter : (b : ℕ) → is_word b ≡ true → IsLetter b
word-letter b is = record {
  low = word-low b is;
  no_feed = word-other b 10 is refl;
  no_return = word-other b 13 is refl;
}

-- a name has a letter, and letters, digits and `_` alone
record HasWords (bs : List ℕ) : Type 0 where
  some : 0 < length bs
  words : list_all is_word bs ≡ true

identifier-words : (bs : List ℕ) → is_identifier bs ≡ true → HasWords bs
unfolding is_identifier
identifier-words [] all = absurd (true≢false (sym all))
identifier-words (b ∷ bs) all = record { some = omega arith; words = letter-word b bs all }

name-words : (bs : List ℕ) → is_name bs ≡ true → HasWords bs
name-words bs is =
    (elim (is_identifier bs) as (λ t. is_identifier bs ≡ t → (t && not (is_reserved bs)) ≡ true
    → HasWords bs) [
      | true ↦ λ h more. identifier-words bs h
      | false ↦ λ h more. absurd (true≢false (sym more))
    ]) refl is

word-at : (bs : List ℕ) (i : ℕ) → list_all is_word bs ≡ true → i < length bs
    → is_word (slice_index bs i) ≡ true
word-at bs i all inside =
    (elim (is_word (slice_index bs i)) as (λ t. is_word (slice_index bs i) ≡ t → t ≡ true) [
      | true ↦ λ h. refl
      | false ↦ λ h. absurd (true≢false (sym all ∙ list_all_at is_word bs i 0 inside h))
    ]) refl

-- the places of a name of a text, and the letters that stand first and last there
pub record HasPlaces (e : Encoding) (text : List ℕ) (name : Span) : Type 0 where
  pub some : name.start < name.end
  pub start : IsPlace e text name.start
  pub end : IsPlace e text name.end
  pub first : IsLetter (slice_index text name.start)
  pub last : IsLetter (slice_index text (name.end - 1))

pub name-places : (e : Encoding) (text : List ℕ) (name : Span) → IsNameOf text name
    → HasPlaces e text name
name-places e text name is =
    let bs = bytes_of text name in
    let has = name-words bs is.1 in
    let long : length bs ≡ name.end - name.start = omega (
      arith,
      is.0.0,
      is.0.1,
      length-take (name.end - name.start) (drop name.start text),
      length-drop name.start text,
    ) in
    let letter : (i : ℕ) → i < length bs → IsLetter (slice_index text (name.start + i)) =
    λ i inside. subst IsLetter
    (get_or-take (name.end - name.start) (drop name.start text) i 0 (omega (arith, long))
    ∙ get_or-drop name.start text i 0)
    (word-letter (slice_index bs i) (word-at bs i has.words inside)) in
    let some : name.start < name.end = omega (arith, long, has.some) in
    let begins : name.start + 0 ≡ name.start = omega arith in
    let last = name.end - 1 in
    let at : name.start + (last - name.start) ≡ last = omega (arith, some) in
    let ends : suc last ≡ name.end = omega (arith, some) in
    let first : IsLetter (slice_index text name.start) =
    subst (λ n. IsLetter (slice_index text n)) begins (letter 0 has.some) in
    let final : IsLetter (slice_index text last) =
    subst (λ n. IsLetter (slice_index text n)) at
    (letter (last - name.start) (omega (arith, long, some))) in
    record {
      some = some;
      start = (letter-place e text name.start (omega (arith, some, is.0.1)) first).0;
      end = subst (IsPlace e text) ends
          (letter-place e text last (omega (arith, some, is.0.1)) final).1;
      first = first;
      last = final;
    }
