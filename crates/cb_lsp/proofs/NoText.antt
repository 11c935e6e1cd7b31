-- The ranges of no text.
use Rattle.std.proofs.Common.{◌≡◌, ℕ, suc, zero, true, false, List, [], Some, None, refl}
use Rattle.std.proofs.Common.{◌==◌, ◌∷◌, length, arith, if◌then◌else◌}
use Rattle.std.specs.Str.{bytes_eq}
use Rattle.std.proofs.lemmas.Option.{none-some}
use Rattle.bstr.specs.Text.{lines_from}
use Rattle.cb_desk.proofs.PlaceLemmas.{no-text}
use Rattle.cb_desk.specs.World.{File, has_file, text_named, text_of_file}
use Rattle.cb_wire.specs.declared.position.Position.{Position}
use Rattle.cb_wire.specs.declared.units.Encoding.{Encoding}
use Rattle.cb_wire.specs.Positions.{position}
use Rattle.cb_wire.specs.Units.{characters_from}
use Rattle.cb_lsp.specs.Places.{line_range, range_of, start_of_file}

pub no-file : (files : List File) (name : List ℕ) → None ≡ text_named files name
    → text_of_file files name ≡ []
no-file files name missing =
    (elim (has_file files name) as (λ b. has_file files name ≡ b
    → None ≡ (if b then Some (text_of_file files name) else None)
    → text_of_file files name ≡ []) [
      | true ↦ λ e m. absurd (none-some (text_of_file files name) m)
      | false ↦ λ e m. no-text files name e
    ]) refl missing

-- no bytes
filled : (n : ℕ) → (suc n == 0) ≡ false
filled n = grind arith

pub empty-text : (text : List ℕ) → (length text == 0) ≡ bytes_eq text []
empty-text [] = refl
empty-text (b ∷ bs) = filled (length bs)

abbrev first-position : Position
first-position = record { line = 0; character = 0 }

no-position : (e : Encoding) (at : ℕ) → position e [] at ≡ first-position
unfolding lines_from characters_from
no-position e zero = refl
no-position e (suc n) = refl

pub no-range : (e : Encoding) (start end : ℕ) → range_of e [] start end ≡ start_of_file
no-range e start end =
    λ i. record { start = no-position e start i; end = no-position e end i }

pub no-line : (e : Encoding) (place : ℕ) → line_range e [] place ≡ start_of_file
unfolding lines_from characters_from
no-line e zero = refl
no-line e (suc n) = refl
