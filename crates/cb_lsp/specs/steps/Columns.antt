-- How far a line was gone through.
use Rattle.std.specs.Prelude.{◌≡◌, ◌≤◌, ◌+◌, ℕ, List, Option, IfSome, drop, length}
use Rattle.cb_scan.specs.Lines.{line_text}
use Rattle.cb_wire.specs.declared.units.Encoding.{Encoding}
use Rattle.cb_wire.specs.Units.{column}

-- a line, and what its columns count
pub record LineColumns : Type 0 where
  pub encoding : Encoding
  pub line : List ℕ

-- a text, what its columns count, and a line of it, counted from 1
pub record SourceColumns : Type 0 where
  pub encoding : Encoding
  pub text : List ℕ
  pub line : ℕ

-- the place and the column where a character begins: behind it columns go on from there
pub record IsMark (e : Encoding) (line : List ℕ) (bytes units : ℕ) : Type 0 where
  pub within : bytes ≤ length line
  pub few : units ≤ bytes
  pub goes_on : (n : ℕ) → column e line (bytes + n) ≡ units + column e (drop bytes line) n

-- columns of a shown line, counted from 1, and the column of its end, if it is known
pub record AreOfLine (e : Encoding) (text : List ℕ) (line : ℕ) (width : Option ℕ) (c : LineColumns)
    : Type 0 where
  pub encoding : c.encoding ≡ e
  pub shown : c.line ≡ line_text text line
  pub at_end :
      IfSome width (λ w. w ≡ column e (line_text text line) (length (line_text text line)))
