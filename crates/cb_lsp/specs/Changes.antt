-- Changes of a text, and what they make of it.
use Rattle.std.specs.Prelude.{ℕ, ◌++◌, max, List, [], ◌∷◌, take, drop, Option, None, Some}
use Rattle.std.specs.Option.{option_map}
use Rattle.cb_wire.specs.declared.position.Range.{Range}
use Rattle.cb_wire.specs.declared.units.Encoding.{Encoding}
use Rattle.cb_wire.specs.Positions.{place}

-- a change: another text, or a text in place of what stands in a range
pub data TextChange : Type 0 where
  whole : (new : List ℕ) → TextChange
  part : (range : Range) (new : List ℕ) → TextChange

-- a text with another one in place of the bytes from a place up to one that is not before it
abbrev pub replaced : (start end : ℕ) → (new text : List ℕ) → List ℕ
replaced start end new text = take start text ++ (new ++ drop end text)

-- a text with another one in place of a range; an end before the start counts as the start
abbrev pub splice : Encoding → (text : List ℕ) → Range → (new : List ℕ) → List ℕ
splice e text r new =
    let start = place e text r.start in
    replaced start (max start (place e text r.end)) new text

-- the text after a change, if there is one: where no text was, there is nothing to put a part into
abbrev pub text_with : Encoding → TextChange → Option (List ℕ) → Option (List ℕ)
text_with e (whole new) text = Some new
text_with e (part r new) text = option_map (λ t. splice e t r new) text

-- a text, or else another
abbrev pub or_else : Option (List ℕ) → Option (List ℕ) → Option (List ℕ)
or_else None other = other
or_else (Some text) other = Some text

-- the text that changes lead to, if they do: each makes it of the one that those before it led to,
-- or else of the one that was there before all
unfoldable pub text_from : Encoding → (before new : Option (List ℕ)) → List TextChange
    → Option (List ℕ)
text_from e before new [] = new
text_from e before new (c ∷ cs) = text_from e before (text_with e c (or_else new before)) cs

abbrev pub text_by : Encoding → (before : Option (List ℕ)) → List TextChange → Option (List ℕ)
text_by e before cs = text_from e before None cs
