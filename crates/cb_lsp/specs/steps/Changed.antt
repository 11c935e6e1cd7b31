-- How changes lead to a text, one after another.
use Rattle.std.specs.Prelude.{List, ℕ, Option, None, Some}
use Rattle.cb_wire.specs.declared.units.Encoding.{Encoding}
use Rattle.cb_lsp.specs.Changes.{TextChange, or_else, text_with}

-- the text after one more change, if it is one
abbrev pub text_when : Encoding → (before new : Option (List ℕ)) → Option TextChange
    → Option (List ℕ)
text_when e before new None = new
text_when e before new (Some c) = text_with e c (or_else new before)
