-- The uses of a name that a file asks for: those in its reach, with the names of definitions or
-- without.
use Rattle.std.specs.Prelude.{ℕ, Bool, true, false, ◌&&◌, ◌==◌, not, List, filter}
use Rattle.std.specs.List.{list_any}
use Rattle.std.specs.Str.{bytes_eq}
use Rattle.cb_index.specs.Rows.{Fact}
use Rattle.cb_tags.specs.TagLines.{Tag}
use Rattle.cb_lsp.specs.Meaning.{reaches}

-- a use stands where the name of a definition does
abbrev pub is_name_of : Fact → Tag → Bool
is_name_of u t = bytes_eq t.file u.file && t.place == u.place

-- a use is the name of one of these definitions
abbrev pub is_declaration : List Tag → Fact → Bool
is_declaration ts u = list_any (is_name_of u) ts

-- the uses in the files that a name with these definitions reaches, from a file
abbrev pub uses_reached : List Tag → (from : List ℕ) → List Fact → List Fact
uses_reached ts from us = filter (λ (u : Fact). reaches ts from u.file) us

-- those that are no names of definitions
abbrev pub without_declarations : List Tag → List Fact → List Fact
without_declarations ts us = filter (λ (u : Fact). not (is_declaration ts u)) us

-- the uses in the reach, with the names of definitions or without
abbrev pub references : List Tag → (from : List ℕ) → (declarations : Bool) → List Fact → List Fact
references ts from true us = uses_reached ts from us
references ts from false us = without_declarations ts (uses_reached ts from us)
