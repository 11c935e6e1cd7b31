-- What a client makes of a text with edits, and a text in which a name is changed.
use Rattle.std.specs.Prelude.{◌≡◌, ◌≤◌, ◌+◌, ℕ, List, [], ◌∷◌, ◌++◌, length, drop, map, take}
use Rattle.std.specs.Prelude.{Some, reverse, true}
use Rattle.bstr.specs.Text.{part}
use Rattle.cb_desk.specs.World.{File, IsAscending, World, text_of_file}
use Rattle.cb_index.specs.Rows.{Fact}
use Rattle.cb_scan.specs.Definitions.{IsNameOf}
use Rattle.cb_scan.specs.declared.lex.piece.Span.{Span}
use Rattle.cb_scan.specs.lex.Tokens.{bytes_of}
use Rattle.cb_wire.specs.declared.list.TheConstants.{MOST_ELEMENTS}
use Rattle.cb_wire.specs.declared.position.Range.{Range}
use Rattle.cb_wire.specs.declared.units.Encoding.{Encoding}
use Rattle.cb_wire.specs.Edits.{edit_of}
use Rattle.cb_wire.specs.Positions.{place}
use Rattle.cb_lsp.specs.Changes as change
use Rattle.cb_lsp.specs.Changes.{TextChange}
use Rattle.cb_lsp.specs.Clients.{Client}
use Rattle.cb_lsp.specs.Renames.{file_edits, uses_in}
use Rattle.cb_lsp.specs.Sync.{text_through}
use Rattle.cb_lsp.specs.WordUses.{references_in}
use Rattle.cb_lsp.specs.declared.same.Sort.{Sort}

-- an edit: a text for a range
pub record Edit : Type 0 where
  pub range : Range
  pub new : List ℕ

-- a client makes edits of a text, from a place of it on, and has another text then. All ranges are
-- of the text before the edits. Each begins no earlier than the one before it ends, and what stands
-- between them stays
abbrev pub Makes : Encoding → (text : List ℕ) → (at : ℕ) → List Edit → (after : List ℕ) → Type 0
Makes e text at [] after = after ≡ drop at text
Makes e text at (x ∷ xs) after =
    (more : List ℕ)
    × (at ≤ place e text x.range.start) × (place e text x.range.start ≤ place e text x.range.end)
    × (after ≡ part at (place e text x.range.start) text ++ (x.new ++ more))
    × Makes e text (place e text x.range.end) xs more

-- edits as changes one after another, the last one first, which leaves the ranges before it
abbrev pub last_first : List Edit → List TextChange
last_first xs = reverse (map (λ (x : Edit). change.part x.range x.new) xs)

-- a name stands at some places, of which the first one counts from a place on, and the others from
-- behind the name before them. With another name at each of these places, and every other byte as
-- it was, a text is another one
abbrev pub IsRenamed : (old new : List ℕ) → (at : ℕ) → (places : List ℕ)
    → (before after : List ℕ) → Type 0
IsRenamed old new at [] before after = after ≡ before
IsRenamed old new at (p ∷ ps) before after =
    (kept : List ℕ) × (rest : List ℕ) × (more : List ℕ)
    × (p ≡ at + length kept)
    × (before ≡ kept ++ (old ++ rest)) × (after ≡ kept ++ (new ++ more))
    × IsRenamed old new (p + length old) ps rest more

-- where uses of a file are
abbrev pub places_in : (file : List ℕ) → List Fact → List ℕ
places_in file us = map (λ (u : Fact). u.place) (uses_in file us)

-- the edits of a file make of its text, all at once or the last one first, the one in which the
-- uses there are renamed
abbrev pub IsExactIn : Client → List File → (old new : List ℕ) → List Fact → (file : List ℕ)
    → Type 0
IsExactIn c files old new us file =
    let text = text_of_file files file in
    (edits : List Edit) × (after : List ℕ)
    × ((file_edits c files new us file).edits ≡ map (λ (x : Edit). edit_of x.range x.new) edits)
    × Makes c.encoding text 0 edits after
    × (text_through c.encoding (Some text) (last_first edits) ≡ Some after)
    × IsRenamed old new 0 (places_in file us) text after

-- each file has such edits, of the uses that are told
abbrev pub RenamesAreExact : Type 0
RenamesAreExact = (c : Client) (w : World) (name text new : List ℕ) (sort : Sort) (word : Span)
    (file : List ℕ) → IsAscending w.files → IsNameOf text word
    → IsExactIn c w.files (bytes_of text word) new
    (take MOST_ELEMENTS (references_in w name text sort word true)) file
