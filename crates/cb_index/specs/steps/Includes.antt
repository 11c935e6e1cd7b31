-- The includes that are still to come.
use Rattle.std.specs.Prelude.{ℕ, List, [], ◌++◌, Option, Some, None, map}
use Rattle.std.specs.List.{flat_map}
use Rattle.std.specs.Option.{option_map}
use Rattle.cb_scan.specs.declared.facts.Include.{Include}
use Rattle.cb_scan.specs.Lines.{line_text}
use Rattle.cb_index.specs.Bytes.{cut, place_at}
use Rattle.cb_index.specs.Rows.{Fact}
use Rattle.cb_index.specs.Shelved.{ShownFile}
use Rattle.cb_index.specs.steps.Left.{entries_left}
use Rattle.cb_index.specs.declared.includes.Begun.{Begun}
use Rattle.cb_index.specs.declared.includes.IncludeRows.{IncludeRows}

-- an include as it is looked up
abbrev pub include_at : List ℕ → List ℕ → Include → Fact
include_at file text i = record {
  file = file;
  name = cut text i.header;
  place = i.header.start;
  scope = option_map (cut text) i.scope;
  scope_place = place_at i.scope;
  line = i.line;
  text = line_text text i.line;
}

-- the includes of a file that is lent
abbrev pub includes_at : ShownFile → List Fact
includes_at f = map (include_at f.name f.bytes) f.facts.includes

abbrev pub includes_in : List ShownFile → List Fact
includes_in fs = flat_map includes_at fs

-- those of a file that is begun
abbrev pub begun_left : Begun → List Fact
begun_left b = map (include_at b.file.now b.source.now) b.rest.now

abbrev pub begun_left_if : Option Begun → List Fact
begun_left_if None = []
begun_left_if (Some b) = begun_left b

abbrev pub includes_left : IncludeRows → List Fact
includes_left r = begun_left_if r.begun ++ includes_in (entries_left r.entries)
