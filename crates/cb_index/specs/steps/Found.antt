-- The rows of entries, as they are looked up.
use Rattle.std.specs.Prelude.{ℕ, false, List, [], Option, Some, None, slice_get}
use Rattle.std.specs.Option.{option_map}
use Rattle.cb_scan.specs.declared.facts.Call.{Call}
use Rattle.cb_scan.specs.declared.facts.Def.{Def}
use Rattle.cb_scan.specs.declared.facts.Tag as facts
use Rattle.cb_scan.specs.declared.facts.Use.{Use}
use Rattle.cb_scan.specs.declared.facts.Kind.TheVariants as kind
use Rattle.cb_scan.specs.Lines.{line_text}
use Rattle.cb_tags.specs.TagLines.{Tag, TagScope}
use Rattle.cb_index.specs.Archived.{Archived, name_of, text_at}
use Rattle.cb_index.specs.Bytes.{cut, place_at}
use Rattle.cb_index.specs.Rows.{Fact}
use Rattle.cb_index.specs.Scanned.{Scanned, facts_of}
use Rattle.cb_index.specs.declared.entry.Posting.{Posting}
use Rattle.cb_index.specs.declared.entry.FactKind.{FactKind}
use Rattle.cb_index.specs.declared.entry.FactKind.TheVariants.{Uses, Callees, Callers}

-- ---- definitions
abbrev pub no_tag : List ℕ → Tag
no_tag file = record {
  name = [];
  file = file;
  place = 0;
  line = 0;
  text = [];
  kind = kind.Function;
  local = false;
  scope = None;
}

abbrev pub scope_cut : List ℕ → facts.Tag → TagScope
scope_cut text t = record { kind = t.kind; name = cut text t.name }

abbrev pub tag_of_def : List ℕ → List ℕ → Option Def → Tag
tag_of_def file text None = no_tag file
tag_of_def file text (Some d) = record {
  name = cut text d.name;
  file = file;
  place = d.name.start;
  line = d.line;
  text = line_text text d.line;
  kind = d.kind;
  local = d.local;
  scope = option_map (scope_cut text) d.tag;
}

abbrev pub tag_in_text : List ℕ → ℕ → Option Scanned → Tag
tag_in_text file number None = no_tag file
tag_in_text file number (Some text) =
    tag_of_def file text.bytes (slice_get (facts_of text).defs number)

-- the tag of an entry
abbrev pub tag_at : Archived → Posting → Tag
tag_at a e = tag_in_text (name_of a e.name) e.number (text_at a e.version)

-- ---- uses and calls
abbrev pub no_fact : List ℕ → Fact
no_fact file = record {
  file = file;
  name = [];
  place = 0;
  scope = None;
  scope_place = None;
  line = 0;
  text = [];
}

abbrev pub fact_of_use : List ℕ → List ℕ → Option Use → Fact
fact_of_use file text None = no_fact file
fact_of_use file text (Some u) = record {
  file = file;
  name = cut text u.name;
  place = u.name.start;
  scope = option_map (cut text) u.scope;
  scope_place = place_at u.scope;
  line = u.line;
  text = line_text text u.line;
}

abbrev pub fact_of_call : List ℕ → List ℕ → Option Call → Fact
fact_of_call file text None = no_fact file
fact_of_call file text (Some c) = record {
  file = file;
  name = cut text c.callee;
  place = c.callee.start;
  scope = Some (cut text c.caller);
  scope_place = Some c.caller.start;
  line = c.line;
  text = line_text text c.line;
}

-- the fact of an item
abbrev pub fact_at : FactKind → List ℕ → Scanned → ℕ → Fact
fact_at Uses file text item = fact_of_use file text.bytes (slice_get (facts_of text).uses item)
fact_at Callees file text item = fact_of_call file text.bytes (slice_get (facts_of text).calls item)
fact_at Callers file text item = fact_of_call file text.bytes (slice_get (facts_of text).calls item)
