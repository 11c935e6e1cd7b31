-- What iterators still give.
use Rattle.std.specs.Prelude.{ℕ, Bool, true, false, List, [], ◌∷◌, ◌++◌, Option, Some, None, length}
use Rattle.std.specs.Prelude.{map, sum_by}
use Rattle.std.specs.Borrow.{Bor}
use Rattle.std.specs.List.{flat_map}
use Rattle.std.specs.Option.{option_map}
use Rattle.cb_scan.specs.Lines.{line_text}
use Rattle.cb_scan.specs.TextFacts.{TextFacts}
use Rattle.cb_tags.specs.TagLines.{Tag}
use Rattle.cb_index.specs.Archived.{Archived, name_of, text_at}
use Rattle.cb_index.specs.Rows.{Fact}
use Rattle.cb_index.specs.Shelved.{ShownFile}
use Rattle.cb_index.specs.steps.DefSearch.{search_left}
use Rattle.cb_index.specs.steps.Found.{fact_at, tag_at}
use Rattle.cb_index.specs.steps.Given.{given_left}
use Rattle.cb_index.specs.steps.Runs.{run_items}
use Rattle.cb_index.specs.steps.ShownIn.{shown_in}
use Rattle.cb_index.specs.steps.Searched.{searched_at, searched_count}
use Rattle.cb_index.specs.Scanned.{Scanned, facts_of}
use Rattle.cb_index.specs.declared.includes.Entries.{Entries}
use Rattle.cb_index.specs.declared.entry.Posting.{Posting}
use Rattle.cb_index.specs.declared.entry.Shown.{Shown}
use Rattle.cb_index.specs.declared.rows.FactRow.{FactRow}
use Rattle.cb_index.specs.declared.rows.FactSpot.{FactSpot}
use Rattle.cb_index.specs.declared.rows.TagSpot.{TagSpot}
use Rattle.cb_index.specs.declared.facts.FactRows.{FactRows}
use Rattle.cb_index.specs.declared.facts.FactSpots.{FactSpots}
use Rattle.cb_index.specs.declared.facts.Group.{Group}
use Rattle.cb_index.specs.declared.facts.Groups.{Groups}
use Rattle.cb_index.specs.declared.facts.Walk.{Walk}
use Rattle.cb_index.specs.declared.entry.FactKind.{FactKind}
use Rattle.cb_index.specs.declared.tags.Defs.{Defs}
use Rattle.cb_index.specs.declared.tags.Defs.TheVariants.{Indexed, Searched}
use Rattle.cb_index.specs.declared.tags.TagRows.{TagRows}

-- what a row says
abbrev pub fact_of : FactRow → Fact
fact_of r = record {
  file = r.file.now;
  name = r.name.now;
  place = r.place;
  scope = option_map (λ s. s.now) r.scope;
  scope_place = r.scope_place;
  line = r.line;
  text = r.text.now;
}

-- what is said where a fact is found: of its line the text, which is looked up later
abbrev pub fact_of_spot : FactSpot → Fact
fact_of_spot s = record {
  file = s.file.now;
  name = s.name.now;
  place = s.place;
  scope = option_map (λ n. n.now) s.scope;
  scope_place = s.scope_place;
  line = s.line;
  text = line_text s.source.now s.line;
}

-- the definitions that are still to come
abbrev pub defs_left : Defs → List Posting
defs_left (Indexed entries) = run_items entries
defs_left (Searched search) = search_left search

-- what is said where a definition is found: all of it is looked up later
abbrev pub tag_of_spot : TagSpot → Tag
tag_of_spot s = tag_at s.archive.now s.entry

abbrev pub tags_left : TagRows → List Tag
tags_left r = map (tag_at r.archive.now) (defs_left r.defs)

abbrev pub group_left : Bool → Group → List Fact
group_left all g =
    map (fact_at g.items.sort g.file.now g.items.version.now) (given_left all g.items)

abbrev pub group_left_if : Bool → Option Group → List Fact
group_left_if all None = []
group_left_if all (Some g) = group_left all g

-- the facts of groups that are still to come
abbrev pub groups_left : Bool → FactKind → Archived → Groups → List Fact
groups_left all sort a g = flat_map (searched_at all sort a g.key.now) (shown_in g.shown)

-- how many files are still to be searched
abbrev pub group_count : Groups → ℕ
group_count g = length (shown_in g.shown)

abbrev pub walk_left : Bool → Walk → List Fact
walk_left all w = group_left_if all w.group ++ groups_left all w.sort w.archive.now w.groups

abbrev pub facts_left : FactRows → List Fact
facts_left r = walk_left true r.walk

-- of these the ones that are no repeats
abbrev pub facts_new : FactRows → List Fact
facts_new r = walk_left false r.walk

abbrev pub spots_left : FactSpots → List Fact
spots_left r = walk_left false r.walk

-- how many rows the groups that are still to come have; what has begun is not counted
abbrev pub groups_counted : FactKind → Archived → Groups → ℕ
groups_counted sort a g = sum_by (searched_count sort a g.key.now) (shown_in g.shown)

abbrev pub rows_counted : FactSpots → ℕ
rows_counted r = groups_counted r.walk.sort r.walk.archive.now r.walk.groups

abbrev pub facts_counted : FactRows → ℕ
facts_counted r = groups_counted r.walk.sort r.walk.archive.now r.walk.groups

-- a file that is lent
abbrev pub shown_file : Bor (List ℕ) × Bor (List ℕ) × Bor TextFacts → ShownFile
shown_file t = record { name = t.0.now; bytes = t.1.now; facts = t.2.now }

-- a file and those after it, if its version is there
abbrev pub file_or_end : List ℕ → Option Scanned → List ShownFile → List ShownFile
file_or_end name None rest = []
file_or_end name (Some text) rest =
    record { name = name; bytes = text.bytes; facts = facts_of text } ∷ rest

abbrev pub entries_in : Archived → List Shown → List ShownFile
entries_in a [] = []
entries_in a (s ∷ shown) =
    file_or_end (name_of a s.name) (text_at a s.version) (entries_in a shown)

abbrev pub entries_left : Entries → List ShownFile
entries_left e = entries_in e.archive.now (shown_in e.shown)
