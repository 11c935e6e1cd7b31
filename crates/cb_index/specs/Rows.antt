-- The rows of files, by the profile that finds them.
use Rattle.std.specs.Prelude.{ℕ, Bool, not, List, Option, Some, map, filter}
use Rattle.std.specs.Cmp.Lexicographic.{slice_cmp}
use Rattle.std.specs.List.{flat_map}
use Rattle.std.specs.Option.{option_map}
use Rattle.std.specs.Ordering.{is_gt, nat_cmp}
use Rattle.std.specs.Str.{bytes_eq}
use Rattle.cb_scan.specs.declared.facts.Call.{Call}
use Rattle.cb_scan.specs.declared.facts.Def.{Def}
use Rattle.cb_scan.specs.declared.facts.Tag as facts
use Rattle.cb_scan.specs.declared.facts.Use.{Use}
use Rattle.cb_scan.specs.declared.profile.Profile.{Profile}
use Rattle.cb_scan.specs.Profiles.{facts_in}
use Rattle.cb_scan.specs.lex.Tokens.{bytes_of}
use Rattle.cb_scan.specs.Lines.{line_text}
use Rattle.cb_scan.specs.Order.{in_order}
use Rattle.cb_tags.specs.TagLines.{Tag, TagScope}
use Rattle.cb_tags.specs.TagNames.{tag_name}
use Rattle.cb_index.specs.Bytes.{place_at}
use Rattle.cb_index.specs.Files.{File}
use Rattle.cb_index.specs.declared.entry.FactKind.{FactKind}
use Rattle.cb_index.specs.declared.entry.FactKind.TheVariants.{Uses, Callees, Callers}

-- a use or a call: the name of its file, its own name, the name around it, where each of the two
-- begins in the text of the file, its line, from 1, and the text of that line
pub record Fact : Type 0 where
  pub file : List ℕ
  pub name : List ℕ
  pub place : ℕ
  pub scope : Option (List ℕ)
  pub scope_place : Option ℕ
  pub line : ℕ
  pub text : List ℕ

-- ---- definitions

-- the body that a definition of a file is in
abbrev pub scope_in : File → facts.Tag → TagScope
scope_in f t = record { kind = t.kind; name = bytes_of f.bytes t.name }

-- a definition of a file as a tag
abbrev pub tag_in : File → Def → Tag
tag_in f d = record {
  name = bytes_of f.bytes d.name;
  file = f.name;
  place = d.name.start;
  line = d.line;
  text = line_text f.bytes d.line;
  kind = d.kind;
  local = d.local;
  scope = option_map (scope_in f) d.tag;
}

-- the tags of a file, by place
abbrev pub file_tags : Profile → File → List Tag
file_tags p f = map (tag_in f) (facts_in p f.bytes).defs

-- those of a name
abbrev pub file_tags_named : Profile → List ℕ → File → List Tag
file_tags_named p name f =
    map (tag_in f) (filter (λ (d : Def). bytes_eq name (bytes_of f.bytes d.name))
    (facts_in p f.bytes).defs)

-- the tags of a name in all files, by file and place
unfoldable pub tags_named : Profile → List ℕ → List File → List Tag
tags_named p name fs = flat_map (file_tags_named p name) fs

-- all tags by name, and those of one name by file and place
unfoldable pub tags_by_name : Profile → List File → List Tag
tags_by_name p fs = in_order (λ (t : Tag). t.name) (flat_map (file_tags p) fs)

-- the name of a tag is not less than a name, in the order of their bytes
abbrev pub is_named_from : List ℕ → Tag → Bool
is_named_from name t = not (is_gt (slice_cmp nat_cmp name t.name))

-- the tags whose names are not less than a name, in the order of all tags by name
unfoldable pub tags_from_name : Profile → List ℕ → List File → List Tag
tags_from_name p name fs = filter (is_named_from name) (tags_by_name p fs)

-- all tags by the name that a plain tags file has for them, and those of one such name by file and
-- place
unfoldable pub tags_by_tag_name : Profile → List File → List Tag
tags_by_tag_name p fs =
    in_order (λ (t : Tag). tag_name t.name t.file) (flat_map (file_tags p) fs)

-- ---- uses and calls

-- a use of a name in a file
abbrev pub use_in : File → Use → Fact
use_in f u = record {
  file = f.name;
  name = bytes_of f.bytes u.name;
  place = u.name.start;
  scope = option_map (bytes_of f.bytes) u.scope;
  scope_place = place_at u.scope;
  line = u.line;
  text = line_text f.bytes u.line;
}

-- a call in a file: the called name, and around it the name that calls
abbrev pub call_in : File → Call → Fact
call_in f c = record {
  file = f.name;
  name = bytes_of f.bytes c.callee;
  place = c.callee.start;
  scope = Some (bytes_of f.bytes c.caller);
  scope_place = Some c.caller.start;
  line = c.line;
  text = line_text f.bytes c.line;
}

-- the uses of a name in a file, by place
abbrev pub file_uses_of : Profile → List ℕ → File → List Fact
file_uses_of p name f =
    map (use_in f) (filter (λ (u : Use). bytes_eq name (bytes_of f.bytes u.name))
    (facts_in p f.bytes).uses)

-- the calls of a name in a file, by place
abbrev pub file_calls_of : Profile → List ℕ → File → List Fact
file_calls_of p name f =
    map (call_in f) (filter (λ (c : Call). bytes_eq name (bytes_of f.bytes c.callee))
    (facts_in p f.bytes).calls)

-- the calls that stand in what has that name, by place
abbrev pub file_calls_in : Profile → List ℕ → File → List Fact
file_calls_in p name f =
    map (call_in f) (filter (λ (c : Call). bytes_eq name (bytes_of f.bytes c.caller))
    (facts_in p f.bytes).calls)

-- the same in all files, by file and place
unfoldable pub uses_of : Profile → List ℕ → List File → List Fact
uses_of p name fs = flat_map (file_uses_of p name) fs

unfoldable pub calls_of : Profile → List ℕ → List File → List Fact
calls_of p name fs = flat_map (file_calls_of p name) fs

unfoldable pub calls_in : Profile → List ℕ → List File → List Fact
calls_in p name fs = flat_map (file_calls_in p name) fs

-- ---- by kind
abbrev pub file_facts : Profile → FactKind → List ℕ → File → List Fact
file_facts p Uses = file_uses_of p
file_facts p Callees = file_calls_of p
file_facts p Callers = file_calls_in p

abbrev pub facts_named : Profile → FactKind → List ℕ → List File → List Fact
facts_named p Uses = uses_of p
facts_named p Callees = calls_of p
facts_named p Callers = calls_in p
