-- The includes of files, by a profile.
use Rattle.std.specs.Prelude.{List, map}
use Rattle.std.specs.List.{flat_map}
use Rattle.std.specs.Option.{option_map}
use Rattle.cb_scan.specs.declared.facts.Include.{Include}
use Rattle.cb_scan.specs.declared.profile.Profile.{Profile}
use Rattle.cb_scan.specs.Profiles.{facts_in}
use Rattle.cb_scan.specs.lex.Tokens.{bytes_of}
use Rattle.cb_scan.specs.Lines.{line_text}
use Rattle.cb_index.specs.Bytes.{place_at}
use Rattle.cb_index.specs.Files.{File}
use Rattle.cb_index.specs.Rows.{Fact}

-- an include in a file; its name is the header
abbrev pub include_in : File → Include → Fact
include_in f i = record {
  file = f.name;
  name = bytes_of f.bytes i.header;
  place = i.header.start;
  scope = option_map (bytes_of f.bytes) i.scope;
  scope_place = place_at i.scope;
  line = i.line;
  text = line_text f.bytes i.line;
}

-- the includes of a file, by place
abbrev pub file_includes : Profile → File → List Fact
file_includes p f = map (include_in f) (facts_in p f.bytes).includes

-- those of all files, by file and place
unfoldable pub all_includes : Profile → List File → List Fact
all_includes p fs = flat_map (file_includes p) fs
