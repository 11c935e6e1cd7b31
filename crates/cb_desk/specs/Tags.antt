-- The tags of a world, and the texts of its tags file and of its listing.
use Rattle.std.specs.Prelude.{ℕ, List, [], ◌++◌, map}
use Rattle.std.specs.List.{flat_map}
use Rattle.std.specs.Option.{option_map}
use Rattle.cb_scan.specs.declared.profile.Profile.{Profile}
use Rattle.cb_scan.specs.declared.facts.Def.{Def}
use Rattle.cb_scan.specs.declared.facts.Tag as facts
use Rattle.cb_scan.specs.lex.Tokens.{bytes_of}
use Rattle.cb_scan.specs.Lines.{line_text}
use Rattle.cb_scan.specs.Order.{in_order}
use Rattle.cb_scan.specs.Profiles.{facts_in}
use Rattle.cb_tags.specs.TagLines.{Tag, TagScope}
use Rattle.cb_tags.specs.TagLines.{plain_line, extended_line, listing_line, head_lines}
use Rattle.cb_tags.specs.TagNames.{tag_name}
use Rattle.cb_desk.specs.declared.rows.Format.{Format}
use Rattle.cb_desk.specs.declared.rows.Format.TheVariants.{Plain, Extended}
use Rattle.cb_desk.specs.Answer.{name_of}
use Rattle.cb_desk.specs.World.{World, File}

-- the body that a definition of a file is in
abbrev pub scope_in : File → facts.Tag → TagScope
scope_in f t = record { kind = t.kind; name = bytes_of f.bytes t.name }

-- a definition of a file as a tag
abbrev pub tag_in : File → Def → Tag
tag_in f d = record {
  name = name_of f.bytes d;
  file = f.name;
  place = d.name.start;
  line = d.line;
  text = line_text f.bytes d.line;
  kind = d.kind;
  local = d.local;
  scope = option_map (scope_in f) d.tag;
}

-- the tags of a file, by place: all definitions of the profile
abbrev pub file_tags : Profile → File → List Tag
file_tags p f = map (tag_in f) (facts_in p f.bytes).defs

-- what tags are ordered by (POSIX ctags, tags(5)): the tag name in a plain file, the name in an
-- extended one and in a listing
abbrev pub tag_key : Format → Tag → List ℕ
tag_key Plain t = tag_name t.name t.file
tag_key Extended t = t.name

-- the tags of a world: every definition, in the order of the keys, and those of one key by file
-- and place
unfoldable pub tags : Format → World → List Tag
tags format w = in_order (tag_key format) (flat_map (file_tags w.profile) w.files)

-- the line of a tag in a format
abbrev pub tag_line : Format → Tag → List ℕ
tag_line Plain t = plain_line t
tag_line Extended t = extended_line t

-- the lines that a tags file begins with: two pseudo-tags in an extended one
abbrev pub heads : Format → List ℕ
heads Plain = []
heads Extended = head_lines

-- how many these are
abbrev pub head_count : Format → ℕ
head_count Plain = 0
head_count Extended = 2

-- the text of a tags file
abbrev pub tags_text : Format → List Tag → List ℕ
tags_text format ts = heads format ++ flat_map (tag_line format) ts

-- the text of a listing
abbrev pub listing_text : List Tag → List ℕ
listing_text ts = flat_map listing_line ts
