-- The lines of a tags file and of a listing.
use Rattle.std.specs.Prelude.{ℕ, Bool, true, false, ◌&&◌, List, [], ◌++◌, codes, decimal}
use Rattle.std.specs.Prelude.{if◌then◌else◌, Option}
use Rattle.std.specs.Option.{option_map, option_map_or}
use Rattle.cb_scan.specs.declared.facts.Kind.{Kind}
use Rattle.cb_scan.specs.declared.facts.Kind.TheVariants.{Enum, Enumerator, External, Function}
use Rattle.cb_scan.specs.declared.facts.Kind.TheVariants.{Macro, Member, Prototype, Struct, Typedef}
use Rattle.cb_scan.specs.declared.facts.Kind.TheVariants.{Union, Variable}
use Rattle.cb_tags.specs.declared.row.Scope.{Scope}
use Rattle.cb_tags.specs.declared.row.TagRow.{TagRow}
use Rattle.cb_tags.specs.Addresses.{address}
use Rattle.cb_tags.specs.TagNames.{tag_name}

-- the body that a definition is in: of which kind it is, and its tag
pub record TagScope : Type 0 where
  pub kind : Kind
  pub name : List ℕ

-- a definition as a tags file has it (tags(5)): its name, its file, its line and the text of that
-- line, its kind, whether it is `static`, and the body that it is in; and the byte of the text at
-- which the name begins, from 0, which no line tells
pub record Tag : Type 0 where
  pub name : List ℕ
  pub file : List ℕ
  pub place : ℕ
  pub line : ℕ
  pub text : List ℕ
  pub kind : Kind
  pub local : Bool
  pub scope : Option TagScope

-- what the body of a row says
abbrev pub scope_of : Scope → TagScope
scope_of s = record { kind = s.kind; name = s.name.now }

-- what a row says
abbrev pub tag_of : TagRow → Tag
tag_of r = record {
  name = r.name.now;
  file = r.file.now;
  place = r.place;
  line = r.line;
  text = r.text.now;
  kind = r.kind;
  local = r.local;
  scope = option_map scope_of r.scope;
}

-- the plain line (POSIX ctags): tag name, file and address, separated by tabs
abbrev pub plain_line : Tag → List ℕ
plain_line t =
    tag_name t.name t.file ++ codes "\t" ++ t.file ++ codes "\t" ++ address t.text ++ codes "\n"

-- the letter of a kind (tags(5))
abbrev pub kind_letter : Kind → List ℕ
kind_letter Function = codes "f"
kind_letter Macro = codes "d"
kind_letter Typedef = codes "t"
kind_letter Struct = codes "s"
kind_letter Union = codes "u"
kind_letter Enum = codes "g"
kind_letter Enumerator = codes "e"
kind_letter Member = codes "m"
kind_letter Variable = codes "v"
kind_letter External = codes "x"
kind_letter Prototype = codes "p"

-- the kinds of definitions that their file alone may see: functions, variables and prototypes
abbrev pub may_be_local : Kind → Bool
may_be_local Function = true
may_be_local Variable = true
may_be_local Prototype = true
may_be_local _ = false

-- the field of a definition that only its file sees (tags(5)): one that is `static`
abbrev pub file_field : Tag → List ℕ
file_field t = if may_be_local t.kind && t.local then codes "\tfile:" else []

-- what begins the field of a body (tags(5))
abbrev pub scope_word : Kind → List ℕ
scope_word Union = codes "\tunion:"
scope_word Enum = codes "\tenum:"
scope_word _ = codes "\tstruct:"

-- the field of a definition that is in a body with a tag
abbrev pub scope_field : Tag → List ℕ
scope_field t = option_map_or (λ (s : TagScope). scope_word s.kind ++ s.name) t.scope []

-- the fields of an extended line (tags(5)): for the kind, the line, the body around, and the file
abbrev pub fields : Tag → List ℕ
fields t =
    codes ";\"\t" ++ kind_letter t.kind ++ codes "\tline:" ++ decimal t.line ++ scope_field t
    ++ file_field t ++ codes "\n"

-- the extended line (tags(5)): name, file and address, then the fields
abbrev pub extended_line : Tag → List ℕ
extended_line t = t.name ++ codes "\t" ++ t.file ++ codes "\t" ++ address t.text ++ fields t

-- the line of a listing (POSIX ctags -x): name, line, file and the whole shown line, separated by
-- single spaces
abbrev pub listing_line : Tag → List ℕ
listing_line t =
    t.name ++ codes " " ++ decimal t.line ++ codes " " ++ t.file ++ codes " " ++ t.text
    ++ codes "\n"

-- the pseudo-tag of the format (tags(5)): the extended one
abbrev pub format_line : List ℕ
format_line =
    codes "!_TAG_FILE_FORMAT\t2\t/extended format; --format=1 will not append ;\" to lines/\n"

-- the pseudo-tag of the order (tags(5)): by bytes
abbrev pub sorted_line : List ℕ
sorted_line = codes "!_TAG_FILE_SORTED\t1\t/0=unsorted, 1=sorted, 2=foldcase/\n"

-- the lines that an extended file begins with
abbrev pub head_lines : List ℕ
head_lines = format_line ++ sorted_line
