-- The lines of short definitions, computed.
use Rattle.std.specs.Prelude.{◌≡◌, true, false, codes, refl, None}
use Rattle.std.specs.Fmt.{digits}
use Rattle.bstr.specs.Text.{lines_from, line_len}
use Rattle.cb_scan.specs.declared.facts.Kind.{Kind}
use Rattle.cb_scan.specs.declared.facts.Kind.TheVariants.{Function, Macro, Typedef, Struct, Union}
use Rattle.cb_scan.specs.declared.facts.Kind.TheVariants.{Enum}
use Rattle.cb_tags.specs.Addresses.{escape, address}
use Rattle.cb_tags.specs.TagLines.{Tag, plain_line, extended_line, listing_line}
use Rattle.cb_tags.specs.TagNames.{tag_name}

-- `unfolding writing` opens how lines are written
unfoldable pub writing : Unit {0}
unfolding escape address tag_name digits
writing = tt

-- `unfolding lining` opens how a text is cut into lines
unfoldable pub lining : Unit {0}
unfolding lines_from line_len
lining = tt

-- a static function
abbrev add : Tag
add = record {
  name = codes "add";
  file = codes "a.c";
  place = 11;
  line = 4;
  text = codes "static int add(int a, int b) {";
  kind = Function;
  local = true;
  scope = None;
}

-- a program's start, in a folder
abbrev start : Tag
start = record {
  name = codes "main";
  file = codes "src/x.c";
  place = 4;
  line = 12;
  text = codes "int main(void) {";
  kind = Function;
  local = false;
  scope = None;
}

-- a macro whose line has a `/`, a `\` and a `$`
abbrev half : Tag
half = record {
  name = codes "HALF";
  file = codes "m.h";
  place = 8;
  line = 1;
  text = codes "#define HALF(x) (x/2) \\$";
  kind = Macro;
  local = false;
  scope = None;
}

-- a typedef; `local` says nothing of it
abbrev word : Tag
word = record {
  name = codes "word";
  file = codes "a.c";
  place = 13;
  line = 3;
  text = codes "\ttypedef int word;";
  kind = Typedef;
  local = true;
  scope = None;
}

-- a structure, a union and an enumeration; `local` says nothing of them
abbrev tagged : Kind → Tag
tagged kind = record {
  name = codes "n";
  file = codes "a.h";
  place = 0;
  line = 1;
  text = codes "n {";
  kind = kind;
  local = true;
  scope = None;
}

-- only `/` and `\` are escaped
pub escaped_text : escape half.text ≡ codes "#define HALF(x) (x\\/2) \\\\$"
unfolding writing
escaped_text = refl

pub plain_function : plain_line add ≡ codes "add\ta.c\t/^static int add(int a, int b) {$/\n"
unfolding writing
plain_function = refl

-- the name of `main` is `M` and its file's name without folder and `.c`
pub plain_main : plain_line start ≡ codes "Mx\tsrc/x.c\t/^int main(void) {$/\n"
unfolding writing
plain_main = refl

pub plain_macro : plain_line half ≡ codes "HALF\tm.h\t/^#define HALF(x) (x\\/2) \\\\$$/\n"
unfolding writing
plain_macro = refl

pub extended_static : extended_line add
    ≡ codes "add\ta.c\t/^static int add(int a, int b) {$/;\"\tf\tline:4\tfile:\n"
unfolding writing
extended_static = refl

-- an extended file has `main` under its own name
pub extended_main : extended_line start
    ≡ codes "main\tsrc/x.c\t/^int main(void) {$/;\"\tf\tline:12\n"
unfolding writing
extended_main = refl

pub extended_macro : extended_line half
    ≡ codes "HALF\tm.h\t/^#define HALF(x) (x\\/2) \\\\$$/;\"\td\tline:1\n"
unfolding writing
extended_macro = refl

pub extended_typedef : extended_line word
    ≡ codes "word\ta.c\t/^\ttypedef int word;$/;\"\tt\tline:3\n"
unfolding writing
extended_typedef = refl

pub extended_structure : extended_line (tagged Struct) ≡ codes "n\ta.h\t/^n {$/;\"\ts\tline:1\n"
unfolding writing
extended_structure = refl

pub extended_union : extended_line (tagged Union) ≡ codes "n\ta.h\t/^n {$/;\"\tu\tline:1\n"
unfolding writing
extended_union = refl

pub extended_enumeration : extended_line (tagged Enum) ≡ codes "n\ta.h\t/^n {$/;\"\tg\tline:1\n"
unfolding writing
extended_enumeration = refl

-- a listing shows the whole line, its first tab included
pub listed_typedef : listing_line word ≡ codes "word 3 a.c \ttypedef int word;\n"
unfolding writing
listed_typedef = refl

pub listed_main : listing_line start ≡ codes "main 12 src/x.c int main(void) {\n"
unfolding writing
listed_main = refl
