-- The command line: its subcommands, and the job that the words give.
use Rattle.std.specs.Prelude.{◌≡◌, ◌≢◌, ◌+◌, ◌-◌, ℕ, Bool, List, [], ◌∷◌, Option, None, Some}
use Rattle.std.specs.Prelude.{true, false, ◌||◌, codes, is_some, map, nat_eq, string_bytes, unwrap_or}
use Rattle.std.specs.List.{starts_with}
use Rattle.std.specs.Option.{option_map}
use Rattle.std.specs.Str.{bytes_eq}
use Rattle.std.specs.Str.Parse.{digits_value, without_leading_plus}
use Rattle.clap.specs.Words.{App, IsUnsignedIn, Row, Rule, Text, all_of, first_of, new_app}
use Rattle.clap.specs.Words.{new_rule, with_rule, with_subcommand}
use Rattle.clap.specs.declared.builder.ArgAction.TheVariants.{Append, SetTrue}
use Rattle.clap.specs.declared.builder.ValueParser.TheVariants.{Unsigned}
use Rattle.cb_scan.specs.declared.profile.Rules.{Rules}
use Rattle.cb_scan.specs.declared.profile.Rules.TheVariants.{Prototypes, Standard, Wide}
use Rattle.cb_desk.specs.Answer.{field_of_digit}
use Rattle.cb_desk.specs.declared.rows.Field.{Field}
use Rattle.cb_desk.specs.declared.rows.Format.{Format}
use Rattle.cb_desk.specs.declared.rows.Format.TheVariants.{Plain, Extended}
use Rattle.cb_desk.specs.World.{WorldBounds, standard_bounds}
use Rattle.cb_words.specs.declared.job.Job.{Job}
use Rattle.cb_words.specs.declared.job.Job.TheVariants.{Line, Find, Tags, Lsp}

-- `FILE..`
abbrev pub files_rule : Rule
files_rule = record (new_rule (codes "files")) { action = Some Append; value_names = 1 }

-- `--files-from LIST`
abbrev pub list_rule : Rule
list_rule = record (new_rule (codes "files_from")) {
  long = Some (codes "files-from");
  value_names = 1;
}

-- a command with both
abbrev pub with_files : App → App
with_files a = with_rule (with_rule a list_rule) files_rule

-- `-x`
abbrev pub listing_rule : Rule
listing_rule = record (new_rule (codes "listing")) { short = Some 120; action = Some SetTrue }

-- `-f TAGSFILE`, where nothing is said `-f tags`
abbrev pub tagsfile_rule : Rule
tagsfile_rule = record (new_rule (codes "tagsfile"))
    { short = Some 102; value_names = 1; defaults = codes "tags" ∷ [] }

-- `--force`
abbrev pub force_rule : Rule
force_rule = record (new_rule (codes "force")) {
  long = Some (codes "force");
  action = Some SetTrue;
}

-- a command with both
abbrev pub with_output : App → App
with_output a = with_rule (with_rule a tagsfile_rule) force_rule

-- `--format FORMAT`, where nothing is said `--format 1`; that it takes 1 and 2 alone plays no part
-- in what is found
abbrev pub format_rule : Rule
format_rule = record (new_rule (codes "format"))
    { long = Some (codes "format"); value_names = 1; defaults = codes "1" ∷ [] }

-- `--wide` and `--prototypes`
abbrev pub wide_rule : Rule
wide_rule = record (new_rule (codes "wide")) { long = Some (codes "wide"); action = Some SetTrue }

abbrev pub prototypes_rule : Rule
prototypes_rule = record (new_rule (codes "proto")) {
  long = Some (codes "prototypes");
  action = Some SetTrue;
}

-- a command with both
abbrev pub with_profile : App → App
with_profile a = with_rule (with_rule a wide_rule) prototypes_rule

-- the most files, and the most bytes of a file, that bounds may have
abbrev pub most_files : ℕ
most_files = 1048576

abbrev pub most_file_bytes : ℕ
most_file_bytes = 268435456

-- an option that takes a number from 1 to `most`, with a default
abbrev pub most_rule : (id long : Text) (most : ℕ) (default : Text) → Rule
most_rule id long most default = record (new_rule id) {
  long = Some long;
  value_names = 1;
  parser = Some (Unsigned 1 most);
  defaults = default ∷ [];
}

-- a command with `--max-files N` and `--max-file-bytes N`, where nothing is said
-- `--max-files 4096 --max-file-bytes 1000000`
abbrev pub with_bounds : App → App
with_bounds a =
    with_rule (with_rule a (most_rule (codes "max_files") (codes "max-files") most_files
    (codes "4096"))) (most_rule (codes "max_file_bytes") (codes "max-file-bytes") most_file_bytes
    (codes "1000000"))

-- `line [--wide] [--prototypes] [--max-files N] [--max-file-bytes N] [--files-from LIST] [FILE..]`:
-- a session over standard input and output
abbrev pub line_app : App
line_app = with_files (with_bounds (with_profile (new_app (codes "line"))))

-- NUM, the digit of a field, and PATTERN
abbrev pub num_rule : Rule
num_rule = record (new_rule (codes "num")) { value_names = 1; required = true }

abbrev pub pattern_rule : Rule
pattern_rule = record (new_rule (codes "pattern")) { value_names = 1; required = true }

-- `find [--wide] [--prototypes] [--max-files N] [--max-file-bytes N] [--files-from LIST] NUM PATTERN
-- [FILE..]`: one search
abbrev pub find_app : App
find_app =
    with_files (with_bounds (with_profile (with_rule (with_rule (new_app (codes "find")) num_rule)
    pattern_rule)))

-- `tags [-x] [-f TAGSFILE] [--force] [--format FORMAT] [--wide] [--prototypes] [--max-files N]
-- [--max-file-bytes N] [--files-from LIST] [FILE..]`: a tags file, or a listing
abbrev pub tags_app : App
tags_app =
    with_files (with_bounds (with_profile (with_rule (with_output (with_rule
    (new_app (codes "tags")) listing_rule)) format_rule)))

-- `--root DIR`
abbrev pub root_rule : Rule
root_rule = record (new_rule (codes "root")) { long = Some (codes "root"); value_names = 1 }

-- `lsp [--root DIR] [--wide] [--prototypes] [--max-files N] [--max-file-bytes N]
-- [--files-from LIST] [FILE..]`: a language server over standard input and output
abbrev pub lsp_app : App
lsp_app =
    with_files (with_bounds (with_profile (with_rule (new_app (codes "lsp")) root_rule)))

-- a command that needs one of its subcommands and tells its version
abbrev pub with_version : App → App
with_version a = record a { top = record a.top { subcommand_required = true; has_version = true } }

-- the program's command
abbrev pub browse_app : App
browse_app =
    with_subcommand (with_subcommand (with_subcommand (with_subcommand
    (with_version (new_app (codes "cbrowse"))) line_app.top) find_app.top) tags_app.top)
    lsp_app.top

-- the first value of an argument, or this text where it has none
abbrev pub first_or : Text → Text → List Row → Text
first_or id text rows = unwrap_or (first_of id rows) text

-- all values of an argument
abbrev pub all_or_none : Text → List Row → List Text
all_or_none id rows = unwrap_or (all_of id rows) []

-- the number of a format
abbrev pub format_number : Format → Text
format_number Plain = codes "1"
format_number Extended = codes "2"

-- the field that NUM names: it is one digit
abbrev pub field_of : Text → Option Field
field_of (digit ∷ []) = field_of_digit digit
field_of _ = None

-- a text writes a number from 1 to `most`
abbrev pub Writes : ℕ → Text → ℕ → Type 0
Writes most text n =
    IsUnsignedIn 1 most text × (n ≡ digits_value 10 (without_leading_plus text))

-- the most changes that can be undone in a session of at most so many files: those of the standard
-- bounds, and one for each file more than these have, since each load is a change
abbrev pub history_of : ℕ → ℕ
history_of files = standard_bounds.history + (files - standard_bounds.files)

-- the bounds that were found
pub record AreBoundsOf (rows : List Row) (b : WorldBounds) : Type 0 where
  pub files : Writes most_files (first_or (codes "max_files") (codes "4096") rows) b.files
  pub file_bytes : Writes most_file_bytes
      (first_or (codes "max_file_bytes") (codes "1000000") rows) b.file_bytes
  pub history : b.history ≡ history_of b.files

-- an option without a value was found
abbrev pub is_set : Text → List Row → Bool
is_set id rows = bytes_eq (first_or id (codes "false") rows) (codes "true")

-- the rules of `--wide` and `--prototypes`, of which the second needs the first
abbrev pub rules_for : (wide prototypes : Bool) → Option Rules
rules_for false false = Some Standard
rules_for true false = Some Wide
rules_for true true = Some Prototypes
rules_for false true = None

-- the rules that were found
abbrev pub rules_in : List Row → Option Rules
rules_in rows = rules_for (is_set (codes "wide") rows) (is_set (codes "proto") rows)

-- the list of files that was found, if there is one
abbrev pub list_in : List Row → Option Text
list_in rows = first_of (codes "files_from") rows

-- the name of a list that stands for standard input
abbrev pub is_standard_input : Text → Bool
is_standard_input name = bytes_eq name (codes "-")

-- there is a list, and it is standard input
abbrev pub reads_input : Option Text → Bool
reads_input None = false
reads_input (Some name) = is_standard_input name

-- a file or a list of files was found, of which a search and tags need one
abbrev pub names_files : List Row → Bool
names_files rows = is_some (all_of (codes "files") rows) || is_some (list_in rows)

-- the root that was found, if there is one
abbrev pub root_in : List Row → Option Text
root_in rows = first_of (codes "root") rows

-- a root is a path from `/`, if there is one
abbrev pub is_absolute : Option Text → Bool
is_absolute None = true
is_absolute (Some path) = starts_with nat_eq path (codes "/")

-- the job is the one of the subcommand that was found, and of what was found for its arguments; a
-- session reads its commands from standard input, and a server its messages, and so no list
abbrev pub IsJobOf : Option (Text × List Row) → Job → Type 0
IsJobOf None job = ⊥
IsJobOf (Some found) (Line bounds rules list files) =
    (found.0 ≡ codes "line")
    × AreBoundsOf found.1 bounds
    × (rules_in found.1 ≡ Some rules)
    × (reads_input (list_in found.1) ≡ false)
    × (option_map string_bytes list ≡ list_in found.1)
    × (map string_bytes files.items ≡ all_or_none (codes "files") found.1)
IsJobOf (Some found) (Find bounds rules field pattern list files) =
    (found.0 ≡ codes "find")
    × AreBoundsOf found.1 bounds
    × (rules_in found.1 ≡ Some rules)
    × (names_files found.1 ≡ true)
    × (option_map string_bytes list ≡ list_in found.1)
    × (field_of (first_or (codes "num") [] found.1) ≡ Some field)
    × (string_bytes pattern ≡ first_or (codes "pattern") [] found.1)
    × (string_bytes pattern ≢ [])
    × (map string_bytes files.items ≡ all_or_none (codes "files") found.1)
IsJobOf (Some found) (Tags bounds rules listing tagsfile force format list files) =
    (found.0 ≡ codes "tags")
    × AreBoundsOf found.1 bounds
    × (rules_in found.1 ≡ Some rules)
    × (names_files found.1 ≡ true)
    × (option_map string_bytes list ≡ list_in found.1)
    × (listing ≡ is_set (codes "listing") found.1)
    × (string_bytes tagsfile ≡ first_or (codes "tagsfile") (codes "tags") found.1)
    × (force ≡ is_set (codes "force") found.1)
    × (format_number format ≡ first_or (codes "format") (codes "1") found.1)
    × (map string_bytes files.items ≡ all_or_none (codes "files") found.1)
IsJobOf (Some found) (Lsp bounds rules root list files) =
    (found.0 ≡ codes "lsp")
    × AreBoundsOf found.1 bounds
    × (rules_in found.1 ≡ Some rules)
    × (reads_input (list_in found.1) ≡ false)
    × (is_absolute (root_in found.1) ≡ true)
    × (option_map string_bytes root ≡ root_in found.1)
    × (option_map string_bytes list ≡ list_in found.1)
    × (map string_bytes files.items ≡ all_or_none (codes "files") found.1)
