-- The name space of the word at a place of a file.
use Rattle.std.specs.Prelude.{ℕ, Bool, ◌&&◌, ◌==◌, List, Option, None, Some, if◌then◌else◌}
use Rattle.std.specs.List.{list_any}
use Rattle.std.specs.Option.{option_or}
use Rattle.cb_names.specs.Directives.{directive_space}
use Rattle.cb_names.specs.SpaceAt.{space_at}
use Rattle.cb_names.specs.declared.space.Space.{Space}
use Rattle.cb_names.specs.declared.space.Space.TheVariants as name_space
use Rattle.cb_scan.specs.declared.facts.Def.{Def}
use Rattle.cb_scan.specs.declared.lex.piece.Span.{Span}
use Rattle.cb_lsp.specs.Nearest.{is_member}

-- the name at a place is that of a member that is defined there
abbrev pub is_member_at : Span → Def → Bool
is_member_at word d =
    is_member d.kind && d.name.start == word.start && d.name.end == word.end

-- the name space of the name at a place, as the code tells it or a directive
abbrev pub space_told : (text : List ℕ) → (place : ℕ) → Option Space
space_told text at = option_or (space_at text at) (directive_space text at)

-- the same where this word stands
abbrev pub space_there : List Def → (text : List ℕ) → (place : ℕ) → Option Span → Option Space
space_there ds text at None = space_told text at
space_there ds text at (Some word) =
    if list_any (is_member_at word) ds then Some name_space.Member else space_told text at
