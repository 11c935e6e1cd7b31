-- The command line as clap is given it: with the texts that `--format` takes, which stand in
-- memory, at a place that no definition names.
use Rattle.std.specs.Prelude.{◌≡◌, List, [], ◌∷◌, Some, codes, map}
use Rattle.std.specs.Borrow.{Bor}
use Rattle.clap.specs.Words.{App, Row, Text, found_of, new_app, rows_of, with_rule, with_subcommand}
use Rattle.clap.specs.declared.builder.ValueParser.TheVariants.{Names}
use Rattle.clap.specs.declared.ArgMatches.{ArgMatches}
use Rattle.cb_words.specs.Jobs.{find_app, format_rule, line_app, lsp_app}
use Rattle.cb_words.specs.Jobs.{listing_rule, with_bounds, with_files, with_output}
use Rattle.cb_words.specs.Jobs.{with_profile, with_version}

-- a command with `--format`, which takes these texts alone
abbrev pub with_format : App → Bor (List (Bor Text)) → App
with_format a choices = with_rule a (record format_rule { parser = Some (Names choices) })

-- `tags`, whose format is one of these texts
abbrev pub tags_app_of : Bor (List (Bor Text)) → App
tags_app_of choices =
    with_files (with_bounds (with_profile (with_format
    (with_output (with_rule (new_app (codes "tags")) listing_rule)) choices)))

-- the program's command, whose formats are these texts
abbrev pub browse_app_of : Bor (List (Bor Text)) → App
browse_app_of choices =
    with_subcommand (with_subcommand (with_subcommand (with_subcommand
    (with_version (new_app (codes "cbrowse"))) line_app.top) find_app.top)
    (tags_app_of choices).top) lsp_app.top

-- the command is the one whose formats are the texts 1 and 2
abbrev pub TakesFormats : (Bor (List (Bor Text)) → App) → App → Type 0
TakesFormats app a = (choices : Bor (List (Bor Text)))
    × (map (λ text. text.now) choices.now ≡ codes "1" ∷ codes "2" ∷ [])
    × (a ≡ app choices)

-- what was found for the arguments
abbrev pub rows_in : ArgMatches → List Row
rows_in m = rows_of (found_of m)
