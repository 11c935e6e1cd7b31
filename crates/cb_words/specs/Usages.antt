-- Why the words give no job: clap shows help or refuses them, or memory was refused.
use Rattle.std.specs.Prelude.{◌≡◌, ◌≢◌, ◌⊎◌, ◌++◌, List, ◌∷◌, [], Option, None, Some, codes, is_some}
use Rattle.std.specs.Prelude.{map, not, string_bytes, if◌then◌else◌}
use Rattle.std.specs.Str.{bytes_eq}
use Rattle.std.specs.Borrow.{Bor}
use Rattle.clap.specs.Words.{IsAmong, Row, Text, fault_of, subcommand_of}
use Rattle.clap.specs.declared.error.kind.ErrorKind.{ErrorKind}
use Rattle.clap.specs.declared.error.kind.ErrorKind.TheVariants.{DisplayHelp, DisplayVersion}
use Rattle.clap.specs.declared.error.kind.ErrorKind.TheVariants.{OutOfMemory}
use Rattle.cb_words.specs.Commands.{browse_app_of}
use Rattle.cb_words.specs.Jobs.{IsJobOf, browse_app, field_of, first_or, list_in, reads_input}
use Rattle.cb_words.specs.Jobs.{rules_in}
use Rattle.cb_words.specs.declared.job.Job.{Job}
use Rattle.cb_words.specs.declared.job.Usage.{Usage}
use Rattle.cb_words.specs.declared.job.Usage.TheVariants.{Help, Wrong, BadField, NoPattern, Memory}

-- clap's own definition gives this kind of error for the words, in the command whose formats are
-- the texts 1 and 2
abbrev pub FailsWith : List Text → ErrorKind → Type 0
FailsWith words kind = (choices : Bor (List (Bor Text)))
    × (map (λ text. text.now) choices.now ≡ codes "1" ∷ codes "2" ∷ [])
    × IsAmong kind (fault_of (browse_app_of choices) words)

-- the words ask for no job
abbrev pub AsksNothing : List Text → Type 0
AsksNothing words = (job : Job) → IsJobOf (subcommand_of browse_app words) job → ⊥

-- clap shows a text for this kind of error: help or the version
abbrev pub ShowsText : ErrorKind → Type 0
ShowsText kind = (kind ≡ DisplayHelp) ⊎ (kind ≡ DisplayVersion)

-- clap shows such a text for the words
abbrev pub AskForText : List Text → Type 0
AskForText words = (kind : ErrorKind) × ShowsText kind × FailsWith words kind

-- clap refuses the words, for another reason than that they ask for such a text
abbrev pub IsRefused : List Text → Type 0
IsRefused words =
    (kind : ErrorKind) × (kind ≢ DisplayHelp) × (kind ≢ DisplayVersion) × FailsWith words kind

-- a search was found whose number is not that of a field, or whose number is and whose pattern is
-- empty; memory may be refused to any
abbrev pub IsBadSearch : Option (Text × List Row) → Usage → Type 0
IsBadSearch found Memory = Unit {0}
IsBadSearch (Some found) BadField =
    (found.0 ≡ codes "find") × (field_of (first_or (codes "num") [] found.1) ≡ None)
IsBadSearch (Some found) NoPattern =
    (found.0 ≡ codes "find")
    × (field_of (first_or (codes "num") [] found.1) ≢ None)
    × (first_or (codes "pattern") [] found.1 ≡ [])
IsBadSearch found usage = ⊥

-- ---- words that clap takes, and that ask for nothing

-- what is said of words that are wrong
abbrev pub wrong_text : (what : Text) → Text
wrong_text what = codes "error: " ++ what ++ codes "\n\nFor more information, try '--help'.\n"

-- that an argument is missing
abbrev pub missing_text : (argument : Text) → Text
missing_text argument =
    wrong_text (codes "the following required arguments were not provided:\n  " ++ argument)

-- that a list is not read from an input that has something else
abbrev pub list_text : (input : Text) → Text
list_text input =
    wrong_text (codes "invalid value '-' for '--files-from <LIST>': standard input has the " ++ input)

-- of a server: its list would be its messages, or its root is no path from `/`
abbrev pub server_text : List Row → Text
server_text rows =
    if reads_input (list_in rows) then list_text (codes "messages")
    else wrong_text (codes "invalid value for '--root <DIR>': it must begin with '/'")

-- that no files are named
abbrev pub no_files_text : Text
no_files_text = missing_text (codes "<FILE>... or --files-from <LIST>")

-- of the subcommand that was found: prototypes are asked for without the wide rules; or else what a
-- session, a server or another one lacks
abbrev pub no_job_text : Option (Text × List Row) → Text
no_job_text None = no_files_text
no_job_text (Some found) =
    if not (is_some (rules_in found.1)) then missing_text (codes "--wide")
    else (if bytes_eq found.0 (codes "line") then list_text (codes "commands")
    else (if bytes_eq found.0 (codes "lsp") then server_text found.1 else no_files_text))

-- ---- usages

-- help or the version is shown only where clap shows it for these words. Words are wrong only where
-- clap refuses them, or where no job is in them, and then the text says what they lack. A bad search
-- is one that was found in them, and memory may be refused for any words
abbrev pub IsUsageOf : List Text → Usage → Type 0
IsUsageOf words (Help text) = AskForText words
IsUsageOf words (Wrong text) = IsRefused words
    ⊎ AsksNothing words × (string_bytes text ≡ no_job_text (subcommand_of browse_app words))
IsUsageOf words usage = IsBadSearch (subcommand_of browse_app words) usage

-- the kind of clap's error that a usage tells
abbrev pub TellsKind : ErrorKind → Usage → Type 0
TellsKind kind (Help text) = ShowsText kind
TellsKind kind (Wrong text) = (kind ≢ DisplayHelp) × (kind ≢ DisplayVersion) × (kind ≢ OutOfMemory)
TellsKind kind Memory = Unit {0}
TellsKind kind BadField = ⊥
TellsKind kind NoPattern = ⊥

-- why the words of a process are not there: one of them is not UTF-8, or memory was refused
abbrev pub IsWordFault : Usage → Type 0
IsWordFault (Wrong text) =
    string_bytes text
    ≡ codes "error: a word is not UTF-8\n\nFor more information, try '--help'.\n"
IsWordFault Memory = Unit {0}
IsWordFault usage = ⊥
