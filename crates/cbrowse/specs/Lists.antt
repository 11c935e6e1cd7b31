-- A list of files: its text, the names in it, and the job to which they are added.
use Rattle.std.specs.Prelude.{◌≡◌, ◌≤◌, ◌⊎◌, ◌+◌, ℕ, Bool, true, false, List, [], ◌++◌, length, map}
use Rattle.std.specs.Prelude.{Option, None, Some, string_bytes}
use Rattle.bstr.specs.Text.{lines_of, without_terminator}
use Rattle.cb_session.specs.declared.input.Fault.TheVariants.{Memory}
use Rattle.cb_session.specs.declared.input.Ended.TheVariants.{Fault}
use Rattle.cb_tags.specs.Readers.{HasRead, Reader}
use Rattle.cb_tags.specs.declared.feed.Stage.TheVariants.{Ended}
use Rattle.cb_tags.specs.Writers.{Writer}
use Rattle.cb_words.specs.Jobs.{is_standard_input, most_file_bytes}
use Rattle.cb_words.specs.declared.job.Job.{Job}
use Rattle.cb_words.specs.declared.job.Job.TheVariants.{Line, Find, Tags, Lsp}
use Rattle.cbrowse.specs.Files.{Disk, Sight, begins}
use Rattle.cbrowse.specs.Messages.{list_of}
use Rattle.cbrowse.specs.Program.{Works}
use Rattle.cbrowse.specs.declared.execute.finish.Finish.{Finish}
use Rattle.cbrowse.specs.declared.execute.finish.Finish.TheVariants.{Ran, Served, Unreadable}
use Rattle.cbrowse.specs.declared.execute.finish.Finish.TheVariants.{Unlisted, Unwritable}

-- the names in a list: its lines, each without its LF and a CR before that
abbrev pub names_in : List ℕ → List (List ℕ)
names_in text = map without_terminator (lines_of text)

-- a text was read, and then the end of input was met
abbrev pub ReadsAll : Reader → Reader → List ℕ → Type 0
ReadsAll feed feed' text =
    HasRead feed feed' text × (feed'.stage ≡ Ended) × (feed'.bytes ≡ Some [])

-- the text of a list, which may be as long as the largest file: that of standard input is all that
-- is left there; that of a file is what the file begins with, where one byte more would be read, and
-- the reader is left alone
abbrev pub IsListText : (shows : Sight → Type 0) → (list : List ℕ) → (input : Bool)
    → Reader → Reader → List ℕ → Type 0
IsListText shows list true feed feed' text =
    (length text ≤ most_file_bytes) × ReadsAll feed feed' text
IsListText shows list false feed feed' text =
    (length text ≤ most_file_bytes) × shows (begins list (most_file_bytes + 1) text)
    × (feed' ≡ feed)

-- there is no list: memory was refused, or it can't be read
abbrev pub IsNoList : Finish → Type 0
IsNoList (Ran ended) = ended ≡ Fault Memory
IsNoList (Served end) = ⊥
IsNoList (Unreadable place) = ⊥
IsNoList Unlisted = Unit {0}
IsNoList Unwritable = ⊥

-- the same, where standard input was read for it, or the reader was left alone
abbrev pub HasNoList : (input : Bool) → Reader → Reader → Finish → Type 0
HasNoList true feed feed' end = IsNoList end × ((read : List ℕ) × HasRead feed feed' read)
HasNoList false feed feed' end = IsNoList end × (feed' ≡ feed)

-- the same job, over its files and behind them files with these names
abbrev pub HasMore : Job → List (List ℕ) → Job → Type 0
HasMore (Line bounds rules list files) names (Line bounds' rules' list' files') =
    (bounds' ≡ bounds) × (rules' ≡ rules) × (list' ≡ list)
    × (map string_bytes files'.items ≡ map string_bytes files.items ++ names)
HasMore (Find bounds rules field pattern list files) names
    (Find bounds' rules' field' pattern' list' files') =
    (bounds' ≡ bounds) × (rules' ≡ rules) × (field' ≡ field) × (pattern' ≡ pattern)
    × (list' ≡ list) × (map string_bytes files'.items ≡ map string_bytes files.items ++ names)
HasMore (Tags bounds rules listing tagsfile force format list files) names
    (Tags bounds' rules' listing' tagsfile' force' format' list' files') =
    (bounds' ≡ bounds) × (rules' ≡ rules) × (listing' ≡ listing) × (tagsfile' ≡ tagsfile)
    × (force' ≡ force) × (format' ≡ format) × (list' ≡ list)
    × (map string_bytes files'.items ≡ map string_bytes files.items ++ names)
HasMore (Lsp bounds rules root list files) names (Lsp bounds' rules' root' list' files') =
    (bounds' ≡ bounds) × (rules' ≡ rules) × (root' ≡ root) × (list' ≡ list)
    × (map string_bytes files'.items ≡ map string_bytes files.items ++ names)
HasMore _ names _ = ⊥

-- the names in the list of a job are added to it; a job without a list stays as it is
abbrev pub TakesList : (shows : Sight → Type 0) → Option (List ℕ) → Job → Reader → Reader → Job
    → Type 0
TakesList shows None asked feed feed' job = (job ≡ asked) × (feed' ≡ feed)
TakesList shows (Some list) asked feed feed' job =
    (text : List ℕ) × IsListText shows list (is_standard_input list) feed feed' text
    × HasMore asked (names_in text) job

-- a job has a list, and its text is not had
abbrev pub LacksList : Option (List ℕ) → Reader → Reader → Finish → Type 0
LacksList None feed feed' end = ⊥
LacksList (Some list) feed feed' end = HasNoList (is_standard_input list) feed feed' end

-- the job is done with the names in its list; or these are not had, and nothing is done
abbrev pub WorksListed : Disk → (asked job : Job) → Reader → Reader → Writer → Writer → Finish
    → Type 0
WorksListed disk asked job feed feed' out out' end =
    ((middle : Reader) × TakesList disk.shows (list_of asked) asked feed middle job
    × Works disk job middle feed' out out' end)
    ⊎ ((list_of job ≡ list_of asked) × LacksList (list_of asked) feed feed' end
    × (out' ≡ out) × disk.done [])
