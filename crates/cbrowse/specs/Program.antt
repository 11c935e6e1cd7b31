-- What the program does: the files of a job are read and loaded, and then the job is done.
use Rattle.std.specs.Prelude.{◌≡◌, ◌≢◌, ◌⊎◌, ◌||◌, ℕ, ◌≤◌, ◌<◌, ◌+◌, Bool, true, false, not}
use Rattle.std.specs.Prelude.{List, [], IsTrue, length, take, Option, Result, Ok, Err, String}
use Rattle.std.specs.Prelude.{codes, is_some, map, string_bytes, unwrap_or}
use Rattle.std.specs.List.{AllByRecursion, flat_map, slice_index_or}
use Rattle.std.specs.Option.{option_map}
use Rattle.std.specs.Global.{Global}
use Rattle.std.specs.Str.{bytes_eq}
use Rattle.cb_desk.specs.Answer.{answer}
use Rattle.cb_desk.specs.declared.rows.Format.{Format}
use Rattle.cb_desk.specs.declared.rows.Format.TheVariants.{Extended}
use Rattle.cb_desk.specs.Tags.{tags, tags_text, listing_text}
use Rattle.cb_desk.specs.World.{World, WorldBounds, File}
use Rattle.cb_lsp.specs.declared.run.RunFault.{RunFault}
use Rattle.cb_lsp.specs.declared.turn.Ending.{Ending}
use Rattle.cb_lsp.specs.Documents.{Looked}
use Rattle.cb_lsp.specs.Messages.{Serving, fresh_server}
use Rattle.cb_lsp.specs.Runs.{LeavesRun}
use Rattle.cb_session.specs.declared.input.Ended.{Ended}
use Rattle.cb_session.specs.declared.input.Ended.TheVariants.{Fault, Operand as StoppedAt}
use Rattle.cb_session.specs.declared.input.Fault.TheVariants.{Memory}
use Rattle.cb_session.specs.declared.state.Operand.{Operand}
use Rattle.cb_tags.specs.Readers.{Reader, WhateverFollows}
use Rattle.cb_session.specs.Output.{row_line}
use Rattle.cb_session.specs.Operands.{LoadsAll, RefusedOperand, file_of_operand}
use Rattle.cb_session.specs.Serving.{Serves}
use Rattle.cb_session.specs.States.{State}
use Rattle.cb_tags.specs.TagLines.{Tag}
use Rattle.cb_tags.specs.Writers.{Writer}
use Rattle.cbrowse.specs.Files.{Disk, IsFound, IsUnreadable}
use Rattle.cbrowse.specs.Tagsfile.{MakesFile}
use Rattle.cbrowse.specs.Writes.{WritesText}
use Rattle.cbrowse.specs.declared.execute.finish.Finish.{Finish}
use Rattle.cbrowse.specs.declared.execute.finish.Finish.TheVariants.{Ran, Served, Unreadable}
use Rattle.cbrowse.specs.declared.execute.finish.Finish.TheVariants.{Unlisted, Unwritable}
use Rattle.cb_wire.specs.Uris.{given_name, of_folder}
use Rattle.cb_words.specs.declared.job.Job.{Job}
use Rattle.cb_words.specs.declared.job.Job.TheVariants.{Line, Find, Tags, Lsp}
use Rattle.cbrowse.specs.Messages.{bounds_of, files_of, most_line_bytes, profile_of}

-- the most lines that a session of the program reads
abbrev pub most_lines : ℕ
most_lines = 1000000000

-- the most bytes that are read of a file: one more than it may have, so that a longer one is seen
abbrev pub most_read : WorldBounds → ℕ
most_read b = b.file_bytes + 1

-- ---- tags

-- the order of the lines of a listing, or of a tags file
abbrev pub output_format : (listing : Bool) → Format → Format
output_format true format = Extended
output_format false format = format

-- the text of a listing, or of a tags file
abbrev pub output_text : (listing : Bool) → Format → List Tag → List ℕ
output_text true format ts = listing_text ts
output_text false format ts = tags_text format ts

-- the text written of the tags of a world
abbrev pub tags_output : (listing : Bool) → Format → World → List ℕ
tags_output listing format w = output_text listing format (tags (output_format listing format) w)

-- ---- a language server

-- the version that the program tells
abbrev pub version : List ℕ
version = codes "0.1.0"

-- a server of the files of a world that no client has spoken to: its root is the one that was
-- given, or else none before the client's
abbrev pub server_of : Option (List ℕ) → World → Serving
server_of root w = fresh_server w (of_folder (unwrap_or root [])) (is_some root) version

-- the server has run over the input and output, whatever follows the bytes that were read; what it
-- read again is what is found there
abbrev pub RunsServer : (finds : Looked → Type 0) → Option (List ℕ) → World → Reader → Reader
    → Writer → Writer → Result Ending RunFault → Type 0
RunsServer finds root w feed feed' old new end =
    (next : Serving) × WhateverFollows feed feed' (λ bytes left.
    LeavesRun finds bytes (server_of root w) next left old new end)

-- ---- a job over a session

-- a search has a pattern, and a server can take a change
abbrev pub IsReady : Job → Type 0
IsReady (Find bounds rules field pattern list files) = string_bytes pattern ≢ []
IsReady (Lsp bounds rules root list files) = 1 ≤ bounds.history
IsReady _ = Unit {0}

-- a job is done from a timeline: a session or an editor is served; the rows of a search and tags
-- are written, and the reader is left alone
abbrev pub DoesJob : (finds : Looked → Type 0) → Job → (lines limit : ℕ) → State → Reader → Reader
    → Writer → Writer → Finish → Type 0
DoesJob finds (Line bounds rules list files) lines limit s feed feed' old new (Ran ended) =
    (next : State) × Serves lines limit s next feed feed' old new ended
DoesJob finds (Find bounds rules field pattern list files) lines limit s feed feed' old new
    (Ran ended) =
    (feed' ≡ feed)
    × WritesText (flat_map row_line (answer s.timeline.present field (string_bytes pattern)))
    old new ended
DoesJob finds (Tags bounds rules listing tagsfile force format list files)
    lines limit s feed feed' old new (Ran ended) =
    (feed' ≡ feed) × WritesText (tags_output listing format s.timeline.present) old new ended
DoesJob finds (Lsp bounds rules root list files) lines limit s feed feed' old new (Served end) =
    RunsServer finds (option_map string_bytes root) s.timeline.present feed feed' old new end
DoesJob finds _ lines limit s feed feed' old new _ = ⊥

-- ---- a job over files

-- the name of a tags file that stands for standard output
abbrev pub is_standard_output : List ℕ → Bool
is_standard_output name = bytes_eq name (codes "-")

-- the job writes a tags file
abbrev pub writes_file : Job → Bool
writes_file (Line bounds rules list files) = false
writes_file (Find bounds rules field pattern list files) = false
writes_file (Tags bounds rules listing tagsfile force format list files) =
    not (listing || is_standard_output (string_bytes tagsfile))
writes_file (Lsp bounds rules root list files) = false

-- input and output are left alone
abbrev pub LeavesAlone : Reader → Reader → Writer → Writer → Type 0
LeavesAlone feed feed' out out' = (feed' ≡ feed) × (out' ≡ out)

-- the text of the tags file that a job writes
abbrev pub file_text : Job → World → List ℕ
file_text (Line bounds rules list files) w = []
file_text (Find bounds rules field pattern list files) w = []
file_text (Tags bounds rules listing tagsfile force format list files) w = tags_output listing format w
file_text (Lsp bounds rules root list files) w = []

-- the names of operands
abbrev pub names_of : List Operand → List (List ℕ)
names_of operands = map (λ operand. operand.name.items) operands

-- operands are found as they are
abbrev pub AreFound : (Looked → Type 0) → (most : ℕ) → List Operand → Type 0
AreFound finds most operands =
    AllByRecursion (λ operand. IsFound finds most (file_of_operand operand)) operands

-- the file of this name, at this place, ends a job: memory is refused for it, or it cannot be read
abbrev pub StopsAt : (Looked → Type 0) → (most : ℕ) → (name : List ℕ) → (place : ℕ) → Finish
    → Type 0
StopsAt finds most name place (Ran ended) = ended ≡ Fault Memory
StopsAt finds most name place (Unreadable at) = (at ≡ place) × IsUnreadable finds most name
StopsAt finds most name place (Served end) = ⊥
StopsAt finds most name place Unlisted = ⊥
StopsAt finds most name place Unwritable = ⊥

-- the file at a place cannot be read, and those before it are found
abbrev pub FindsFirst : (Looked → Type 0) → (most : ℕ) → List (List ℕ) → (place : ℕ) → Type 0
FindsFirst finds most files place =
    (place < length files) × IsUnreadable finds most (slice_index_or files place [])
    × ((before : List Operand) × (names_of before ≡ take place files)
    × AreFound finds most before)

-- reading the files stops: memory is refused, or one cannot be read
abbrev pub StopsReading : (Looked → Type 0) → (most : ℕ) → List (List ℕ) → Finish → Type 0
StopsReading finds most files (Ran ended) = ended ≡ Fault Memory
StopsReading finds most files (Unreadable place) = FindsFirst finds most files place
StopsReading finds most files (Served end) = ⊥
StopsReading finds most files Unlisted = ⊥
StopsReading finds most files Unwritable = ⊥

-- the path of the root of a language server, if one was given
abbrev pub root_path : Option (String Global) → Option (List ℕ)
root_path root = option_map (λ folder. (of_folder (string_bytes folder)).path) root

-- a file of a path under the name that it has below a root
abbrev pub file_below : Option (List ℕ) → File → File
file_below root f = record { name = given_name root f.name; bytes = f.bytes }

-- the files of a job under their names: those of a language server below its root
abbrev pub files_named : Job → List File → List File
files_named (Lsp bounds rules root list files) fs = map (file_below (root_path root)) fs
files_named (Line bounds rules list files) fs = fs
files_named (Find bounds rules field pattern list files) fs = fs
files_named (Tags bounds rules listing tagsfile force format list files) fs = fs

-- the files of a job, in order, as they are found, and where their loads under their names lead by
-- the profile of the job, within its bounds
abbrev pub Reaches : Disk → Job → Result State RefusedOperand → Type 0
Reaches disk job end =
    (files : List File) × (map (λ f. f.name) files ≡ files_of job)
    × AllByRecursion (IsFound disk.finds (most_read (bounds_of job))) files
    × LoadsAll (profile_of job) (bounds_of job) (files_named job files) end

-- the job is done from a state: into a tags file, which leaves standard output alone, or over the
-- input and output, and then no file is made
abbrev pub DoesInto : Disk → (file : Bool) → State → Job → Reader → Reader → Writer → Writer
    → Finish → Type 0
DoesInto disk true s job feed feed' out out' end =
    MakesFile disk job (file_text job s.timeline.present) end × LeavesAlone feed feed' out out'
DoesInto disk false s job feed feed' out out' end =
    DoesJob disk.finds job most_lines (most_line_bytes (bounds_of job)) s feed feed' out out' end
    × disk.done []

-- the same, as the words of the job ask for
abbrev pub DoesFrom : Disk → State → Job → Reader → Reader → Writer → Writer → Finish → Type 0
DoesFrom disk s job feed feed' out out' end =
    DoesInto disk (writes_file job) s job feed feed' out out' end

-- the job is done from where the loads lead; where one is refused nothing is done
abbrev pub DoesLoaded : Disk → Job → Result State RefusedOperand → Reader → Reader → Writer
    → Writer → Ended → Type 0
DoesLoaded disk job (Err stop) feed feed' out out' ended =
    (ended ≡ StoppedAt stop.place stop.why) × LeavesAlone feed feed' out out' × disk.done []
DoesLoaded disk job (Ok s) feed feed' out out' ended =
    DoesFrom disk s job feed feed' out out' (Ran ended)

-- a job is done over its files as they are found; or memory was refused before their loads; or one
-- of them cannot be read, or its tags file cannot be written, and then no old one is lost; nothing is
-- done to a file but from where the loads lead
abbrev pub Works : Disk → Job → Reader → Reader → Writer → Writer → Finish → Type 0
Works disk job feed feed' out out' (Ran ended) =
    ((ended ≡ Fault Memory) × LeavesAlone feed feed' out out' × disk.done [])
    ⊎ ((end : Result State RefusedOperand) × Reaches disk job end
    × DoesLoaded disk job end feed feed' out out' ended)
Works disk job feed feed' out out' (Served end) =
    (s : State) × Reaches disk job (Ok s) × DoesFrom disk s job feed feed' out out' (Served end)
Works disk job feed feed' out out' (Unreadable place) =
    FindsFirst disk.finds (most_read (bounds_of job)) (files_of job) place
    × LeavesAlone feed feed' out out' × disk.done []
Works disk job feed feed' out out' Unlisted = ⊥
Works disk job feed feed' out out' Unwritable =
    IsTrue (writes_file job)
    × ((s : State) × Reaches disk job (Ok s)
    × MakesFile disk job (file_text job s.timeline.present) Unwritable)
    × LeavesAlone feed feed' out out'
