-- How the program ends: its exit status and what it says on standard error.
use Rattle.std.specs.Prelude.{◌≡◌, ◌==◌, ◌&&◌, ◌+◌, ◌/◌, ◌%◌, ℕ, Bool, false, not, nat_lt, List, []}
use Rattle.std.specs.Prelude.{◌∷◌, ◌++◌, codes, decimal, map, max, string_bytes, if◌then◌else◌}
use Rattle.std.specs.Prelude.{Option, Result, Ok, Err, unwrap_or}
use Rattle.std.specs.Io.KnownBytes.{Appends}
use Rattle.std.specs.List.{flat_map, slice_index_or}
use Rattle.std.specs.Option.{option_map}
use Rattle.cb_scan.specs.declared.profile.Profile.{Profile}
use Rattle.cb_scan.specs.declared.profile.Rules.{Rules}
use Rattle.cb_scan.specs.Profiles.{all_by}
use Rattle.cb_desk.specs.Refusals.{text_of}
use Rattle.cb_desk.specs.World.{WorldBounds}
use Rattle.cb_lsp.specs.declared.run.RunFault.{RunFault}
use Rattle.cb_lsp.specs.declared.run.RunFault.TheVariants as fault
use Rattle.cb_lsp.specs.declared.turn.Ending.{Ending}
use Rattle.cb_lsp.specs.declared.turn.Ending.TheVariants as ending
use Rattle.cb_session.specs.declared.input.Ended.{Ended}
use Rattle.cb_session.specs.declared.input.Ended.TheVariants.{Done, Cut, Fault, Operand}
use Rattle.cb_session.specs.declared.input.Fault.{Fault as Reason}
use Rattle.cb_session.specs.declared.input.Fault.TheVariants.{Read, Write, Memory, LongLine}
use Rattle.cb_session.specs.declared.input.Fault.TheVariants.{ManyLines}
use Rattle.cb_tags.specs.Writers.{Writer}
use Rattle.cb_tags.specs.Writing.{AppendsPrefix}
use Rattle.cbrowse.specs.declared.execute.finish.Finish.{Finish}
use Rattle.cbrowse.specs.declared.execute.finish.Finish.TheVariants.{Ran, Served, Unreadable}
use Rattle.cbrowse.specs.declared.execute.finish.Finish.TheVariants.{Unlisted, Unwritable}
use Rattle.cb_words.specs.declared.job.Job.{Job}
use Rattle.cb_words.specs.declared.job.Job.TheVariants.{Line, Find, Tags, Lsp}
use Rattle.cb_words.specs.declared.job.Usage.{Usage}
use Rattle.cb_words.specs.declared.job.Usage.TheVariants.{Help, Wrong, BadField, NoPattern}
use Rattle.cb_words.specs.declared.job.Usage.TheVariants.{Memory as NoMemory}

-- the names of a job's files
abbrev pub files_of : Job → List (List ℕ)
files_of (Line bounds rules list files) = map string_bytes files.items
files_of (Find bounds rules field pattern list files) = map string_bytes files.items
files_of (Tags bounds rules listing tagsfile force format list files) = map string_bytes files.items
files_of (Lsp bounds rules root list files) = map string_bytes files.items

-- the name of a job's list of files
abbrev pub list_of : Job → Option (List ℕ)
list_of (Line bounds rules list files) = option_map string_bytes list
list_of (Find bounds rules field pattern list files) = option_map string_bytes list
list_of (Tags bounds rules listing tagsfile force format list files) = option_map string_bytes list
list_of (Lsp bounds rules root list files) = option_map string_bytes list

-- the same, or nothing
abbrev pub list_name : Job → List ℕ
list_name job = unwrap_or (list_of job) []

-- the bounds of a job
abbrev pub bounds_of : Job → WorldBounds
bounds_of (Line bounds rules list files) = bounds
bounds_of (Find bounds rules field pattern list files) = bounds
bounds_of (Tags bounds rules listing tagsfile force format list files) = bounds
bounds_of (Lsp bounds rules root list files) = bounds

-- the rules of a job
abbrev pub rules_of : Job → Rules
rules_of (Line bounds rules list files) = rules
rules_of (Find bounds rules field pattern list files) = rules
rules_of (Tags bounds rules listing tagsfile force format list files) = rules
rules_of (Lsp bounds rules root list files) = rules

-- the profile of a job: all facts by its rules
abbrev pub profile_of : Job → Profile
profile_of job = all_by (rules_of job)

-- the most bytes of a line of a session: as many as a file may have, and never fewer than 1,000,000
abbrev pub most_line_bytes : WorldBounds → ℕ
most_line_bytes b = max b.file_bytes 1000000

-- the name of a job's tags file
abbrev pub tagsfile_of : Job → List ℕ
tagsfile_of (Line bounds rules list files) = []
tagsfile_of (Find bounds rules field pattern list files) = []
tagsfile_of (Tags bounds rules listing tagsfile force format list files) = string_bytes tagsfile
tagsfile_of (Lsp bounds rules root list files) = []

-- a job's tags file takes the place of any file
abbrev pub force_of : Job → Bool
force_of (Line bounds rules list files) = false
force_of (Find bounds rules field pattern list files) = false
force_of (Tags bounds rules listing tagsfile force format list files) = force
force_of (Lsp bounds rules root list files) = false

-- a line that names the program
abbrev pub error_line : List ℕ → List ℕ
error_line text = codes "cbrowse: " ++ text ++ codes "\n"

-- a byte that stands for itself in a name that is told: it is printable ASCII, and no backslash
abbrev pub is_plain : ℕ → Bool
is_plain b = nat_lt 31 b && (nat_lt b 127 && not (b == 92))

-- a hexadecimal digit
abbrev pub hex_digit : ℕ → ℕ
hex_digit n = if nat_lt n 10 then 48 + n else 87 + n

-- how a byte of a name is told: as itself, or as `\x` and its two hexadecimal digits
abbrev pub told_byte : ℕ → List ℕ
told_byte b =
    if is_plain b then b ∷ []
    else (codes "\\x" ++ hex_digit (b / 16) ∷ hex_digit (b % 16) ∷ [])

-- how a name is told: in one line, whatever its bytes
abbrev pub told_name : List ℕ → List ℕ
told_name name = flat_map told_byte name

-- a line that names the program and a file
abbrev pub file_line : List ℕ → List ℕ → List ℕ
file_line name text =
    codes "cbrowse: " ++ (told_name name ++ (codes ": " ++ text ++ codes "\n"))

-- what is said of a fault, where a line may have so many bytes
abbrev pub fault_line : ℕ → Reason → List ℕ
fault_line limit Read = error_line (codes "read fault")
fault_line limit Write = error_line (codes "write fault")
fault_line limit Memory = error_line (codes "out of memory")
fault_line limit LongLine = codes "cbrowse: line over " ++ decimal limit ++ codes " bytes\n"
fault_line limit ManyLines = error_line (codes "too many lines")

-- what is said of a run over these files
abbrev pub run_said : (limit : ℕ) → List (List ℕ) → Ended → List ℕ
run_said limit files Done = []
run_said limit files Cut = error_line (codes "input ended")
run_said limit files (Fault fault) = fault_line limit fault
run_said limit files (Operand place why) = file_line (slice_index_or files place []) (text_of why)

-- what is said of a run of a language server
abbrev pub server_said : Result Ending RunFault → List ℕ
server_said (Ok ending.Down) = []
server_said (Ok ending.Early) = []
server_said (Ok ending.BadHeader) = error_line (codes "bad header")
server_said (Ok ending.InputEnded) = error_line (codes "input ended")
server_said (Ok ending.Read) = error_line (codes "read fault")
server_said (Err fault.Memory) = error_line (codes "out of memory")
server_said (Err fault.Write) = error_line (codes "write fault")
server_said (Err fault.ManyMessages) = error_line (codes "too many messages")

-- what is said of a job
abbrev pub said_of : Job → Finish → List ℕ
said_of job (Ran ended) = run_said (most_line_bytes (bounds_of job)) (files_of job) ended
said_of job (Served end) = server_said end
said_of job (Unreadable place) =
    file_line (slice_index_or (files_of job) place []) (codes "cannot be read")
said_of job Unlisted = file_line (list_name job) (codes "cannot be read")
said_of job Unwritable = file_line (tagsfile_of job) (codes "cannot be written")

-- the exit status of a run
abbrev pub run_status : Ended → ℕ
run_status Done = 0
run_status Cut = 1
run_status (Fault fault) = 1
run_status (Operand place why) = 1

-- the exit status of a run of a language server: its client has to shut it down before the end
abbrev pub server_status : Result Ending RunFault → ℕ
server_status (Ok ending.Down) = 0
server_status (Ok ending.Early) = 1
server_status (Ok ending.BadHeader) = 1
server_status (Ok ending.InputEnded) = 1
server_status (Ok ending.Read) = 1
server_status (Err why) = 1

-- the exit status of a job
abbrev pub status_of : Finish → ℕ
status_of (Ran ended) = run_status ended
status_of (Served end) = server_status end
status_of (Unreadable place) = 1
status_of Unlisted = 1
status_of Unwritable = 1

-- the exit status where there is no job
abbrev pub usage_status : Usage → ℕ
usage_status (Help text) = 0
usage_status (Wrong text) = 2
usage_status BadField = 2
usage_status NoPattern = 2
usage_status NoMemory = 1

-- what is said then: clap's text as it is
abbrev pub usage_said : Usage → List ℕ
usage_said (Help text) = string_bytes text
usage_said (Wrong text) = string_bytes text
usage_said BadField = error_line (codes "field not in this profile")
usage_said NoPattern = error_line (codes "no pattern")
usage_said NoMemory = error_line (codes "out of memory")

-- the whole text is on standard error, unless that has failed; then a prefix of it is
pub record Says (old new : Writer) (text : List ℕ) : Type 0 where
  pub whole : new.failed ≡ false → Appends old.bytes new.bytes text
  pub prefix : AppendsPrefix old.bytes new.bytes text
