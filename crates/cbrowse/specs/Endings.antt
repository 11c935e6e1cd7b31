-- What a run of the program leaves: the promise of `execute`.
use Rattle.std.specs.Prelude.{◌≡◌, ◌⊎◌, ℕ, false, List, [], Option, Result, Ok, Err, String, map}
use Rattle.std.specs.Prelude.{string_bytes}
use Rattle.std.specs.Global.{Global}
use Rattle.std.specs.Vec.Iter.{into_iter_items}
use Rattle.std.specs.declared.io.Error.{Error}
use Rattle.std.specs.declared.vec.IntoIter.{IntoIter}
use Rattle.std.specs.declared.vec.Vec.{Vec}
use Rattle.clap.specs.Words.{subcommand_of}
use Rattle.cb_tags.specs.Readers.{Reader}
use Rattle.cb_tags.specs.declared.feed.Stage.TheVariants.{Open}
use Rattle.cb_tags.specs.Writers.{Writer}
use Rattle.cbrowse.specs.declared.execute.finish.Finish.{Finish}
use Rattle.cb_words.specs.declared.job.Job.{Job}
use Rattle.cb_words.specs.declared.job.Usage.{Usage}
use Rattle.cb_words.specs.declared.job.Usage.TheVariants.{Memory}
use Rattle.cb_words.specs.Jobs.{browse_app, IsJobOf}
use Rattle.cbrowse.specs.Files.{Disk}
use Rattle.cbrowse.specs.Messages.{Says, said_of, status_of, usage_said, usage_status}
use Rattle.cbrowse.specs.Lists.{WorksListed}
use Rattle.cbrowse.specs.Program.{LeavesAlone}
use Rattle.cb_words.specs.Usages.{IsUsageOf, IsWordFault}

-- the job of the words is done, with the names in its list, and the exit status and standard error
-- tell how it ended
abbrev pub EndsJob : Disk → List (List ℕ) → ℕ → Reader → Reader → Writer → Writer → Writer → Writer
    → Type 0
EndsJob disk words status feed feed' out out' errors errors' =
    (asked job : Job) × (end : Finish)
    × IsJobOf (subcommand_of browse_app words) asked
    × WorksListed disk asked job feed feed' out out' end
    × (status ≡ status_of end) × Says errors errors' (said_of job end)

-- there is no job: nothing is done, and the exit status and standard error tell why
abbrev pub EndsNone : Disk → Usage → ℕ → Reader → Reader → Writer → Writer → Writer → Writer
    → Type 0
EndsNone disk usage status feed feed' out out' errors errors' =
    LeavesAlone feed feed' out out' × disk.done []
    × (status ≡ usage_status usage) × Says errors errors' (usage_said usage)

-- the words give no job
abbrev pub EndsUsage : Disk → List (List ℕ) → ℕ → Reader → Reader → Writer → Writer → Writer
    → Writer → Type 0
EndsUsage disk words status feed feed' out out' errors errors' =
    (usage : Usage) × IsUsageOf words usage
    × EndsNone disk usage status feed feed' out out' errors errors'

-- all words of a process are taken; or there are none, which is told, or memory was refused
abbrev pub TakesWords : Result (IntoIter (String Global) Global) Error
    → Result (Vec (String Global) Global) Usage → Type 0
TakesWords (Ok given) (Ok words) = words.items ≡ into_iter_items given
TakesWords (Err error) (Ok words) = ⊥
TakesWords (Ok given) (Err usage) = usage ≡ Memory
TakesWords (Err error) (Err usage) = IsWordFault usage

-- the words of a process are taken, all of them; or they are not there
abbrev pub EndsProcess : Disk → Result (IntoIter (String Global) Global) Error → ℕ
    → Reader → Reader → Writer → Writer → Writer → Writer → Type 0
EndsProcess disk (Ok given) status feed feed' out out' errors errors' =
    EndsJob disk (map string_bytes (into_iter_items given)) status feed feed' out out'
    errors errors'
    ⊎ EndsUsage disk (map string_bytes (into_iter_items given)) status feed feed' out out'
    errors errors'
EndsProcess disk (Err error) status feed feed' out out' errors errors' =
    (usage : Usage) × IsWordFault usage
    × EndsNone disk usage status feed feed' out out' errors errors'

-- a process has run over an input that is open, of which this is left, and an output that has not
-- failed, which has this; or memory was refused for the buffers of these, and nothing is done
abbrev pub EndsRun : Disk → Result (IntoIter (String Global) Global) Error
    → (input output : Option (List ℕ)) → ℕ → Writer → Writer → Type 0
EndsRun disk words input output status errors errors' =
    ((feed feed' : Reader) × (out out' : Writer)
    × ((feed.stage ≡ Open) × (feed.bytes ≡ input))
    × ((out.failed ≡ false) × (out.bytes ≡ output))
    × EndsProcess disk words status feed feed' out out' errors errors')
    ⊎ (disk.done [] × (status ≡ usage_status Memory) × Says errors errors' (usage_said Memory))
