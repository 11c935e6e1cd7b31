-- A tags file: from its first step to the last one.
use Rattle.std.proofs.Common.{◌≡◌, inl, inr, refl, subst, sym, List, [], ◌∷◌, ℕ}
use Rattle.std.proofs.Common.{Option, Some, None, true}
use Rattle.cb_lsp.specs.Documents.{Looked}
use Rattle.std.specs.Io.KnownBytes.{Appends}
use Rattle.cb_tags.specs.Writers.{Writer}
use Rattle.cb_tags.specs.Writing.{AppendsPrefix}
use Rattle.cb_words.specs.declared.job.Job.{Job}
use Rattle.cbrowse.specs.Files.{Disk, Does, Sight, Step, closes, creates, disk_over, opens}
use Rattle.cbrowse.specs.Files.{removes, renames}
use Rattle.cbrowse.specs.Messages.{files_of, force_of, tagsfile_of}
use Rattle.cb_session.specs.States.{State}
use Rattle.cb_tags.specs.Readers.{Reader}
use Rattle.cbrowse.specs.Program.{DoesFrom, DoesInto, file_text, writes_file}
use Rattle.cbrowse.specs.Tagsfile.{Begins, BeginsNone, MakesFile, Settles}
use Rattle.cbrowse.specs.Writes.{WritesFile, fresh}
use Rattle.cbrowse.specs.declared.execute.finish.Finish.{Finish}
use Rattle.cbrowse.specs.declared.execute.finish.Finish.TheVariants.{Ran, Served, Unreadable}
use Rattle.cbrowse.specs.declared.execute.finish.Finish.TheVariants.{Unlisted, Unwritable}

-- a step, and then others
pub step_on : {D : Type 0} (does : D → Step → D → Type 0) (old middle new : D) (step : Step)
    (steps : List Step) → Does does old (step ∷ []) middle → Does does middle steps new
    → Does does old (step ∷ steps) new
step_on does old middle new step steps first rest =
    (first.0, first.1, subst (λ d. Does does d steps new) first.2 rest)

-- none is begun
pub none_begun : (disk : Disk) (job : Job) (text : List ℕ) (end : Finish) → BeginsNone end
    → disk.done [] → MakesFile disk job text end
none_begun disk job text (Ran ended) is none = inl (is, none)
none_begun disk job text Unwritable is none = inl none
none_begun disk job text (Served how) is none = absurd is
none_begun disk job text (Unreadable place) is none = absurd is
none_begun disk job text Unlisted is none = absurd is

-- a text is written into a file that has taken nothing yet
pub from_fresh : (text : List ℕ) (held : Option (List ℕ)) (old new : Writer) (end : Finish)
    → old.bytes ≡ held → WritesFile text old new end → WritesFile text (fresh held) new end
from_fresh text held old new (Ran ended) same w =
    (w.0, (w.1.0, subst (λ b. Appends b new.bytes text) same w.1.1, w.1.2))
from_fresh text held old new Unwritable same w =
    (w.0, subst (λ b. AppendsPrefix b new.bytes text) same w.1)
from_fresh text held old new (Served how) same w = absurd w
from_fresh text held old new (Unreadable place) same w = absurd w
from_fresh text held old new Unlisted same w = absurd w

-- one is begun, written and settled
pub settled : {D : Type 0} (finds : D → Looked → Type 0) (shows : D → Sight → Type 0)
    (does : D → Step → D → Type 0) (old middle later new : D) (job : Job) (text : List ℕ)
    (draft : Option (List ℕ)) (held : Option (List ℕ)) (file : Writer) (end end' : Finish)
    → Begins (shows old) (λ steps. Does does old steps middle) (tagsfile_of job) (files_of job)
    (force_of job) draft
    → WritesFile text (fresh held) file end → Does does middle (closes file.bytes ∷ []) later
    → Settles (λ steps. Does does later steps new) (tagsfile_of job) draft end end'
    → MakesFile (disk_over finds shows does old new) job text end'
settled {D} finds shows does old middle later new job text None held file end end' begins writes
    closed settles =
    subst (MakesFile (disk_over finds shows does old new) job text) (sym settles.0) (go end writes)
  where
    name : List ℕ
    name = tagsfile_of job

    opened : Does does old (opens name ∷ closes file.bytes ∷ []) new
    opened =
        step_on does old middle new (opens name) (closes file.bytes ∷ []) begins.1
        (step_on does middle later new (closes file.bytes) [] closed settles.1)

    go : (e : Finish) → WritesFile text (fresh held) file e
        → MakesFile (disk_over finds shows does old new) job text e
    go (Ran ended) w = inr (w.0, (None, begins.0, (held, file, w.1, opened)))
    go Unwritable w = inr (None, begins.0, (held, file, w, opened))
    go (Served how) w = absurd w
    go (Unreadable place) w = absurd w
    go Unlisted w = absurd w
settled {D} finds shows does old middle later new job text (Some draft) held file end end' begins
    writes closed settles = go settles
  where
    name : List ℕ
    name = tagsfile_of job

    on : (steps : List Step) → Does does later steps new
        → Does does old (creates draft ∷ closes file.bytes ∷ steps) new
    on steps rest =
        step_on does old middle new (creates draft) (closes file.bytes ∷ steps) begins.1
        (step_on does middle later new (closes file.bytes) steps closed rest)

    go : Settles (λ steps. Does does later steps new) name (Some draft) end end'
        → MakesFile (disk_over finds shows does old new) job text end'
    go (inl (whole, is, took)) =
        subst (MakesFile (disk_over finds shows does old new) job text) (sym is)
        (inr (
          refl,
          (
            Some draft,
            begins.0,
            (
              held,
              file,
              (subst (WritesFile text (fresh held) file) whole writes).1,
              on (renames draft name ∷ []) took,
            ),
          ),
        ))
    go (inr (is, inl gone)) =
        subst (MakesFile (disk_over finds shows does old new) job text) (sym is)
        (inr (Some draft, begins.0, (file.bytes, inl (on (removes draft ∷ []) gone))))
    go (inr (is, inr stays)) =
        subst (MakesFile (disk_over finds shows does old new) job text) (sym is)
        (inr (Some draft, begins.0, (file.bytes, inr (on [] stays))))

-- the same, as a job asks for it
pub into_file : (disk : Disk) (s : State) (job : Job) (feed feed' : Reader) (out : Writer)
    (end : Finish) → writes_file job ≡ true
    → MakesFile disk job (file_text job s.timeline.present) end → feed' ≡ feed
    → DoesFrom disk s job feed feed' out out end
into_file disk s job feed feed' out end writes makes same =
    subst (λ b. DoesInto disk b s job feed feed' out out end) (sym writes) (makes, (same, refl))
