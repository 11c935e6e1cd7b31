-- A job over files: from the loads to what is done.
use Rattle.std.proofs.Common.{arith, ◌≡◌, ◌∙◌, ◌<◌, ◌++◌, ap, length, string_bytes, take, String}
use Rattle.std.proofs.Common.{subst, sym, refl, inl, inr, ℕ, Bool, true, false, List, [], ◌∷◌, map}
use Rattle.std.proofs.Common.{Result, Ok, Err}
use Rattle.std.specs.List.{AllByRecursion, slice_index_or}
use Rattle.std.proofs.Math.ListN.{get_or}
use Rattle.std.proofs.lemmas.List.{get_or-map, length-map, take-map}
use Rattle.std.specs.Global.{Global}
use Rattle.cb_scan.specs.declared.profile.Profile.{Profile}
use Rattle.cb_desk.specs.Timeline.{new_timeline}
use Rattle.cb_desk.specs.World.{World, WorldBounds}
use Rattle.cb_lsp.specs.Documents.{Looked}
use Rattle.cb_session.specs.declared.input.Ended.{Ended}
use Rattle.cb_session.specs.declared.input.Ended.TheVariants.{Done, Cut, Fault}
use Rattle.cb_session.specs.declared.input.Ended.TheVariants.{Operand as StoppedAt}
use Rattle.cb_session.specs.declared.state.Operand.{Operand}
use Rattle.cb_tags.specs.Readers.{Reader}
use Rattle.cb_session.specs.Operands.{LoadsAll, Prepares, RefusedOperand, file_of_operand}
use Rattle.cb_session.specs.States.{State}
use Rattle.cb_tags.specs.Writers.{Writer}
use Rattle.cbrowse.specs.declared.execute.finish.Finish.{Finish}
use Rattle.cbrowse.specs.declared.execute.finish.Finish.TheVariants.{Ran, Served, Unreadable}
use Rattle.cbrowse.specs.declared.execute.finish.Finish.TheVariants.{Unlisted, Unwritable}
use Rattle.cb_words.specs.declared.job.Job.{Job}
use Rattle.cb_words.specs.declared.job.Job.TheVariants.{Line, Find, Tags, Lsp}
use Rattle.cbrowse.specs.Messages.{bounds_of, files_of, most_line_bytes}
use Rattle.cbrowse.specs.Needs.{needed_of}
use Rattle.cbrowse.specs.Files.{Disk, IsFound, IsUnreadable}
use Rattle.cbrowse.specs.Program.{AreFound, DoesFrom, DoesInto, DoesJob, DoesLoaded, FindsFirst}
use Rattle.cbrowse.specs.Program.{Reaches, StopsAt, StopsReading, Works, file_text, most_lines}
use Rattle.cbrowse.specs.Program.{files_named, most_read, names_of, writes_file}
use Rattle.cbrowse.specs.Tagsfile.{MakesFile}
use Rattle.cbrowse.proofs.Narrowing.{does_meant, kept_by_loads, loads_meant, meant, meant_end}
use Rattle.cbrowse.proofs.Narrowing.{text_meant}

-- the operands of a job are as they were found, and then under their names
abbrev pub AreNamed : Job → (ops named : List Operand) → Type 0
AreNamed job ops named =
    map file_of_operand named ≡ files_named job (map file_of_operand ops)

-- operands under the paths of a job's files that were found are these files, and the loads of the
-- same under their names lead to where those by all facts would lead
pub reaches : (disk : Disk) (job : Job) (ops its : List Operand) (b : WorldBounds) (p : Profile)
    (end : Result State RefusedOperand) → b ≡ bounds_of job → p ≡ needed_of job
    → names_of ops ≡ files_of job → AreFound disk.finds (most_read b) ops → AreNamed job ops its
    → LoadsAll p b (map file_of_operand its) end → Reaches disk job (meant_end job end)
reaches disk job ops its b p end same alike named found given loads = (
  map file_of_operand ops,
  names ops ∙ named,
  are (most_read (bounds_of job)) ops
      (subst (λ x. AreFound disk.finds (most_read x) ops) same found),
  loads_meant job (bounds_of job) (files_named job (map file_of_operand ops)) end
      (subst (λ q. LoadsAll q (bounds_of job) (files_named job (map file_of_operand ops)) end)
      alike (subst (λ x. LoadsAll p x (files_named job (map file_of_operand ops)) end) same
      (subst (λ files. LoadsAll p b files end) given loads))),
)
  where
    names : (os : List Operand)
        → map (λ f. f.name) (map file_of_operand os) ≡ map (λ o. o.name.items) os
    names [] = refl
    names (o ∷ os) = ap (λ ns. o.name.items ∷ ns) (names os)

    are : (most : ℕ) (os : List Operand) → AreFound disk.finds most os
        → AllByRecursion (IsFound disk.finds most) (map file_of_operand os)
    are most [] all = tt
    are most (o ∷ os) all = (all.0, are most os all.1)

-- what was loaded has the profile of the loads
pub by_needed : (job : Job) (ops : List Operand) (b : WorldBounds) (p : Profile) (s : State)
    → p ≡ needed_of job → LoadsAll p b (map file_of_operand ops) (Ok s)
    → s.timeline.present.profile ≡ needed_of job
by_needed job ops b p s alike loads =
    kept_by_loads (λ (w : World). w.profile) (λ w name bytes. refl) 0 (new_timeline p b) s.timeline
    (map file_of_operand ops) (Ok s.timeline) refl loads.0
    ∙ alike

-- and the bounds of the loads
pub within_bounds : (job : Job) (ops : List Operand) (b : WorldBounds) (p : Profile) (s : State)
    → b ≡ bounds_of job → LoadsAll p b (map file_of_operand ops) (Ok s)
    → s.timeline.present.bounds ≡ bounds_of job
within_bounds job ops b p s same loads =
    kept_by_loads (λ (w : World). w.bounds) (λ w name bytes. refl) 0 (new_timeline p b) s.timeline
    (map file_of_operand ops) (Ok s.timeline) refl loads.0
    ∙ same

-- an operand was refused
pub stopped : (disk : Disk) (job : Job) (ops its : List Operand) (b : WorldBounds) (p : Profile)
    (feed : Reader) (out : Writer) (ended : Ended) → b ≡ bounds_of job → p ≡ needed_of job
    → names_of ops ≡ files_of job → AreFound disk.finds (most_read b) ops → AreNamed job ops its
    → Prepares p b (map file_of_operand its) (Err ended) → disk.done []
    → (end : Result State RefusedOperand) × Reaches disk job end
    × DoesLoaded disk job end feed feed out out ended
stopped disk job ops its b p feed out (StoppedAt place why) same alike named found given at none = (
  Err (record { place = place; why = why }),
  reaches disk job ops its b p (Err (record { place = place; why = why })) same alike named found
      given at,
  (refl, (refl, refl), none),
)
stopped disk job ops its b p feed out Done same alike named found given at none = absurd at
stopped disk job ops its b p feed out Cut same alike named found given at none = absurd at
stopped disk job ops its b p feed out (Fault fault) same alike named found given at none = absurd at

goes : (disk : Disk) (job : Job) (t : State) (feed feed' : Reader) (out : Writer) (f : Finish)
    → writes_file job ≡ true → Reaches disk job (Ok t)
    → MakesFile disk job (file_text job t.timeline.present) f → feed' ≡ feed
    → Works disk job feed feed' out out f
goes disk job t feed feed' out (Ran ended) writes reached makes same =
    inr (
      Ok t,
      reached,
      subst (λ b. DoesInto disk b t job feed feed' out out (Ran ended)) (sym writes)
          (makes, (same, refl)),
    )
goes disk job t feed feed' out Unwritable writes reached makes same =
    (writes, (t, reached, makes), (same, refl))
goes disk job t feed feed' out (Served end) writes reached makes same = absurd makes
goes disk job t feed feed' out (Unreadable place) writes reached makes same = absurd makes
goes disk job t feed feed' out Unlisted writes reached makes same = absurd makes

-- a job that is done has run
abbrev HasRun : Finish → Type 0
HasRun (Ran ended) = Unit {0}
HasRun (Served end) = Unit {0}
HasRun (Unreadable place) = ⊥
HasRun Unlisted = ⊥
HasRun Unwritable = ⊥

has_run : (finds : Looked → Type 0) (job : Job) (lines limit : ℕ) (t : State) (feed feed' : Reader)
    (out out' : Writer) (end : Finish) → DoesJob finds job lines limit t feed feed' out out' end → HasRun end
has_run finds job lines limit t feed feed' out out' (Ran ended) does = tt
has_run finds job lines limit t feed feed' out out' (Served end) does = tt
has_run finds (Line bounds rules list files) lines limit t feed feed' out out' (Unreadable place) does =
    does
has_run finds (Find bounds rules field pattern list files) lines limit t feed feed' out out' (Unreadable place) does =
    does
has_run finds (Tags bounds rules listing tagsfile force format list files) lines limit t feed feed' out out' (Unreadable place) does =
    does
has_run finds (Lsp bounds rules root list files) lines limit t feed feed' out out' (Unreadable place) does =
    does
has_run finds (Line bounds rules list files) lines limit t feed feed' out out' Unlisted does =
    does
has_run finds (Find bounds rules field pattern list files) lines limit t feed feed' out out' Unlisted does =
    does
has_run finds (Tags bounds rules listing tagsfile force format list files) lines limit t feed feed' out out' Unlisted does =
    does
has_run finds (Lsp bounds rules root list files) lines limit t feed feed' out out' Unlisted does =
    does
has_run finds (Line bounds rules list files) lines limit t feed feed' out out' Unwritable does =
    does
has_run finds (Find bounds rules field pattern list files) lines limit t feed feed' out out' Unwritable does =
    does
has_run finds (Tags bounds rules listing tagsfile force format list files) lines limit t feed feed' out out' Unwritable does =
    does
has_run finds (Lsp bounds rules root list files) lines limit t feed feed' out out' Unwritable does =
    does

-- a job from where the loads of its operands lead
pub from_loads : (disk : Disk) (job : Job) (ops its : List Operand) (b : WorldBounds) (p : Profile)
    (s : State) (feed feed' : Reader) (out out' : Writer) (end : Finish)
    → b ≡ bounds_of job → p ≡ needed_of job → names_of ops ≡ files_of job
    → AreFound disk.finds (most_read b) ops → AreNamed job ops its
    → LoadsAll p b (map file_of_operand its) (Ok s)
    → DoesFrom disk s job feed feed' out out' end → Works disk job feed feed' out out' end
from_loads disk job ops its b p s feed feed' out out' end same alike named found given loads does =
    by (writes_file job) refl does
  where
    t : State
    t = meant job s

    reached : Reaches disk job (Ok t)
    reached = reaches disk job ops its b p (Ok s) same alike named found given loads

    kept : s.timeline.present.profile ≡ needed_of job
    kept = by_needed job its b p s alike loads

    go : (e : Finish) → HasRun e → DoesFrom disk t job feed feed' out out' e
        → Works disk job feed feed' out out' e
    go (Ran ended) ran from = inr (Ok t, reached, from)
    go (Served how) ran from = (t, reached, from)
    go (Unreadable place) ran from = absurd ran
    go Unlisted ran from = absurd ran
    go Unwritable ran from = absurd ran

    by : (into : Bool) → writes_file job ≡ into
        → DoesInto disk into s job feed feed' out out' end → Works disk job feed feed' out out' end
    by true writes (makes, (left, alone)) =
        subst (λ o. Works disk job feed feed' out o end) (sym alone)
        (goes disk job t feed feed' out end writes reached
        (subst (λ text. MakesFile disk job text end) (text_meant job s kept) makes) left)
    by false writes (does, none) =
        go end (has_run disk.finds job most_lines (most_line_bytes (bounds_of job)) s feed feed'
        out out' end does)
        (subst (λ x. DoesInto disk x t job feed feed' out out' end) (sym writes) (
          does_meant disk.finds job most_lines (most_line_bytes (bounds_of job)) s feed feed' out
              out' end kept does,
          none,
        ))

-- one more was found
pub found_more : (finds : Looked → Type 0) (most : ℕ) (os : List Operand) (o : Operand)
    → AreFound finds most os → IsFound finds most (file_of_operand o)
    → AreFound finds most (os ++ o ∷ [])
found_more finds most [] o all is = (is, tt)
found_more finds most (x ∷ os) o all is = (all.0, found_more finds most os o all.1 is)

-- a file ends the reading, after those that were read
pub stops_at : (finds : Looked → Type 0) (most : ℕ) (files : List (String Global))
    (ops : List Operand) (item : String Global) (name : List ℕ) (idx place : ℕ) (end : Finish)
    → place ≡ idx → idx < length files → item ≡ get_or files idx item → name ≡ string_bytes item
    → names_of ops ≡ map string_bytes (take idx files) → AreFound finds most ops
    → StopsAt finds most name place end → StopsReading finds most (map string_bytes files) end
stops_at finds most files ops item name idx place (Ran ended) at within is named read found stops =
    stops
stops_at finds most files ops item name idx place (Unreadable n) at within is named read found
    stops = (
      omega (arith, stops.0, at, within, length-map files string_bytes),
      subst (IsUnreadable finds most)
          (named ∙ ap string_bytes is ∙ sym (get_or-map string_bytes files idx item [] within)
          ∙ ap (λ k. slice_index_or (map string_bytes files) k []) (sym (stops.0 ∙ at))) stops.1,
      (
        ops,
        read ∙ sym (take-map string_bytes idx files)
            ∙ ap (λ k. take k (map string_bytes files)) (sym (stops.0 ∙ at)),
        found,
      ),
    )
stops_at finds most files ops item name idx place (Served how) at within is named read found stops =
    absurd stops
stops_at finds most files ops item name idx place Unlisted at within is named read found stops =
    absurd stops
stops_at finds most files ops item name idx place Unwritable at within is named read found stops =
    absurd stops

-- and then nothing is done
pub stops : (disk : Disk) (job : Job) (b : WorldBounds) (files : List (List ℕ)) (feed : Reader)
    (out : Writer) (end : Finish) → b ≡ bounds_of job → files ≡ files_of job
    → StopsReading disk.finds (most_read b) files end → disk.done []
    → Works disk job feed feed out out end
stops disk job b files feed out (Ran ended) same named is none = inl (is, (refl, refl), none)
stops disk job b files feed out (Unreadable place) same named is none = (
  subst (λ x. FindsFirst disk.finds (most_read x) (files_of job) place) same
      (subst (λ fs. FindsFirst disk.finds (most_read b) fs place) named is),
  (refl, refl),
  none,
)
stops disk job b files feed out (Served how) same named is none = absurd is
stops disk job b files feed out Unlisted same named is none = absurd is
stops disk job b files feed out Unwritable same named is none = absurd is
