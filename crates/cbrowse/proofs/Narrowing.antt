-- Loads by a profile that seeks only what a job reads lead to where those by all facts lead, and
-- the job gives the same there.
use Rattle.std.proofs.Common.{◌≡◌, ◌∙◌, ℕ, ◌+◌, Bool, true, false, List, [], ◌∷◌, length, map}
use Rattle.std.proofs.Common.{Some, None, Result, Ok, Err, IsOk, refl, ap, sym, subst, string_bytes}
use Rattle.std.proofs.lemmas.List.{length-map}
use Rattle.std.specs.Prelude.{nat_le, cond}
use Rattle.std.specs.List.{flat_map}
use Rattle.cb_scan.specs.declared.profile.Profile.{Profile}
use Rattle.cb_scan.specs.declared.profile.Rules.{Rules}
use Rattle.cb_scan.specs.Profiles.{all_by}
use Rattle.cb_desk.specs.Answer.{answer, distinct, field_rows}
use Rattle.cb_desk.specs.Files.{load_refusal, loaded}
use Rattle.cb_desk.specs.Step.{load, step, unless_refused}
use Rattle.cb_desk.specs.Tags.{tags}
use Rattle.cb_desk.specs.Timeline.{Timeline, advanced, changed, moved_on}
use Rattle.cb_desk.specs.World.{File, World, WorldBounds}
use Rattle.cb_desk.specs.declared.change.Refusal.{Refusal}
use Rattle.cb_desk.specs.declared.change.Refusal.TheVariants.{HistoryFull}
use Rattle.cb_desk.specs.declared.rows.Field.{Field}
use Rattle.cb_desk.specs.declared.rows.Field.TheVariants.{Symbol, Definition, Called, Calling}
use Rattle.cb_desk.specs.declared.rows.Field.TheVariants.{Text, File as FileName, Including}
use Rattle.cb_desk.specs.declared.rows.Format.{Format}
use Rattle.cb_session.specs.Operands.{Loads, LoadsAll, RefusedOperand, all_loaded, first_loaded}
use Rattle.cb_session.specs.Operands.{first_refused, memory_refused}
use Rattle.cb_session.specs.Output.{row_line}
use Rattle.cb_session.specs.States.{State}
use Rattle.cb_tags.specs.Readers.{Reader}
use Rattle.cb_tags.specs.Writers.{Writer}
use Rattle.cbrowse.specs.declared.execute.finish.Finish.{Finish}
use Rattle.cbrowse.specs.declared.execute.finish.Finish.TheVariants.{Ran, Served, Unreadable}
use Rattle.cbrowse.specs.declared.execute.finish.Finish.TheVariants.{Unlisted, Unwritable}
use Rattle.cb_words.specs.declared.job.Job.{Job}
use Rattle.cb_words.specs.declared.job.Job.TheVariants.{Line, Find, Tags, Lsp}
use Rattle.cb_lsp.specs.Documents.{Looked}
use Rattle.cbrowse.specs.Messages.{profile_of}
use Rattle.cbrowse.specs.Needs.{asked_by, needed_of, only}
use Rattle.cbrowse.specs.Program.{DoesJob, file_text, output_format, output_text}
use Rattle.cbrowse.specs.Writes.{WritesText}
use Rattle.cbrowse.specs.Program.{tags_output}

-- ---- worlds by another profile

abbrev world_by : Profile → World → World
world_by p w = record w { profile = p }

abbrev timeline_by : Profile → Timeline → Timeline
timeline_by p t = record {
  past = map (world_by p) t.past;
  present = world_by p t.present;
  future = map (world_by p) t.future;
}

abbrev result_by : Profile → Result Timeline Refusal → Result Timeline Refusal
result_by p (Ok t) = Ok (timeline_by p t)
result_by p (Err r) = Err r

abbrev end_by : Profile → Result Timeline RefusedOperand → Result Timeline RefusedOperand
end_by p (Ok t) = Ok (timeline_by p t)
end_by p (Err stop) = Err stop

module _ (p : Profile) (t : Timeline) (name bytes : List ℕ) where
  abbrev next : World
  next = loaded t.present name bytes

  -- whether the history is full is the same
  advanced_by : advanced (timeline_by p t) (Ok (world_by p next))
      ≡ result_by p (advanced t (Ok next))
  advanced_by =
      ap (λ n. cond (nat_le t.present.bounds.history n) (Err HistoryFull)
      (Ok (moved_on (timeline_by p t) (world_by p next))))
      (length-map t.past (world_by p))
      ∙ elim (nat_le t.present.bounds.history (length t.past)) as (λ full.
      cond full (Err HistoryFull) (Ok (moved_on (timeline_by p t) (world_by p next)))
      ≡ result_by p (cond full (Err HistoryFull) (Ok (moved_on t next))))
      [ true ↦ refl | false ↦ refl ]

  loaded_by : changed (timeline_by p t) (load name bytes)
      ≡ result_by p (changed t (load name bytes))
  unfolding changed step
  loaded_by =
      elim (load_refusal t.present name bytes) as (λ o.
      advanced (timeline_by p t) (unless_refused o (world_by p next))
      ≡ result_by p (advanced t (unless_refused o next)))
      [ None ↦ advanced_by | Some r ↦ refl ]

-- loads by a profile are the same loads by another
pub loads_by : (p : Profile) (place : ℕ) (t : Timeline) (fs : List File)
    (end : Result Timeline RefusedOperand) → Loads place t fs end
    → Loads place (timeline_by p t) fs (end_by p end)
loads_by p place t [] end all_loaded = all_loaded
loads_by p place t (f ∷ fs) end (first_loaded {u = u} made rest) =
    first_loaded (loaded_by p t f.name f.bytes ∙ ap (result_by p) made)
    (loads_by p (place + 1) u fs end rest)
loads_by p place t (f ∷ fs) end (first_refused why) =
    first_refused (loaded_by p t f.name f.bytes ∙ ap (result_by p) why)
loads_by p place t (f ∷ fs) end (memory_refused would) =
    memory_refused (subst IsOk (sym (loaded_by p t f.name f.bytes))
    (still (changed t (load f.name f.bytes)) would))
  where
    still : (r : Result Timeline Refusal) → IsOk r → IsOk (result_by p r)
    still (Ok u) is = is
    still (Err e) is = is

-- loads keep what does not depend on the files of a world, as its profile and its bounds
module _ {X : Type 0} (part : World → X)
    (keeps : (w : World) (name bytes : List ℕ) → part (loaded w name bytes) ≡ part w) where
  kept_by_load : (t u : Timeline) (name bytes : List ℕ) → changed t (load name bytes) ≡ Ok u
      → part u.present ≡ part t.present
  unfolding changed step
  kept_by_load t u name bytes made =
      (elim (load_refusal t.present name bytes) as (λ o.
      advanced t (unless_refused o (loaded t.present name bytes)) ≡ Ok u
      → part u.present ≡ part t.present) [
        | Some r ↦ λ is. cc
        | None ↦ elim (nat_le t.present.bounds.history (length t.past)) as (λ full.
            cond full (Err HistoryFull) (Ok (moved_on t (loaded t.present name bytes))) ≡ Ok u
            → part u.present ≡ part t.present) [
              | true ↦ λ is. cc
              | false ↦ λ is.
                  let same : moved_on t (loaded t.present name bytes) ≡ u = cc in
                  sym (ap (λ (v : Timeline). part v.present) same) ∙ keeps t.present name bytes
            ]
      ]) made

  pub kept_by_loads : (place : ℕ) (t u : Timeline) (fs : List File)
      (end : Result Timeline RefusedOperand) → end ≡ Ok u → Loads place t fs end
      → part u.present ≡ part t.present
  kept_by_loads place t u [] end is all_loaded =
      let same : t ≡ u = cc in sym (ap (λ (v : Timeline). part v.present) same)
  kept_by_loads place t u (f ∷ fs) end is (first_loaded {u = v} made rest) =
      kept_by_loads (place + 1) v u fs end is rest ∙ kept_by_load t v f.name f.bytes made
  kept_by_loads place t u (f ∷ fs) end is (first_refused why) = cc
  kept_by_loads place t u (f ∷ fs) end is (memory_refused would) = cc

-- ---- what a job gives

-- a field reads no other facts than those that it asks for
rows_by : (rules : Rules) (field : Field) (pattern : List ℕ) (f : File)
    → field_rows (record { rules = rules; wanted = asked_by field }) field pattern f
    ≡ field_rows (all_by rules) field pattern f
rows_by rules Symbol pattern f = refl
rows_by rules Definition pattern f = refl
rows_by rules Called pattern f = refl
rows_by rules Calling pattern f = refl
rows_by rules Text pattern f = refl
rows_by rules FileName pattern f = refl
rows_by rules Including pattern f = refl

answer_by : (rules : Rules) (field : Field) (pattern : List ℕ) (w : World)
    → w.profile ≡ record { rules = rules; wanted = asked_by field }
    → answer w field pattern ≡ answer (world_by (all_by rules) w) field pattern
answer_by rules field pattern w is =
    ap (λ p. distinct (flat_map (field_rows p field pattern) w.files)) is
    ∙ (λ i. distinct (flat_map (λ f. rows_by rules field pattern f i) w.files))

-- the tags are definitions
tags_alike : (rules : Rules) (by : Format) (w : World)
    → tags by (world_by (record { rules = rules; wanted = only true false false false }) w)
    ≡ tags by (world_by (all_by rules) w)
unfolding tags
tags_alike rules by w = refl

tags_by : (rules : Rules) (listing : Bool) (format : Format) (w : World)
    → w.profile ≡ record { rules = rules; wanted = only true false false false }
    → tags_output listing format w ≡ tags_output listing format (world_by (all_by rules) w)
tags_by rules listing format w is =
    ap (λ p. tags_output listing format (world_by p w)) is
    ∙ ap (output_text listing format) (tags_alike rules (output_format listing format) w)

-- where the loads by all facts lead, for a job that needs not all of them
abbrev pub meant : Job → State → State
meant (Line bounds rules list files) s = s
meant (Find bounds rules field pattern list files) s =
    record s { timeline = timeline_by (all_by rules) s.timeline }
meant (Tags bounds rules listing tagsfile force format list files) s =
    record s { timeline = timeline_by (all_by rules) s.timeline }
meant (Lsp bounds rules root list files) s = s

abbrev pub meant_end : Job → Result State RefusedOperand → Result State RefusedOperand
meant_end job (Ok s) = Ok (meant job s)
meant_end job (Err stop) = Err stop

pub loads_meant : (job : Job) (b : WorldBounds) (fs : List File)
    (end : Result State RefusedOperand) → LoadsAll (needed_of job) b fs end
    → LoadsAll (profile_of job) b fs (meant_end job end)
loads_meant (Line bounds rules list files) b fs (Ok s) loads = loads
loads_meant (Line bounds rules list files) b fs (Err stop) loads = loads
loads_meant (Find bounds rules field pattern list files) b fs (Ok s) loads =
    (loads_by (all_by rules) 0 _ fs _ loads.0, loads.1, loads.2)
loads_meant (Find bounds rules field pattern list files) b fs (Err stop) loads =
    loads_by (all_by rules) 0 _ fs _ loads
loads_meant (Tags bounds rules listing tagsfile force format list files) b fs (Ok s) loads =
    (loads_by (all_by rules) 0 _ fs _ loads.0, loads.1, loads.2)
loads_meant (Tags bounds rules listing tagsfile force format list files) b fs (Err stop) loads =
    loads_by (all_by rules) 0 _ fs _ loads
loads_meant (Lsp bounds rules root list files) b fs (Ok s) loads = loads
loads_meant (Lsp bounds rules root list files) b fs (Err stop) loads = loads

pub text_meant : (job : Job) (s : State) → s.timeline.present.profile ≡ needed_of job
    → file_text job s.timeline.present ≡ file_text job (meant job s).timeline.present
text_meant (Line bounds rules list files) s by = refl
text_meant (Find bounds rules field pattern list files) s by = refl
text_meant (Tags bounds rules listing tagsfile force format list files) s by =
    tags_by rules listing format s.timeline.present by
text_meant (Lsp bounds rules root list files) s by = refl

pub does_meant : (finds : Looked → Type 0) (job : Job) (lines limit : ℕ) (s : State)
    (feed feed' : Reader) (old new : Writer) (end : Finish) → s.timeline.present.profile ≡ needed_of job
    → DoesJob finds job lines limit s feed feed' old new end
    → DoesJob finds job lines limit (meant job s) feed feed' old new end
does_meant finds (Line bounds rules list files) lines limit s feed feed' old new end by does = does
does_meant finds (Find bounds rules field pattern list files) lines limit s feed feed' old new (Ran ended)
    by does = (
      does.0,
      subst (λ rows. WritesText (flat_map row_line rows) old new ended)
          (answer_by rules field (string_bytes pattern) s.timeline.present by) does.1,
    )
does_meant finds (Find bounds rules field pattern list files) lines limit s feed feed' old new (Served end)
    by does = absurd does
does_meant finds (Find bounds rules field pattern list files) lines limit s feed feed' old new (Unreadable place)
    by does = absurd does
does_meant finds (Find bounds rules field pattern list files) lines limit s feed feed' old new Unlisted
    by does = absurd does
does_meant finds (Find bounds rules field pattern list files) lines limit s feed feed' old new Unwritable
    by does = absurd does
does_meant finds (Tags bounds rules listing tagsfile force format list files) lines limit s feed feed' old new
    (Ran ended) by does = (
      does.0,
      subst (λ text. WritesText text old new ended)
          (tags_by rules listing format s.timeline.present by) does.1,
    )
does_meant finds (Tags bounds rules listing tagsfile force format list files) lines limit s feed feed' old new
    (Served end) by does = absurd does
does_meant finds (Tags bounds rules listing tagsfile force format list files) lines limit s feed feed' old new
    (Unreadable place) by does = absurd does
does_meant finds (Tags bounds rules listing tagsfile force format list files) lines limit s feed feed' old new
    Unlisted by does = absurd does
does_meant finds (Tags bounds rules listing tagsfile force format list files) lines limit s feed feed' old new
    Unwritable by does = absurd does
does_meant finds (Lsp bounds rules root list files) lines limit s feed feed' old new end by does = does
