-- For how much there has to be room.
use Rattle.std.specs.Prelude.{◌≡◌, ◌≤◌, ◌<◌, ◌+◌, ◌^◌, ℕ, List, [], ◌++◌, length, take}
use Rattle.cb_scan.specs.declared.profile.Profile.{Profile}
use Rattle.cb_scan.specs.TextFacts.{TextFacts}
use Rattle.cb_index.specs.Archived.{Archived}
use Rattle.cb_index.specs.Files.{call_count, def_count, total, use_count}
use Rattle.cb_index.specs.declared.entry.Shown.{Shown}
use Rattle.cb_index.specs.declared.shelf.Room.{Room}
use Rattle.cb_index.specs.declared.totals.Totals.{Totals}
use Rattle.cb_desk.specs.steps.Plans.{Planned}
use Rattle.cb_desk.specs.steps.Records.{Kept}

-- an archive of these texts, by a profile
abbrev pub with_texts : Profile → List (List ℕ) → Archived
with_texts profile texts =
    record { profile = profile; names = []; texts = texts; name_room = 0; version_room = 0 }

-- how many facts versions of an archive have, and how many there are with those of totals
abbrev pub fact_count : Archived → List Shown → ℕ
fact_count a shown = total def_count a shown + total use_count a shown + total call_count a shown

abbrev pub facts_with : Totals → ℕ → ℕ
facts_with before more = before.defs + before.uses + before.calls + more

-- totals with the facts of one version more
pub record AreMore (facts : TextFacts) (before after : Totals) : Type 0 where
  pub defs : after.defs ≡ before.defs + length facts.defs
  pub uses : after.uses ≡ before.uses + length facts.uses
  pub calls : after.calls ≡ before.calls + length facts.calls

-- together they are no number of 64 bits
abbrev pub AreTooMany : TextFacts → Totals → Type 0
AreTooMany facts before =
    2 ^ 64
    ≤ facts_with before (length facts.defs + length facts.uses + length facts.calls)

-- totals with the facts of some versions more
pub record AreCounted (a : Archived) (shown : List Shown) (before after : Totals) : Type 0 where
  pub defs : after.defs ≡ before.defs + total def_count a shown
  pub uses : after.uses ≡ before.uses + total use_count a shown
  pub calls : after.calls ≡ before.calls + total call_count a shown

-- the texts that the present world and a plan use
abbrev pub texts_with : Kept → Planned → List (List ℕ)
texts_with k p = take k.now.versions k.archive.texts ++ p.texts

-- an archive of these
abbrev pub archive_with : Kept → Planned → Archived
archive_with k p = with_texts k.archive.profile (texts_with k p)

-- room for what a plan brings, for all that is shown now, and for all that it shows
pub record IsRoomFor (k : Kept) (p : Planned) (r : Room) : Type 0 where
  pub names : r.names ≡ k.now.names + length p.names
  pub versions : r.versions ≡ k.now.versions + length p.texts
  pub entries : r.entries ≡ length k.now.shown + length p.turn.shows
  pub defs : r.defs ≡ total def_count (archive_with k p) k.now.shown
      + total def_count (archive_with k p) p.turn.shows
  pub uses : r.uses ≡ total use_count (archive_with k p) k.now.shown
      + total use_count (archive_with k p) p.turn.shows
  pub calls : r.calls ≡ total call_count (archive_with k p) k.now.shown
      + total call_count (archive_with k p) p.turn.shows

-- the counts of that room are numbers: of 32 bits, and all facts together of 64 bits
pub record IsCountable (k : Kept) (p : Planned) : Type 0 where
  pub names : k.now.names + length p.names < 2 ^ 32
  pub versions : k.now.versions + length p.texts < 2 ^ 32
  pub entries : length k.now.shown + length p.turn.shows < 2 ^ 32
  pub facts : fact_count (archive_with k p) k.now.shown + fact_count (archive_with k p) p.turn.shows
      < 2 ^ 64
