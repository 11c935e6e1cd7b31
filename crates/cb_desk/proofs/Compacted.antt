-- The present world stays when an archive lets go what only other worlds use.
use Rattle.std.proofs.Common.{◌≡◌, ◌∙◌, ◌<◌, ℕ, List, [], sym, ap, refl, subst, length}
use Rattle.std.proofs.Common.{map, take, arith, length-take-le}
use Rattle.std.proofs.lemmas.List.{append-nil, length-map}
use Rattle.std.specs.List.{AllByRecursion}
use Rattle.std.specs.Prelude.{Option, slice_index_or}
use Rattle.cb_scan.proofs.FunctionsRise.{all_implied}
use Rattle.cb_index.specs.Compact.{ShowsAll, ShowsSame}
use Rattle.cb_index.specs.Files.{IsThere, call_count, def_count, files_of, total, use_count}
use Rattle.cb_index.specs.Scanned.{Scanned}
use Rattle.cb_index.specs.Shelved.{Shelved}
use Rattle.cb_index.specs.declared.entry.Shown.{Shown}
use Rattle.cb_desk.specs.declared.places.FileLine.{FileLine}
use Rattle.cb_desk.specs.Timeline.{IsValidTimeline, forgotten}
use Rattle.cb_desk.specs.steps.Compacted.{IsCompacted}
use Rattle.cb_desk.specs.steps.Records.{AreThere, Fits, Kept, KeepsRooms, Numbered, Rooms, place_in}
use Rattle.cb_desk.specs.steps.Records.{world_in}
use Rattle.cb_desk.specs.steps.Walks.{IsKept, IsRecorded, LeadsBack, LeadsOn, Recorded, timeline_in}
use Rattle.cb_desk.proofs.AllUsed.{all_used}
use Rattle.cb_desk.proofs.ArchiveMoves.{Agree, agree_kept, below_shown, total_same, world_same}
use Rattle.cb_desk.proofs.Moves.{forget_keeps_valid}

-- ---- a shelf is cut to what the present world and those before it use, and then shows the same
-- with no other versions
module _ (k : Kept) (s t : Shelved) (is : IsKept k.rooms k.archive k.now)
    (profile : s.archive.profile ≡ k.archive.profile)
    (texts : s.archive.texts ≡ take k.now.versions k.archive.texts)
    (names : s.archive.names ≡ take k.now.names k.archive.names)
    (shown : s.shown ≡ k.now.shown) (same : ShowsSame s t) where
  agree : Agree k.archive s.archive k.now.names k.now.versions
  agree =
      agree_kept k.archive s.archive k.now.names k.now.versions [] [] is.there.names
      is.there.versions profile
      (names ∙ sym (append-nil (take k.now.names k.archive.names)))
      (texts ∙ sym (append-nil (take k.now.versions k.archive.texts)))

  abbrev now_with : ℕ → Numbered
  now_with count = record k.now { shown = t.shown; versions = count }

  abbrev now_then : Numbered
  now_then = now_with (length t.archive.texts)

  places_then : (ps : List FileLine)
      → map (place_in t.archive) ps ≡ map (place_in s.archive) ps
  places_then ps =
      ap (λ ns. map (λ (p : FileLine).
      record { file = slice_index_or ns p.name []; line = p.line }) ps)
      same.names

  files_then : files_of t.archive t.shown ≡ files_of s.archive k.now.shown
  files_then = same.files ∙ ap (files_of s.archive) shown

  world_then : world_in t.archive now_then ≡ world_in k.archive k.now
  world_then =
      (λ i. record {
        profile = same.profile i;
        bounds = k.now.bounds;
        files = files_then i;
        wanted = k.now.wanted;
        marks = places_then k.now.marks i;
        frames = places_then k.now.frames i;
      })
      ∙ world_same k.archive s.archive k.now.names k.now.versions agree k.now is.there
      (omega arith) (omega arith)

  name_count : length t.archive.names ≡ k.now.names
  name_count =
      ap length (same.names ∙ names)
      ∙ length-take-le k.now.names k.archive.names is.there.names

  there_then : AllByRecursion (IsThere t.archive) t.shown → AreThere t.archive now_then
  there_then there = record {
    shown =
        all_implied (IsThere t.archive)
        (λ (s : Shown). (s.name < k.now.names) × (s.version < length t.archive.texts))
        (λ s at. (
          let n = name_count in let x = at.0 in omega (arith, n, x),
          at.1,
        )) t.shown there;
    marks = is.there.marks;
    frames = is.there.frames;
    names = let n = name_count in omega (arith, n);
    versions = omega arith;
  }

  counted_then : (count : Option Scanned → ℕ)
      → total count s.archive s.shown ≡ total count k.archive k.now.shown
  counted_then count =
      ap (total count s.archive) shown
      ∙ total_same k.archive s.archive k.now.names k.now.versions agree count k.now.shown
      (below_shown k.archive s.archive k.now.names k.now.versions agree k.now is.there
      (omega arith) (omega arith))

  files_count : length t.shown ≡ length k.now.shown
  files_count =
      sym (length-map t.shown (λ (s : Shown). s.name))
      ∙ ap length same.numbers
      ∙ length-map s.shown (λ (s : Shown). s.name)
      ∙ ap length shown

  fits_then : (r : Rooms) → KeepsRooms k.rooms r → Fits r t.archive now_then
  fits_then r more = record {
    files =
        let e = files_count in let f = is.fits.files in let g = more.files in
        omega (arith, e, f, g);
    defs =
        let e = same.defs ∙ counted_then def_count in let f = is.fits.defs in
        let g = more.defs in omega (arith, e, f, g);
    uses =
        let e = same.uses ∙ counted_then use_count in let f = is.fits.uses in
        let g = more.uses in omega (arith, e, f, g);
    calls =
        let e = same.calls ∙ counted_then call_count in let f = is.fits.calls in
        let g = more.calls in omega (arith, e, f, g);
    marks = let f = is.fits.marks in let g = more.marks in omega (arith, f, g);
    frames = let f = is.fits.frames in let g = more.frames in omega (arith, f, g);
  }

  abbrev kept_with : ℕ → ℕ → Rooms → Kept
  kept_with turns count r =
      record { archive = t.archive; turns = turns; now = now_with count; rooms = r }

  pub compacted : (turns count : ℕ) (r : Rooms) → turns ≡ k.turns
      → count ≡ length t.archive.texts → KeepsRooms k.rooms r
      → AllByRecursion (IsThere t.archive) t.shown → ShowsAll t
      → IsCompacted k (kept_with turns count r)
  compacted turns count r still counted more there all =
      subst (λ n. IsCompacted k (kept_with turns n r)) (sym counted) (record {
        world = world_then;
        turns = still;
        kept = record { there = there_then there; fits = fits_then r more };
        shows = all;
        all = record { names = sym name_count; versions = refl };
      })

-- ---- the timeline of the present world alone
pub forgotten_timeline : (h : Recorded) (k : Kept) → IsCompacted h.kept k
    → timeline_in (record { kept = k; records = []; done = 0 }) ≡ forgotten (timeline_in h)
forgotten_timeline h k is = ap (λ w. record { past = []; present = w; future = [] }) is.world

pub forgotten_recorded : (h : Recorded) (k : Kept) → IsRecorded h → IsCompacted h.kept k
    → IsRecorded (record { kept = k; records = []; done = 0 })
unfolding LeadsBack LeadsOn
forgotten_recorded h k was is = record {
  within = omega arith;
  used = all_used (record { kept = k; records = []; done = 0 }) no_past no_future;
  back = no_past;
  on = no_future;
  valid = subst IsValidTimeline (sym (forgotten_timeline h k is))
      (forget_keeps_valid (timeline_in h) was.valid);
}
  where
    no_past : LeadsBack k.rooms k.archive k.now []
    no_past = (is.kept, is.shows)

    no_future : LeadsOn k.rooms k.archive k.now []
    no_future = (is.kept, is.all)
