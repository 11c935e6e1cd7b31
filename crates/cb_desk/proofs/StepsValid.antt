-- Steps keep a world valid.
use Rattle.std.proofs.Common.{◌≡◌, ◌∙◌, sym, ap, refl, subst, ℕ, zero, suc, ◌≤◌, ◌<◌, Bool, true}
use Rattle.std.proofs.Common.{false, not, cond, List, [], ◌∷◌, length, slice_get, arith, Ok, Option}
use Rattle.std.proofs.Common.{Some, None, nat_le, nat_lt}
use Rattle.std.specs.List.{list_any}
use Rattle.std.specs.List.Sorted.{IsStrictlySortedBy}
use Rattle.cb_scan.specs.Lines.{IsLineOf}
use Rattle.cb_desk.specs.declared.bounds.TheConstants.{MOST_BYTES}
use Rattle.cb_desk.specs.declared.change.Refusal.{Refusal}
use Rattle.cb_desk.specs.declared.change.Refusal.TheVariants.{BadName, NoSuchFile, FileExists}
use Rattle.cb_desk.specs.declared.change.Refusal.TheVariants.{BadText, TooLarge, TooManyFiles}
use Rattle.cb_tags.specs.Names.{is_file_name}
use Rattle.cb_desk.specs.World.{World, File, Place, has_file, text_of_file, is_short, IsPlaceOf}
use Rattle.cb_desk.specs.World.{IsMarkIn, AreMarksFor, AreValidMarks, IsValidWorld}
use Rattle.cb_desk.specs.Files.{load_refusal, loaded, reload_refusal, unloaded, rename_refusal}
use Rattle.cb_desk.specs.Files.{renamed, without_file}
use Rattle.cb_desk.specs.Marks.{toggled, want_refusal, wanting, wanted_places, mark_refusal}
use Rattle.cb_desk.specs.Marks.{toggled_at, mark_all_refusal, all_marked, marked_refusal}
use Rattle.cb_desk.specs.Marks.{replaced_on_marks, replaced_files, is_too_large}
use Rattle.cb_desk.specs.Places.{nth}
use Rattle.cb_desk.specs.Stack.{pushed, places}
use Rattle.cb_desk.specs.steps.Held.{held_places}
use Rattle.cb_desk.specs.Step.{Step, load, reload, unload, rename, want, mark, mark_all, replace}
use Rattle.cb_desk.specs.Step.{tag, pop, refusal_of, after, step, unless_refused}
use Rattle.cb_desk.specs.Laws.{StepKeepsValid}
use Rattle.cb_desk.proofs.Valid.{with_file-valid, without_file-valid, without_file-fewer, all-join}
use Rattle.cb_desk.proofs.HeldRows.{wanted-held}
use Rattle.cb_desk.proofs.MarksValid.{marks-with, marks-without, marks-renamed, marks-toggled}
use Rattle.cb_desk.proofs.MarksValid.{held-ascend, held-marks, replaced-valid, frames-kept}
use Rattle.cb_desk.proofs.PlaceLemmas.{IsAt, at-place, text-small, places-with, places-without}
use Rattle.cb_desk.proofs.PlaceLemmas.{places-renamed, is-gone, still-gone, name-good, nth-place}
use Rattle.cb_desk.proofs.PlaceLemmas.{all-take}

not-refused : (o : Option Refusal) (w v : World) → unless_refused o w ≡ Ok v → (o ≡ None) × (v ≡ w)
not-refused None w v e = (refl, cc)
not-refused (Some r) w v e = cc

-- the first test of a list of refusals is passed, and what is left accepts too
passed : (b : Bool) (r : Refusal) (rest : Option Refusal) → cond b (Some r) rest ≡ None
    → (b ≡ false) × (rest ≡ None)
passed true r rest e = cc
passed false r rest e = (refl, e)

not-false : (b : Bool) → not b ≡ false → b ≡ true
not-false true e = refl
not-false false e = cc

-- what an accepted load says of the file
record Loadable (w : World) (name bytes : List ℕ) : Type 0 where
  good : is_file_name name ≡ true
  fresh : has_file w.files name ≡ false
  small : length bytes ≤ w.bounds.file_bytes
  room : length w.files < w.bounds.files

loadable : (w : World) (name bytes : List ℕ) → load_refusal w name bytes ≡ None
    → Loadable w name bytes
loadable w name bytes none =
    let named = passed (not (is_file_name name)) BadName _ none in
    let new = passed (has_file w.files name) FileExists _ named.1 in
    let sized = passed (nat_lt w.bounds.file_bytes (length bytes)) TooLarge _ new.1 in
    let counted = passed (nat_le w.bounds.files (length w.files)) TooManyFiles _ sized.1 in
    let small = sized.0 in
    let room = counted.0 in
    record {
      good = not-false _ named.0;
      fresh = new.0;
      small = grind (arith, small);
      room = grind (arith, room);
    }

-- an accepted reload is an accepted load of the file that was taken away
reloadable : (w : World) (name bytes : List ℕ) → IsValidWorld w → reload_refusal w name bytes ≡ None
    → Loadable (unloaded w name) name bytes
reloadable w name bytes valid none =
    let there = passed (not (has_file w.files name)) NoSuchFile _ none in
    let sized = passed (nat_lt w.bounds.file_bytes (length bytes)) TooLarge _ there.1 in
    let has = not-false _ there.0 in
    let small = sized.0 in
    let fewer = without_file-fewer w.files name has in
    let count = valid.files.count in
    record {
      good = name-good w.files name has valid.files.names;
      fresh = is-gone w.files name;
      small = grind (arith, small);
      room = omega (arith, fewer, count);
    }

-- what is loaded, and reloaded, is a source
pub load-fits : (w : World) (name bytes : List ℕ) → IsValidWorld w
    → load_refusal w name bytes ≡ None → length bytes ≤ MOST_BYTES
load-fits w name bytes valid none =
    let small = (loadable w name bytes none).small in let most = valid.bounds.file_bytes in
    omega (arith, small, most)

pub reload-fits : (w : World) (name bytes : List ℕ) → IsValidWorld w
    → reload_refusal w name bytes ≡ None → length bytes ≤ MOST_BYTES
reload-fits w name bytes valid none =
    let small = (reloadable w name bytes valid none).small in let most = valid.bounds.file_bytes in
    omega (arith, small, most)

-- what an accepted rename says of the names
record Renamable (w : World) (old new : List ℕ) : Type 0 where
  good : is_file_name new ≡ true
  there : has_file w.files old ≡ true
  fresh : has_file w.files new ≡ false

renamable : (w : World) (old new : List ℕ) → rename_refusal w old new ≡ None → Renamable w old new
renamable w old new none =
    let named = passed (not (is_file_name new)) BadName _ none in
    let there = passed (not (has_file w.files old)) NoSuchFile _ named.1 in
    let fresh = passed (has_file w.files new) FileExists _ there.1 in
    record { good = not-false _ named.0; there = not-false _ there.0; fresh = fresh.0 }

-- the file of the new name
abbrev file_of_new : World → List ℕ → List ℕ → File
file_of_new w old new = record { name = new; bytes = text_of_file w.files old }

line-lies : (text : List ℕ) (n : ℕ) → IsLineOf text n → IsLineOf text n
line-lies text n is = is

load-valid : (w : World) (name bytes : List ℕ) → IsValidWorld w → Loadable w name bytes
    → IsValidWorld (loaded w name bytes)
load-valid w name bytes valid may = record {
  bounds = valid.bounds;
  files =
      with_file-valid w.bounds w.files (record { name = name; bytes = bytes }) valid.files may.good
      may.fresh may.small may.room;
  marks =
      marks-with w.files (record { name = name; bytes = bytes }) w.wanted w.marks
      may.fresh valid.marks;
  frames =
      places-with IsLineOf line-lies w.files (record { name = name; bytes = bytes }) w.frames
      may.fresh valid.frames;
}

unload-valid : (w : World) (name : List ℕ) → IsValidWorld w → IsValidWorld (unloaded w name)
unload-valid w name valid = record {
  bounds = valid.bounds;
  files = without_file-valid w.bounds w.files name valid.files;
  marks = marks-without w.files name w.wanted w.marks valid.marks;
  frames = places-without IsLineOf line-lies w.files name w.frames valid.frames;
}

rename-valid : (w : World) (old new : List ℕ) → IsValidWorld w → Renamable w old new
    → IsValidWorld (renamed w old new)
rename-valid w old new valid may =
    let fewer = without_file-fewer w.files old may.there in
    let count = valid.files.count in
    record {
      bounds = valid.bounds;
      files =
          with_file-valid w.bounds (without_file old w.files) (file_of_new w old new)
          (without_file-valid w.bounds w.files old valid.files) may.good
          (still-gone w.files old new may.fresh)
          (text-small w.bounds.file_bytes w.files old valid.files.sizes)
          (omega (arith, fewer, count));
      marks = marks-renamed w.files old new may.fresh w.wanted w.marks valid.marks;
      frames = places-renamed IsLineOf line-lies w.files old new may.fresh w.frames valid.frames;
    }

-- the place that is pushed is one of the world
push-valid : (w : World) (o : Option Place) → IsValidWorld w
    → ((f : Place) → o ≡ Some f → IsPlaceOf w.files f) → IsValidWorld (pushed w o)
push-valid w None valid is = valid
push-valid w (Some f) valid is = record {
  bounds = valid.bounds;
  files = valid.files;
  marks = valid.marks;
  frames = all-join (IsPlaceOf w.files) w.frames (f ∷ []) valid.frames (is f refl, tt);
}

-- ---- marks
-- what an accepted want says of the text
wantable : (text : List ℕ) → want_refusal text ≡ None → (is_short text ≡ true) × (1 ≤ length text)
wantable [] none = cc
wantable (b ∷ bs) none =
    (elim (is_short (b ∷ bs)) as (λ s. is_short (b ∷ bs) ≡ s → cond s None (Some BadText) ≡ None
    → (is_short (b ∷ bs) ≡ true) × (1 ≤ length (b ∷ bs))) [
      | true ↦ λ h k. (h, omega arith)
      | false ↦ λ h k. cc
    ]) refl none

want-valid : (w : World) (text : List ℕ) → IsValidWorld w → want_refusal text ≡ None
    → IsValidWorld (wanting w text)
unfolding IsStrictlySortedBy
want-valid w text valid none =
    let may = wantable text none in
    record {
      bounds = valid.bounds;
      files = valid.files;
      marks = record { short = may.0; some = may.1; held = tt; ascending = tt };
      frames = valid.frames;
    }

-- the nth place of those that can be marked
mark-valid : (w : World) (wanted : Option (List ℕ)) (n : ℕ) (place : Option Place)
    → w.wanted ≡ wanted → place ≡ nth n (wanted_places w) → IsValidWorld w
    → mark_refusal wanted place ≡ None → IsValidWorld (toggled_at w place)
mark-valid w None n place is at valid none = cc
mark-valid w (Some text) n None is at valid none = cc
mark-valid w (Some text) zero (Some p) is at valid none = cc
mark-valid w (Some text) (suc n) (Some p) is at valid none =
    let held = wanted-held w text is valid.files.ascending in
    let there =
    at-place (IsAt (IsMarkIn text) w.files) (held_places text w.files) n p
    (held-marks text w.files valid.files.ascending)
    (ap (λ ps. slice_get ps n) (sym held) ∙ sym at) in
    let marks = subst (λ o. AreValidMarks w.files o w.marks) is valid.marks in
    record {
      bounds = valid.bounds;
      files = valid.files;
      marks =
          subst (λ o. AreValidMarks w.files o (toggled p w.marks)) (sym is)
          (marks-toggled w.files text w.marks p there marks);
      frames = valid.frames;
    }

mark_all-valid : (w : World) (wanted : Option (List ℕ)) → w.wanted ≡ wanted → IsValidWorld w
    → mark_all_refusal wanted ≡ None → IsValidWorld (all_marked w)
mark_all-valid w None is valid none = cc
mark_all-valid w (Some text) is valid none =
    let held = wanted-held w text is valid.files.ascending in
    let marks = subst (λ o. AreValidMarks w.files o w.marks) is valid.marks in
    record {
      bounds = valid.bounds;
      files = valid.files;
      marks =
          subst (λ o. AreValidMarks w.files o (wanted_places w)) (sym is)
          (subst (AreMarksFor w.files text) (sym held) (record {
            short = marks.short;
            some = marks.some;
            held = held-marks text w.files valid.files.ascending;
            ascending = held-ascend text w.files valid.files.ascending;
          }));
      frames = valid.frames;
    }

-- what an accepted change of a text says of the files after it
not-large : (w : World) (old new : List ℕ) (marks : List Place)
    → marked_refusal w (Some old) marks new ≡ None
    → list_any (is_too_large w.bounds.file_bytes) (replaced_files old new w) ≡ false
not-large w old new [] none = cc
not-large w old new (p ∷ ps) none =
    (passed (list_any (is_too_large w.bounds.file_bytes) (replaced_files old new w)) TooLarge None
    none).0

replaced-world : (w : World) (wanted : Option (List ℕ)) (new : List ℕ) → IsValidWorld w
    → marked_refusal w wanted w.marks new ≡ None → IsValidWorld (replaced_on_marks w wanted new)
replaced-world w None new valid none = cc
replaced-world w (Some old) new valid none = record {
  bounds = valid.bounds;
  files =
      replaced-valid old new w.marks w.bounds w.files valid.files
      (not-large w old new w.marks none);
  marks = refl;
  frames = frames-kept (replaced_files old new w) w.frames;
}

pub short-first : (b : Bool) (rest : Option Refusal) → cond b rest (Some BadText) ≡ None
    → rest ≡ None
short-first true rest e = e
short-first false rest e = cc

after-valid : (w : World) (s : Step) → IsValidWorld w → refusal_of w s ≡ None
    → IsValidWorld (after w s)
after-valid w (load name bytes) valid due =
    load-valid w name bytes valid (loadable w name bytes due)
after-valid w (reload name bytes) valid due =
    load-valid (unloaded w name) name bytes (unload-valid w name valid)
    (reloadable w name bytes valid due)
after-valid w (unload name) valid due = unload-valid w name valid
after-valid w (rename old new) valid due = rename-valid w old new valid (renamable w old new due)
after-valid w (want text) valid due = want-valid w text valid due
after-valid w (mark n) valid due =
    mark-valid w w.wanted n (nth n (wanted_places w)) refl refl valid due
after-valid w mark_all valid due = mark_all-valid w w.wanted refl valid due
after-valid w (replace text) valid due =
    replaced-world w w.wanted text valid
    (short-first (is_short text) (marked_refusal w w.wanted w.marks text) due)
after-valid w (tag name n) valid due =
    push-valid w (nth n (places w.profile w.files name)) valid
    (λ f e. nth-place w.profile w.files name n f valid.files.ascending e)
after-valid w pop valid due = record {
  bounds = valid.bounds;
  files = valid.files;
  marks = valid.marks;
  frames = all-take (IsPlaceOf w.files) _ w.frames valid.frames;
}

-- a step leaves the bounds
toggled-bounds : (w : World) (o : Option Place) → (toggled_at w o).bounds ≡ w.bounds
toggled-bounds w None = refl
toggled-bounds w (Some p) = refl

pushed-bounds : (w : World) (o : Option Place) → (pushed w o).bounds ≡ w.bounds
pushed-bounds w None = refl
pushed-bounds w (Some f) = refl

replaced-bounds : (w : World) (o : Option (List ℕ)) (new : List ℕ)
    → (replaced_on_marks w o new).bounds ≡ w.bounds
replaced-bounds w None new = refl
replaced-bounds w (Some old) new = refl

pub after-bounds : (w : World) (s : Step) → (after w s).bounds ≡ w.bounds
after-bounds w (load name bytes) = refl
after-bounds w (reload name bytes) = refl
after-bounds w (unload name) = refl
after-bounds w (rename old new) = refl
after-bounds w (want text) = refl
after-bounds w (mark n) = toggled-bounds w (nth n (wanted_places w))
after-bounds w mark_all = refl
after-bounds w (replace text) = replaced-bounds w w.wanted text
after-bounds w (tag name n) = pushed-bounds w (nth n (places w.profile w.files name))
after-bounds w pop = refl

pub step-bounds : (w v : World) (s : Step) → step w s ≡ Ok v → v.bounds ≡ w.bounds
unfolding step
step-bounds w v s h =
    ap (λ (x : World). x.bounds) (not-refused (refusal_of w s) (after w s) v h).1
    ∙ after-bounds w s

-- and the profile
toggled-profile : (w : World) (o : Option Place) → (toggled_at w o).profile ≡ w.profile
toggled-profile w None = refl
toggled-profile w (Some p) = refl

pushed-profile : (w : World) (o : Option Place) → (pushed w o).profile ≡ w.profile
pushed-profile w None = refl
pushed-profile w (Some f) = refl

replaced-profile : (w : World) (o : Option (List ℕ)) (new : List ℕ)
    → (replaced_on_marks w o new).profile ≡ w.profile
replaced-profile w None new = refl
replaced-profile w (Some old) new = refl

pub after-profile : (w : World) (s : Step) → (after w s).profile ≡ w.profile
after-profile w (load name bytes) = refl
after-profile w (reload name bytes) = refl
after-profile w (unload name) = refl
after-profile w (rename old new) = refl
after-profile w (want text) = refl
after-profile w (mark n) = toggled-profile w (nth n (wanted_places w))
after-profile w mark_all = refl
after-profile w (replace text) = replaced-profile w w.wanted text
after-profile w (tag name n) = pushed-profile w (nth n (places w.profile w.files name))
after-profile w pop = refl

pub step-profile : (w v : World) (s : Step) → step w s ≡ Ok v → v.profile ≡ w.profile
unfolding step
step-profile w v s h =
    ap (λ (x : World). x.profile) (not-refused (refusal_of w s) (after w s) v h).1
    ∙ after-profile w s

pub step_keeps_valid : StepKeepsValid
unfolding step
step_keeps_valid w v s valid h =
    let found = not-refused (refusal_of w s) (after w s) v h in
    rw found.1 (after-valid w s valid found.0)
