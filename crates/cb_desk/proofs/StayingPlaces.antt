-- Places that stay lines when a text is replaced: in a file without a mark they all do.
use Rattle.std.proofs.Common.{◌≡◌, ◌∙◌, ◌<◌, sym, ap, refl, subst, ℕ, Bool, true, false, cond, List}
use Rattle.std.proofs.Common.{[], ◌∷◌, ◌||◌, ◌&&◌, nat_le, filter, map, length, drop, get_or, suc}
use Rattle.std.proofs.Common.{arith, Some, None, bytes_eq}
use Rattle.std.proofs.Math.Seq.{drop-cons}
use Rattle.std.proofs.lemmas.List.{get_or-map, length-map}
use Rattle.std.specs.List.{AllByRecursion, AllWithin, list_any}
use Rattle.cb_scan.specs.Lines.{lines}
use Rattle.cb_index.specs.Archived.{Archived, name_of}
use Rattle.cb_index.specs.Files.{AreAscending, file_of, files_of}
use Rattle.cb_index.specs.declared.entry.Shown.{Shown}
use Rattle.cb_desk.specs.declared.places.FileLine.{FileLine}
use Rattle.cb_desk.specs.Places.{is_in, is_place_of}
use Rattle.cb_desk.specs.World.{File, IsAscending, IsPlaceOf, Place, has_file, is_named}
use Rattle.cb_desk.specs.World.{text_of_file}
use Rattle.cb_desk.specs.steps.Records.{place_in}
use Rattle.cb_desk.specs.steps.Replaced.{file_then, files_changed, files_then, has_mark, places_in}
use Rattle.cb_desk.specs.steps.Replaced.{remaining, staying, stays_in, texts_of}
use Rattle.cb_desk.proofs.FilesReplaced.{then_replaced, unmarked_then}
use Rattle.cb_desk.proofs.MarksValid.{ascending-kept}
use Rattle.cb_desk.proofs.NamedFile.{below, found-at, none-at}
use Rattle.cb_desk.proofs.PlaceLemmas.{place-there, same-name}
use Rattle.cb_desk.proofs.ShownFiles.{files-ascend}

-- ---- among files that change
abbrev IsFileOf : List File → List ℕ → File → Type 0
IsFileOf fs name f =
    Some f ≡ cond (has_file fs name)
    (Some (record { name = name; bytes = text_of_file fs name })) None

text_from : (f : File) (fs : List File) (name : List ℕ) → IsFileOf fs name f
    → text_of_file fs name ≡ f.bytes
text_from f fs name is = by_test (has_file fs name) is
  where
    by_test : (b : Bool)
        → Some f ≡ cond b (Some (record { name = name; bytes = text_of_file fs name })) None
        → text_of_file fs name ≡ f.bytes
    by_test true e =
        let same : f ≡ record { name = name; bytes = text_of_file fs name } = cc in
        sym (ap (λ (g : File). g.bytes) same)
    by_test false e = cc

has_from : (f g : File) (b : Bool) → Some f ≡ cond b (Some g) None → b ≡ true
has_from f g true is = refl
has_from f g false is = cc

module _ (a : Archived) (marks : List FileLine) (old new : List ℕ) (changed : List Shown)
    (up : AreAscending a changed) (p : Place) (name : List ℕ) (named : name ≡ p.file) (i : ℕ)
    (before : AllWithin (λ s. below (file_then a marks old new) name s ≡ true) changed 0 i)
    (after : AllWithin (λ s. below (file_then a marks old new) name s ≡ false) changed i
    (length changed))
    (d : Shown) where
  abbrev then : List File
  then = files_then a marks old new changed

  then_up : IsAscending then
  then_up =
      subst IsAscending (sym (then_replaced a marks old new changed))
      (ascending-kept old new (places_in a marks) (files_of a changed) (files-ascend a changed up))

  -- the file at that index has the name
  pub stays_at : (e : List ℕ) → i < length changed
      → bytes_eq (name_of a (get_or changed i d).name) name ≡ true
      → stays_in then p
      ≡ nat_le 1 p.line && nat_le p.line (length (lines (get_or (texts_of then) i e)))
  stays_at e within is =
      let file = file_then a marks old new (get_or changed i d) in
      let found =
      found-at (file_then a marks old new) name changed i (get_or changed i d)
      (drop (suc i) changed) before (drop-cons changed i d within) is in
      let long = length-map changed (file_then a marks old new) in
      let text : text_of_file then name ≡ get_or (texts_of then) i e =
      text_from file then name found
      ∙ sym (get_or-map (λ (f : File). f.bytes) then i file e (omega (arith, within, long))
      ∙ ap (λ (f : File). f.bytes)
      (get_or-map (file_then a marks old new) changed i d file within)) in
      ap (λ b. cond b (is_place_of then p) true)
      (ap (has_file then) (sym named) ∙ has_from file _ (has_file then name) found)
      ∙ ap (λ t. nat_le 1 p.line && nat_le p.line (length (lines t)))
      (ap (text_of_file then) (sym named) ∙ text)

  -- no file has the name
  pub stays_out : (i < length changed → bytes_eq (name_of a (get_or changed i d).name) name ≡ false)
      → stays_in then p ≡ true
  stays_out other =
      ap (λ b. cond b (is_place_of then p) true)
      (ap (has_file then) (sym named)
      ∙ none-at (file_then a marks old new) name changed i d then_up before after other)

-- ---- among all files
module _ (a : Archived) (marks : List FileLine) (old new name : List ℕ) where
  -- a mark is in a file of the name
  abbrev is_marked : Bool
  is_marked = list_any (is_in name) (places_in a marks)

  -- the files with a mark, and all files, as they are then
  abbrev changed : List Shown → List File
  changed ss = files_changed a marks old new ss

  abbrev all_then : List Shown → List File
  all_then ss = files_then a marks old new ss

  -- the same of a first file, if it has a mark, and others
  abbrev changed_if : Bool → Shown → List Shown → List File
  changed_if has s ss =
      map (file_then a marks old new)
      (cond has (s ∷ filter (has_mark a marks) ss) (filter (has_mark a marks) ss))

  abbrev is_here : Shown → Bool
  is_here s = is_named name (file_of a s)

  -- the file of the name has a mark if the name is that of one
  mark_by_name : (s : Shown) → is_here s ≡ true → has_mark a marks s ≡ is_marked
  mark_by_name s is =
      ap (λ n. list_any (is_in n) (places_in a marks)) (same-name (name_of a s.name) name is)

  -- a file with a mark is among those that change
  changed_has : is_marked ≡ true → (ss : List Shown)
      → has_file (changed ss) name ≡ has_file (files_of a ss) name
  changed_has marked [] = refl
  changed_has marked (s ∷ ss) =
      by_tests (is_here s) (has_mark a marks s) refl refl (changed_has marked ss)
    where
      by_tests : (is has : Bool) → is_here s ≡ is → has_mark a marks s ≡ has
          → has_file (changed ss) name ≡ has_file (files_of a ss) name
          → has_file (changed_if has s ss) name ≡ is_here s || has_file (files_of a ss) name
      by_tests is true e f rest = ap (λ b. is_here s || b) rest
      by_tests true false e f rest = let g = mark_by_name s e in cc
      by_tests false false e f rest = rest ∙ ap (λ b. b || has_file (files_of a ss) name) (sym e)

  changed_text : is_marked ≡ true → (ss : List Shown)
      → text_of_file (changed ss) name ≡ text_of_file (all_then ss) name
  unfolding text_of_file
  changed_text marked [] = refl
  changed_text marked (s ∷ ss) =
      by_tests (is_here s) (has_mark a marks s) refl refl (changed_text marked ss)
    where
      by_tests : (is has : Bool) → is_here s ≡ is → has_mark a marks s ≡ has
          → text_of_file (changed ss) name ≡ text_of_file (all_then ss) name
          → text_of_file (changed_if has s ss) name
          ≡ cond (is_here s) (file_then a marks old new s).bytes (text_of_file (all_then ss) name)
      by_tests is true e f rest =
          ap (λ t. cond (is_here s) (file_then a marks old new s).bytes t) rest
      by_tests true false e f rest = let g = mark_by_name s e in cc
      by_tests false false e f rest =
          rest ∙ ap (λ b.
          cond b (file_then a marks old new s).bytes (text_of_file (all_then ss) name)) (sym e)

  -- a file without one is not, and stays as it is
  unchanged_gone : is_marked ≡ false → (ss : List Shown) → has_file (changed ss) name ≡ false
  unchanged_gone unmarked [] = refl
  unchanged_gone unmarked (s ∷ ss) =
      by_tests (is_here s) (has_mark a marks s) refl refl (unchanged_gone unmarked ss)
    where
      by_tests : (is has : Bool) → is_here s ≡ is → has_mark a marks s ≡ has
          → has_file (changed ss) name ≡ false
          → has_file (changed_if has s ss) name ≡ false
      by_tests true true e f rest = let g = mark_by_name s e in cc
      by_tests false true e f rest = ap (λ b. b || has_file (changed ss) name) e ∙ rest
      by_tests is false e f rest = rest

  unchanged_text : is_marked ≡ false → (ss : List Shown)
      → text_of_file (all_then ss) name ≡ text_of_file (files_of a ss) name
  unfolding text_of_file
  unchanged_text unmarked [] = refl
  unchanged_text unmarked (s ∷ ss) = by_test (is_here s) refl (unchanged_text unmarked ss)
    where
      by_test : (is : Bool) → is_here s ≡ is
          → text_of_file (all_then ss) name ≡ text_of_file (files_of a ss) name
          → cond is (file_then a marks old new s).bytes (text_of_file (all_then ss) name)
          ≡ cond is (file_of a s).bytes (text_of_file (files_of a ss) name)
      by_test true e rest =
          ap (λ (f : File). f.bytes) (unmarked_then a marks old new s (mark_by_name s e ∙ unmarked))
      by_test false e rest = rest

module _ (a : Archived) (marks : List FileLine) (old new : List ℕ) (shown : List Shown) where
  abbrev is_then : Place → Bool
  is_then p = is_place_of (files_then a marks old new shown) p

  abbrev changed_files : List File
  changed_files = files_changed a marks old new shown

  place_holds : (p : Place) → IsPlaceOf (files_of a shown) p
      → is_place_of (files_of a shown) p ≡ true
  place_holds p there = let low = there.0 in let high = there.1 in grind (arith, low, high)

  place_stays : (p : Place) → IsPlaceOf (files_of a shown) p → stays_in changed_files p ≡ is_then p
  place_stays p there = by_test (list_any (is_in p.file) (places_in a marks)) refl
    where
      by_test : (b : Bool) → list_any (is_in p.file) (places_in a marks) ≡ b
          → stays_in changed_files p ≡ is_then p
      by_test true is =
          ap (λ b. cond b (is_place_of changed_files p) true)
          (changed_has a marks old new p.file is shown ∙ place-there (files_of a shown) p there)
          ∙ ap (λ t. nat_le 1 p.line && nat_le p.line (length (lines t)))
          (changed_text a marks old new p.file is shown)
      by_test false is =
          ap (λ b. cond b (is_place_of changed_files p) true)
          (unchanged_gone a marks old new p.file is shown)
          ∙ sym (place_holds p there)
          ∙ ap (λ t. nat_le 1 p.line && nat_le p.line (length (lines t)))
          (sym (unchanged_text a marks old new p.file is shown))

  -- of places that are lines now, those that stay lines are those that are lines then
  pub staying_remaining : (places : List FileLine)
      → AllByRecursion (IsPlaceOf (files_of a shown)) (map (place_in a) places)
      → staying a changed_files places ≡ remaining a (files_then a marks old new shown) places
  staying_remaining [] all = refl
  staying_remaining (p ∷ places) all =
      let rest = staying_remaining places all.1 in
      λ i. cond (place_stays (place_in a p) all.0 i) (p ∷ rest i) (rest i)
