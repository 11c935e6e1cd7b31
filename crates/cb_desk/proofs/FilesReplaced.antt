-- Files with a text replaced on their marked lines, in the numbers of an archive and in a world.
use Rattle.std.proofs.Common.{◌≡◌, ◌∙◌, ◌+◌, ◌==◌, refl, sym, ap, ℕ, suc, true, false, List, []}
use Rattle.std.proofs.Common.{◌∷◌, ◌++◌, length, map, filter, not, ◌||◌, cond, arith, Some}
use Rattle.std.proofs.Common.{Bool, nat_lt, ◌≤◌}
use Rattle.std.proofs.lemmas.Bool.{true≢false}
use Rattle.std.specs.List.{AllByRecursion, flat_map, list_any}
use Rattle.bstr.specs.Text.{lines_of}
use Rattle.cb_index.specs.Archived.{Archived}
use Rattle.cb_index.specs.Files.{file_of, files_of}
use Rattle.cb_index.specs.declared.entry.Shown.{Shown}
use Rattle.cb_desk.specs.declared.places.FileLine.{FileLine}
use Rattle.cb_desk.specs.Desk.{is_marked, new_texts}
use Rattle.cb_desk.specs.Marks.{is_too_large, marked_lines, replaced_file, replaced_files}
use Rattle.cb_desk.specs.Places.{is_in}
use Rattle.cb_desk.specs.Replacement.{marked_from, replaced_if_marked, replaced_text}
use Rattle.cb_desk.specs.World.{File, Place}
use Rattle.cb_desk.specs.steps.Records.{Numbered, world_in}
use Rattle.cb_desk.specs.steps.Replaced.{file_then, files_changed, files_then, has_mark, places_in}
use Rattle.cb_desk.proofs.MarkedLines.{bytes-of, first-part}

-- ---- files without a mark
nothing_marked : (old new : List ℕ) (first : ℕ) (ls : List (List ℕ))
    → flat_map (replaced_if_marked old new) (marked_from [] first ls)
    ≡ first-part (marked_from [] first ls)
nothing_marked old new first [] = refl
nothing_marked old new first (l ∷ ls) = ap (λ bs. l ++ bs) (nothing_marked old new (first + 1) ls)

-- a text without a marked line stays
pub unmarked_text : (old new text : List ℕ) → replaced_text old new [] text ≡ text
unfolding replaced_text
unmarked_text old new text = nothing_marked old new 1 (lines_of text) ∙ bytes-of [] text

pub none_in : (name : List ℕ) (marks : List Place) → list_any (is_in name) marks ≡ false
    → marked_lines name marks ≡ []
none_in name [] none = refl
none_in name (m ∷ marks) none =
    (elim (is_in name m) as (λ b. b || list_any (is_in name) marks ≡ false
    → map (λ (p : Place). p.line)
    (cond b (m ∷ filter (is_in name) marks) (filter (is_in name) marks)) ≡ []) [
      | true ↦ λ e. absurd (true≢false e)
      | false ↦ λ e. none_in name marks e
    ]) none

filled : (n : ℕ) → not (suc n == 0) ≡ true
filled n = grind arith

pub unmarked_file : (old new : List ℕ) (marks : List Place) (f : File) → is_marked marks f ≡ false
    → replaced_file old new marks f ≡ f
unmarked_file old new marks f none =
    ap (λ ns. record f { bytes = replaced_text old new ns f.bytes }) (none_in f.name marks none)
    ∙ ap (λ bs. record f { bytes = bs }) (unmarked_text old new f.bytes)

not_large : (most n : ℕ) → n ≤ most → nat_lt most n ≡ false
not_large most n small = grind (arith, small)

-- ---- in numbers
module _ (a : Archived) (marks : List FileLine) (old new : List ℕ) where
  pub then_replaced : (ss : List Shown) → files_then a marks old new ss
      ≡ map (replaced_file old new (places_in a marks)) (files_of a ss)
  then_replaced [] = refl
  then_replaced (s ∷ ss) = ap (λ fs. file_then a marks old new s ∷ fs) (then_replaced ss)

  pub changed_replaced : (ss : List Shown) → files_changed a marks old new ss
      ≡ map (replaced_file old new (places_in a marks))
      (filter (is_marked (places_in a marks)) (files_of a ss))
  changed_replaced [] = refl
  changed_replaced (s ∷ ss) =
      elim (has_mark a marks s) as (λ b. map (file_then a marks old new)
      (cond b (s ∷ filter (has_mark a marks) ss) (filter (has_mark a marks) ss))
      ≡ map (replaced_file old new (places_in a marks))
      (cond b (file_of a s ∷ filter (is_marked (places_in a marks)) (files_of a ss))
      (filter (is_marked (places_in a marks)) (files_of a ss)))) [
        | true ↦ ap (λ fs. file_then a marks old new s ∷ fs) (changed_replaced ss)
        | false ↦ changed_replaced ss
      ]

  pub unmarked_then : (s : Shown) → has_mark a marks s ≡ false
      → file_then a marks old new s ≡ file_of a s
  unmarked_then s hasnt = unmarked_file old new (places_in a marks) (file_of a s) hasnt

  -- a file without a mark is not too large then, since it is not now
  module _ (most : ℕ) where
    abbrev is_large : Shown → Bool
    is_large s = is_too_large most (file_then a marks old new s)

    abbrev has_large : List Shown → Bool
    has_large ss =
        list_any (is_too_large most)
        (map (replaced_file old new (places_in a marks)) (files_of a ss))

    pub large_changed : (ss : List Shown)
        → AllByRecursion (λ (f : File). length f.bytes ≤ most) (files_of a ss)
        → list_any (is_too_large most) (files_changed a marks old new ss) ≡ has_large ss
    large_changed [] small = refl
    large_changed (s ∷ ss) small = by_test (has_mark a marks s) refl (large_changed ss small.1)
      where
        by_test : (has : Bool) → has_mark a marks s ≡ has
            → list_any (is_too_large most) (files_changed a marks old new ss) ≡ has_large ss
            → list_any (is_too_large most)
            (map (file_then a marks old new)
            (cond has (s ∷ filter (has_mark a marks) ss) (filter (has_mark a marks) ss)))
            ≡ is_large s || has_large ss
        by_test true e rest = ap (λ b. is_large s || b) rest
        by_test false e rest =
            let still : is_large s ≡ false =
            ap (is_too_large most) (unmarked_then s e)
            ∙ not_large most (length (file_of a s).bytes) small.0 in
            rest ∙ ap (λ b. b || has_large ss) (sym still)

-- the files of a world in numbers
pub world_replaced : (a : Archived) (w : Numbered) (old new : List ℕ)
    → files_then a w.marks old new w.shown ≡ replaced_files old new (world_in a w)
world_replaced a w old new = then_replaced a w.marks old new w.shown

pub world_changed : (a : Archived) (w : Numbered) (old new : List ℕ) → w.wanted ≡ Some old
    → new_texts (world_in a w) new ≡ files_changed a w.marks old new w.shown
world_changed a w old new is = rw is (sym (changed_replaced a w.marks old new w.shown))
