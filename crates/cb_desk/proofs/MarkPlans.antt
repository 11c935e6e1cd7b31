-- Marks in numbers are those of their places.
use Rattle.std.proofs.Common.{◌≡◌, ◌∙◌, ◌<◌, refl, sym, ap, ℕ, zero, suc, Bool, true, false, List}
use Rattle.std.proofs.Common.{[], ◌∷◌, ◌++◌, map, filter, not, cond}
use Rattle.std.specs.Prelude.{◌||◌, ⊤, slice_index_or}
use Rattle.std.specs.Option.{MatchOption, option_map}
use Rattle.std.proofs.lemmas.List.{map-append}
use Rattle.std.proofs.lemmas.Option.{slice_get-map}
use Rattle.std.specs.List.{AllByRecursion, list_any}
use Rattle.cb_scan.specs.Order.{goes_first, put}
use Rattle.cb_index.specs.Archived.{Archived, name_of}
use Rattle.cb_index.specs.Files.{files_of}
use Rattle.cb_index.specs.declared.entry.Shown.{Shown}
use Rattle.cb_desk.specs.declared.places.FileLine.{FileLine}
use Rattle.cb_desk.specs.Marks.{toggled}
use Rattle.cb_desk.specs.Places.{nth, same_place}
use Rattle.cb_desk.specs.Search.{lines_with}
use Rattle.cb_desk.specs.World.{Place, place_key}
use Rattle.cb_desk.specs.steps.Held.{held_places}
use Rattle.cb_desk.specs.steps.Records.{held_by, held_numbers, place_in, toggled_numbers}
use Rattle.cb_desk.proofs.PlaceOrder.{all-put}
use Rattle.cb_desk.proofs.Valid.{all-filter, all-join}

module _ (a : Archived) where
  any_places : (p : Place → Bool) (ms : List FileLine)
      → list_any (λ m. p (place_in a m)) ms ≡ list_any p (map (place_in a) ms)
  any_places p [] = refl
  any_places p (m ∷ ms) = ap (λ b. p (place_in a m) || b) (any_places p ms)

  filtered_places : (p : Place → Bool) (ms : List FileLine)
      → map (place_in a) (filter (λ m. p (place_in a m)) ms) ≡ filter p (map (place_in a) ms)
  filtered_places p [] = refl
  filtered_places p (m ∷ ms) =
      elim (p (place_in a m)) as (λ b. map (place_in a)
      (cond b (m ∷ filter (λ n. p (place_in a n)) ms) (filter (λ n. p (place_in a n)) ms))
      ≡ cond b (place_in a m ∷ filter p (map (place_in a) ms)) (filter p (map (place_in a) ms)))
      [ true ↦ ap (λ xs. place_in a m ∷ xs) (filtered_places p ms) | false ↦ filtered_places p ms ]

  put_places : (p : FileLine) (ms : List FileLine)
      → map (place_in a) (put (λ m. place_key (place_in a m)) p ms)
      ≡ put place_key (place_in a p) (map (place_in a) ms)
  unfolding put
  put_places p [] = refl
  put_places p (m ∷ ms) =
      elim (goes_first place_key (place_in a p) (place_in a m)) as
      (λ b. map (place_in a) (cond b (p ∷ m ∷ ms) (m ∷ put (λ n. place_key (place_in a n)) p ms))
      ≡ cond b (place_in a p ∷ place_in a m ∷ map (place_in a) ms)
      (place_in a m ∷ put place_key (place_in a p) (map (place_in a) ms)))
      [ true ↦ refl | false ↦ ap (λ xs. place_in a m ∷ xs) (put_places p ms) ]

  pub toggled_places : (p : FileLine) (ms : List FileLine)
      → map (place_in a) (toggled_numbers a p ms) ≡ toggled (place_in a p) (map (place_in a) ms)
  toggled_places p ms =
      (elim (list_any (λ m. same_place (place_in a p) (place_in a m)) ms) as (λ b.
      map (place_in a) (cond b (filter (λ m. not (same_place (place_in a p) (place_in a m))) ms)
      (put (λ m. place_key (place_in a m)) p ms))
      ≡ cond b (filter (λ q. not (same_place (place_in a p) q)) (map (place_in a) ms))
      (put place_key (place_in a p) (map (place_in a) ms))) [
        | true ↦ filtered_places (λ q. not (same_place (place_in a p) q)) ms
        | false ↦ put_places p ms
      ])
      ∙ ap (λ b. cond b (filter (λ q. not (same_place (place_in a p) q)) (map (place_in a) ms))
      (put place_key (place_in a p) (map (place_in a) ms)))
      (any_places (same_place (place_in a p)) ms)

  pub toggled_below : (n : ℕ) (p : FileLine) (ms : List FileLine) → p.name < n
      → AllByRecursion (λ (q : FileLine). q.name < n) ms
      → AllByRecursion (λ (q : FileLine). q.name < n) (toggled_numbers a p ms)
  toggled_below n p ms here all =
      elim (list_any (λ m. same_place (place_in a p) (place_in a m)) ms) as
      (λ b. AllByRecursion (λ (q : FileLine). q.name < n)
      (cond b (filter (λ m. not (same_place (place_in a p) (place_in a m))) ms)
      (put (λ m. place_key (place_in a m)) p ms))) [
        | true ↦ all-filter (λ (q : FileLine). q.name < n)
            (λ m. not (same_place (place_in a p) (place_in a m))) ms all
        | false ↦ all-put (λ m. place_key (place_in a m))
            (λ (q : FileLine). q.name < n) p ms here all
      ]

-- ---- the lines that hold a text
module _ (a : Archived) (text : List ℕ) where
  held_in_places : (s : Shown) (ns : List ℕ)
      → map (place_in a) (map (λ n. record { name = s.name; line = n }) ns)
      ≡ map (λ n. record { file = name_of a s.name; line = n }) ns
  held_in_places s [] = refl
  held_in_places s (n ∷ ns) =
      ap (λ xs. record { file = name_of a s.name; line = n } ∷ xs) (held_in_places s ns)

  pub held_are : (shown : List Shown)
      → map (place_in a) (held_numbers a text shown) ≡ held_places text (files_of a shown)
  held_are [] = refl
  held_are (s ∷ shown) =
      map-append (place_in a) (held_by text s.name (slice_index_or a.texts s.version []))
      (held_numbers a text shown)
      ∙ (λ i. held_in_places s (lines_with text (slice_index_or a.texts s.version [])) i
      ++ held_are shown i)

  held_below : (n name : ℕ) → name < n → (ns : List ℕ)
      → AllByRecursion (λ (p : FileLine). p.name < n)
      (map (λ line. record { name = name; line = line }) ns)
  held_below n name here [] = tt
  held_below n name here (line ∷ ns) = (here, held_below n name here ns)

  pub all_held_below : (n v : ℕ) (shown : List Shown)
      → AllByRecursion (λ (s : Shown). (s.name < n) × (s.version < v)) shown
      → AllByRecursion (λ (p : FileLine). p.name < n) (held_numbers a text shown)
  all_held_below n v [] all = tt
  all_held_below n v (s ∷ shown) all =
      all-join (λ (p : FileLine). p.name < n)
      (held_by text s.name (slice_index_or a.texts s.version [])) (held_numbers a text shown)
      (held_below n s.name all.0.0 (lines_with text (slice_index_or a.texts s.version [])))
      (all_held_below n v shown all.1)

-- ---- the nth of some places
pub nth_place_in : (a : Archived) (n : ℕ) (ps : List FileLine)
    → option_map (place_in a) (nth n ps) ≡ nth n (map (place_in a) ps)
nth_place_in a zero ps = refl
nth_place_in a (suc n) ps = sym (slice_get-map (place_in a) ps n)

pub nth_below : (names n : ℕ) (ps : List FileLine)
    → AllByRecursion (λ (p : FileLine). p.name < names) ps
    → MatchOption (nth n ps) ⊤ (λ (p : FileLine). p.name < names)
nth_below names zero ps all = tt
nth_below names (suc zero) [] all = tt
nth_below names (suc zero) (p ∷ ps) all = all.0
nth_below names (suc (suc n)) [] all = tt
nth_below names (suc (suc n)) (p ∷ ps) all = nth_below names (suc n) ps all.1
