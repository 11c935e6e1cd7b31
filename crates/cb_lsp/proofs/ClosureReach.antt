-- What a file includes by way of others: a way over a file is a way, and a set that holds what its
-- files include holds all.
use Rattle.std.proofs.Common.{◌≡◌, ◌&&◌, ℕ, List, [], ◌∷◌, Bool, true, false, sym}
use Rattle.std.proofs.Common.{Some, None, refl, subst, ⊎_elim}
use Rattle.std.specs.Prelude.{if◌then◌else◌}
use Rattle.std.specs.Option.{option_map, option_map_or}
use Rattle.std.specs.Str.{bytes_eq}
use Rattle.std.proofs.lemmas.Bool.{or_cases}
use Rattle.std.proofs.lemmas.Slice.Eq.{bytes_eq-Decides}
use Rattle.cb_desk.specs.Scanned.{ScannedText, scanned_by}
use Rattle.cb_desk.specs.World.{File, World, has_file, text_of_file}
use Rattle.cb_lsp.specs.Closures.{includes, includes_by, is_in_closure, means}
use Rattle.std.specs.List.{list_any}
use Rattle.cb_lsp.proofs.Truths.{and_first, and_second, and_true, or_first, or_second}

-- only a file includes others
with_text : (b : Bool) (g : ScannedText → Bool) (h : List ℕ → ScannedText) (text : List ℕ)
    → option_map_or g (option_map h (if b then Some text else None)) false ≡ true → b ≡ true
with_text true g h text is = refl
with_text false g h text is = absurd cc

module _ (w : World) where
  includer : (a b : List ℕ) → includes w a b ≡ true → has_file w.files a ≡ true
  includer a b is =
      with_text (has_file w.files a)
      (λ (s : ScannedText). list_any (means w.files a s.bytes b) s.facts.includes)
      (scanned_by w.profile) (text_of_file w.files a) is

  pub to_itself : (fs : List File) (a : List ℕ) → includes_by w fs a a ≡ true
  unfolding includes_by
  to_itself [] a = or_first (bytes_eq a a) (includes w a a) ((bytes_eq-Decides a a).1 refl)
  to_itself (f ∷ fs) a =
      or_first (includes_by w fs a a) (includes_by w fs a f.name && includes_by w fs f.name a)
      (to_itself fs a)

  at_once : (fs : List File) (a b : List ℕ) → includes w a b ≡ true → includes_by w fs a b ≡ true
  unfolding includes_by
  at_once [] a b is = or_second (bytes_eq a b) (includes w a b) is
  at_once (f ∷ fs) a b is =
      or_first (includes_by w fs a b) (includes_by w fs a f.name && includes_by w fs f.name b)
      (at_once fs a b is)

  -- by way of one more file
  directly : (f : File) (fs : List File) (a b : List ℕ) → includes_by w fs a b ≡ true
      → includes_by w (f ∷ fs) a b ≡ true
  unfolding includes_by
  directly f fs a b is =
      or_first (includes_by w fs a b) (includes_by w fs a f.name && includes_by w fs f.name b) is

  over : (f : File) (fs : List File) (a b : List ℕ) → includes_by w fs a f.name ≡ true
      → includes_by w fs f.name b ≡ true → includes_by w (f ∷ fs) a b ≡ true
  unfolding includes_by
  over f fs a b to on =
      or_second (includes_by w fs a b) (includes_by w fs a f.name && includes_by w fs f.name b)
      (and_true (includes_by w fs a f.name) (includes_by w fs f.name b) to on)

  by_either : {P : Type 0} (f : File) (fs : List File) (a b : List ℕ)
      → (includes_by w fs a b ≡ true → P)
      → (includes_by w fs a f.name ≡ true → includes_by w fs f.name b ≡ true → P)
      → includes_by w (f ∷ fs) a b ≡ true → P
  unfolding includes_by
  by_either f fs a b without with_it is = ⊎_elim
      (λ (i : includes_by w fs a b ≡ true). without i)
      (λ (i : (includes_by w fs a f.name && includes_by w fs f.name b) ≡ true).
      with_it (and_first (includes_by w fs a f.name) (includes_by w fs f.name b) i)
      (and_second (includes_by w fs a f.name) (includes_by w fs f.name b) i))
      (or_cases (includes_by w fs a b) (includes_by w fs a f.name && includes_by w fs f.name b) is)

  -- two ways that meet at one of the files are one
  joined : (fs : List File) (a m b : List ℕ) → has_file fs m ≡ true → includes_by w fs a m ≡ true
      → includes_by w fs m b ≡ true → includes_by w fs a b ≡ true
  joined [] a m b among to on = absurd cc
  joined (f ∷ fs) a m b among to on = ⊎_elim
      (λ (first : bytes_eq f.name m ≡ true).
      let same : f.name ≡ m = (bytes_eq-Decides f.name m).0 first in
      over f fs a b
      (by_either f fs a f.name (λ i. i) (λ i j. i)
      (subst (λ n. includes_by w (f ∷ fs) a n ≡ true) (sym same) to))
      (by_either f fs f.name b (λ i. i) (λ i j. j)
      (subst (λ n. includes_by w (f ∷ fs) n b ≡ true) (sym same) on)))
      (λ (later : has_file fs m ≡ true).
      by_either f fs a m
      (λ am. by_either f fs m b
      (λ mb. directly f fs a b (joined fs a m b later am mb))
      (λ mf fb. over f fs a b (joined fs a m f.name later am mf) fb) on)
      (λ af fm. by_either f fs m b
      (λ mb. over f fs a b af (joined fs f.name m b later fm mb))
      (λ mf fb. over f fs a b af fb) on) to)
      (or_cases (bytes_eq f.name m) (has_file fs m) among)

  -- what a file of a closure includes is in it
  pub goes_on : (from a b : List ℕ) → is_in_closure w from a ≡ true → includes w a b ≡ true
      → is_in_closure w from b ≡ true
  goes_on from a b is more =
      joined w.files from a b (includer a b more) is (at_once w.files a b more)

  -- a set that holds what its files include holds what these include by way of any files
  pub all_held : (held : List ℕ → Bool)
      → ((a b : List ℕ) → held a ≡ true → includes w a b ≡ true → held b ≡ true)
      → (fs : List File) (a b : List ℕ) → held a ≡ true → includes_by w fs a b ≡ true
      → held b ≡ true
  unfolding includes_by
  all_held held closed [] a b at is = ⊎_elim
      (λ (same : bytes_eq a b ≡ true).
      subst (λ n. held n ≡ true) ((bytes_eq-Decides a b).0 same) at)
      (λ (more : includes w a b ≡ true). closed a b at more)
      (or_cases (bytes_eq a b) (includes w a b) is)
  all_held held closed (f ∷ fs) a b at is =
      by_either f fs a b
      (λ i. all_held held closed fs a b at i)
      (λ to on. all_held held closed fs f.name b (all_held held closed fs a f.name at to) on) is
