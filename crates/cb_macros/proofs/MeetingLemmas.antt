-- Macros are met one after the other.
use Rattle.std.proofs.Common.{◌≡◌, ◌∙◌, ◌++◌, ◌∷◌, ◌+◌, ◌-◌, ◌<◌, ◌≤◌, [], ℕ, zero, suc, Bool, true, false, List, refl, ap, sym, length, map, add-one, arith}
use Rattle.std.proofs.Math.Seq.{drop-cons}
use Rattle.std.proofs.lemmas.Grind.{flat_map-append}
use Rattle.std.proofs.lemmas.Option.{none-some}
use Rattle.std.specs.Prelude.{cond, drop, slice_index_or, None, Some}
use Rattle.std.specs.List.{flat_map}
use Rattle.cb_desk.specs.World.{World, has_file, text_named, text_of_file}
use Rattle.cb_tags.specs.TagLines.{Tag}
use Rattle.cb_macros.specs.Meeting.{Met, Seen, is_macro_kind, meet, meet_all, met_by, met_through, named_by, names_in}
use Rattle.cb_macros.specs.Meeting.{rest_if, rest_of, round, rounds}

pub meet_append : (w : World) (s : Seen) (xs ys : List Met) → meet_all w s (xs ++ ys) ≡ meet_all w (meet_all w s xs) ys
unfolding meet_all
meet_append w s [] ys = refl
meet_append w s (x ∷ xs) ys = meet_append w (meet w s x) xs ys

-- nothing is left behind the last index
pub past : {A : Type 0} (xs : List A) (i : ℕ) → length xs ≤ i → drop i xs ≡ []
past [] zero le = refl
past [] (suc i) le = refl
past (x ∷ xs) zero le = absurd (omega (arith, le))
past (x ∷ xs) (suc i) le = past xs i (omega (arith, le))

-- ---- one more is met
module _ {A B : Type 0} (w : World) (g : B → Met) (f : A → B) (xs : List A) (i : ℕ) (d : A) (less : i < length xs) where
  pub meet_step : (s next : Seen) → next ≡ meet w s (g (f (slice_index_or xs i d)))
      → meet_all w next (map g (map f (drop (i + 1) xs))) ≡ meet_all w s (map g (map f (drop i xs)))
  unfolding meet_all
  meet_step s next is =
      ap (λ t. meet_all w t (map g (map f (drop (i + 1) xs)))) is
      ∙ ap (λ j. meet_all w (meet w s (g (f (slice_index_or xs i d)))) (map g (map f (drop j xs)))) (add-one i)
      ∙ sym (ap (λ l. meet_all w s (map g (map f l))) (drop-cons xs i d less))

module _ {A : Type 0} (w : World) (f : A → Met) (xs : List A) (i : ℕ) (d : A) (less : i < length xs) where
  pub round_step : (s next : Seen) → next ≡ meet_all w s (named_by w (f (slice_index_or xs i d)))
      → meet_all w next (flat_map (named_by w) (map f (drop (i + 1) xs)))
      ≡ meet_all w s (flat_map (named_by w) (map f (drop i xs)))
  round_step s next is =
      ap (λ t. meet_all w t (flat_map (named_by w) (map f (drop (i + 1) xs)))) is
      ∙ sym (meet_append w s (named_by w (f (slice_index_or xs i d))) (flat_map (named_by w) (map f (drop (i + 1) xs))))
      ∙ ap (λ j. meet_all w s (named_by w (f (slice_index_or xs i d)) ++ flat_map (named_by w) (map f (drop j xs)))) (add-one i)
      ∙ sym (ap (λ l. meet_all w s (flat_map (named_by w) (map f l))) (drop-cons xs i d less))

-- one more round
pub rounds_step : (w : World) (n i : ℕ) (s next : Seen) → i < n → next ≡ round w s
    → rounds w (n - (i + 1)) next ≡ rounds w (n - i) s
unfolding rounds
rounds_step w n i s next less is =
    let one : n - i ≡ suc (n - (i + 1)) = omega (arith, less) in
    ap (rounds w (n - (i + 1))) is ∙ sym (ap (λ k. rounds w k s) one)

-- ---- one more definition
module _ (w : World) where
  pub rows_step : (through : List ℕ) (s next : Seen) (t : Tag) (all rest : List Tag) → all ≡ t ∷ rest
      → next ≡ meet_all w s (met_by through (rest_if w t))
      → meet_all w next (met_by through (flat_map (rest_if w) rest))
      ≡ meet_all w s (met_by through (flat_map (rest_if w) all))
  rows_step through s next t all rest all_is is =
      ap (λ u. meet_all w u (met_by through (flat_map (rest_if w) rest))) is
      ∙ sym (meet_append w s (met_by through (rest_if w t)) (met_by through (flat_map (rest_if w) rest)))
      ∙ ap (meet_all w s) (sym (flat_map-append (λ text. met_through through (names_in text)) (rest_if w t)
      (flat_map (rest_if w) rest)))
      ∙ sym (ap (λ l. meet_all w s (met_by through (flat_map (rest_if w) l))) all_is)

  -- the text of a definition that is none of a macro, or whose file is not there
  pub none_other : (t : Tag) → is_macro_kind t.kind ≡ false → rest_if w t ≡ []
  none_other t isnt = ap (λ b. cond b (rest_of w t) []) isnt

  pub none_missing : (t : Tag) → None ≡ text_named w.files t.file → rest_if w t ≡ []
  none_missing t is =
      ap (λ l. cond (is_macro_kind t.kind) l []) (missing (has_file w.files t.file) is)
      ∙ both (is_macro_kind t.kind)
    where
      missing : (b : Bool) → None ≡ cond b (Some (text_of_file w.files t.file)) None
          → cond b (drop t.place (text_of_file w.files t.file) ∷ []) [] ≡ []
      missing true e = absurd (none-some _ e)
      missing false e = refl

      both : (b : Bool) → cond {A = List (List ℕ)} b [] [] ≡ []
      both true = refl
      both false = refl
