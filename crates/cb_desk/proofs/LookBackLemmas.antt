-- A row is equal to one before it if it is equal to one of its group.
use Rattle.std.proofs.Common.{◌≡◌, ◌≢◌, ◌∙◌, sym, ap, refl, subst, ℕ, zero, suc, ◌+◌, ◌-◌, ◌≤◌, ◌<◌}
use Rattle.std.proofs.Common.{true, false, ◌||◌, ◌&&◌, bytes_eq, List, [], ◌∷◌, ◌++◌, length}
use Rattle.std.proofs.Common.{length-drop, take, drop, add-one, arith, Ordering, Less, Equal}
use Rattle.std.proofs.Common.{Greater, nat_cmp}
use Rattle.std.specs.Cmp.Lexicographic.{slice_cmp}
use Rattle.std.specs.List.{AllByRecursion, list_any}
use Rattle.std.specs.Ordering.{is_gt, ordering_reverse}
use Rattle.std.proofs.lemmas.Bool.{false_from_ne_true, false≢true}
use Rattle.std.proofs.lemmas.Bool.Decides.{Decides-eqb}
use Rattle.std.proofs.lemmas.Slice.Eq.{bytes_eq-Decides}
use Rattle.std.proofs.lemmas.Cmp.{nat_list_cmp_total, tied_itself}
use Rattle.std.proofs.lemmas.List.{drop-take}
use Rattle.cb_scan.proofs.KeyOrder.{same_bytes}
use Rattle.cb_desk.specs.Answer.{AnswerRow, row_eq}
use Rattle.cb_desk.specs.steps.LookBack.{IsGrouped, IsTextedLike, alike, row_key}
use Rattle.cb_desk.proofs.EqualRows.{and-left, and-right, row_same}
use Rattle.cb_desk.proofs.TextRowsApart.{not-below}
use Rattle.cb_desk.proofs.Valid.{all-along, all-join}

abbrev Keys : List ℕ → List ℕ → Ordering
Keys = slice_cmp nat_cmp

-- ---- rows among others
all-take : {X : Type 0} (P : X → Type 0) (n : ℕ) (xs : List X) → AllByRecursion P xs
    → AllByRecursion P (take n xs)
all-take P zero xs all = tt
all-take P (suc n) [] all = tt
all-take P (suc n) (x ∷ xs) all = (all.0, all-take P n xs all.1)

-- where none of the first rows is equal, an equal one is among the others
any-behind : (q : AnswerRow) (rows : List AnswerRow) (n : ℕ)
    → AllByRecursion (λ r. row_eq q r ≡ false) (take n rows)
    → list_any (row_eq q) (drop n rows) ≡ list_any (row_eq q) rows
any-behind q rows zero none = refl
any-behind q [] (suc n) none = refl
any-behind q (r ∷ rows) (suc n) none = any-behind q rows n none.1 ∙ rw none.0 refl

-- rows that are equal but for their texts are equal where they have one text
alike-equal : (q r : AnswerRow) → IsTextedLike q r → row_eq q r ≡ alike q r
alike-equal q r same =
    (elim (alike q r) as (λ b. alike q r ≡ b → b && bytes_eq q.text r.text ≡ b) [
      | true ↦ λ h.
          let both = and-left _ _ h in
          (bytes_eq-Decides q.text r.text).1
          (sym (same (sym ((bytes_eq-Decides q.file r.file).0 (and-left _ _ both)))
          (sym ((Decides-eqb q.line r.line).0 (and-right _ _ h)))))
      | false ↦ λ h. refl
    ]) refl

-- ---- the next of a list
take-next : {X : Type 0} (n : ℕ) (xs : List X) (y : X) (ys : List X) → drop n xs ≡ y ∷ ys
    → take (suc n) xs ≡ take n xs ++ y ∷ []
take-next zero xs y ys is = ap (take 1) is
take-next (suc n) [] y ys is =
    absurd (let e : 0 ≡ suc (length ys) = ap length is in omega (arith, e))
take-next (suc n) (x ∷ xs) y ys is = ap (λ l. x ∷ l) (take-next n xs y ys is)

drop-next : {X : Type 0} (n : ℕ) (xs : List X) (y : X) (ys : List X) → drop n xs ≡ y ∷ ys
    → drop (suc n) xs ≡ ys
drop-next zero xs y ys is = ap (drop 1) is
drop-next (suc n) [] y ys is =
    absurd (let e : 0 ≡ suc (length ys) = ap length is in omega (arith, e))
drop-next (suc n) (x ∷ xs) y ys is = drop-next n xs y ys is

all-drop : {X : Type 0} (P : X → Type 0) (n : ℕ) (xs : List X) → AllByRecursion P xs
    → AllByRecursion P (drop n xs)
all-drop P zero xs all = all
all-drop P (suc n) [] all = tt
all-drop P (suc n) (x ∷ xs) all = all-drop P n xs all.1

take-take : {X : Type 0} (m n : ℕ) (xs : List X) → m ≤ n → take m (take n xs) ≡ take m xs
take-take zero n xs le = refl
take-take (suc m) zero xs le = absurd (omega (arith, le))
take-take (suc m) (suc n) [] le = refl
take-take (suc m) (suc n) (x ∷ xs) le = ap (λ l. x ∷ l) (take-take m n xs (omega (arith, le)))

none-any : (r : AnswerRow) (rows : List AnswerRow) → AllByRecursion (λ q. row_eq r q ≡ false) rows
    → list_any (row_eq r) rows ≡ false
none-any r [] none = refl
none-any r (q ∷ rows) none = rw none.0 (none-any r rows none.1)

-- ---- texts are not looked at
module _ (text : List ℕ → ℕ → List ℕ) (r : AnswerRow) (own : r.text ≡ text r.file r.line) where
  abbrev HasText : AnswerRow → Type 0
  HasText q = q.text ≡ text q.file q.line

  texted : (q : AnswerRow) → HasText q → IsTextedLike r q
  texted q has file line =
      let moved : text q.file q.line ≡ text r.file r.line = λ i. text (file i) (line i) in
      has ∙ moved ∙ sym own

  any-alike : (rows : List AnswerRow) → AllByRecursion HasText rows
      → list_any (alike r) rows ≡ list_any (row_eq r) rows
  any-alike [] all = refl
  any-alike (q ∷ rows) all = λ i. sym (alike-equal r q (texted q all.0)) i || any-alike rows all.1 i

-- ---- orders of keys
below-after : (a k b : List ℕ) → is_gt (Keys a k) ≡ false → Keys k b ≡ Less → Keys a b ≡ Less
below-after a k b le less = by_cases (Keys a k) refl le
  where
    by_cases : (o : Ordering) → Keys a k ≡ o → is_gt o ≡ false → Keys a b ≡ Less
    by_cases Less e is = nat_list_cmp_total.trans a k b e less
    by_cases Equal e is = subst (λ x. Keys x b ≡ Less) (sym (same_bytes a k e)) less
    by_cases Greater e is = absurd (false≢true (sym is))

not-above : (k b : List ℕ) → Keys k b ≢ Less → is_gt (Keys b k) ≡ false
not-above k b other = by_cases (Keys k b) refl other
  where
    by_cases : (o : Ordering) → Keys k b ≡ o → o ≢ Less → is_gt (Keys b k) ≡ false
    by_cases Less e is = absurd (is refl)
    by_cases Equal e is =
        ap is_gt (nat_list_cmp_total.antisymm b k) ∙ ap (λ o. is_gt (ordering_reverse o)) e
    by_cases Greater e is =
        ap is_gt (nat_list_cmp_total.antisymm b k) ∙ ap (λ o. is_gt (ordering_reverse o)) e

-- a row on a lower line is another row
lower-other : (r q : AnswerRow) → Keys (row_key q) (row_key r) ≡ Less → row_eq r q ≡ false
lower-other r q less =
    false_from_ne_true (row_eq r q) (λ yes. not-below (row_key r)
    (subst (λ x. Keys (row_key x) (row_key r) ≡ Less) (sym (row_same r q yes)) less))

-- ---- the next row
module _ (all group rest : List AnswerRow) (first passed : ℕ) (key : List ℕ)
    (kept : IsGrouped all group rest first passed key)
    (r : AnswerRow) (more : List AnswerRow) (next : rest ≡ r ∷ more) where
  here : drop passed all ≡ r ∷ more
  here = sym kept.left ∙ next

  pub seen-more : take (passed + 1) all ≡ take passed all ++ r ∷ []
  seen-more = ap (λ n. take n all) (add-one passed) ∙ take-next passed all r more here

  more-is : more ≡ drop (passed + 1) all
  more-is = sym (ap (λ n. drop n all) (add-one passed) ∙ drop-next passed all r more here)

  pub room : passed < length all
  room =
      let e : length (drop passed all) ≡ suc (length more) = ap length here in
      let d = length-drop passed all in
      omega (arith, e, d)

  own-text : r.text ≡ kept.texts.0 r.file r.line
  own-text =
      let all-here =
      subst (AllByRecursion (λ (q : AnswerRow). q.text ≡ kept.texts.0 q.file q.line)) here
      (all-drop (λ (q : AnswerRow). q.text ≡ kept.texts.0 q.file q.line) passed all kept.texts.1) in
      all-here.0

  -- on a greater line
  pub is-new-after : Keys key (row_key r) ≡ Less → list_any (row_eq r) (take passed all) ≡ false
  is-new-after less =
      none-any r (take passed all)
      (all-along (λ q. is_gt (Keys (row_key q) key) ≡ false) (λ q. row_eq r q ≡ false)
      (take passed all)
      (λ q le. lower-other r q (below-after (row_key q) key (row_key r) le less)) kept.so_far)

  -- on the line of the group
  pub in-group : Keys key (row_key r) ≡ Equal
      → list_any (alike r) (take (passed - first) group) ≡ list_any (row_eq r) (take passed all)
  in-group tied =
      let same : key ≡ row_key r = same_bytes key (row_key r) tied in
      let low : AllByRecursion (λ q. row_eq r q ≡ false) (take first (take passed all)) =
      subst (AllByRecursion (λ q. row_eq r q ≡ false)) (sym (take-take first passed all kept.order))
      (all-along (λ q. Keys (row_key q) key ≡ Less) (λ q. row_eq r q ≡ false) (take first all)
      (λ q less. lower-other r q (subst (λ k. Keys (row_key q) k ≡ Less) same less)) kept.before) in
      let part : take (passed - first) group ≡ drop first (take passed all) =
      ap (take (passed - first)) kept.begins ∙ sym (drop-take first (passed - first) all)
      ∙ ap (λ n. drop first (take n all)) (let o = kept.order in omega (arith, o)) in
      any-alike kept.texts.0 r own-text (take (passed - first) group)
      (subst (AllByRecursion (λ (q : AnswerRow). q.text ≡ kept.texts.0 q.file q.line)) (sym part)
      (all-drop (λ (q : AnswerRow). q.text ≡ kept.texts.0 q.file q.line) first (take passed all)
      (all-take (λ (q : AnswerRow). q.text ≡ kept.texts.0 q.file q.line) passed all kept.texts.1)))
      ∙ ap (list_any (row_eq r)) part ∙ any-behind r (take passed all) first low

  -- on any line
  pub in-all : list_any (alike r) (take passed all) ≡ list_any (row_eq r) (take passed all)
  in-all =
      any-alike kept.texts.0 r own-text (take passed all)
      (all-take (λ (q : AnswerRow). q.text ≡ kept.texts.0 q.file q.line) passed all kept.texts.1)

  -- the row begins a group
  pub group-begun : Keys key (row_key r) ≡ Less
      → IsGrouped all rest more passed (passed + 1) (row_key r)
  group-begun less = record {
    order = omega arith;
    within = let w = room in omega (arith, w);
    begins = kept.left;
    left = more-is;
    before = lower;
    so_far =
        subst (AllByRecursion (λ q. is_gt (Keys (row_key q) (row_key r)) ≡ false)) (sym seen-more)
        (all-join (λ q. is_gt (Keys (row_key q) (row_key r)) ≡ false) (take passed all) (r ∷ [])
        (all-along (λ q. Keys (row_key q) (row_key r) ≡ Less) (λ q.
        is_gt (Keys (row_key q) (row_key r)) ≡ false) (take passed all) (λ q l. ap is_gt l) lower)
        (ap is_gt (tied_itself nat_list_cmp_total (row_key r)), tt));
    texts = kept.texts;
    few = kept.few;
  }
    where
      lower : AllByRecursion (λ q. Keys (row_key q) (row_key r) ≡ Less) (take passed all)
      lower =
          all-along (λ q. is_gt (Keys (row_key q) key) ≡ false)
          (λ q. Keys (row_key q) (row_key r) ≡ Less) (take passed all)
          (λ q le. below-after (row_key q) key (row_key r) le less) kept.so_far

  -- the row is not beyond the group
  pub group-goes-on : Keys key (row_key r) ≢ Less → IsGrouped all group more first (passed + 1) key
  group-goes-on other = record {
    order = let o = kept.order in omega (arith, o);
    within = let w = room in omega (arith, w);
    begins = kept.begins;
    left = more-is;
    before = kept.before;
    so_far = subst (AllByRecursion (λ q. is_gt (Keys (row_key q) key) ≡ false)) (sym seen-more)
        (all-join (λ q. is_gt (Keys (row_key q) key) ≡ false) (take passed all) (r ∷ []) kept.so_far
        (not-above key (row_key r) other, tt));
    texts = kept.texts;
    few = kept.few;
  }
