-- Elements that are kept in blocks.
use Rattle.std.proofs.Common.{◌≡◌, ◌∙◌, ◌≤◌, ◌<◌, ◌+◌, ◌-◌, ℕ, zero, suc, Bool, true, false, List}
use Rattle.std.proofs.Common.{[], ◌∷◌, ◌++◌, refl, sym, ap, subst, length, take, drop, drop-cons}
use Rattle.std.proofs.Common.{get_or, set, arith}
use Rattle.std.proofs.lemmas.Bool.{true≢false}
use Rattle.std.proofs.lemmas.List.{append_assoc, drop-append-le, length-append, take-append-drop}
use Rattle.std.proofs.lemmas.List.{take-append-le}
use Rattle.std.proofs.lemmas.List.Concat.{flat_map-append}
use Rattle.std.proofs.Math.Seq.{drop-append-add, take-append-add}
use Rattle.std.specs.List.{AllByRecursion, insert, remove}
use Rattle.std.specs.List.Sorted.{IsPartitionPoint, IsPartitionedBy}
use Rattle.cb_scan.proofs.WithinLemmas.{all-append}
use Rattle.cb_index.specs.Blocks.{AreParted, IsFilled, IsPlace, before, head_is, joined}
use Rattle.cb_index.proofs.SortedLemmas.{all_behind, all_upto, parts_left, parts_right}

abbrev pub Lists : Type 0 → Type 0
Lists T = List (List T)

pub joined-append : {T : Type 0} (front bs : Lists T) → joined (front ++ bs) ≡ joined front ++ joined bs
joined-append front bs = flat_map-append (λ b. b) front bs

-- ---- a list that is parted in two
module _ {X : Type 0} (one : X) where
  pub in_lower : (at n : ℕ) (xs : List X) → at ≤ n
      → (take at (take n xs) ++ one ∷ drop at (take n xs)) ++ drop n xs
      ≡ take at xs ++ one ∷ drop at xs
  in_lower zero n xs low = ap (λ l. one ∷ l) (take-append-drop n xs)
  in_lower (suc at) zero xs low = absurd (omega (arith, low))
  in_lower (suc at) (suc n) [] low = refl
  in_lower (suc at) (suc n) (x ∷ xs) low = ap (λ l. x ∷ l) (in_lower at n xs (omega (arith, low)))

  pub in_upper : (n at : ℕ) (xs : List X) → n ≤ at
      → take n xs ++ (take (at - n) (drop n xs) ++ one ∷ drop (at - n) (drop n xs))
      ≡ take at xs ++ one ∷ drop at xs
  in_upper zero at xs low =
      let same : at - 0 ≡ at = omega arith in λ i. take (same i) xs ++ one ∷ drop (same i) xs
  in_upper (suc n) zero xs low = absurd (omega (arith, low))
  in_upper (suc n) (suc at) [] low =
      let less : suc at - suc n ≡ at - n = omega arith in
      (λ i. take (less i) [] ++ one ∷ drop (less i) []) ∙ none (at - n)
    where
      none : (k : ℕ) → ◌≡◌ {A = List X} (take k [] ++ one ∷ drop k []) (one ∷ [])
      none zero = refl
      none (suc k) = refl
  in_upper (suc n) (suc at) (x ∷ xs) low =
      let less : suc at - suc n ≡ at - n = omega arith in
      (λ i. x ∷ (take n xs ++ (take (less i) (drop n xs) ++ one ∷ drop (less i) (drop n xs))))
      ∙ ap (λ l. x ∷ l) (in_upper n at xs (omega (arith, low)))

-- ---- blocks that change
pub joined_set : {T : Type 0} (bs : Lists T) (k : ℕ) (b : List T) → k < length bs
    → joined (set bs k b) ≡ joined (take k bs) ++ (b ++ joined (drop (suc k) bs))
joined_set [] k b low = absurd (omega (arith, low))
joined_set (c ∷ bs) zero b low = refl
joined_set (c ∷ bs) (suc k) b low =
    ap (λ l. c ++ l) (joined_set bs k b (omega (arith, low)))
    ∙ sym (append_assoc c (joined (take k bs)) (b ++ joined (drop (suc k) bs)))

pub joined_split : {T : Type 0} (bs : Lists T) (k : ℕ) (lower upper : List T) → k < length bs
    → joined (insert (set bs k lower) (k + 1) upper)
    ≡ joined (take k bs) ++ ((lower ++ upper) ++ joined (drop (suc k) bs))
joined_split [] k lower upper low = absurd (omega (arith, low))
joined_split (c ∷ bs) zero lower upper low = sym (append_assoc lower upper (joined bs))
joined_split (c ∷ bs) (suc k) lower upper low =
    let next : suc k + 1 ≡ suc (k + 1) = omega arith in
    ap (λ n. joined (insert (set (c ∷ bs) (suc k) lower) n upper)) next
    ∙ ap (λ l. c ++ l) (joined_split bs k lower upper (omega (arith, low)))
    ∙ sym (append_assoc c (joined (take k bs)) ((lower ++ upper) ++ joined (drop (suc k) bs)))

pub joined_remove : {T : Type 0} (bs : Lists T) (k : ℕ) (b : List T) → k < length bs
    → joined (remove (set bs k b) k) ≡ joined (take k bs) ++ joined (drop (suc k) bs)
joined_remove [] k b low = absurd (omega (arith, low))
joined_remove (c ∷ bs) zero b low = refl
joined_remove (c ∷ bs) (suc k) b low =
    ap (λ l. c ++ l) (joined_remove bs k b (omega (arith, low)))
    ∙ sym (append_assoc c (joined (take k bs)) (joined (drop (suc k) bs)))

module _ {X : Type 0} (P : X → Type 0) where
  pub all_set : (xs : List X) (k : ℕ) (x : X) → AllByRecursion P xs → P x
      → AllByRecursion P (set xs k x)
  all_set [] k x all here = tt
  all_set (y ∷ ys) zero x all here = (here, all.1)
  all_set (y ∷ ys) (suc k) x all here = (all.0, all_set ys k x all.1 here)

  pub all_front : (xs ys : List X) → AllByRecursion P (xs ++ ys) → AllByRecursion P xs
  all_front [] ys all = tt
  all_front (x ∷ xs) ys all = (all.0, all_front xs ys all.1)

  pub all_back : (xs ys : List X) → AllByRecursion P (xs ++ ys) → AllByRecursion P ys
  all_back [] ys all = all
  all_back (x ∷ xs) ys all = all_back xs ys all.1

-- ---- a place among all entries
pub parted_at : {T : Type 0} (bs : Lists T) (k : ℕ) → k < length bs
    → joined bs ≡ joined (take k bs) ++ (get_or bs k [] ++ joined (drop (suc k) bs))
parted_at bs k low =
    ap joined (sym (take-append-drop k bs)) ∙ joined-append (take k bs) (drop k bs)
    ∙ ap (λ l. joined (take k bs) ++ joined l) (drop-cons bs k [] low)

module _ {T : Type 0} (bs : Lists T) (k j : ℕ) (low : k < length bs) (within : j ≤ length (get_or bs k [])) where
  take_more : (xs ys zs : List T) → j ≤ length ys
      → take (length xs + j) (xs ++ (ys ++ zs)) ≡ xs ++ take j ys
  take_more xs ys zs fits =
      take-append-add xs (ys ++ zs) j ∙ ap (λ l. xs ++ l) (take-append-le j ys zs fits)

  drop_more : (xs ys zs : List T) → j ≤ length ys
      → drop (length xs + j) (xs ++ (ys ++ zs)) ≡ drop j ys ++ zs
  drop_more xs ys zs fits = drop-append-add xs (ys ++ zs) j ∙ drop-append-le j ys zs fits

  pub front_at : take (before bs k j) (joined bs) ≡ joined (take k bs) ++ take j (get_or bs k [])
  front_at =
      ap (take (before bs k j)) (parted_at bs k low)
      ∙ take_more (joined (take k bs)) (get_or bs k []) (joined (drop (suc k) bs)) within

  pub back_at : drop (before bs k j) (joined bs)
      ≡ drop j (get_or bs k []) ++ joined (drop (suc k) bs)
  back_at =
      ap (drop (before bs k j)) (parted_at bs k low)
      ∙ drop_more (joined (take k bs)) (get_or bs k []) (joined (drop (suc k) bs)) within

  -- an entry put there
  pub put_there : (one : T)
      → joined (take k bs)
      ++ ((take j (get_or bs k []) ++ one ∷ drop j (get_or bs k [])) ++ joined (drop (suc k) bs))
      ≡ take (before bs k j) (joined bs) ++ one ∷ drop (before bs k j) (joined bs)
  put_there one =
      ap (λ l. joined (take k bs) ++ l) (append_assoc (take j (get_or bs k []))
      (one ∷ drop j (get_or bs k [])) (joined (drop (suc k) bs)))
      ∙ sym (append_assoc (joined (take k bs)) (take j (get_or bs k []))
      (one ∷ (drop j (get_or bs k []) ++ joined (drop (suc k) bs))))
      ∙ (λ i. sym front_at i ++ one ∷ sym back_at i)

-- an entry taken from there
pub taken_there : {T : Type 0} (bs : Lists T) (k j : ℕ) → k < length bs → j < length (get_or bs k [])
    → joined (take k bs)
    ++ ((take j (get_or bs k []) ++ drop (suc j) (get_or bs k [])) ++ joined (drop (suc k) bs))
    ≡ take (before bs k j) (joined bs) ++ drop (suc (before bs k j)) (joined bs)
taken_there bs k j low within =
    let next : length (joined (take k bs)) + suc j ≡ suc (length (joined (take k bs)) + j) =
    omega arith in
    ap (λ l. joined (take k bs) ++ l) (append_assoc (take j (get_or bs k []))
    (drop (suc j) (get_or bs k [])) (joined (drop (suc k) bs)))
    ∙ sym (append_assoc (joined (take k bs)) (take j (get_or bs k []))
    (drop (suc j) (get_or bs k []) ++ joined (drop (suc k) bs)))
    ∙ (λ i. sym (front_at bs k j low (omega (arith, within))) i
    ++ sym (back_at bs k (suc j) low (omega (arith, within))) i)
    ∙ ap (λ n. take (before bs k j) (joined bs) ++ drop n (joined bs)) next

-- ---- blocks that a test parts
module _ {T : Type 0} (p : T → Bool) where
  -- the first entry of a block that has one fails, where all of it fail
  head_fails : (b : List T) → AllByRecursion (λ e. p e ≡ false) b → head_is p b ≡ false
  unfolding head_is
  head_fails [] a = refl
  head_fails (e ∷ es) a = a.0

  later_fail : (bs : Lists T) (j : ℕ) (d : List T) → j < length bs
      → AllByRecursion (λ e. p e ≡ false) (joined bs)
      → head_is p (get_or bs j d) ≡ false
  later_fail [] j d below a = absurd (omega (arith, below))
  later_fail (b ∷ bs) zero d below a = head_fails b (all_front (λ e. p e ≡ false) b (joined bs) a)
  later_fail (b ∷ bs) (suc j) d below a =
      later_fail bs j d (omega (arith, below)) (all_back (λ e. p e ≡ false) b (joined bs) a)

  pub heads_parted : (bs : Lists T) → AllByRecursion IsFilled bs → AreParted p (joined bs)
      → IsPartitionedBy (head_is p) bs
  unfolding head_is
  heads_parted [] f q i j d upward below is = absurd (omega (arith, below))
  heads_parted ([] ∷ bs) f q i j d upward below is = absurd (omega (arith, f.0))
  heads_parted ((e ∷ es) ∷ bs) f q zero zero d upward below is = is
  heads_parted ((e ∷ es) ∷ bs) f q zero (suc j) d upward below is = by_test (p e) refl
    where
      by_test : (b : Bool) → p e ≡ b → p e ≡ true
      by_test true eq = eq
      by_test false eq =
          absurd (true≢false (sym is ∙ later_fail bs j d (omega (arith, below))
          (all_back (λ x. p x ≡ false) es (joined bs) (q.0 eq))))
  heads_parted ((e ∷ es) ∷ bs) f q (suc i) zero d upward below is = absurd (omega (arith, upward))
  heads_parted ((e ∷ es) ∷ bs) f q (suc i) (suc j) d upward below is =
      heads_parted bs f.1 (parts_right p (e ∷ es) (joined bs) q) i j d (omega (arith, upward))
      (omega (arith, below)) is

  -- each block of them is parted
  pub block_parts : (bs : Lists T) (k : ℕ) → k < length bs → AreParted p (joined bs)
      → AreParted p (get_or bs k [])
  block_parts [] k low q = absurd (omega (arith, low))
  block_parts (b ∷ bs) zero low q = parts_left p b (joined bs) q
  block_parts (b ∷ bs) (suc k) low q =
      block_parts bs k (omega (arith, low)) (parts_right p b (joined bs) q)

  -- ahead of a block that begins with what passes, all pass
  blocks_ahead : (bs : Lists T) (k : ℕ) → k < length bs → AreParted p (joined bs)
      → head_is p (get_or bs k []) ≡ true
      → AllByRecursion (λ e. p e ≡ true) (joined (take k bs))
  blocks_ahead [] k low q is = absurd (omega (arith, low))
  blocks_ahead (b ∷ bs) zero low q is = tt
  blocks_ahead (b ∷ bs) (suc k) low q is =
      all-append (λ e. p e ≡ true) b (joined (take k bs)) (whole b q)
      (blocks_ahead bs k (omega (arith, low)) (parts_right p b (joined bs) q) is)
    where
      whole : (es : List T) → AreParted p (es ++ joined bs) → AllByRecursion (λ e. p e ≡ true) es
      whole [] r = tt
      whole (e ∷ es) r = (by_test (p e) refl, whole es r.1)
        where
          by_test : (c : Bool) → p e ≡ c → p e ≡ true
          by_test true eq = eq
          by_test false eq =
              absurd (true≢false (sym is ∙ later_fail bs k
              [] (omega (arith, low)) (all_back (λ x. p x ≡ false) es (joined bs) (r.0 eq))))

  -- from a block on that begins with what fails, all fail
  blocks_behind : (bs : Lists T) → AllByRecursion IsFilled bs → AreParted p (joined bs)
      → (0 < length bs → head_is p (get_or bs 0 []) ≡ false)
      → AllByRecursion (λ e. p e ≡ false) (joined bs)
  unfolding head_is
  blocks_behind [] f q isnt = tt
  blocks_behind ([] ∷ bs) f q isnt = absurd (omega (arith, f.0))
  blocks_behind ((e ∷ es) ∷ bs) f q isnt =
      let none : p e ≡ false = isnt (omega arith) in (none, q.0 none)

  pub all_dropped : (bs : Lists T) (k : ℕ) → AllByRecursion IsFilled bs → AreParted p (joined bs)
      → (k < length bs → head_is p (get_or bs k []) ≡ false)
      → AllByRecursion (λ e. p e ≡ false) (joined (drop k bs))
  all_dropped bs zero f q isnt = blocks_behind bs f q isnt
  all_dropped [] (suc k) f q isnt = tt
  all_dropped (b ∷ bs) (suc k) f q isnt =
      all_dropped bs k f.1 (parts_right p b (joined bs) q) (λ low. isnt (omega (arith, low)))

  -- the place in the last block that begins with what passes
  module _ (bs : Lists T) (k j : ℕ) (low : k < length bs) (f : AllByRecursion IsFilled bs)
      (q : AreParted p (joined bs))
      (heads : IsPartitionPoint (λ b. head_is p b ≡ true) (λ b. head_is p b ≡ false) bs (suc k))
      (within : j ≤ length (get_or bs k []))
      (inner : IsPartitionPoint (λ e. p e ≡ true) (λ e. p e ≡ false) (get_or bs k []) j) where
    pub place_ahead : AllByRecursion (λ e. p e ≡ true) (take (before bs k j) (joined bs))
    place_ahead =
        subst (AllByRecursion (λ e. p e ≡ true)) (sym (front_at bs k j low within))
        (all-append (λ e. p e ≡ true) (joined (take k bs)) (take j (get_or bs k []))
        (blocks_ahead bs k low q (heads.0 k [] (omega arith) (omega arith)))
        (all_upto (λ e. p e ≡ true) j (get_or bs k []) within inner.0))

    pub place_behind : AllByRecursion (λ e. p e ≡ false) (drop (before bs k j) (joined bs))
    place_behind =
        subst (AllByRecursion (λ e. p e ≡ false)) (sym (back_at bs k j low within))
        (all-append (λ e. p e ≡ false) (drop j (get_or bs k [])) (joined (drop (suc k) bs))
        (all_behind (λ e. p e ≡ false) j (get_or bs k []) inner.1)
        (all_dropped bs (suc k) f q (λ below. heads.1 (suc k) [] (omega arith) below)))

    -- it is not at the start of that block
    pub place_inside : 0 < j
    unfolding head_is
    place_inside = by_place j (get_or bs k []) inner.1 (heads.0 k [] (omega arith) (omega arith))
      where
        by_place : (n : ℕ) (b : List T)
            → ((i : ℕ) (d : T) → n ≤ i → i < length b → p (get_or b i d) ≡ false)
            → head_is p b ≡ true → 0 < n
        by_place (suc n) b none is = omega arith
        by_place zero [] none is = absurd (true≢false (sym is))
        by_place zero (e ∷ es) none is =
            absurd (true≢false (sym is ∙ none 0 e (omega arith) (omega arith)))

-- ---- bounds of places
pub place_there : {T : Type 0} (bs : Lists T) (k j : ℕ) → IsPlace bs k j → 0 < j → k < length bs
place_there [] k j is some = absurd (omega (arith, is.1, some))
place_there (b ∷ bs) k j is some = omega (arith, is.0)

pub before_fits : {T : Type 0} (bs : Lists T) (k j : ℕ) → k < length bs → j ≤ length (get_or bs k [])
    → before bs k j ≤ length (joined bs)
before_fits bs k j low within =
    let whole : length (joined bs)
    ≡ length (joined (take k bs) ++ (get_or bs k [] ++ joined (drop (suc k) bs))) =
    ap length (parted_at bs k low) in
    let first = length-append (joined (take k bs)) (get_or bs k [] ++ joined (drop (suc k) bs)) in
    let second = length-append (get_or bs k []) (joined (drop (suc k) bs)) in
    omega (arith, whole, first, second, within)

-- ---- what becomes of the blocks where one of them changes
pub get_or_any : {X : Type 0} (xs : List X) (k : ℕ) (d e : X) → k < length xs
    → get_or xs k d ≡ get_or xs k e
get_or_any [] k d e low = absurd (omega (arith, low))
get_or_any (x ∷ xs) zero d e low = refl
get_or_any (x ∷ xs) (suc k) d e low = get_or_any xs k d e (omega (arith, low))

module _ {T : Type 0} (bs : Lists T) (k j : ℕ) (low : k < length bs) (old : List T)
    (here : old ≡ get_or bs k old) where
  here_is : old ≡ get_or bs k []
  here_is = here ∙ get_or_any bs k old [] low

  -- an entry comes into one block
  pub put_changed : (one : T) (new : List T) → j ≤ length (get_or bs k [])
      → new ≡ take j old ++ one ∷ drop j old
      → joined (set bs k new)
      ≡ take (before bs k j) (joined bs) ++ one ∷ drop (before bs k j) (joined bs)
  put_changed one new within is =
      joined_set bs k new low
      ∙ ap (λ l. joined (take k bs) ++ (l ++ joined (drop (suc k) bs)))
      (is ∙ (λ i. take j (here_is i) ++ one ∷ drop j (here_is i)))
      ∙ put_there bs k j low within one

  -- a block becomes two
  pub split_changed : (one : T) (lower upper : List T) → j ≤ length (get_or bs k [])
      → lower ++ upper ≡ take j old ++ one ∷ drop j old
      → joined (insert (set bs k lower) (k + 1) upper)
      ≡ take (before bs k j) (joined bs) ++ one ∷ drop (before bs k j) (joined bs)
  split_changed one lower upper within is =
      joined_split bs k lower upper low
      ∙ ap (λ l. joined (take k bs) ++ (l ++ joined (drop (suc k) bs)))
      (is ∙ (λ i. take j (here_is i) ++ one ∷ drop j (here_is i)))
      ∙ put_there bs k j low within one

  -- an entry goes out of one block
  pub taken_changed : (new : List T) → j < length (get_or bs k [])
      → new ≡ take j old ++ drop (suc j) old
      → joined (set bs k new)
      ≡ take (before bs k j) (joined bs) ++ drop (suc (before bs k j)) (joined bs)
  taken_changed new within is =
      joined_set bs k new low
      ∙ ap (λ l. joined (take k bs) ++ (l ++ joined (drop (suc k) bs)))
      (is ∙ (λ i. take j (here_is i) ++ drop (suc j) (here_is i)))
      ∙ taken_there bs k j low within

  -- and the block with it
  pub emptied_changed : (new : List T) → j < length (get_or bs k [])
      → new ≡ take j old ++ drop (suc j) old → new ≡ []
      → joined (remove (set bs k new) k)
      ≡ take (before bs k j) (joined bs) ++ drop (suc (before bs k j)) (joined bs)
  emptied_changed new within is none =
      joined_remove bs k new low
      ∙ ap (λ l. joined (take k bs) ++ (l ++ joined (drop (suc k) bs))) (sym none)
      ∙ sym (joined_set bs k new low) ∙ taken_changed new within is

pub nil_of : {T : Type 0} (es : List T) → length es ≡ 0 → es ≡ []
nil_of [] is = refl
nil_of (e ∷ es) is = absurd (omega (arith, is))

-- ---- one block after another
pub lift_fits : {T : Type 0} (bs : Lists T) (i : ℕ) (d : List T) (es old : List T) (room : ℕ)
    → i < length bs
    → es ++ joined (drop i bs) ≡ old ++ joined bs → length old + length (joined bs) ≤ room
    → length es + length (get_or bs i d) ≤ room
lift_fits bs i d es old room below is enough =
    let later = joined (drop (suc i) bs) in
    let whole : length (es ++ (get_or bs i d ++ later)) ≡ length (old ++ joined bs) =
    ap (λ l. length (es ++ joined l)) (sym (drop-cons bs i d below)) ∙ ap length is in
    let front = length-append es (get_or bs i d ++ later) in
    let back = length-append (get_or bs i d) later in
    let all = length-append old (joined bs) in
    omega (arith, whole, front, back, all, enough)
