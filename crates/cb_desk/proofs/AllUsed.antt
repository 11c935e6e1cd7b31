-- The archive holds nothing that the timeline does not use.
use Rattle.std.proofs.Common.{◌≡◌, ◌∙◌, ◌≤◌, ◌<◌, ◌+◌, ℕ, Bool, true, false, ◌||◌, List, [], ◌∷◌}
use Rattle.std.proofs.Common.{◌++◌, refl, ap, length, cond, arith, ⊎_elim}
use Rattle.std.proofs.Math.Bool.{or-true}
use Rattle.std.proofs.lemmas.Bool.{cases_lt}
use Rattle.std.proofs.lemmas.Bool.Decides.{nat_tests}
use Rattle.std.proofs.lemmas.List.Folds.{list_any-append}
use Rattle.std.specs.List.{list_any}
use Rattle.std.specs.Prelude.{nat_eq}
use Rattle.cb_scan.specs.Order.{goes_first, in_order, put}
use Rattle.cb_index.specs.Archived.{Archived}
use Rattle.cb_index.specs.Compact.{shows_version}
use Rattle.cb_desk.specs.steps.Records.{Numbered, Rooms, Turn, other}
use Rattle.cb_desk.specs.steps.Walks.{IsAllUsed, LeadsBack, LeadsOn, Recorded, first_names}
use Rattle.cb_desk.specs.steps.Walks.{shows_name, turns_back, turns_on, walk}

-- ---- a list in order passes the tests of the list
module _ {X : Type 0} (p : X → Bool) (key : X → List ℕ) where
  other_first : (a b c : Bool) → (b || (a || c)) ≡ (a || (b || c))
  other_first true true c = refl
  other_first true false c = refl
  other_first false b c = refl

  any_put : (x : X) (xs : List X) → list_any p (put key x xs) ≡ (p x || list_any p xs)
  unfolding put
  any_put x [] = refl
  any_put x (y ∷ ys) =
      elim (goes_first key x y) as
      (λ b. list_any p (cond b (x ∷ y ∷ ys) (y ∷ put key x ys)) ≡ (p x || (p y || list_any p ys))) [
        | true ↦ refl
        | false ↦ ap (λ b. p y || b) (any_put x ys) ∙ other_first (p x) (p y) (list_any p ys)
      ]

  pub any_in_order : (xs : List X) → list_any p (in_order key xs) ≡ list_any p xs
  unfolding in_order
  any_in_order [] = refl
  any_in_order (x ∷ xs) = any_put x (in_order key xs) ∙ ap (λ b. p x || b) (any_in_order xs)

-- what is shown then is also shown in the list of all, in order
pub any_shown : {X : Type 0} (p : X → Bool) (key : X → List ℕ) (xs ys : List X)
    → list_any p ys ≡ true → list_any p (in_order key (xs ++ ys)) ≡ true
any_shown p key xs ys is =
    any_in_order p key (xs ++ ys) ∙ list_any-append p xs ys ∙ ap (λ b. list_any p xs || b) is
    ∙ or-true (list_any p xs)

-- the only new number
pub only_new : (x top m : ℕ) → top ≡ x + 1 → x ≤ m → m < top → (nat_eq x m || false) ≡ true
only_new x top m one above below = ap (λ b. b || false) is
  where
    same : x ≡ m
    same = omega (arith, one, above, below)

    is : nat_eq x m ≡ true
    is = grind (arith, nat_tests, same)

-- no new number
pub none_new : (x top m : ℕ) (P : Type 0) → top ≡ x → x ≤ m → m < top → P
none_new x top m P none above below = absurd (omega (arith, none, above, below))

-- ---- what each world of a chain uses first is shown in it
module _ (count : Numbered → ℕ) (shows : ℕ → Numbered → Bool) where
  abbrev AllNew : Numbered → Numbered → Type 0
  AllNew v w = (n : ℕ) → count v ≤ n → n < count w → shows n w ≡ true

  abbrev Back : ℕ → Numbered → List Numbered → Type 0
  Back first w [] = (n : ℕ) → first ≤ n → n < count w → shows n w ≡ true
  Back first w (v ∷ vs) = AllNew v w × Back first v vs

  abbrev On : ℕ → Numbered → List Numbered → Type 0
  On all w [] = count w ≡ all
  On all w (v ∷ vs) = AllNew w v × On all v vs

  either : (a b : Bool) → a ≡ true → (a || b) ≡ true
  either a b is = ap (λ x. x || b) is

  both : (a b : Bool) → b ≡ true → (a || b) ≡ true
  both a b is = ap (λ x. a || x) is ∙ or-true a

  used_back : (first : ℕ) (w : Numbered) (vs : List Numbered) → Back first w vs → (n : ℕ)
      → first ≤ n → n < count w
      → list_any (shows n) (w ∷ vs) ≡ true
  used_back first w [] own n above below = either (shows n w) false (own n above below)
  used_back first w (v ∷ vs) back n above below =
      ⊎_elim (λ old.
      both (shows n w) (list_any (shows n) (v ∷ vs)) (used_back first v vs back.1 n above old))
      (λ new. either (shows n w) (list_any (shows n) (v ∷ vs)) (back.0 n new below))
      (cases_lt n (count v))

  used_on : (all : ℕ) (w : Numbered) (vs : List Numbered) → On all w vs → (n : ℕ) → count w ≤ n
      → n < all → list_any (shows n) vs ≡ true
  used_on all w [] end n above below = absurd (omega (arith, end, above, below))
  used_on all w (v ∷ vs) on n above below =
      ⊎_elim (λ new. either (shows n v) (list_any (shows n) vs) (on.0 n above new))
      (λ later. both (shows n v) (list_any (shows n) vs) (used_on all v vs on.1 n later below))
      (cases_lt n (count v))

  swapped : (b c d : Bool) → (b || (c || d)) ≡ ((c || b) || d)
  swapped true true d = refl
  swapped true false d = refl
  swapped false c d = ap (λ x. x || d) (plain c)
    where
      plain : (c : Bool) → c ≡ (c || false)
      plain true = refl
      plain false = refl

  used : (first all : ℕ) (w : Numbered) (bs os : List Numbered) → Back first w bs → On all w os
      → (n : ℕ) → first ≤ n → n < all
      → list_any (shows n) (bs ++ w ∷ os) ≡ true
  used first all w bs os back on n above below =
      list_any-append (shows n) bs (w ∷ os)
      ∙ swapped (list_any (shows n) bs) (shows n w) (list_any (shows n) os)
      ∙ ⊎_elim (λ old.
      either (list_any (shows n) (w ∷ bs)) (list_any (shows n) os)
      (used_back first w bs back n above old))
      (λ later. both (list_any (shows n) (w ∷ bs)) (list_any (shows n) os)
      (used_on all w os on n later below)) (cases_lt n (count w))

-- ---- turns that lead back and on are such chains
abbrev names_used : Numbered → ℕ
names_used w = w.names

abbrev versions_used : Numbered → ℕ
versions_used w = w.versions

abbrev named : ℕ → Numbered → Bool
named n w = shows_name n w.shown

abbrev versioned : ℕ → Numbered → Bool
versioned v w = shows_version v w.shown

module _ (r : Rooms) (a : Archived) where
  names_back : (w : Numbered) (ts : List Turn) → LeadsBack r a w ts
      → Back names_used named (first_names w.names ts) w (walk a w ts)
  unfolding LeadsBack
  names_back w [] is = λ n above below. absurd (omega (arith, above, below))
  names_back w (t ∷ ts) is = (is.2.all_names, names_back (other a t w) ts is.3)

  versions_back : (w : Numbered) (ts : List Turn) → LeadsBack r a w ts
      → Back versions_used versioned 0 w (walk a w ts)
  unfolding LeadsBack
  versions_back w [] is = λ v above below. is.1 v below
  versions_back w (t ∷ ts) is = (is.2.all_versions, versions_back (other a t w) ts is.3)

  names_on : (w : Numbered) (ts : List Turn) → LeadsOn r a w ts
      → On names_used named (length a.names) w (walk a w ts)
  unfolding LeadsOn
  names_on w [] is = is.1.names
  names_on w (t ∷ ts) is = (is.2.all_names, names_on (other a t w) ts is.3)

  versions_on : (w : Numbered) (ts : List Turn) → LeadsOn r a w ts
      → On versions_used versioned (length a.texts) w (walk a w ts)
  unfolding LeadsOn
  versions_on w [] is = is.1.versions
  versions_on w (t ∷ ts) is = (is.2.all_versions, versions_on (other a t w) ts is.3)

pub all_used : (h : Recorded) → LeadsBack h.kept.rooms h.kept.archive h.kept.now (turns_back h)
    → LeadsOn h.kept.rooms h.kept.archive h.kept.now (turns_on h) → IsAllUsed h
all_used h back on =
    let r = h.kept.rooms in
    let a = h.kept.archive in
    let w = h.kept.now in
    record {
      names =
          used names_used named (first_names w.names (turns_back h)) (length a.names) w
          (walk a w (turns_back h)) (walk a w (turns_on h))
          (names_back r a w (turns_back h) back) (names_on r a w (turns_on h) on);
      versions = λ v below.
          used versions_used versioned 0 (length a.texts) w (walk a w (turns_back h))
          (walk a w (turns_on h))
          (versions_back r a w (turns_back h) back) (versions_on r a w (turns_on h) on) v
          (omega arith) below;
    }
