-- The definitions from a place on, of those that go by file and place.
use Rattle.std.proofs.Common.{◌≡◌, ◌∙◌, ◌||◌, not, sym, ap, refl}
use Rattle.std.proofs.Common.{ℕ, Bool, true, false, List, [], ◌∷◌, nat_lt, arith}
use Rattle.std.proofs.Common.{if◌then◌else◌, inl, inr, Less, Equal, Greater, Ordering}
use Rattle.std.proofs.lemmas.Bool.{false≢true, true≢false}
use Rattle.std.proofs.lemmas.Cmp.{nat_list_cmp_total, tied_itself}
use Rattle.std.specs.Cmp.Lexicographic.{slice_cmp}
use Rattle.std.specs.List.{AllByRecursion, list_any}
use Rattle.std.specs.Ordering.{is_gt, nat_cmp, ordering_reverse}
use Rattle.cb_desk.proofs.Valid.{all-along}
use Rattle.cb_scan.proofs.OrderLemmas.{first_trans}
use Rattle.cb_scan.specs.Order.{AreOrdered}
use Rattle.cb_tags.specs.TagLines.{Tag}
use Rattle.cb_lsp.specs.steps.Meanings.{AreByFile, IsUpTo}
use Rattle.cb_lsp.specs.steps.References.{AreByPlace, IsPlacedBefore, from_place, goes_first}
use Rattle.cb_lsp.specs.steps.References.{is_before}

-- ---- lists in order

pub ordered-along : {X : Type 0} (R Q : X → X → Type 0) → ((x y : X) → R x y → Q x y)
    → (xs : List X) → AreOrdered R xs → AreOrdered Q xs
unfolding AreOrdered
ordered-along R Q along [] o = tt
ordered-along R Q along (x ∷ xs) o =
    (all-along (R x) (Q x) xs (along x) o.0, ordered-along R Q along xs o.1)

-- ---- what is passed

-- where what is passed fails a test, the rest has what all have
pub passed-none : (test : Tag → Bool) (file : List ℕ) (place : ℕ)
    → ((t : Tag) → is_before file place t ≡ true → test t ≡ false) → (ts : List Tag)
    → list_any test (from_place file place ts) ≡ list_any test ts
unfolding from_place
passed-none test file place none [] = refl
passed-none test file place none (t ∷ ts) =
    (elim (is_before file place t) as (λ b. is_before file place t ≡ b
    → list_any test (if b then from_place file place ts else t ∷ ts)
    ≡ (test t || list_any test ts)) [
      | true ↦ λ e.
          passed-none test file place none ts ∙ sym (ap (λ b. b || list_any test ts) (none t e))
      | false ↦ λ e. refl
    ]) refl

pub from-ordered : (R : Tag → Tag → Type 0) (file : List ℕ) (place : ℕ) (ts : List Tag)
    → AreOrdered R ts → AreOrdered R (from_place file place ts)
unfolding from_place AreOrdered
from-ordered R file place [] o = tt
from-ordered R file place (t ∷ ts) o =
    elim (is_before file place t) as
    (λ b. AreOrdered R (if b then from_place file place ts else t ∷ ts)) [
      | true ↦ from-ordered R file place ts o.1
      | false ↦ o
    ]

-- ---- names of files

pub up-to-itself : (s name : List ℕ) → s ≡ name → IsUpTo s name
up-to-itself s name e =
    ap (λ n. is_gt (slice_cmp nat_cmp n name)) e
    ∙ ap is_gt (tied_itself nat_list_cmp_total name)

pub up-of-less : (s name : List ℕ) → slice_cmp nat_cmp s name ≡ Less → IsUpTo s name
up-of-less s name less = ap is_gt less

up-along : (o : Ordering) (passes : Bool) → goes_first o passes ≡ false
    → is_gt (ordering_reverse o) ≡ false
up-along Less passes e = absurd (true≢false e)
up-along Equal passes e = refl
up-along Greater passes e = refl

-- a definition that is not before a file is in it or behind it
pub not-before : (file : List ℕ) (place : ℕ) (t : Tag) → is_before file place t ≡ false
    → IsUpTo file t.file
not-before file place t e =
    ap is_gt (nat_list_cmp_total.antisymm file t.file)
    ∙ up-along (slice_cmp nat_cmp t.file file) (nat_lt t.place place) e

below-nothing : (n : ℕ) → nat_lt n 0 ≡ false
below-nothing n = grind arith

first-of-less : (o : Ordering) (n : ℕ) → goes_first o (nat_lt n 0) ≡ true → o ≡ Less
first-of-less Less n e = refl
first-of-less Equal n e = absurd (false≢true (sym (below-nothing n) ∙ e))
first-of-less Greater n e = absurd (false≢true e)

-- a definition before all places of a file is in a file before it
pub before-file : (file : List ℕ) (t : Tag) → is_before file 0 t ≡ true
    → slice_cmp nat_cmp t.file file ≡ Less
before-file file t e = first-of-less (slice_cmp nat_cmp t.file file) t.place e

opposite : (b : Bool) → b ≡ false → not b ≡ true
opposite true e = absurd (true≢false e)
opposite false e = refl

back : (b : Bool) → not b ≡ true → b ≡ false
back true e = absurd (false≢true e)
back false e = refl

up-trans : (x y z : List ℕ) → IsUpTo x y → IsUpTo y z → IsUpTo x z
up-trans x y z xy yz =
    back (is_gt (slice_cmp nat_cmp x z))
    (first_trans x y z (opposite (is_gt (slice_cmp nat_cmp x y)) xy)
    (opposite (is_gt (slice_cmp nat_cmp y z)) yz))

-- all are in that file or behind it
pub from-up : (file : List ℕ) (ts : List Tag) → AreByFile ts
    → AllByRecursion (λ (t : Tag). IsUpTo file t.file) (from_place file 0 ts)
unfolding from_place AreOrdered
from-up file [] o = tt
from-up file (t ∷ ts) o =
    (elim (is_before file 0 t) as (λ b. is_before file 0 t ≡ b
    → AllByRecursion (λ (s : Tag). IsUpTo file s.file)
    (if b then from_place file 0 ts else t ∷ ts)) [
      | true ↦ λ e. from-up file ts o.1
      | false ↦ λ e.
          let low : IsUpTo file t.file = not-before file 0 t e in (
            low,
            all-along (λ (s : Tag). IsUpTo t.file s.file)
                (λ (s : Tag). IsUpTo file s.file) ts
                (λ s up. up-trans file t.file s.file low up) o.0,
          )
    ]) refl

-- definitions by file and place are by file
one-by-file : (s t : Tag) → IsPlacedBefore s t → IsUpTo s.file t.file
one-by-file s t (inl less) = up-of-less s.file t.file less
one-by-file s t (inr same) = up-to-itself s.file t.file same.0

pub by-file : (ts : List Tag) → AreByPlace ts → AreByFile ts
by-file = ordered-along IsPlacedBefore (λ (s t : Tag). IsUpTo s.file t.file) one-by-file
