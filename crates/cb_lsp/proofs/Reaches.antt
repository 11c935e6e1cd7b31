-- Which files have a private definition is read from definitions that go by file.
use Rattle.std.proofs.Common.{◌≡◌, ◌∙◌, ◌||◌, ◌&&◌, not, cond, sym, ap, subst, refl, ℕ, Bool}
use Rattle.std.proofs.Common.{true, false, List, [], ◌∷◌}
use Rattle.std.proofs.Common.{if◌then◌else◌, Less, Equal, Greater, Ordering}
use Rattle.std.proofs.lemmas.Bool.{true≢false}
use Rattle.std.proofs.lemmas.Cmp.{nat_list_cmp_total, nat_list_eq_equiv}
use Rattle.std.proofs.lemmas.Map.Text.{is_eq-slice_cmp}
use Rattle.std.specs.Cmp.Lexicographic.{slice_cmp}
use Rattle.std.specs.List.{AllByRecursion}
use Rattle.std.specs.Ordering.{is_eq, is_gt, nat_cmp, ordering_reverse}
use Rattle.std.specs.Str.{bytes_eq}
use Rattle.cb_desk.proofs.PlaceLemmas.{same-name}
use Rattle.cb_scan.specs.Order.{AreOrdered}
use Rattle.cb_tags.specs.TagLines.{Tag}
use Rattle.cb_lsp.specs.Meaning.{has_private, is_private}
use Rattle.cb_lsp.specs.steps.Meanings.{AreByFile, IsUpTo, begins_private}

-- ---- tests

with-true : (p r : Bool) → (p || r) ≡ ((p && true) || r)
with-true true r = refl
with-true false r = refl

with-false : (p r : Bool) → ((p && false) || r) ≡ r
with-false true r = refl
with-false false r = refl

not-here : (p e r : Bool) → e ≡ false → ((p && e) || r) ≡ r
not-here p e r out = ap (λ b. (p && b) || r) out ∙ with-false p r

-- ---- names of files

pub swapped : (x y : List ℕ) → bytes_eq x y ≡ bytes_eq y x
swapped x y = nat_list_eq_equiv.symm x y

tied : (o p : Ordering) → o ≡ ordering_reverse p → is_gt o ≡ false → is_gt p ≡ false
    → is_eq o ≡ true
tied Less Less e a b = cc
tied Less Equal e a b = cc
tied Less Greater e a b = absurd (true≢false b)
tied Equal p e a b = refl
tied Greater p e a b = absurd (true≢false a)

-- a name behind another one is none before that
pub apart : (x y z : List ℕ) → IsUpTo x y → IsUpTo y z → bytes_eq x y ≡ false → bytes_eq x z ≡ false
apart x y z xy yz other =
    (elim (bytes_eq x z) as (λ b. bytes_eq x z ≡ b → b ≡ false) [
      | true ↦ λ e.
          let back : IsUpTo y x = subst (IsUpTo y) (sym (same-name x z e)) yz in
          let one : is_eq (slice_cmp nat_cmp x y) ≡ true =
          tied (slice_cmp nat_cmp x y) (slice_cmp nat_cmp y x) (nat_list_cmp_total.antisymm x y)
          xy back in
          absurd (true≢false (sym one ∙ is_eq-slice_cmp x y ∙ other))
      | false ↦ λ e. refl
    ]) refl

-- ---- the definitions of a file

none : (file : List ℕ) (t : Tag) (us : List Tag) → IsUpTo file t.file → bytes_eq t.file file ≡ false
    → AllByRecursion (λ (u : Tag). IsUpTo t.file u.file) us → has_private file us ≡ false
none file t [] low other all = refl
none file t (u ∷ us) low other all =
    let away : bytes_eq u.file file ≡ false =
    swapped u.file file ∙ apart file t.file u.file low all.0 (swapped file t.file ∙ other) in
    not-here (is_private u) (bytes_eq u.file file) (has_private file us) away
    ∙ none file t us low other all.1

pub begins : (file : List ℕ) (ts : List Tag) → AllByRecursion (λ (u : Tag). IsUpTo file u.file) ts
    → AreByFile ts → begins_private file ts ≡ has_private file ts
unfolding begins_private AreOrdered
begins file [] low order = refl
begins file (t ∷ ts) low order =
    (elim (bytes_eq t.file file) as (λ b. bytes_eq t.file file ≡ b
    → (if b then is_private t || begins_private file ts else false)
    ≡ ((is_private t && b) || has_private file ts)) [
      | true ↦ λ e.
          ap (λ b. is_private t || b) (begins file ts low.1 order.1)
          ∙ with-true (is_private t) (has_private file ts)
      | false ↦ λ e.
          sym (with-false (is_private t) (has_private file ts)
          ∙ none file t ts low.0 e order.0)
    ]) refl

-- ---- a filter

pub kept : {X : Type 0} (t : X) (k : Bool) (ys : List X)
    → (if k then ys else t ∷ ys) ≡ cond (not k) (t ∷ ys) ys
kept t true ys = refl
kept t false ys = refl
