-- Two lists as one: the elements stay, whatever their order.
use Rattle.std.proofs.Common.{◌≡◌, ◌∙◌, ◌<◌, ◌≤◌, ◌+◌, ℕ, suc, Bool, true, false, List, [], ◌∷◌}
use Rattle.std.proofs.Common.{◌++◌, refl, sym, ap, subst, take, drop, length, append_assoc}
use Rattle.std.proofs.lemmas.Bool.{false≢true, leb-true}
use Rattle.std.proofs.Math.ListN.{drop_of_length-le}
use Rattle.std.proofs.lemmas.List.{take-append-drop}
use Rattle.std.proofs.lemmas.List.Sorted.{IsPermutation-append_comm, IsPermutation-append_left}
use Rattle.std.proofs.lemmas.List.Sorted.{IsPermutation-append_right, IsPermutation-trans}
use Rattle.std.specs.Prelude.{◌&&◌, nat_le, not}
use Rattle.std.specs.Cmp.{nat_cmp_is}
use Rattle.std.specs.List.Sorted.{IsPermutation}
use Rattle.std.specs.Cmp.Lexicographic.{slice_cmp}
use Rattle.std.specs.Ordering.{nat_cmp, is_gt, ordering_then}
use Rattle.std.specs.declared.cmp.Ordering.TheVariants.{Less}
use Rattle.cb_scan.specs.declared.facts.Call.{Call}
use Rattle.cb_scan.specs.declared.facts.Def.{Def}
use Rattle.cb_scan.specs.Order.{call_key, def_key, goes_first}
use Rattle.cb_scan.specs.steps.Ascending.{ascend_from}
use Rattle.cb_scan.proofs.OrderLemmas.{Sorted, all_first}

-- what is made, some more, one element, and what is left of both lists
pub one_taken : {X : Type 0} → (made some rest : List X) (x : X) (xs : List X)
    → IsPermutation (made ++ ((x ∷ xs) ++ (some ++ rest)))
    (((made ++ some) ++ (x ∷ [])) ++ (xs ++ rest))
one_taken made some rest x xs =
    subst (λ l. IsPermutation (made ++ l) (((made ++ some) ++ (x ∷ [])) ++ (xs ++ rest)))
    (append_assoc (x ∷ xs) some rest)
    (subst (IsPermutation (made ++ (((x ∷ xs) ++ some) ++ rest)))
    (ap (λ l. made ++ l) (append_assoc some (x ∷ xs) rest)
    ∙ sym (append_assoc made some (x ∷ (xs ++ rest)))
    ∙ sym (append_assoc (made ++ some) (x ∷ []) (xs ++ rest)))
    (IsPermutation-append_right made _ _
    (IsPermutation-append_left rest _ _ (IsPermutation-append_comm (x ∷ xs) some))))

-- one turn of the loop
pub one_turn : {X : Type 0} → (given made first rest more items left : List X) (i n : ℕ) (x : X)
    → IsPermutation given (made ++ (drop i first ++ rest))
    → more ≡ made ++ take n rest → items ≡ more ++ (x ∷ []) → left ≡ drop n rest
    → drop i first ≡ x ∷ drop (i + 1) first
    → IsPermutation given (items ++ (drop (i + 1) first ++ left))
one_turn given made first rest more items left i n x moved more_is pushed left_is next =
    let is : items ≡ (made ++ take n rest) ++ (x ∷ []) = pushed ∙ ap (λ l. l ++ (x ∷ [])) more_is in
    let whole : IsPermutation given
    (made ++ ((x ∷ drop (i + 1) first) ++ (take n rest ++ drop n rest))) =
    subst (IsPermutation given) (λ j. made ++ (next j ++ sym (take-append-drop n rest) j)) moved in
    subst (IsPermutation given) (λ j. sym is j ++ (drop (i + 1) first ++ sym left_is j))
    (IsPermutation-trans given _ _ whole
    (one_taken made (take n rest) (drop n rest) x (drop (i + 1) first)))

-- its end
pub at_end : {X : Type 0} → (given made first rest items : List X) (i : ℕ)
    → IsPermutation given (made ++ (drop i first ++ rest)) → length first ≤ i → items ≡ made ++ rest
    → IsPermutation given items
at_end given made first rest items i moved past is =
    subst (IsPermutation given)
    (ap (λ l. made ++ (l ++ rest)) (drop_of_length-le first past) ∙ sym is) moved

-- an element whose key begins with a lower number goes first
pub lower_first : {X : Type 0} → (key : X → List ℕ) (x y : X) (a b : ℕ) (us vs : List ℕ)
    → key x ≡ a ∷ us → key y ≡ b ∷ vs → a < b → goes_first key x y ≡ true
lower_first key x y a b us vs first second lt =
    let less : Less ≡ nat_cmp a b = nat_cmp_is a b Less lt in
    (λ i. not (is_gt (slice_cmp nat_cmp (first i) (second i))))
    ∙ (λ i. not (is_gt (ordering_then (sym less i) (slice_cmp nat_cmp us vs))))

-- a definition that begins before another goes first
pub def_earlier : (d e : Def) → d.name.start < e.name.start → goes_first def_key d e ≡ true
def_earlier d e = lower_first def_key d e d.name.start e.name.start _ _ refl refl

-- and so does a call
pub call_earlier : (c d : Call) → c.callee.start < d.callee.start → goes_first call_key c d ≡ true
call_earlier c d = lower_first call_key c d c.callee.start d.callee.start _ _ refl refl

module _ {X : Type 0} (key : X → List ℕ) (place_of : X → ℕ)
    (earlier : (x y : X) → place_of x < place_of y → goes_first key x y ≡ true) where
  -- elements whose places ascend are sorted
  pub sorted_from_ascending : (place : ℕ) (xs : List X)
      → ascend_from place_of place xs ≡ true → Sorted key xs
  sorted_from_ascending place [] is = tt
  sorted_from_ascending place (x ∷ []) is = (tt, tt)
  sorted_from_ascending place (x ∷ y ∷ ys) is =
      let rest : ascend_from place_of (suc (place_of x)) (y ∷ ys) ≡ true =
      right (nat_le place (place_of x)) _ is in
      let before : place_of x < place_of y = leb-true (suc (place_of x)) (place_of y) (left _ _ rest) in
      let later : Sorted key (y ∷ ys) = sorted_from_ascending (suc (place_of x)) (y ∷ ys) rest in
      let first : goes_first key x y ≡ true = earlier x y before in
      ((first, all_first key x y ys first later.0), later)
    where
      left : (a b : Bool) → (a && b) ≡ true → a ≡ true
      left true b is = refl
      left false b is = is

      right : (a b : Bool) → (a && b) ≡ true → b ≡ true
      right true b is = is
      right false b is = absurd (false≢true is)

-- four lists as one, two by two
pub all_four : {X : Type 0} → (first second third fourth front back all : List X)
    → IsPermutation (first ++ second) front → IsPermutation (fourth ++ third) back
    → IsPermutation (front ++ back) all → IsPermutation (first ++ second ++ third ++ fourth) all
all_four first second third fourth front back all in_front in_back moved =
    subst (λ l. IsPermutation l all) (sym (append_assoc (first ++ second) third fourth))
    (IsPermutation-trans ((first ++ second) ++ (third ++ fourth)) (front ++ (third ++ fourth)) all
    (IsPermutation-append_left (third ++ fourth) _ _ in_front)
    (IsPermutation-trans (front ++ (third ++ fourth)) (front ++ back) all
    (IsPermutation-append_right front _ _
    (IsPermutation-trans (third ++ fourth) (fourth ++ third) back
    (IsPermutation-append_comm third fourth) in_back))
    moved))
