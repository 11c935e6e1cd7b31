use Rattle.std.proofs.Common.{◌≡◌, ◌∙◌, ◌<◌, ◌-◌, ◌++◌, ℕ, true, false, List, [], Option, Some}
use Rattle.std.proofs.Common.{None, suc, sym, ap, subst, filter, take, drop, length, get_or, arith}
use Rattle.std.specs.List.{AllByRecursion}
use Rattle.cb_index.specs.Archived.{Archived, name_of}
use Rattle.cb_index.specs.Blocks.{IsPlaceOf, before, joined}
use Rattle.cb_index.specs.Files.{AreAscending, shown_under}
use Rattle.cb_index.specs.declared.entry.Shown.{Shown}
use Rattle.cb_index.specs.steps.Bounds.{is_up_to}
use Rattle.cb_index.proofs.BlockLemmas.{Lists, get_or_any, place_there}
use Rattle.cb_index.proofs.ShownLemmas.{IsOther, all_stay, back_others, none_under, place_found}
use Rattle.cb_index.proofs.ShownLemmas.{place_other, place_taken, stays, up_to_parts}
use Rattle.cb_index.proofs.shown.take.Goals as goal

module _ (a : Archived) (name : ℕ) (bs : Lists Shown) (k j : ℕ)
    (is : IsPlaceOf (is_up_to a (name_of a name)) bs k j) where
  -- this is under the number, and the others are left
  abbrev AreLeft : Option Shown → List Shown → Type 0
  AreLeft found left =
      (found ≡ shown_under name (joined bs)) × (left ≡ filter (stays a name) (joined bs))

  all_left : AllByRecursion (IsOther a name) (joined bs) → AreLeft None (joined bs)
  all_left others = (none_under a name (joined bs) others, all_stay a name (joined bs) others)

  abbrev Behind : List Shown → Type 0
  Behind shown = AllByRecursion (λ s. is_up_to a (name_of a name) s ≡ false) shown

  -- no name is up to this one
  none_ahead : j ≡ 0 → AreLeft None (joined bs)
  none_ahead start =
      all_left (back_others a name (joined bs)
      (subst (λ i. Behind (drop (before bs i 0) (joined bs))) (is.start start)
      (subst (λ i. Behind (drop (before bs k i) (joined bs))) start is.behind)))

  -- the last file up to the name
  module _ (some : 0 < j) (up : AreAscending a (joined bs)) (items : List Shown)
      (here : items ≡ get_or bs k []) (d : Shown) where
    abbrev last : Shown
    last = get_or items (j - 1) d

    next : j ≡ suc (j - 1)
    next = omega (arith, some)

    low : k < length bs
    low = place_there bs k j is.place some

    within : j - 1 < length (get_or bs k [])
    within = let fits = is.place.1 in omega (arith, some, fits)

    last_is : last ≡ get_or (get_or bs k []) (j - 1) last
    last_is =
        get_or_any items (j - 1) d last (subst (λ b. j - 1 < length b) (sym here) within)
        ∙ ap (λ b. get_or b (j - 1) last) here

    ahead : AllByRecursion (λ s. is_up_to a (name_of a name) s ≡ true)
        (take (before bs k (suc (j - 1))) (joined bs))
    ahead = subst (λ i. AllByRecursion (λ s. is_up_to a (name_of a name) s ≡ true)
        (take (before bs k i) (joined bs))) next is.ahead

    behind : Behind (drop (before bs k (suc (j - 1))) (joined bs))
    behind = subst (λ i. Behind (drop (before bs k i) (joined bs))) next is.behind

    other_number : (last.name ≡ name → ⊥) → AreLeft None (joined bs)
    other_number isnt =
        all_left (place_other a name bs k (j - 1) low within up ahead behind last last_is isnt)

    this_number : last.name ≡ name → AreLeft (Some last)
        (take (before bs k (j - 1)) (joined bs) ++ drop (suc (before bs k (j - 1))) (joined bs))
    this_number same = (
      place_found a name bs k (j - 1) low within up ahead behind last last_is same,
      place_taken a name bs k (j - 1) low within up ahead behind last last_is same,
    )

-- the place in the blocks of which it was asked
moved : (a : Archived) (name : ℕ) (bs held : Lists Shown) (n : List ℕ) (k j : ℕ) → bs ≡ held
    → n ≡ name_of a name → IsPlaceOf (is_up_to a n) bs k j
    → IsPlaceOf (is_up_to a (name_of a name)) held k j
moved a name bs held n k j same named is =
    subst (λ m. IsPlaceOf (is_up_to a m) held k j) named
    (subst (λ b. IsPlaceOf (is_up_to a n) b k j) same is)

pub lower_bound-place-requires-clause-parted : goal.lower_bound-place-requires-clause-parted
lower_bound-place-requires-clause-parted c =
    let a = c.args.archive.now in
    up_to_parts a c.name.result.now (joined c.used-used.result.now)
    (subst (λ bs. AreAscending a (joined bs)) (sym c.used-used.ensures.value) c.requires)

pub returns-then-place-eq0-clause-taken : goal.returns-then-place-eq0-clause-taken
returns-then-place-eq0-clause-taken c =
    let place = c.lower_bound-place.result in
    none_ahead c.args.archive.now c.args.name c.args.blocks.now.used place.block place.at
    (moved c.args.archive.now c.args.name c.used-used.result.now _ _ place.block place.at
    c.used-used.ensures.value c.name.ensures c.lower_bound-place.ensures) c.if-place-eq0.true

pub returns-then-one-name-clause-taken : goal.returns-then-one-name-clause-taken
returns-then-one-name-clause-taken c =
    let place = c.lower_bound-place.result in
    let bs = c.used-used.result.now in
    let some : 0 < place.at = omega (arith, c.if-place-eq0.false) in
    let low = place_there bs place.block place.at c.lower_bound-place.ensures.place some in
    other_number c.args.archive.now c.args.name c.args.blocks.now.used place.block place.at
    (moved c.args.archive.now c.args.name bs _ _ place.block place.at c.used-used.ensures.value
    c.name.ensures c.lower_bound-place.ensures) some c.requires c.items.result.now
    (c.items.ensures.value ∙ c.index-used-place.is
    ∙ get_or_any bs place.block c.index-used-place.result [] low
    ∙ ap (λ b. get_or b place.block []) c.used-used.ensures.value)
    (record { name = 0; version = 0 }) c.if-one-name.true

pub returns-clause-taken : goal.returns-clause-taken
returns-clause-taken c =
    let place = c.lower_bound-place.result in
    let bs = c.used-used.result.now in
    let some : 0 < place.at = omega (arith, c.if-place-eq0.false) in
    let low = place_there bs place.block place.at c.lower_bound-place.ensures.place some in
    let left =
    this_number c.args.archive.now c.args.name c.args.blocks.now.used place.block place.at
    (moved c.args.archive.now c.args.name bs _ _ place.block place.at c.used-used.ensures.value
    c.name.ensures c.lower_bound-place.ensures) some c.requires c.items.result.now
    (c.items.ensures.value ∙ c.index-used-place.is
    ∙ get_or_any bs place.block c.index-used-place.result [] low
    ∙ ap (λ b. get_or b place.block []) c.used-used.ensures.value)
    (record { name = 0; version = 0 }) c.if-one-name.false in
    (left.0, c.remove.ensures.taken ∙ left.1)
