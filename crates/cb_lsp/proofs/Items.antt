-- Lists of values, an item at a time.
use Rattle.std.proofs.Common.{◌≡◌, ◌<◌, ◌≤◌, ◌+◌, ℕ, suc, List, [], ◌∷◌, length, true, false}
use Rattle.std.proofs.Common.{get_or, drop, ap, sym, add-one}
use Rattle.std.proofs.Math.ListN.{drop_of_length-le}
use Rattle.std.proofs.Math.Seq.{drop-cons}
use Rattle.json.specs.Json.{no_items, item}
use Rattle.json.specs.Value.{items_view, value_view}
use Rattle.json.specs.declared.value.Value.{Value}
use Rattle.cb_lsp.specs.Params.{are_changes, change_of, changes_among, has_text, is_change, is_text}
use Rattle.cb_lsp.specs.Params.{with_change}

-- the first of the items that are left
pub items_view-drop : {A : Type 0} (vs : List (Value A)) (i : ℕ) (v : Value A) → i < length vs
    → v ≡ get_or vs i v
    → items_view (drop i vs) ≡ item (value_view v) (items_view (drop (i + 1) vs))
items_view-drop vs i v within is =
    let split : drop i vs ≡ v ∷ drop (i + 1) vs =
    rw (add-one, drop-cons vs i v) (ap (λ w. w ∷ drop (suc i) vs) (sym is)) in
    ap items_view split

-- no items are left
pub items_view-end : {A : Type 0} (vs : List (Value A)) (i : ℕ) → length vs ≤ i
    → items_view (drop i vs) ≡ no_items
items_view-end vs i past = ap items_view (drop_of_length-le vs past)

-- ---- one of some values is a text

pub has_text-found : {A : Type 0} (text : List ℕ) (vs : List (Value A)) (i : ℕ) (v : Value A)
    → i < length vs → v ≡ get_or vs i v → is_text text (value_view v) ≡ true
    → has_text text (items_view (drop i vs)) ≡ true
unfolding has_text
has_text-found text vs i v within is e = rw (items_view-drop vs i v within is, e)

pub has_text-more : {A : Type 0} (text : List ℕ) (vs : List (Value A)) (i : ℕ) (v : Value A)
    → i < length vs → v ≡ get_or vs i v → is_text text (value_view v) ≡ false
    → has_text text (items_view (drop i vs)) ≡ has_text text (items_view (drop (i + 1) vs))
unfolding has_text
has_text-more text vs i v within is e = rw (items_view-drop vs i v within is, e)

pub has_text-end : {A : Type 0} (text : List ℕ) (vs : List (Value A)) (i : ℕ) → length vs ≤ i
    → has_text text (items_view (drop i vs)) ≡ false
unfolding has_text
has_text-end text vs i past = rw (items_view-end vs i past)

-- ---- values that are changes

pub are_changes-wrong : {A : Type 0} (vs : List (Value A)) (i : ℕ) (v : Value A)
    → i < length vs → v ≡ get_or vs i v → is_change (change_of (value_view v)) ≡ false
    → are_changes (items_view (drop i vs)) ≡ false
unfolding are_changes
are_changes-wrong vs i v within is e = rw (items_view-drop vs i v within is, e)

pub are_changes-more : {A : Type 0} (vs : List (Value A)) (i : ℕ) (v : Value A)
    → i < length vs → v ≡ get_or vs i v → is_change (change_of (value_view v)) ≡ true
    → are_changes (items_view (drop i vs)) ≡ are_changes (items_view (drop (i + 1) vs))
unfolding are_changes
are_changes-more vs i v within is e = rw (items_view-drop vs i v within is, e)

pub are_changes-end : {A : Type 0} (vs : List (Value A)) (i : ℕ) → length vs ≤ i
    → are_changes (items_view (drop i vs)) ≡ true
unfolding are_changes
are_changes-end vs i past = rw (items_view-end vs i past)

pub changes_among-more : {A : Type 0} (vs : List (Value A)) (i : ℕ) (v : Value A)
    → i < length vs → v ≡ get_or vs i v
    → changes_among (items_view (drop i vs))
    ≡ with_change (change_of (value_view v)) (changes_among (items_view (drop (i + 1) vs)))
unfolding changes_among
changes_among-more vs i v within is = rw (items_view-drop vs i v within is)

pub changes_among-end : {A : Type 0} (vs : List (Value A)) (i : ℕ) → length vs ≤ i
    → changes_among (items_view (drop i vs)) ≡ []
unfolding changes_among
changes_among-end vs i past = rw (items_view-end vs i past)
