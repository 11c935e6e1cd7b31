-- What stands between the first two and the last two bytes of an address.
use Rattle.std.proofs.Common.{◌≡◌, ◌≢◌, ◌∙◌, ℕ, false, List, [], ◌∷◌, ◌++◌, drop, Option, None}
use Rattle.std.proofs.Common.{Some, refl, sym, ap, subst}
use Rattle.std.specs.Prelude.{MatchOption}
use Rattle.std.specs.Borrow.{Bor}
use Rattle.std.proofs.lemmas.Bool.{false≢true}
use Rattle.std.proofs.lemmas.List.{append_cancel_right}
use Rattle.cb_tags.specs.Addresses.{address, escape, Items, IsAddress, IsOneLine}
use Rattle.cb_tags.specs.steps.Items.{are_items}
use Rattle.cb_tags.proofs.ItemLemmas.{Items-reads, Items-only, Items-written, written-Items}

-- the front is taken off, and then the back
pub between : (bytes inner : List ℕ) (r : Option (Bor (List ℕ))) → bytes ≡ 47 ∷ 94 ∷ inner
    → MatchOption r ((items : List ℕ) → inner ≢ items ++ 36 ∷ 47 ∷ [])
    (λ items. inner ≡ items.now ++ 36 ∷ 47 ∷ [])
    → MatchOption r ((items : List ℕ) → bytes ≢ 47 ∷ 94 ∷ (items ++ 36 ∷ 47 ∷ []))
    (λ items. bytes ≡ 47 ∷ 94 ∷ (items.now ++ 36 ∷ 47 ∷ []))
between bytes inner None e none = λ items f. none items (ap (drop 2) (sym e ∙ f))
between bytes inner (Some items) e is = e ∙ ap (λ t. 47 ∷ 94 ∷ t) is

-- what stands between is one text alone
pub between-only : (a b : List ℕ)
    → 47 ∷ 94 ∷ (a ++ 36 ∷ 47 ∷ []) ≡ 47 ∷ 94 ∷ (b ++ 36 ∷ 47 ∷ []) → a ≡ b
between-only a b e = append_cancel_right a b (36 ∷ 47 ∷ []) (ap (drop 2) e)

-- what stands between is no items
pub not_items : (bytes items : List ℕ) → bytes ≡ 47 ∷ 94 ∷ (items ++ 36 ∷ 47 ∷ [])
    → are_items false items ≡ false
    → (text : List ℕ) → IsAddress bytes text → ⊥
not_items bytes items e not_so text p =
    let same = between-only items p.0 (sym e ∙ p.1) in
    false≢true (sym not_so ∙ ap (are_items false) same ∙ (Items-reads p.0 text p.2).0)

-- what is written for a text of one line is its address
pub address-read : (text : List ℕ) → IsOneLine text → IsAddress (address text) text
unfolding address
address-read text one = (escape text, refl, written-Items text one)

-- an address has one text
pub address-one : (bytes s t : List ℕ) → IsAddress bytes s → IsAddress bytes t → s ≡ t
address-one bytes s t p q =
    let same = between-only q.0 p.0 (sym q.1 ∙ p.1) in
    Items-only p.0 s t p.2 (subst (λ items. Items items t) same q.2)

-- an address is what is written for its text, which is one line
pub address-written : (bytes text : List ℕ) → IsAddress bytes text
    → (bytes ≡ address text) × IsOneLine text
unfolding address
address-written bytes text p =
    let k = Items-written p.0 text p.2 in
    (p.1 ∙ ap (λ items. 47 ∷ 94 ∷ (items ++ 36 ∷ 47 ∷ [])) k.0, k.1)
