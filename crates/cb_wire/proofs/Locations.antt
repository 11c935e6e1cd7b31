-- The texts of locations.
use Rattle.std.proofs.Common.{◌≡◌, ◌<◌, ◌+◌, ℕ, List, [], ◌∷◌, ◌++◌, refl, sym, ap, ◌∙◌, subst, arith}
use Rattle.std.proofs.lemmas.Fmt.{decimal_digit}
use Rattle.std.specs.Prelude.{codes, Option, None, Some}
use Rattle.json.proofs.Printed.Decimals.{IsNumber-decimal}
use Rattle.json.specs.Print.{IsNumber, escape, escape_byte}
use Rattle.json.specs.Tree.{MembersHaveNumbers, depth}
use Rattle.cb_wire.specs.declared.location.HighlightKind.{HighlightKind}
use Rattle.cb_wire.specs.declared.location.HighlightKind.TheVariants.{Text, Read, Write}
use Rattle.cb_wire.specs.declared.position.Range.{Range}
use Rattle.cb_wire.specs.Locations.{highlight_end, highlight_of, kind_if, location_of}
use Rattle.cb_wire.specs.Uris.{Below, uri_of}
use Rattle.cb_wire.specs.Values.{range_tree, value_text}
use Rattle.cb_wire.proofs.Printed.{value_text-is, value_text-then}

pub location-text : (root : Below) (name : List ℕ) (r : Range)
    → value_text (location_of root name r)
    ≡ codes "{\"uri\":\"" ++ (escape (uri_of root name)
    ++ (codes "\",\"range\":" ++ (value_text (range_tree r) ++ codes "}")))
unfolding escape_byte
location-text root name r =
    value_text-is (location_of root name r)
    ∙ ap (λ t. codes "{\"uri\":\"" ++ (escape (uri_of root name)
    ++ (codes "\",\"range\":" ++ t)))
    (sym (value_text-then (range_tree r) (codes "}")))

-- what follows the range
abbrev end-then : (r : Range) → Option HighlightKind → Type 0
end-then r kind =
    value_text (highlight_of r kind)
    ≡ codes "{\"range\":" ++ (value_text (range_tree r) ++ highlight_end kind)

pub highlight-text : (r : Range) (kind : Option HighlightKind) → end-then r kind
unfolding escape_byte
highlight-text r None =
    value_text-is (highlight_of r None)
    ∙ ap (λ t. codes "{\"range\":" ++ t) (sym (value_text-then (range_tree r) (codes "}")))
highlight-text r (Some Text) =
    value_text-is (highlight_of r (Some Text))
    ∙ ap (λ t. codes "{\"range\":" ++ t)
    (sym (value_text-then (range_tree r) (codes ",\"kind\":1}")))
highlight-text r (Some Read) =
    value_text-is (highlight_of r (Some Read))
    ∙ ap (λ t. codes "{\"range\":" ++ t)
    (sym (value_text-then (range_tree r) (codes ",\"kind\":2}")))
highlight-text r (Some Write) =
    value_text-is (highlight_of r (Some Write))
    ∙ ap (λ t. codes "{\"range\":" ++ t)
    (sym (value_text-then (range_tree r) (codes ",\"kind\":3}")))

digit-number : (n : ℕ) → n < 10 → IsNumber ((48 + n) ∷ [])
digit-number n small =
    subst IsNumber (decimal_digit n small) (IsNumber-decimal n (omega arith))

pub kind-numbers : (kind : Option HighlightKind) → MembersHaveNumbers (kind_if kind)
kind-numbers None = tt
kind-numbers (Some Text) = (digit-number 1 (omega arith), tt)
kind-numbers (Some Read) = (digit-number 2 (omega arith), tt)
kind-numbers (Some Write) = (digit-number 3 (omega arith), tt)

pub highlight-depth : (r : Range) (kind : Option HighlightKind) → depth (highlight_of r kind) ≡ 3
highlight-depth r None = refl
highlight-depth r (Some Text) = refl
highlight-depth r (Some Read) = refl
highlight-depth r (Some Write) = refl
