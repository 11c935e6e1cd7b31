-- Lists of values, and values of places, can be written and read back.
use Rattle.std.proofs.Common.{◌≡◌, ℕ, ◌+◌, ◌<◌, ◌≤◌, ◌^◌, List, [], ◌∷◌, map}
use Rattle.std.proofs.Common.{Some, sym, ap, ◌∙◌, arith}
use Rattle.std.specs.Prelude.{All, codes}
use Rattle.std.proofs.lemmas.List.Elements.{All-head, All-tail}
use Rattle.json.specs.Json.{Json, array, document, max_depth}
use Rattle.json.specs.Tree.{HasNumbers, ItemsHaveNumbers, depth, items_depth}
use Rattle.json.proofs.Printed.Decimals.{IsNumber-decimal}
use Rattle.cb_wire.specs.declared.calls.CallItem.{CallItem}
use Rattle.cb_wire.specs.declared.location.Location.{Location}
use Rattle.cb_wire.specs.declared.message.Id.{Id}
use Rattle.cb_wire.specs.declared.position.Range.{Range}
use Rattle.cb_wire.specs.declared.symbol.Symbol.{Symbol}
use Rattle.cb_wire.specs.declared.symbol.TreeSymbol.{TreeSymbol}
use Rattle.cb_wire.specs.Calls.{call_item_tree, calls_of}
use Rattle.cb_wire.specs.Lists.{list_text}
use Rattle.cb_wire.specs.Locations.{location_tree}
use Rattle.cb_wire.specs.Messages.{id_json}
use Rattle.cb_wire.specs.Replies.{result_body}
use Rattle.cb_wire.specs.Symbols.{symbol_tree, tree_symbol_tree}
use Rattle.cb_wire.specs.Trees.{result_reply, result_tree}
use Rattle.cb_wire.specs.Values.{FitsWords, items_of, range_tree, value_text}
use Rattle.cb_wire.proofs.Printed.{array-text}
use Rattle.cb_wire.proofs.Trees.{result-reads, result-text}

pub items-numbers : (js : List Json) → All HasNumbers js → ItemsHaveNumbers (items_of js)
items-numbers [] p = tt
items-numbers (j ∷ js) p =
    (All-head HasNumbers j js p, items-numbers js (All-tail HasNumbers j js p))

pub items-depth : (js : List Json) (most : ℕ) → All (λ j. depth j ≤ most) js
    → items_depth (items_of js) ≤ most
items-depth [] most p = omega arith
items-depth (j ∷ js) most p =
    omega (
      arith,
      All-head (λ j. depth j ≤ most) j js p,
      items-depth js most (All-tail (λ j. depth j ≤ most) j js p),
    )

items-shallow : (js : List Json) → All (λ j. depth j + 1 < max_depth) js
    → items_depth (items_of js) + 1 < max_depth
items-shallow [] p = omega arith
items-shallow (j ∷ js) p =
    omega (
      arith,
      All-head (λ j. depth j + 1 < max_depth) j js p,
      items-shallow js (All-tail (λ j. depth j + 1 < max_depth) j js p),
    )

-- a reply whose result is a list of values
pub list-text : (id : Id) (js : List Json)
    → result_body id (list_text (codes "[") (codes ",") (codes "]") (map value_text js))
    ≡ value_text (result_reply (id_json id) (array (items_of js)))
list-text id js =
    ap (result_body id) (sym (array-text js)) ∙ result-text id (array (items_of js))

pub list-reads : (id : Id) (js : List Json) → HasNumbers (id_json id) → All HasNumbers js
    → All (λ j. depth j + 1 < max_depth) js
    → document (result_body id (list_text (codes "[") (codes ",") (codes "]") (map value_text js)))
    ≡ Some (result_tree id (array (items_of js)))
list-reads id js numbered numbers shallow =
    ap (λ t. document (result_body id t)) (sym (array-text js))
    ∙ result-reads id (array (items_of js)) numbered (items-numbers js numbers)
    (omega (arith, items-shallow js shallow))

pub range-numbers : (r : Range) → FitsWords r → HasNumbers (range_tree r)
range-numbers r p = (
  (IsNumber-decimal r.start.line p.0, (IsNumber-decimal r.start.character p.1, tt)),
  ((IsNumber-decimal r.end.line p.2, (IsNumber-decimal r.end.character p.3, tt)), tt),
)

pub location-numbers : (l : Location) → FitsWords l.range → HasNumbers (location_tree l)
location-numbers l p = (tt, (range-numbers l.range p, tt))

pub symbol-numbers : (s : Symbol) → s.kind < 2 ^ 64 → FitsWords s.location.range
    → HasNumbers (symbol_tree s)
symbol-numbers s k p = (tt, (IsNumber-decimal s.kind k, (location-numbers s.location p, tt)))

pub tree-symbol-numbers : (s : TreeSymbol) → s.kind < 2 ^ 64 → FitsWords s.line
    → FitsWords s.range → HasNumbers (tree_symbol_tree s)
tree-symbol-numbers s k p q =
    (tt, (IsNumber-decimal s.kind k, (range-numbers s.line p, (range-numbers s.range q, tt))))

pub call-item-numbers : (i : CallItem) → i.kind < 2 ^ 64 → FitsWords i.line
    → FitsWords i.location.range → HasNumbers (call_item_tree i)
call-item-numbers i k p q = (
  tt,
  (
    IsNumber-decimal i.kind k,
    (tt, (range-numbers i.line p, (range-numbers i.location.range q, tt))),
  ),
)

ranges-numbers : (rs : List Range) → All FitsWords rs
    → ItemsHaveNumbers (items_of (map range_tree rs))
ranges-numbers [] p = tt
ranges-numbers (r ∷ rs) p =
    (range-numbers r (All-head FitsWords r rs p), ranges-numbers rs (All-tail FitsWords r rs p))

ranges-depth : (rs : List Range) → items_depth (items_of (map range_tree rs)) ≤ 2
ranges-depth [] = omega arith
ranges-depth (r ∷ rs) = omega (arith, ranges-depth rs)

pub calls-numbers : (side : List ℕ) (i : CallItem) (rs : List Range) → i.kind < 2 ^ 64
    → FitsWords i.line → FitsWords i.location.range → All FitsWords rs
    → HasNumbers (calls_of side (call_item_tree i) rs)
calls-numbers side i rs k p q all =
    (call-item-numbers i k p q, (ranges-numbers rs all, tt))

pub calls-depth : (side : List ℕ) (i : CallItem) (rs : List Range)
    → depth (calls_of side (call_item_tree i) rs) ≡ 4
calls-depth side i rs = omega (arith, ranges-depth rs)
