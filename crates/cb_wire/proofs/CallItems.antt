-- The texts of functions and macros of a call hierarchy, and of calls.
use Rattle.std.proofs.Common.{◌≡◌, ℕ, List, [], ◌∷◌, ◌+◌, ◌-◌, ◌++◌, refl, sym, ap, ◌∙◌, decimal}
use Rattle.std.proofs.Common.{◌≤◌, arith, length, length-append, map, take}
use Rattle.std.proofs.lemmas.List.{take_all}
use Rattle.std.specs.Prelude.{codes}
use Rattle.std.specs.List.{flat_map}
use Rattle.json.specs.Json.{Json, array}
use Rattle.json.specs.Print.{escape, escape_byte}
use Rattle.cb_wire.specs.declared.calls.Side.{Side}
use Rattle.cb_wire.specs.declared.calls.Side.TheVariants.{From, To}
use Rattle.cb_wire.specs.declared.position.Range.{Range}
use Rattle.cb_wire.specs.Calls.{call_item, calls_of, range_text, ranges_text, side_front, side_name}
use Rattle.cb_wire.specs.Lists.{joined, list_text, with_separators}
use Rattle.cb_wire.specs.Texts.{readable}
use Rattle.cb_wire.specs.Uris.{Below, uri_of}
use Rattle.cb_wire.specs.Values.{items_of, range_tree, value_text}
use Rattle.cb_wire.proofs.Printed.{array-then, text_then, value_text-is, value_text-then}

pub call-item-text : (name : List ℕ) (kind : ℕ) (root : Below) (file : List ℕ) (line r : Range)
    → value_text (call_item name kind root file line r)
    ≡ codes "{\"name\":\"" ++ (escape (readable name) ++ (codes "\",\"kind\":"
    ++ (decimal kind ++ (codes ",\"uri\":\"" ++ (escape (uri_of root file)
    ++ (codes "\",\"range\":" ++ (value_text (range_tree line)
    ++ (codes ",\"selectionRange\":" ++ (value_text (range_tree r) ++ codes "}")))))))))
unfolding escape_byte
call-item-text name kind root file line r =
    let last = codes ",\"selectionRange\":" ++ text_then (range_tree r) (codes "}") in
    value_text-is (call_item name kind root file line r)
    ∙ ap (λ t. codes "{\"name\":\"" ++ (escape (readable name) ++ (codes "\",\"kind\":"
    ++ (decimal kind ++ (codes ",\"uri\":\"" ++ (escape (uri_of root file)
    ++ (codes "\",\"range\":" ++ t)))))))
    (sym (value_text-then (range_tree line) last)
    ∙ ap (λ t. value_text (range_tree line) ++ (codes ",\"selectionRange\":" ++ t))
    (sym (value_text-then (range_tree r) (codes "}"))))

ranges-texts : (rs : List Range) → map value_text (map range_tree rs) ≡ map range_text rs
ranges-texts [] = refl
ranges-texts (r ∷ rs) = ap (λ ts. range_text r ∷ ts) (ranges-texts rs)

-- what stands behind an item
rest-text : (item : Json) (rs : List Range)
    → text_then item (codes ",\"fromRanges\":"
    ++ text_then (array (items_of (map range_tree rs))) (codes "}"))
    ≡ value_text item ++ list_text (codes ",\"fromRanges\":[") (codes ",") (codes "]}")
    (map range_text rs)
rest-text item rs =
    let ranges = array (items_of (map range_tree rs)) in
    sym (value_text-then item (codes ",\"fromRanges\":" ++ text_then ranges (codes "}")))
    ∙ ap (λ t. value_text item ++ (codes ",\"fromRanges\":" ++ t))
    (array-then (map range_tree rs) (codes "}")
    ∙ ap (λ ts. codes "[" ++ (joined (codes ",") ts ++ codes "]}")) (ranges-texts rs))

pub calls-text : (side : Side) (item : Json) (rs : List Range)
    → value_text (calls_of (side_name side) item rs)
    ≡ side_front side ++ (value_text item ++ list_text (codes ",\"fromRanges\":[") (codes ",")
    (codes "]}") (map range_text rs))
unfolding escape_byte
calls-text From item rs =
    value_text-is (calls_of (codes "from") item rs)
    ∙ ap (λ t. codes "{\"from\":" ++ t) (rest-text item rs)
calls-text To item rs =
    value_text-is (calls_of (codes "to") item rs)
    ∙ ap (λ t. codes "{\"to\":" ++ t) (rest-text item rs)

pub calls-length : (side : Side) (item : Json) (rs : List Range)
    → length (value_text (calls_of (side_name side) item rs))
    ≡ length (side_front side) + length (value_text item) + length (ranges_text rs) + 17
calls-length side item rs =
    omega (
      arith,
      ap length (calls-text side item rs),
      length-append (side_front side) (value_text item ++ list_text (codes ",\"fromRanges\":[")
          (codes ",") (codes "]}") (map range_text rs)),
      length-append (value_text item) (list_text (codes ",\"fromRanges\":[") (codes ",")
          (codes "]}") (map range_text rs)),
      length-append (ranges_text rs) (codes "]}"),
    )

-- ranges, each behind a comma
pub behind-commas : {R : Type 0} (range : R → Range) (calls : List R)
    → with_separators (codes ",") (map range_text (map range calls))
    ≡ flat_map (λ call. codes "," ++ range_text (range call)) calls
behind-commas range [] = refl
behind-commas range (call ∷ calls) =
    ap (λ t. codes "," ++ (range_text (range call) ++ t)) (behind-commas range calls)

counted : {R : Type 0} (range : R → Range) (calls : List R) (total : ℕ)
    → total ≡ length (flat_map (λ call. codes "," ++ range_text (range call)) calls)
    → total - 1 ≡ length (ranges_text (map range calls))
counted range [] total is = omega (arith, is)
counted range (call ∷ calls) total is =
    omega (
      arith,
      is,
      length-append (range_text (range call))
          (flat_map (λ c. codes "," ++ range_text (range c)) calls),
      length-append (range_text (range call))
          (with_separators (codes ",") (map range_text (map range calls))),
      ap length (behind-commas range calls),
    )

-- all were counted, each with a comma
pub ranges-length : {R : Type 0} (range : R → Range) (calls : List R) (total n : ℕ)
    → length calls ≤ n
    → total ≡ length (flat_map (λ call. codes "," ++ range_text (range call)) (take n calls))
    → total - 1 ≡ length (ranges_text (map range calls))
ranges-length range calls total n all is =
    counted range calls total
    (is ∙ ap (λ l. length (flat_map (λ call. codes "," ++ range_text (range call)) l))
    (take_all n calls all))
