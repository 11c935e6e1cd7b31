-- The texts of symbols.
use Rattle.std.proofs.Common.{◌≡◌, ℕ, List, ◌++◌, sym, ap, ◌∙◌, decimal}
use Rattle.std.specs.Prelude.{codes}
use Rattle.json.specs.Print.{escape, escape_byte}
use Rattle.cb_wire.specs.declared.position.Range.{Range}
use Rattle.cb_wire.specs.Locations.{location_of}
use Rattle.cb_wire.specs.Symbols.{flat_symbol, tree_symbol}
use Rattle.cb_wire.specs.Texts.{readable}
use Rattle.cb_wire.specs.Uris.{Below, uri_of}
use Rattle.cb_wire.specs.Values.{range_tree, value_text}
use Rattle.cb_wire.proofs.Printed.{text_then, value_text-is, value_text-then}

pub flat-symbol-text : (name : List ℕ) (kind : ℕ) (root : Below) (file : List ℕ) (r : Range)
    → value_text (flat_symbol name kind (location_of root file r))
    ≡ codes "{\"name\":\"" ++ (escape (readable name) ++ (codes "\",\"kind\":"
    ++ (decimal kind ++ (codes ",\"location\":{\"uri\":\"" ++ (escape (uri_of root file)
    ++ (codes "\",\"range\":" ++ (value_text (range_tree r) ++ codes "}}")))))))
unfolding escape_byte
flat-symbol-text name kind root file r =
    value_text-is (flat_symbol name kind (location_of root file r))
    ∙ ap (λ t. codes "{\"name\":\"" ++ (escape (readable name) ++ (codes "\",\"kind\":"
    ++ (decimal kind ++ (codes ",\"location\":{\"uri\":\"" ++ (escape (uri_of root file)
    ++ (codes "\",\"range\":" ++ t))))))) (sym (value_text-then (range_tree r) (codes "}}")))

pub tree-symbol-text : (name : List ℕ) (kind : ℕ) (line r : Range)
    → value_text (tree_symbol name kind line r)
    ≡ codes "{\"name\":\"" ++ (escape (readable name) ++ (codes "\",\"kind\":"
    ++ (decimal kind ++ (codes ",\"range\":" ++ (value_text (range_tree line)
    ++ (codes ",\"selectionRange\":" ++ (value_text (range_tree r) ++ codes "}")))))))
unfolding escape_byte
tree-symbol-text name kind line r =
    let last = codes ",\"selectionRange\":" ++ text_then (range_tree r) (codes "}") in
    value_text-is (tree_symbol name kind line r)
    ∙ ap (λ t. codes "{\"name\":\"" ++ (escape (readable name) ++ (codes "\",\"kind\":"
    ++ (decimal kind ++ (codes ",\"range\":" ++ t)))))
    (sym (value_text-then (range_tree line) last)
    ∙ ap (λ t. value_text (range_tree line) ++ (codes ",\"selectionRange\":" ++ t))
    (sym (value_text-then (range_tree r) (codes "}"))))
