-- The symbols of a file, wherever their positions are.
use Rattle.std.proofs.Common.{◌≡◌, ℕ, Bool, false, List, Bor, map}
use Rattle.cb_scan.specs.declared.facts.Def.{Def}
use Rattle.cb_wire.specs.Uris.{Below}
use Rattle.cb_wire.specs.Values.{value_text}
use Rattle.cb_lsp.specs.Symbols.{file_symbol_as}
use Rattle.cb_lsp.specs.steps.Columns.{SourceColumns}
use Rattle.cb_lsp.specs.steps.Elements.{defs_left}

pub same-left : (tree : Bool) (root : Bor Below) (file : Bor (List ℕ)) (rest : Bor (List Def))
    (p q : SourceColumns) → q.encoding ≡ p.encoding → q.text ≡ p.text
    → defs_left tree (record { root = root; file = file; positions = q; rest = rest })
    ≡ defs_left tree (record { root = root; file = file; positions = p; rest = rest })
same-left tree root file rest p q counts reads = λ i.
    map (λ d. value_text (file_symbol_as tree
    (record { root = root.now; encoding = counts i; tree = false }) file.now (reads i) d))
    rest.now
