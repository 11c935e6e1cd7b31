use Rattle.std.proofs.Common.{◌≡◌, ◌++◌, drop, map}
use Rattle.cb_lsp.specs.steps.Closures.{is_one_of}
use Rattle.cb_lsp.proofs.closure.named_in.Given as goal

abbrev pub invariant-loop-name : goal.invariant-loop-name
invariant-loop-name l =
    is_one_of (map (λ name. name.now) (drop l.name-index l.names)) (l.folder ++ l.header)
    ≡ is_one_of (map (λ name. name.now) l.names) (l.folder ++ l.header)
