use Rattle.std.proofs.Common.{◌≡◌, length}
use Rattle.cb_lsp.specs.steps.Completions.{names_left}
use Rattle.cb_lsp.proofs.completion.Names.next_name.Given as goal

abbrev pub invariant-rows : goal.invariant-rows
invariant-rows l = names_left l.self ≡ names_left l.fn.self

abbrev pub decreases-rows : goal.decreases-rows
decreases-rows l = length l.self.rest
