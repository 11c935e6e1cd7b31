use Rattle.std.proofs.Common.{◌≡◌, length}
use Rattle.cb_lsp.specs.Headers.{files_named}
use Rattle.cb_lsp.proofs.symbols.next_named.Given as goal

abbrev pub invariant-files : goal.invariant-files
invariant-files l = files_named l.header l.files ≡ files_named l.header l.fn.files

abbrev pub decreases-files : goal.decreases-files
decreases-files l = length l.files
