use Rattle.std.proofs.Common.{◌++◌}
use Rattle.cb_lsp.proofs.ClosureHeaders.{named_at}
use Rattle.cb_lsp.proofs.closure.named_in.Goals as goal

pub returns-then-is_in_folder : goal.returns-then-is_in_folder
returns-then-is_in_folder c =
    named_at c.args.names.now c.loop-name.name-index _ (c.args.folder.now ++ c.args.header.now)
    c.loop-name-test.true c.if-is_in_folder.ensures
