use Rattle.std.proofs.Common.{take, ◌+◌}
use Rattle.cb_lsp.specs.Same.{listed_names}
use Rattle.cb_lsp.proofs.SameStarts.{adds_more, adds_none, names_more}
use Rattle.cb_lsp.proofs.same.Starts.add_names.Goals as goal

pub loop-one-init : goal.loop-one-init
loop-one-init c = adds_none c.args.self.now

pub loop-one-preserved : goal.loop-one-preserved
loop-one-preserved c =
    let ns = c.args.names.now in
    let i = c.loop-one.one-index in
    let sort = c.args.sort in
    adds_more (listed_names sort (take i ns)) _ (listed_names sort (take (i + 1) ns))
    c.args.self.now c.loop-one.self c.add_name.new.self (names_more sort ns i _ c.loop-one-test.true)
    c.loop-one.invariant c.in_ok-add_name.ensures
