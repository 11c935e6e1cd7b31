use Rattle.std.proofs.Common.{take, ◌+◌}
use Rattle.std.specs.List.{flat_map}
use Rattle.cb_lsp.specs.Same.{listed_by}
use Rattle.cb_lsp.proofs.SameStarts.{adds_more, adds_none, flat_more}
use Rattle.cb_lsp.proofs.same.Starts.add_defs.Goals as goal

pub loop-def-init : goal.loop-def-init
loop-def-init c = adds_none c.args.self.now

pub loop-def-preserved : goal.loop-def-preserved
loop-def-preserved c =
    let ds = c.args.defs.now in
    let i = c.loop-def.def-index in
    let f = listed_by c.args.sort c.args.source.now c.args.name.now in
    adds_more (flat_map f (take i ds)) _ (flat_map f (take (i + 1) ds))
    c.args.self.now c.loop-def.self c.add_by.new.self (flat_more f ds i _ c.loop-def-test.true)
    c.loop-def.invariant c.in_ok-add_by.ensures
