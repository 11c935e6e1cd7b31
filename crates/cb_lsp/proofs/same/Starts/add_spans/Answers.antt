use Rattle.std.proofs.Common.{◌∷◌, [], take, ◌+◌}
use Rattle.std.proofs.lemmas.List.{take_more}
use Rattle.std.specs.Prelude.{slice_index_or}
use Rattle.cb_lsp.proofs.SameStarts.{adds_more, adds_none, adds_one}
use Rattle.cb_lsp.proofs.same.Starts.add_spans.Goals as goal

pub loop-span-init : goal.loop-span-init
loop-span-init c = adds_none c.args.self.now

pub loop-span-preserved : goal.loop-span-preserved
loop-span-preserved c =
    let ss = c.args.spans.now in
    let i = c.loop-span.span-index in
    let one = slice_index_or ss i (record { start = 0; end = 0 }) in
    adds_more (take i ss) (one ∷ []) (take (i + 1) ss)
    c.args.self.now c.loop-span.self c.add.new.self (take_more ss i _ c.loop-span-test.true)
    c.loop-span.invariant (adds_one one c.loop-span.self c.add.new.self c.in_ok-add.ensures)
