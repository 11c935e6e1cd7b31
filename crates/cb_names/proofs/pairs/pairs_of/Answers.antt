use Rattle.cb_names.proofs.pairs.pairs_of.Goals as goal

pub loop-at-init : goal.loop-at-init
loop-at-init c = c.new-pairing.ensures c.args.items.now
