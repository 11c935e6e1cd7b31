use Rattle.cb_names.proofs.statements.starts_of.Goals as goal

pub loop-at-init : goal.loop-at-init
loop-at-init c = c.new-starting.ensures c.args.shape.now.items.items c.args.shape.now.body
