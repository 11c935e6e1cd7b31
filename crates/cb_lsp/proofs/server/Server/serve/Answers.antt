use Rattle.std.proofs.Common.{◌≡◌, arith}
use Rattle.cb_lsp.specs.Runs.{most_messages}
use Rattle.cb_lsp.proofs.ManyTurns.{Follows-ends, Follows-fails, Follows-more, Follows-most}
use Rattle.cb_lsp.proofs.ManyTurns.{Follows-start}
use Rattle.cb_lsp.proofs.server.Server.serve.Goals as goal

pub turns-init : goal.turns-init
turns-init g c = Follows-start (g.D.Disk.finds c.args.disk.now) c.args.feed.now c.args.self.now c.args.out.now

pub returns-in-Ok-Some : goal.returns-in-Ok-Some
returns-in-Ok-Some g c =
    Follows-ends (g.D.Disk.finds c.args.disk.now) c.args.feed.now c.turns.feed c.turn.new.feed c.args.self.now c.turns.self
    c.turn.new.self c.args.out.now c.turns.out c.turn.new.out c.turns._turn c.in-Ok-Some.ending
    c.turns.invariant (rw c.in-Ok-Some.field-0-is at c.in-Ok-Some.ensures)

pub returns-in-Err-turn : goal.returns-in-Err-turn
returns-in-Err-turn g c =
    Follows-fails (g.D.Disk.finds c.args.disk.now) c.args.feed.now c.turns.feed c.turn.new.feed c.args.self.now c.turns.self
    c.turn.new.self c.args.out.now c.turns.out c.turn.new.out c.turns._turn _ c.turns.invariant
    c.in-Err-turn.ensures

pub turns-preserved : goal.turns-preserved
turns-preserved g c =
    Follows-more (g.D.Disk.finds c.args.disk.now) c.args.feed.now c.turns.feed c.turn.new.feed c.args.self.now c.turns.self
    c.turn.new.self c.args.out.now c.turns.out c.turn.new.out c.turns._turn c.turns.invariant
    (rw c.in-Ok-None.field-0-is at c.in-Ok-None.ensures)

pub returns : goal.returns
returns g c =
    let most : c.turns._turn ≡ most_messages = omega arith in
    Follows-most (g.D.Disk.finds c.args.disk.now) c.args.feed.now c.turns.feed c.args.self.now c.turns.self c.args.out.now
    c.turns.out c.turns._turn most c.turns.invariant
