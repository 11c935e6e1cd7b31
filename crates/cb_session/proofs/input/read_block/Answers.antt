use Rattle.std.proofs.Common.{length, ap, arith}
use Rattle.cb_tags.proofs.Follows.{Follows-nothing}
use Rattle.cb_session.proofs.Streams.{ReadsBlock-whole, ReadsBlock-cut, Follows-block}
use Rattle.cb_session.proofs.Streams.{Follows-block_end}
use Rattle.cb_session.proofs.input.read_block.Goals as goal

pub returns-then-not-branch-clause-block : goal.returns-then-not-branch-clause-block
returns-then-not-branch-clause-block g c = λ bytes e.
    let k = rw c.if-not-branch.true at c.in_ok-piece.ensures in
    let all =
    ReadsBlock-cut _ _ c.pieces.block.items bytes c.pieces.invariant.taken.0 k.piece.0.2 e in
    (omega (arith, ap length all), k.piece.0.3)

pub returns-clause-block : goal.returns-clause-block
returns-clause-block g c = λ bytes e.
    ReadsBlock-whole _ _ c.pieces.block.items bytes c.args.count c.pieces.invariant.taken.0
    (omega arith) e

pub returns-in-Err-clause-every_input : goal.returns-in-Err-clause-every_input
returns-in-Err-clause-every_input g c =
    Follows-nothing c.args.feed.now (λ bytes left. Unit {0}) (λ bytes left known. tt)

pub returns-then-not-branch-clause-every_input : goal.returns-then-not-branch-clause-every_input
returns-then-not-branch-clause-every_input g c =
    let k = rw c.if-not-branch.true at c.in_ok-piece.ensures in
    Follows-block_end c.args.feed.now c.pieces.feed c.piece.new.self c.pieces.block.items
    c.args.count c.pieces.invariant.taken k.piece.0 (omega arith)

pub returns-clause-every_input : goal.returns-clause-every_input
returns-clause-every_input g c =
    Follows-block c.args.feed.now c.pieces.feed c.pieces.block.items c.args.count
    c.pieces.invariant.taken (omega arith)
