use Rattle.std.proofs.Common.{rules, ◌≡◌, Err, ap}
use Rattle.cb_session.specs.Requests.{change}
use Rattle.cb_session.proofs.Blocks.{Reads-block, Reads-cut, Reads-no_block}
use Rattle.cb_tags.proofs.Follows.{Follows-so}
use Rattle.cb_session.proofs.input.read_change.Goals as goal

pub returns-in_err-bytes-clause-first : goal.returns-in_err-bytes-clause-first
returns-in_err-bytes-clause-first g c = λ bytes e.
    let fault = c.in_err-bytes.field-0.0 in
    let err : c.from_residual.result ≡ Err fault = search rules in
    rw err (Reads-no_block c.args.purpose c.args.name.now bytes c.args.count c.read_block.new.feed
    fault (c.in_err-bytes.ensures.block bytes e))

pub returns-in_err-bytes-clause-every_input : goal.returns-in_err-bytes-clause-every_input
returns-in_err-bytes-clause-every_input g c =
    let fault = c.in_err-bytes.field-0.0 in
    let err : c.from_residual.result ≡ Err fault = search rules in
    rw err (Follows-so c.args.feed.now c.read_block.new.feed _ _ c.in_err-bytes.ensures.every_input
    (λ bytes left. Reads-no_block c.args.purpose c.args.name.now bytes c.args.count left fault))

pub returns-in-Some-clause-every_input : goal.returns-in-Some-clause-every_input
returns-in-Some-clause-every_input g c = let block = rw c.in-Some.is at c.in_ok-bytes.ensures in
    Follows-so c.args.feed.now c.read_block.new.feed _ _ block.every_input
    (λ bytes left. Reads-block c.args.purpose c.args.name.now bytes c.in-Some.bytes.items
    c.args.count left _ (ap change c.change_with.ensures))

pub returns-in-None-clause-every_input : goal.returns-in-None-clause-every_input
returns-in-None-clause-every_input g c = let block = rw c.in-None.is at c.in_ok-bytes.ensures in
    Follows-so c.args.feed.now c.read_block.new.feed _ _ block.every_input
    (λ bytes left. Reads-cut c.args.purpose c.args.name.now bytes c.args.count left)
