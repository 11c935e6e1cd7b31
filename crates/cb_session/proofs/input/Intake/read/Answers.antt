use Rattle.std.proofs.Common.{◌≡◌, ◌∙◌, Err, ap, rules, sym}
use Rattle.cb_session.specs.Commands.{short_line}
use Rattle.cb_session.proofs.FirstInputs.{Reads-end, Reads-long, Reads-no_line, Reads-whole}
use Rattle.cb_session.proofs.FirstInputs.{Follows-with_block}
use Rattle.cb_tags.proofs.Follows.{Follows-so}
use Rattle.cb_session.proofs.Patterns.{HasPattern-whole}
use Rattle.cb_session.proofs.Unread.{Unread-change}
use Rattle.cb_session.proofs.input.Intake.read.Goals as goal

pub returns-in-Whole-clause-pattern : goal.returns-in-Whole-clause-pattern
returns-in-Whole-clause-pattern g c =
    HasPattern-whole c.args.limits.now.line c.as_slice.result.now _ c.in-Whole.ensures

pub returns-in_err-read_line-clause-every_input : goal.returns-in_err-read_line-clause-every_input
returns-in_err-read_line-clause-every_input g c =
    let fault = c.in_err-read_line.field-0.0 in
    let err : c.from_residual.result ≡ Err fault = search rules in
    rw err
    (Follows-so c.args.feed.now c.read_line.new.feed _ _ c.in_err-read_line.ensures.every_input
    (λ bytes left.
    Reads-no_line c.args.limits.now.line bytes c.read_line.new.self.line.items left fault))

pub returns-in-End-clause-every_input : goal.returns-in-End-clause-every_input
returns-in-End-clause-every_input g c = let line = rw c.in-End.is at c.in_ok-read_line.ensures in
    Follows-so c.args.feed.now c.read_line.new.feed _ _ line.every_input
    (λ bytes left. Reads-end c.args.limits.now.line bytes c.read_line.new.self.line.items left)

pub returns-in-Long-clause-every_input : goal.returns-in-Long-clause-every_input
returns-in-Long-clause-every_input g c = let line = rw c.in-Long.is at c.in_ok-read_line.ensures in
    Follows-so c.args.feed.now c.read_line.new.feed _ _ line.every_input
    (λ bytes left. Reads-long c.args.limits.now.line bytes c.read_line.new.self.line.items left)

pub returns-in-Whole-clause-every_input : goal.returns-in-Whole-clause-every_input
returns-in-Whole-clause-every_input g c = let line = rw c.in-Line.is at c.in_ok-read_line.ensures in
    let asked = ap (short_line c.args.limits.now.line) (sym c.as_slice.ensures.value)
    ∙ sym c.in-Whole.ensures in
    Follows-so c.args.feed.now c.read_line.new.feed _ _ line.every_input
    (λ bytes left.
    Reads-whole c.args.limits.now.line bytes c.read_line.new.self.line.items left _ asked)

pub returns-in-Block-clause-every_input : goal.returns-in-Block-clause-every_input
returns-in-Block-clause-every_input g c = let line = rw c.in-Line.is at c.in_ok-read_line.ensures in
    let asked = ap (short_line c.args.limits.now.line) (sym c.as_slice.ensures.value)
    ∙ sym c.in-Block.ensures in
    Follows-with_block c.args.limits.now.line c.read_line.new.self.line.items c.args.feed.now
    c.read_line.new.feed c.read_change.new.feed _ c.read_change.result asked
    line.every_input c.read_change.ensures.every_input

pub returns-in-Block-clause-unread : goal.returns-in-Block-clause-unread
returns-in-Block-clause-unread g c = let line = rw c.in-Line.is at c.in_ok-read_line.ensures in
    let asked = ap (short_line c.args.limits.now.line) (sym c.as_slice.ensures.value)
    ∙ sym c.in-Block.ensures in
    Unread-change c.args.limits.now.line c.read_line.new.self.line.items c.args.feed.now
    c.read_line.new.feed c.read_change.new.feed _ _ _ c.read_change.result asked
    line.every_input c.read_change.ensures.unread c.read_change.ensures.failed
