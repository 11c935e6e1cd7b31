use Rattle.std.proofs.Common.{refl, sym, subst, ap, ◌∙◌, inl, Ok, Err, Some}
use Rattle.std.specs.Prelude.{codes}
use Rattle.cb_tags.proofs.Follows.{Follows-so}
use Rattle.cb_wire.specs.declared.frame.Frame.TheVariants.{Body, TooLarge, OutOfMemory, End}
use Rattle.cb_wire.specs.Frames.{ReadsFrame, first}
use Rattle.cb_lsp.specs.Messages.{does, log_of, out_of_memory, too_large}
use Rattle.cb_lsp.proofs.Dropped.{takes-drop}
use Rattle.cb_lsp.specs.Bodies.{Takes, refused, taken}
use Rattle.cb_lsp.specs.Endings.{LeavesTurn, ending_at}
use Rattle.cb_lsp.specs.steps.Turns.{ending_of}
use Rattle.cb_lsp.proofs.Notices.{quiet}
use Rattle.cb_lsp.proofs.OneTurn.{body-next, ends-so, is-end, is-unread, large-next, refused-next}
use Rattle.cb_lsp.proofs.OneTurn.{turn-left}
use Rattle.cb_lsp.proofs.server.Server.turn.Goals as goal

pub returns-in-Ok-Body : goal.returns-in-Ok-Body
returns-in-Ok-Body g c =
    let finds = g.D.Disk.finds c.args.disk.now in
    let s = c.args.self.now in
    let next = c.take_body-taken.new.self in
    let out = c.args.out.now in
    let text = c.in-Ok-Body.body.now in
    let took = c.take_body-taken.ensures in
    Follows-so c.args.feed.now c.read.new.feed
    (λ bytes left. ReadsFrame (first bytes) left (Ok (Body c.in-Ok-Body.body)))
    (λ bytes left.
    LeavesTurn finds (first bytes) s next left out c.go_on.new.out c.go_on.result)
    (rw c.in-Ok-Body.field-0-is at c.in-Ok-Body.ensures.every_input)
    (λ bytes left read.
    turn-left finds (first bytes) s next left took.0 read.0 out c.take_body-taken.new.out
    c.go_on.new.out c.take_body-taken.result c.go_on.result
    (body-next (first bytes) left text took.0 read.0 read.1 took.1) read.2 took.2
    c.go_on.ensures)

pub returns-in-Ok-TooLarge : goal.returns-in-Ok-TooLarge
unfolding does
returns-in-Ok-TooLarge g c =
    let finds = g.D.Disk.finds c.args.disk.now in
    let s = c.args.self.now in
    let out = c.args.out.now in
    let next = c.drop_body.new.self in
    let between = c.drop_body.new.out in
    let new = c.go_on-in-Ok-TooLarge.new.out in
    let result = c.go_on-in-Ok-TooLarge.result in
    let t = taken too_large quiet in
    let took : Takes finds t s next out between c.going_on-taken.result =
    subst (Takes finds t s next out between) (sym c.going_on-taken.ensures)
    (takes-drop finds t (log_of (codes "too large")) s next out between c.drop_body.result refl refl
    c.drop_body.ensures) in
    Follows-so c.args.feed.now c.read.new.feed
    (λ bytes left. ReadsFrame (first bytes) left (Ok TooLarge))
    (λ bytes left. LeavesTurn finds (first bytes) s next left out new result)
    (rw c.in-Ok-TooLarge.field-0-is at c.in-Ok-TooLarge.ensures.every_input)
    (λ bytes left read.
    turn-left finds (first bytes) s next left t read.0 out between new c.going_on-taken.result result
    (large-next (first bytes) read.0 read.1) read.2 took c.go_on-in-Ok-TooLarge.ensures)

pub returns-in-Ok-OutOfMemory : goal.returns-in-Ok-OutOfMemory
returns-in-Ok-OutOfMemory g c =
    let finds = g.D.Disk.finds c.args.disk.now in
    let s = c.args.self.now in
    let out = c.args.out.now in
    let next = c.drop_body-in-Ok-OutOfMemory.new.self in
    let between = c.drop_body-in-Ok-OutOfMemory.new.out in
    let new = c.go_on-in-Ok-OutOfMemory.new.out in
    let result = c.go_on-in-Ok-OutOfMemory.result in
    let took : Takes finds refused s next out between c.going_on-taken-in-Ok-OutOfMemory.result =
    subst (Takes finds refused s next out between)
    (sym c.going_on-taken-in-Ok-OutOfMemory.ensures)
    (takes-drop finds refused (log_of out_of_memory) s next out between
    c.drop_body-in-Ok-OutOfMemory.result refl refl c.drop_body-in-Ok-OutOfMemory.ensures) in
    Follows-so c.args.feed.now c.read.new.feed
    (λ bytes left. ReadsFrame (first bytes) left (Ok OutOfMemory))
    (λ bytes left. LeavesTurn finds (first bytes) s next left out new result)
    (rw c.in-Ok-OutOfMemory.field-0-is at c.in-Ok-OutOfMemory.ensures.every_input)
    (λ bytes left read.
    turn-left finds (first bytes) s next left refused read.1 out between new
    c.going_on-taken-in-Ok-OutOfMemory.result result
    (refused-next (first bytes) read.0 read.1 read.2) read.3 took
    c.go_on-in-Ok-OutOfMemory.ensures)

pub returns-in-Ok-End : goal.returns-in-Ok-End
returns-in-Ok-End g c =
    let finds = g.D.Disk.finds c.args.disk.now in
    let s = c.args.self.now in
    let out = c.args.out.now in
    let how = c.ending_at.result in
    Follows-so c.args.feed.now c.read.new.feed
    (λ bytes left. ReadsFrame (first bytes) left (Ok End))
    (λ bytes left. LeavesTurn finds (first bytes) s s left out out (Ok (Some how)))
    (rw c.in-Ok-End.field-0-is at c.in-Ok-End.ensures.every_input)
    (λ bytes left read.
    ends-so finds (first bytes) s left out how (ending_at s.stage)
    (c.ending_at.ensures ∙ ap ending_at c.stage.ensures)
    (is-end (first bytes) s left s.stage refl (inl read)))

pub returns-in-Err : goal.returns-in-Err
returns-in-Err g c =
    let finds = g.D.Disk.finds c.args.disk.now in
    let s = c.args.self.now in
    let out = c.args.out.now in
    let how = c.ending_of.result in
    let e = c.in-Err.error in
    Follows-so c.args.feed.now c.read.new.feed
    (λ bytes left. ReadsFrame (first bytes) left (Err e))
    (λ bytes left. LeavesTurn finds (first bytes) s s left out out (Ok (Some how)))
    c.in-Err.ensures.every_input
    (λ bytes left read.
    ends-so finds (first bytes) s left out how (ending_of e) c.ending_of.ensures
    (is-unread (first bytes) s left e read))
