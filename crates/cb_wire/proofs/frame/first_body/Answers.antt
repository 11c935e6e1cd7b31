use Rattle.std.proofs.Common.{Ok, Err, true, false}
use Rattle.cb_tags.proofs.Follows.{Follows-so}
use Rattle.cb_wire.specs.declared.frame.Frame.TheVariants.{Body, TooLarge, OutOfMemory}
use Rattle.cb_wire.specs.declared.frame.FrameError.TheVariants.{InputEnded}
use Rattle.cb_wire.specs.Frames.{ReadsFrame, first_body}
use Rattle.cb_wire.specs.steps.ReadBodies.{ReadsBody, Skips}
use Rattle.cb_wire.proofs.FrameLemmas.{body-ended, body-large, body-read, body-refused, frame-failed}
use Rattle.cb_wire.proofs.frame.first_body.Goals as goal

pub returns-in_err-skip-clause-follows : goal.returns-in_err-skip-clause-follows
returns-in_err-skip-clause-follows g c =
    let n = c.args.count in
    Follows-so c.args.feed.now c.skip.new.feed (λ b l. Skips n b l (Err c.in_err-skip.field-0.0))
    (λ b l. ReadsFrame (first_body n b) l c.from_residual.result) c.in_err-skip.ensures.follows
    (λ b l s. frame-failed (first_body n b) l c.from_residual.result c.from_residual.ensures.1 s)

pub returns-then-branch-clause-follows : goal.returns-then-branch-clause-follows
returns-then-branch-clause-follows g c =
    let n = c.args.count in
    let k = rw c.if-branch.true at c.in_ok-skip.ensures.follows in
    Follows-so c.args.feed.now c.skip.new.feed (λ b l. Skips n b l (Ok true))
    (λ b l. ReadsFrame (first_body n b) l (Ok TooLarge)) k
    (λ b l s. body-large n b l c.if-count-gt-MOST_BODY.true s)

pub returns-else-branch-clause-follows : goal.returns-else-branch-clause-follows
returns-else-branch-clause-follows g c =
    let n = c.args.count in
    let k = rw c.if-branch.false at c.in_ok-skip.ensures.follows in
    Follows-so c.args.feed.now c.skip.new.feed (λ b l. Skips n b l (Ok false))
    (λ b l. ReadsFrame (first_body n b) l (Err InputEnded)) k (λ b l s. body-ended n b l s)

pub returns-in_err-skip-2-clause-follows : goal.returns-in_err-skip-2-clause-follows
returns-in_err-skip-2-clause-follows g c =
    let n = c.args.count in
    let r = c.from_residual-in_err-skip-2.result in
    Follows-so c.args.feed.now c.skip-then-is_err.new.feed
    (λ b l. Skips n b l (Err c.in_err-skip-2.field-0.0)) (λ b l. ReadsFrame (first_body n b) l r)
    c.in_err-skip-2.ensures.follows
    (λ b l s. frame-failed (first_body n b) l r c.from_residual-in_err-skip-2.ensures.1 s)

pub returns-then-branch-2-clause-follows : goal.returns-then-branch-2-clause-follows
returns-then-branch-2-clause-follows g c =
    let n = c.args.count in
    let k = rw c.if-branch-2.true at c.in_ok-skip-2.ensures.follows in
    Follows-so c.args.feed.now c.skip-then-is_err.new.feed (λ b l. Skips n b l (Ok true))
    (λ b l. ReadsFrame (first_body n b) l (Ok OutOfMemory)) k
    (λ b l s. body-refused n b l c.if-count-gt-MOST_BODY.false s)

pub returns-else-branch-2-clause-follows : goal.returns-else-branch-2-clause-follows
returns-else-branch-2-clause-follows g c =
    let n = c.args.count in
    let k = rw c.if-branch-2.false at c.in_ok-skip-2.ensures.follows in
    Follows-so c.args.feed.now c.skip-then-is_err.new.feed (λ b l. Skips n b l (Ok false))
    (λ b l. ReadsFrame (first_body n b) l (Err InputEnded)) k (λ b l s. body-ended n b l s)

pub returns-in_err-read_body-clause-follows : goal.returns-in_err-read_body-clause-follows
returns-in_err-read_body-clause-follows g c =
    let n = c.args.count in
    let r = c.from_residual-in_err-read_body.result in
    Follows-so c.args.feed.now c.read_body.new.feed
    (λ b l. Skips n b l (Err c.in_err-read_body.field-0.0))
    (λ b l. ReadsFrame (first_body n b) l r) c.in_err-read_body.ensures.follows
    (λ b l s. frame-failed (first_body n b) l r c.from_residual-in_err-read_body.ensures.1 s)

pub returns-then-branch-3-clause-follows : goal.returns-then-branch-3-clause-follows
returns-then-branch-3-clause-follows g c =
    let n = c.args.count in
    let kept = c.read_body.new.body.items in
    let k = rw c.if-branch-3.true at c.in_ok-read_body.ensures.follows in
    Follows-so c.args.feed.now c.read_body.new.feed (λ b l. ReadsBody n b l kept (Ok true))
    (λ b l. ReadsFrame (first_body n b) l (Ok (Body c.as_slice.result))) k
    (λ b l s. body-read n b l kept c.as_slice.result c.as_slice.ensures.value
    c.if-count-gt-MOST_BODY.false s)

pub returns-else-branch-3-clause-follows : goal.returns-else-branch-3-clause-follows
returns-else-branch-3-clause-follows g c =
    let n = c.args.count in
    let k = rw c.if-branch-3.false at c.in_ok-read_body.ensures.follows in
    Follows-so c.args.feed.now c.read_body.new.feed (λ b l. Skips n b l (Ok false))
    (λ b l. ReadsFrame (first_body n b) l (Err InputEnded)) k (λ b l s. body-ended n b l s)
