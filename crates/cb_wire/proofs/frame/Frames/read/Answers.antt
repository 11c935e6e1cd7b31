use Rattle.std.proofs.Common.{◌∙◌, ap, Ok, Err}
use Rattle.cb_wire.specs.declared.frame.Frame.TheVariants.{End}
use Rattle.cb_wire.specs.declared.frame.FrameError.TheVariants.{BadHeader, InputEnded}
use Rattle.cb_wire.specs.Fields.{content_length}
use Rattle.cb_wire.specs.Frames.{ReadsFrame, first}
use Rattle.cb_wire.proofs.FrameLemmas.{Follows-known, frame-bad, frame-end, frame-ended, frame-fault}
use Rattle.cb_wire.proofs.FrameLemmas.{frame-none, frame-then}
use Rattle.cb_wire.proofs.frame.Frames.read.Goals as goal

pub returns-in_err-read_head : goal.returns-in_err-read_head
returns-in_err-read_head g c =
    let r = c.from_residual.result in
    let all =
    frame-fault c.args.feed.now c.read_head.new.feed c.read_head.new.head.items
    c.in_err-read_head.field-0.0 r c.from_residual.ensures.1 c.in_err-read_head.ensures.follows in
    record {
      frame =
          Follows-known c.args.feed.now c.read_head.new.feed
          (λ bytes left. ReadsFrame (first bytes) left r) all c.in_err-read_head.ensures.ends;
      every_input = all;
    }

pub returns-in-End : goal.returns-in-End
returns-in-End g c =
    let k = rw c.in-End.is at c.in_ok-read_head.ensures.follows in
    let all =
    frame-end c.args.feed.now c.read_head.new.feed c.read_head.new.head.items k in
    record {
      frame =
          Follows-known c.args.feed.now c.read_head.new.feed
          (λ bytes left. ReadsFrame (first bytes) left (Ok End)) all c.in_ok-read_head.ensures.ends;
      every_input = all;
    }

pub returns-in-Ended : goal.returns-in-Ended
returns-in-Ended g c =
    let k = rw c.in-Ended.is at c.in_ok-read_head.ensures.follows in
    let all =
    frame-ended c.args.feed.now c.read_head.new.feed c.read_head.new.head.items k in
    record {
      frame =
          Follows-known c.args.feed.now c.read_head.new.feed
          (λ bytes left. ReadsFrame (first bytes) left (Err InputEnded)) all c.in_ok-read_head.ensures.ends;
      every_input = all;
    }

pub returns-in-Bad : goal.returns-in-Bad
returns-in-Bad g c =
    let k = rw c.in-Bad.is at c.in_ok-read_head.ensures.follows in
    let all =
    frame-bad c.args.feed.now c.read_head.new.feed c.read_head.new.head.items k in
    record {
      frame =
          Follows-known c.args.feed.now c.read_head.new.feed
          (λ bytes left. ReadsFrame (first bytes) left (Err BadHeader)) all c.in_ok-read_head.ensures.ends;
      every_input = all;
    }

pub returns-in-Some : goal.returns-in-Some
returns-in-Some g c =
    let r = c.first_body.result in
    let k = rw c.in-Whole.is at c.in_ok-read_head.ensures.follows in
    let is = c.in-Some.ensures ∙ ap content_length c.as_slice.ensures.value in
    let all =
    frame-then c.args.feed.now c.read_head.new.feed c.first_body.new.feed c.read_head.new.head.items
    c.in-Some.count r is k c.first_body.ensures.follows in
    record {
      frame =
          Follows-known c.args.feed.now c.first_body.new.feed
          (λ bytes left. ReadsFrame (first bytes) left r) all
          (c.first_body.ensures.ends c.in_ok-read_head.ensures.ends);
      every_input = all;
    }

pub returns-in-None : goal.returns-in-None
returns-in-None g c =
    let k = rw c.in-Whole.is at c.in_ok-read_head.ensures.follows in
    let is = c.in-None.ensures ∙ ap content_length c.as_slice.ensures.value in
    let all =
    frame-none c.args.feed.now c.read_head.new.feed c.read_head.new.head.items is k in
    record {
      frame =
          Follows-known c.args.feed.now c.read_head.new.feed
          (λ bytes left. ReadsFrame (first bytes) left (Err BadHeader)) all
          c.in_ok-read_head.ensures.ends;
      every_input = all;
    }
