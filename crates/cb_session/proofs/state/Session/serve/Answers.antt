use Rattle.std.proofs.Common.{◌∙◌, refl, rules, sym}
use Rattle.cb_session.specs.declared.input.Ended.TheVariants.{Fault}
use Rattle.cb_session.specs.declared.input.Fault.TheVariants.{Write}
use Rattle.cb_session.specs.Inputs.{inputs}
use Rattle.cb_tags.proofs.Follows.{Follows-so}
use Rattle.cb_session.proofs.Rounds.{HandsOn-flushed, HandsOn-unread, LeavesSession-flushed}
use Rattle.cb_session.proofs.Rounds.{LeavesSession-unflushed, not_cut_short}
use Rattle.cb_session.proofs.Told.{Tells-held}
use Rattle.cb_session.proofs.state.Session.serve.Goals as goal

pub returns-then-is_unread : goal.returns-then-is_unread
returns-then-is_unread g c = (
  c.rounds-ended.ensures,
  HandsOn-unread c.args.limits.now.lines c.args.limits.now.line c.args.self.now
      c.rounds-ended.new.self c.args.feed.now c.rounds-ended.new.feed c.args.out.now
      c.rounds-ended.new.out c.rounds-ended.result
      (sym c.is_unread.ensures ∙ c.if-is_unread.true) c.rounds-ended.ensures.cut_short,
)

pub returns-in-Ok : goal.returns-in-Ok
returns-in-Ok g c = (
  record {
    output = λ bytes e.
        LeavesSession-flushed (inputs c.args.limits.now.lines c.args.limits.now.line bytes)
        c.args.self.now c.rounds-ended.new.self c.rounds-ended.new.feed c.args.out.now
        c.rounds-ended.new.out c.flush.new.self c.rounds-ended.result c.in-Ok.ensures.2
        (c.rounds-ended.ensures.output bytes e);
    every_input =
        Follows-so c.args.feed.now c.rounds-ended.new.feed _ _ c.rounds-ended.ensures.every_input
        (λ bytes left. LeavesSession-flushed (inputs c.args.limits.now.lines c.args.limits.now.line
        bytes) c.args.self.now
        c.rounds-ended.new.self left c.args.out.now c.rounds-ended.new.out c.flush.new.self
        c.rounds-ended.result c.in-Ok.ensures.2);
    cut_short =
        not_cut_short _ c.rounds-ended.result (sym c.is_unread.ensures ∙ c.if-is_unread.false);
    failed = search rules;
    told = search rules;
  },
  HandsOn-flushed c.flush.new.self c.rounds-ended.result c.in-Ok.ensures.3,
)

pub returns-in-Err : goal.returns-in-Err
returns-in-Err g c = (
  record {
    output = λ bytes e.
        LeavesSession-unflushed (inputs c.args.limits.now.lines c.args.limits.now.line bytes)
        c.args.self.now c.rounds-ended.new.self c.rounds-ended.new.feed c.args.out.now
        c.rounds-ended.new.out c.flush.new.self c.rounds-ended.result c.in-Err.ensures.1
        (c.rounds-ended.ensures.output bytes e);
    every_input =
        Follows-so c.args.feed.now c.rounds-ended.new.feed _ _ c.rounds-ended.ensures.every_input
        (λ bytes left. LeavesSession-unflushed (inputs c.args.limits.now.lines
        c.args.limits.now.line bytes)
        c.args.self.now c.rounds-ended.new.self left c.args.out.now c.rounds-ended.new.out
        c.flush.new.self c.rounds-ended.result c.in-Err.ensures.1);
    cut_short = not_cut_short _ (Fault Write) refl;
    failed = search rules;
    told =
        Tells-held c.args.feed.now c.rounds-ended.new.feed c.args.out.now c.rounds-ended.new.out
        c.rounds-ended.result (sym c.is_unread.ensures ∙ c.if-is_unread.false)
        c.rounds-ended.ensures.told;
  },
  tt,
)
