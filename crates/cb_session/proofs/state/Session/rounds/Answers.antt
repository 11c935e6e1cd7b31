use Rattle.std.proofs.Common.{◌≡◌, ◌-◌, ◌+◌, suc, Some, None, refl, arith, rules, subst}
use Rattle.cb_session.specs.declared.input.Ended.TheVariants.{Fault}
use Rattle.cb_session.specs.declared.input.Fault.TheVariants.{ManyLines, Memory}
use Rattle.cb_session.proofs.CutShort.{Answered-cut, Answered-next, Answered-start, read_fault}
use Rattle.cb_session.proofs.Rounds.{Rounds, Rounds-start, Rounds-next, Rounds-stop, Rounds-out}
use Rattle.cb_session.proofs.Rounds.{LeavesSession-none, Follows-start, Follows-next, Follows-stop}
use Rattle.cb_session.proofs.Rounds.{Follows-out, Follows-none, not_cut_short}
use Rattle.cb_session.proofs.Told.{Tells-none, Tells-after}
use Rattle.cb_session.specs.Serving.{fault_of}
use Rattle.cb_session.proofs.state.Session.rounds.Goals as goal

pub rounds-init : goal.rounds-init
rounds-init g c = record {
  output = λ bytes e.
      let all : c.args.limits.now.lines ≡ c.args.limits.now.lines - 0 = omega arith in
      subst (λ n. Rounds c.args.limits.now.lines c.args.limits.now.line bytes c.args.self.now
      c.args.out.now n c.args.self.now c.args.feed.now c.args.out.now) all
      (Rounds-start c.args.limits.now.lines c.args.limits.now.line bytes c.args.self.now
      c.args.out.now c.args.feed.now e);
  every_input =
      let all : c.args.limits.now.lines ≡ c.args.limits.now.lines - 0 = omega arith in
      Follows-start c.args.limits.now.lines c.args.limits.now.line (c.args.limits.now.lines - 0)
      c.args.self.now c.args.out.now c.args.feed.now all;
  answered =
      let all : c.args.limits.now.lines ≡ c.args.limits.now.lines - 0 = omega arith in
      Answered-start c.args.limits.now.lines c.args.limits.now.line (c.args.limits.now.lines - 0)
      c.args.self.now c.args.out.now c.args.feed.now all;
  told = (λ h. h, refl);
}

pub returns-in-Err : goal.returns-in-Err
returns-in-Err g c = record {
  output = λ bytes e.
      LeavesSession-none c.args.limits.now.lines c.args.limits.now.line bytes c.args.self.now
      c.args.out.now c.args.feed.now;
  every_input =
      Follows-none c.args.limits.now.lines c.args.limits.now.line c.args.self.now
      c.args.out.now c.args.feed.now;
  cut_short = not_cut_short _ (Fault Memory) refl;
  failed = search rules;
  told = search rules;
}

pub returns-in-Ok-Some : goal.returns-in-Ok-Some
returns-in-Ok-Some g c =
    let one_more : c.args.limits.now.lines - c.rounds._round
    ≡ suc (c.args.limits.now.lines - (c.rounds._round + 1)) = omega arith in
    let round = rw c.in-Ok-Some.field-0-is at c.in-Ok-Some.ensures in
    let told =
    Tells-after c.args.feed.now c.rounds.feed c.round.new.feed c.args.out.now c.rounds.out
    c.round.new.out None c.rounds.invariant.told c.in-Ok-Some.ensures.told in
    record {
      output = λ bytes e.
          Rounds-stop _ _ bytes _ _ _ _ c.rounds.self c.round.new.self c.rounds.feed
          c.round.new.feed c.rounds.out c.round.new.out c.in-Ok-Some.ended one_more
          (c.rounds.invariant.output bytes e)
          (rw c.in-Ok-Some.field-0-is at c.in-Ok-Some.ensures.round);
      every_input =
          Follows-stop c.args.limits.now.lines c.args.limits.now.line c.args.self.now c.args.out.now
          _ _ c.rounds.self c.round.new.self c.args.feed.now c.rounds.feed c.round.new.feed
          c.rounds.out c.round.new.out c.in-Ok-Some.ended one_more
          c.rounds.invariant.every_input round.every_input;
      cut_short = not_cut_short _ c.in-Ok-Some.ended round.read;
      failed = search rules;
      told =
          Tells-none c.args.feed.now c.round.new.feed c.args.out.now c.round.new.out
          (fault_of c.in-Ok-Some.ended) told;
    }

pub returns-in-Err-round : goal.returns-in-Err-round
returns-in-Err-round g c =
    let one_more : c.args.limits.now.lines - c.rounds._round
    ≡ suc (c.args.limits.now.lines - (c.rounds._round + 1)) = omega arith in
    record {
      output = λ bytes e.
          Rounds-stop _ _ bytes _ _ _ _ c.rounds.self c.round.new.self c.rounds.feed
          c.round.new.feed c.rounds.out c.round.new.out (Fault c.in-Err-round.fault) one_more
          (c.rounds.invariant.output bytes e) c.in-Err-round.ensures.round;
      every_input =
          Follows-stop c.args.limits.now.lines c.args.limits.now.line c.args.self.now c.args.out.now
          _ _ c.rounds.self c.round.new.self c.args.feed.now c.rounds.feed c.round.new.feed
          c.rounds.out c.round.new.out (Fault c.in-Err-round.fault) one_more
          c.rounds.invariant.every_input c.in-Err-round.ensures.every_input;
      cut_short = λ is.
          Answered-cut c.args.limits.now.lines c.args.limits.now.line c.args.self.now c.args.out.now
          _ _ c.rounds.self c.round.new.self c.args.feed.now c.rounds.feed c.round.new.feed
          c.rounds.out c.round.new.out one_more
          c.rounds.invariant.answered (read_fault c.args.limits.now.line c.rounds.self
          c.round.new.self c.rounds.feed c.round.new.feed c.rounds.out c.round.new.out
          c.in-Err-round.fault is c.in-Err-round.ensures.read);
      failed = search rules;
      told =
          Tells-after c.args.feed.now c.rounds.feed c.round.new.feed c.args.out.now c.rounds.out
          c.round.new.out (Some c.in-Err-round.fault) c.rounds.invariant.told
          c.in-Err-round.ensures.told;
    }

pub rounds-preserved : goal.rounds-preserved
rounds-preserved g c = record {
  output = λ bytes e.
      let one_more : c.args.limits.now.lines - c.rounds._round
      ≡ suc (c.args.limits.now.lines - (c.rounds._round + 1)) = omega arith in
      Rounds-next _ _ bytes _ _ _ _ c.rounds.self c.round.new.self c.rounds.feed c.round.new.feed
      c.rounds.out c.round.new.out one_more (c.rounds.invariant.output bytes e)
      (rw c.in-Ok-None.field-0-is at c.in-Ok-None.ensures.round);
  every_input =
      let one_more : c.args.limits.now.lines - c.rounds._round
      ≡ suc (c.args.limits.now.lines - (c.rounds._round + 1)) = omega arith in
      let round = rw c.in-Ok-None.field-0-is at c.in-Ok-None.ensures in
      Follows-next c.args.limits.now.lines c.args.limits.now.line c.args.self.now c.args.out.now _ _
      c.rounds.self c.round.new.self c.args.feed.now c.rounds.feed c.round.new.feed c.rounds.out
      c.round.new.out one_more
      c.rounds.invariant.every_input round.every_input;
  answered =
      let one_more : c.args.limits.now.lines - c.rounds._round
      ≡ suc (c.args.limits.now.lines - (c.rounds._round + 1)) = omega arith in
      let round = rw c.in-Ok-None.field-0-is at c.in-Ok-None.ensures in
      Answered-next c.args.limits.now.lines c.args.limits.now.line c.args.self.now c.args.out.now _
      _ c.rounds.self c.round.new.self c.args.feed.now c.rounds.feed c.round.new.feed c.rounds.out
      c.round.new.out one_more
      c.rounds.invariant.answered round.read;
  told =
      Tells-after c.args.feed.now c.rounds.feed c.round.new.feed c.args.out.now c.rounds.out
      c.round.new.out None c.rounds.invariant.told c.in-Ok-None.ensures.told;
}

pub returns : goal.returns
returns g c =
    let none : c.args.limits.now.lines - c.rounds._round ≡ 0 = omega arith in
    record {
      output = λ bytes e.
          Rounds-out _ _ bytes _ _ c.rounds.self c.rounds.feed _
          (subst (λ n. Rounds c.args.limits.now.lines c.args.limits.now.line bytes c.args.self.now
          c.args.out.now n c.rounds.self c.rounds.feed c.rounds.out) none
          (c.rounds.invariant.output bytes e));
      every_input =
          Follows-out c.args.limits.now.lines c.args.limits.now.line c.args.self.now c.args.out.now
          _ c.rounds.self c.args.feed.now c.rounds.feed c.rounds.out none
          c.rounds.invariant.every_input;
      cut_short = not_cut_short _ (Fault ManyLines) refl;
      failed = search rules;
      told = c.rounds.invariant.told;
    }
