use Rattle.std.proofs.Common.{◌-◌, ap, arith, subst}
use Rattle.std.specs.Bool.{MatchBool}
use Rattle.std.specs.Str.{IsAscii, IsNotAscii}
use Rattle.cb_wire.specs.Units.{column}
use Rattle.cb_wire.proofs.Ascii.{ascii-column}
use Rattle.cb_wire.proofs.Fitting.{measured-end}
use Rattle.cb_wire.proofs.units.column_of_place.Goals as goal

pub returns-then-next-left-clause-value : goal.returns-then-next-left-clause-value
returns-then-next-left-clause-value c =
    let last = c.in-Some.ensures.run.column_in c.if-next-left.true in
    omega (arith, last, c.characters.invariant.value)

pub returns-clause-value : goal.returns-clause-value
returns-clause-value c =
    let last =
    measured-end (λ c. c.bytes) (λ c. c.units) c.args.encoding c.characters.rest.now c.characters.left
    c.in_default.ensures.end in
    omega (arith, last, c.characters.invariant.value)

pub characters-preserved : goal.characters-preserved
characters-preserved c =
    let more = c.in-Some.ensures.run.column_after (omega (arith, c.if-next-left.false)) in
    let rest = ap (λ l. column c.args.encoding l (c.characters.left - c.in-Some.next.bytes))
    c.split_at.ensures.back in
    record {
      value = omega (arith, more, rest, c.characters.invariant.value);
      within = omega (arith, c.split_at.ensures.back_len, c.in-Some.ensures.within);
    }

pub returns-then-is_ascii-clause-value : goal.returns-then-is_ascii-clause-value
returns-then-is_ascii-clause-value c =
    let front = c.before-front.result.now in
    ascii-column c.args.encoding c.args.line.now front c.args.place c.before-front.ensures.value
    (subst (λ b. MatchBool b (IsAscii front) (IsNotAscii front)) c.if-is_ascii.true
    c.is_ascii.ensures.cases)
