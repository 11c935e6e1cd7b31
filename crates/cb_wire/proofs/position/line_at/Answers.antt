use Rattle.std.proofs.Common.{◌∙◌, arith}
use Rattle.cb_wire.proofs.Lines.{IsThere, walk-begins, walk-on, walk-past, walk-there}
use Rattle.cb_wire.proofs.position.line_at.Goals as goal

pub lines-init : goal.lines-init
lines-init c =
    walk-begins c.args.text.now c.args.line c.into_iter-found-iterator.result
    (c.into_iter-found-iterator.ensures.into_iter_gives
    ∙ c.lines_with_terminator-found-items.ensures.value)

pub lines-preserved : goal.lines-preserved
lines-preserved c =
    walk-on c.args.text.now c.args.line c.lines.start c.lines.left c.in-Some.found.now
    c.next.new.self c.lines.found-iterator c.in-Some.ensures.steps (omega arith) c.lines.invariant

pub overflow_add-start : goal.overflow_add-start
overflow_add-start c =
    let on =
    walk-on c.args.text.now c.args.line c.lines.start c.lines.left c.in-Some.found.now
    c.next.new.self c.lines.found-iterator c.in-Some.ensures.steps (omega arith) c.lines.invariant in
    omega (arith, on.whole)

there : (c : goal.After-shown) → IsThere c.args.text.now c.args.line c.lines.start c.in-Some.found.now
there c =
    walk-there c.args.text.now c.args.line c.lines.start c.lines.left c.in-Some.found.now
    c.next.new.self c.lines.found-iterator c.in-Some.ensures.steps c.if-left-eq0.true
    c.lines.invariant

pub returns-then-left-eq0-clause-start : goal.returns-then-left-eq0-clause-start
returns-then-left-eq0-clause-start c = (there c).begins

pub returns-then-left-eq0-clause-shown : goal.returns-then-left-eq0-clause-shown
returns-then-left-eq0-clause-shown c = c.shown.ensures.value ∙ (there c).shows

pub returns-then-left-eq0-clause-within : goal.returns-then-left-eq0-clause-within
returns-then-left-eq0-clause-within c = omega (arith, (there c).within, c.shown.ensures.within)

pub returns-clause-start : goal.returns-clause-start
returns-clause-start c =
    (walk-past c.args.text.now c.args.line c.lines.start c.lines.left c.lines.found-iterator
    c.in-None.ensures.steps.0 c.lines.invariant).0

pub returns-clause-shown : goal.returns-clause-shown
returns-clause-shown c =
    (walk-past c.args.text.now c.args.line c.lines.start c.lines.left c.lines.found-iterator
    c.in-None.ensures.steps.0 c.lines.invariant).1

pub returns-clause-within : goal.returns-clause-within
returns-clause-within c =
    let past =
    walk-past c.args.text.now c.args.line c.lines.start c.lines.left c.lines.found-iterator
    c.in-None.ensures.steps.0 c.lines.invariant in
    omega (arith, past.2)
