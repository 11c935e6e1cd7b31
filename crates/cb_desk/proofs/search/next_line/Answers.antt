use Rattle.std.proofs.Common.{◌∙◌, ◌∷◌, ◌+◌, length, sym, ap, arith}
use Rattle.cb_desk.specs.steps.Search.{found_from}
use Rattle.cb_desk.proofs.TextLines.{passes, passes-held, passes-bare, passes-many, held-within}
use Rattle.cb_desk.proofs.TextLines.{held-outside, found-none}
use Rattle.cb_desk.proofs.Gaps.{some-length}
use Rattle.cb_desk.proofs.search.next_line.Goals as goal

pub overflow_cast-number : goal.overflow_cast-number
overflow_cast-number c =
    let p = c.args.finder.now in
    let rest = c.loop-place.left.rest.now in
    let n = c.loop-place.left.line in
    let start = c.line_start-start.result in
    let pass =
    passes p rest n start c.in-Some.place c.feeds_in.result c.requires.some c.in-Some.ensures
    c.line_start-start.ensures.within c.line_start-start.ensures.start c.feeds_in.ensures in
    let many = pass.many in
    let room = c.loop-place.invariant.small in
    omega arith

pub overflow_add-number : goal.overflow_add-number
overflow_add-number c =
    let p = c.args.finder.now in
    let rest = c.loop-place.left.rest.now in
    let n = c.loop-place.left.line in
    let start = c.line_start-start.result in
    let pass =
    passes p rest n start c.in-Some.place c.feeds_in.result c.requires.some c.in-Some.ensures
    c.line_start-start.ensures.within c.line_start-start.ensures.start c.feeds_in.ensures in
    let many = pass.many in
    let room = c.loop-place.invariant.small in
    omega arith

pub returns-in_err-line-clause-found : goal.returns-in_err-line-clause-found
returns-in_err-line-clause-found c =
    let p = c.args.finder.now in
    let rest = c.loop-place.left.rest.now in
    let n = c.loop-place.left.line in
    let start = c.line_start-start.result in
    let pass =
    passes p rest n start c.in-Some.place c.feeds_in.result c.requires.some c.in-Some.ensures
    c.line_start-start.ensures.within c.line_start-start.ensures.start c.feeds_in.ensures in
    let gone = sym c.lines-lines.ensures.value ∙ c.in_err-line.ensures.steps.0 in
    rw c.from_residual.ensures
    (sym c.loop-place.invariant.found ∙ pass.found ∙ ap (found_from p (n + c.feeds_in.result)) gone)

pub overflow_add-left : goal.overflow_add-left
overflow_add-left c =
    let p = c.args.finder.now in
    let rest = c.loop-place.left.rest.now in
    let n = c.loop-place.left.line in
    let start = c.line_start-start.result in
    let pass =
    passes p rest n start c.in-Some.place c.feeds_in.result c.requires.some c.in-Some.ensures
    c.line_start-start.ensures.within c.line_start-start.ensures.start c.feeds_in.ensures in
    let next =
    sym c.lines-lines.ensures.value ∙ c.in_ok-line.ensures.steps
    ∙ ap (λ ls. c.in_ok-line.line.now ∷ ls) (sym c.as_bytes.ensures) in
    let room = c.loop-place.invariant.small in
    let many =
    passes-many p n rest start c.feeds_in.result pass c.in_ok-line.line.now
    c.as_bytes.result.now next in
    omega arith

pub returns-then-needle-saturating_sub-clause-found :
    goal.returns-then-needle-saturating_sub-clause-found
returns-then-needle-saturating_sub-clause-found c =
    let p = c.args.finder.now in
    let rest = c.loop-place.left.rest.now in
    let n = c.loop-place.left.line in
    let start = c.line_start-start.result in
    let pass =
    passes p rest n start c.in-Some.place c.feeds_in.result c.requires.some c.in-Some.ensures
    c.line_start-start.ensures.within c.line_start-start.ensures.start c.feeds_in.ensures in
    let next =
    sym c.lines-lines.ensures.value ∙ c.in_ok-line.ensures.steps
    ∙ ap (λ ls. c.in_ok-line.line.now ∷ ls) (sym c.as_bytes.ensures) in
    let room = c.loop-place.invariant.small in
    let many =
    passes-many p n rest start c.feeds_in.result pass c.in_ok-line.line.now
    c.as_bytes.result.now next in
    let held =
    held-within p rest start c.in-Some.place c.in_ok-line.line.now c.as_bytes.result.now
    c.requires.some c.in-Some.ensures c.line_start-start.ensures.within next
    (let some = some-length p c.requires.some in let size = ap length c.needle.ensures in let fits =
    c.if-needle-saturating_sub.true in let left = c.saturating_sub.ensures in
    omega (arith, some, size, fits, left)) in
    sym c.loop-place.invariant.found ∙ passes-held p n rest start c.feeds_in.result pass
    c.in_ok-line.line.now c.as_bytes.result.now next held

pub returns-then-needle-saturating_sub-clause-small :
    goal.returns-then-needle-saturating_sub-clause-small
returns-then-needle-saturating_sub-clause-small c =
    let p = c.args.finder.now in
    let rest = c.loop-place.left.rest.now in
    let n = c.loop-place.left.line in
    let start = c.line_start-start.result in
    let pass =
    passes p rest n start c.in-Some.place c.feeds_in.result c.requires.some c.in-Some.ensures
    c.line_start-start.ensures.within c.line_start-start.ensures.start c.feeds_in.ensures in
    let next =
    sym c.lines-lines.ensures.value ∙ c.in_ok-line.ensures.steps
    ∙ ap (λ ls. c.in_ok-line.line.now ∷ ls) (sym c.as_bytes.ensures) in
    let room = c.loop-place.invariant.small in
    let many =
    passes-many p n rest start c.feeds_in.result pass c.in_ok-line.line.now
    c.as_bytes.result.now next in
    omega arith

pub loop-place-smaller : goal.loop-place-smaller
loop-place-smaller c =
    let p = c.args.finder.now in
    let rest = c.loop-place.left.rest.now in
    let n = c.loop-place.left.line in
    let start = c.line_start-start.result in
    let pass =
    passes p rest n start c.in-Some.place c.feeds_in.result c.requires.some c.in-Some.ensures
    c.line_start-start.ensures.within c.line_start-start.ensures.start c.feeds_in.ensures in
    let next =
    sym c.lines-lines.ensures.value ∙ c.in_ok-line.ensures.steps
    ∙ ap (λ ls. c.in_ok-line.line.now ∷ ls) (sym c.as_bytes.ensures) in
    let room = c.loop-place.invariant.small in
    let many =
    passes-many p n rest start c.feeds_in.result pass c.in_ok-line.line.now
    c.as_bytes.result.now next in
    omega arith

pub loop-place-preserved : goal.loop-place-preserved
loop-place-preserved c =
    let p = c.args.finder.now in
    let rest = c.loop-place.left.rest.now in
    let n = c.loop-place.left.line in
    let start = c.line_start-start.result in
    let pass =
    passes p rest n start c.in-Some.place c.feeds_in.result c.requires.some c.in-Some.ensures
    c.line_start-start.ensures.within c.line_start-start.ensures.start c.feeds_in.ensures in
    let next =
    sym c.lines-lines.ensures.value ∙ c.in_ok-line.ensures.steps
    ∙ ap (λ ls. c.in_ok-line.line.now ∷ ls) (sym c.as_bytes.ensures) in
    let room = c.loop-place.invariant.small in
    let many =
    passes-many p n rest start c.feeds_in.result pass c.in_ok-line.line.now
    c.as_bytes.result.now next in
    let held =
    held-outside p rest start c.in-Some.place c.in_ok-line.line.now c.as_bytes.result.now
    c.requires.some c.in-Some.ensures c.line_start-start.ensures.within next
    (let some = some-length p c.requires.some in let size = ap length c.needle.ensures in let more =
    c.if-needle-saturating_sub.false in let left = c.saturating_sub.ensures in
    omega (arith, some, size, more, left)) in
    record {
      found =
          sym (passes-bare p n rest start c.feeds_in.result pass c.in_ok-line.line.now
          c.as_bytes.result.now next held) ∙ c.loop-place.invariant.found;
      small = omega arith;
    }

pub returns-clause-found : goal.returns-clause-found
returns-clause-found c =
    sym c.loop-place.invariant.found ∙ found-none c.args.finder.now (some-length c.args.finder.now
    c.requires.some) c.loop-place.left.line c.loop-place.left.rest.now c.in_default.ensures
