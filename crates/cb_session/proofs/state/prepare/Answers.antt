use Rattle.std.proofs.Common.{◌<◌, ◌∙◌, ◌+◌, ◌^◌, length, map, ap, arith, rules, sym}
use Rattle.std.proofs.lemmas.List.{length-map}
use Rattle.std.specs.Vec.Iter.{into_iter_items}
use Rattle.cb_desk.specs.Desk.{DeskState}
use Rattle.cb_session.specs.Operands.{file_of_operand}
use Rattle.cb_session.proofs.Loading.{all_loaded_start, goes_on, past_grows, scans_bound}
use Rattle.cb_session.proofs.Loading.{scans_next, shows_next, stops}
use Rattle.cb_session.proofs.state.prepare.Goals as goal

pub overflow_add-place : goal.overflow_add-place
overflow_add-place c =
    let bounded = c.desk.invariant.bounded in
    let most = c.desk.invariant.now.bounds.history in
    let same = ap (λ (d : DeskState). length d.timeline.past) c.desk.view_is in
    let grown = past_grows _ _ _ _ _ tt c.loop-operand.invariant.placed c.in-Ok.ensures.timeline in
    let low : c.loop-operand.place + 1 < 2 ^ 32 = omega (arith, bounded, most, same, grown) in
    search (rules, low)

pub loop-operand-preserved : goal.loop-operand-preserved
loop-operand-preserved c =
    let first = ap (map file_of_operand) c.in-Some.ensures.steps.0 in
    let one_less = ap length c.in-Some.ensures.steps.0 in
    let counted = c.loop-operand.invariant.counted in
    let fewer = c.in-Some.ensures.steps.1 in
    record {
      goes =
          goes_on _ _ _ _ _ _ _ (file_of_operand c.in-Some.operand) _ tt
          c.loop-operand.invariant.goes first c.as_slice.ensures.value c.in-Ok.ensures.timeline;
      placed = past_grows _ _ _ _ _ tt c.loop-operand.invariant.placed c.in-Ok.ensures.timeline;
      counted = omega (arith, one_less, counted, fewer);
      scanned =
          scans_next _ _ (map file_of_operand c.args.operands.items) _
          (file_of_operand c.in-Some.operand) _ tt first c.loop-operand.invariant.scanned
          c.in-Ok.ensures.meter;
      fits = scans_bound _ _ (file_of_operand c.in-Some.operand) tt c.in-Ok.ensures.meter;
      shown = shows_next _ _ _ c.loop-operand.invariant.shown c.in-Ok.ensures.load;
    }

pub returns-in-Err : goal.returns-in-Err
returns-in-Err c =
    let first = ap (map file_of_operand) c.in-Some.ensures.steps.0 in
    stops _ _ _ _ _ _ _ (file_of_operand c.in-Some.operand) _ _ c.loop-operand.invariant.goes first
    c.as_slice.ensures.value c.in-Err.ensures.timeline

pub returns : goal.returns
returns c =
    let items = into_iter_items c.loop-operand.operand-iterator in
    let none =
    length-map items file_of_operand ∙ sym c.loop-operand.invariant.counted
    ∙ c.in-None.ensures.steps.0 in
    all_loaded_start _ _ _ _ c.loop-operand.place (map file_of_operand c.args.operands.items)
    (map file_of_operand items) c.over.ensures
    c.loop-operand.invariant.goes none c.loop-operand.invariant.placed
    c.loop-operand.invariant.scanned c.loop-operand.invariant.fits c.loop-operand.invariant.shown
