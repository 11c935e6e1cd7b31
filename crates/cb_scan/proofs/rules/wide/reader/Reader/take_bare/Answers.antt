-- What is left is taken from the state that is reached.
use Rattle.std.proofs.Common.{◌≡◌, ◌∙◌, ◌≤◌, ap, arith, length, sym}
use Rattle.std.proofs.lemmas.List.{length-drop, take_rest}
use Rattle.cb_scan.specs.steps.wide.Pass.{take_all}
use Rattle.cb_scan.specs.steps.wide.Reading.{the_taken}
use Rattle.cb_scan.proofs.WideReading.{empty, one_taken, take_none}
use Rattle.cb_scan.proofs.rules.wide.reader.Reader.take_bare.Goals as goal

pub taken-preserved : goal.taken-preserved
taken-preserved c =
    let e = c.in_ok-take.ensures in
    let rest = c.taken.rest.now in
    let t = the_taken c.taken.pass c.taken.found in
    let at_least = c.in-len1-up.len_at_least in
    let some : 1 ≤ length rest = omega arith in
    let later = take_rest rest 1 in
    record {
      same = one_taken t rest _ _ c.take.new.self c.take.new.found some e.pass e.found later
          ∙ c.taken.invariant.same;
      small = omega (arith, e.small, c.taken.invariant.small, ap length later, length-drop 1 rest);
    }

pub returns-clause-taken : goal.returns-clause-taken
returns-clause-taken c =
    let rest = c.taken.rest.now in
    let t = the_taken c.taken.pass c.taken.found in
    let below = c.in_default.len_below in
    let none : length rest ≡ 0 = omega arith in
    sym (take_none t) ∙ ap (take_all t) (sym (empty rest none)) ∙ c.taken.invariant.same
