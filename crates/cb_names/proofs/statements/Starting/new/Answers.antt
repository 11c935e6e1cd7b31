use Rattle.std.proofs.Common.{ap, arith, length, refl}
use Rattle.cb_names.specs.Pairs.{opened}
use Rattle.cb_names.specs.Statements.{case_before, starts}
use Rattle.cb_names.proofs.TableLemmas.{none}
use Rattle.cb_names.proofs.statements.Starting.new.Goals as goal

pub returns : goal.returns
unfolding opened case_before
returns c xs b = record {
  starts = none (starts xs b) _ c.new.ensures.items;
  len = ap length c.new-2.ensures.items;
  counts = λ i less. absurd (omega (arith, less));
  few = λ i less. absurd (omega (arith, less));
  count = λ d. refl;
  small = omega arith;
  ends = λ j is. absurd (omega (arith, is));
}
