-- What is left leads where the whole part leads.
use Rattle.std.proofs.Common.{◌≡◌, ◌≤◌}
use Rattle.std.specs.Prelude.{drop}
use Rattle.cb_scan.specs.rules.wide.Levels.{numbered}
use Rattle.cb_scan.specs.steps.wide.Along.{part_from}
use Rattle.cb_scan.specs.steps.wide.Parts.{part_start}
use Rattle.cb_scan.proofs.rules.wide.naming.part_names.Given as goal

abbrev pub invariant-loop-i : goal.invariant-loop-i
invariant-loop-i l = record {
  few : l.count ≤ l.i;
  rest : part_from l.part (numbered l.count (drop l.i l.tokens))
      ≡ part_from (part_start l.is_first) (numbered 0 l.tokens);
}
