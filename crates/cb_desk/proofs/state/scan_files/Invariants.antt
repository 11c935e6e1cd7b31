use Rattle.std.proofs.Common.{◌≡◌, ◌≤◌, ◌-◌, ◌^◌}
use Rattle.cb_desk.specs.Desk.{bytes_in, counted, definitions_in}
use Rattle.cb_desk.proofs.state.scan_files.Given as goal

abbrev pub invariant-loop-source : goal.invariant-loop-source
invariant-loop-source l = record {
  counts : counted l.meter (bytes_in l.source-iterator) ≡ counted l.fn.meter (bytes_in l.fn.files);
  least : l.fn.meter ≤ l.meter;
  fits : l.meter ≤ 2 ^ 64 - 1;
  finds : counted l.found (definitions_in l.profile l.source-iterator)
      ≡ counted 0 (definitions_in l.profile l.fn.files);
  few : l.found ≤ 2 ^ 64 - 1;
}
