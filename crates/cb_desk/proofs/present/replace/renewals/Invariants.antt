use Rattle.std.proofs.Common.{◌≡◌, ◌+◌, ◌++◌, drop}
use Rattle.cb_desk.specs.steps.Replaced.{renewals}
use Rattle.cb_desk.proofs.present.replace.renewals.Given as goal

abbrev pub invariant-loop-file : goal.invariant-loop-file
invariant-loop-file l = record {
  made : l.made.items ++ renewals l.new (drop l.file-index l.files) ≡ renewals l.first l.files;
  number : l.new ≡ l.first + l.file-index;
}
