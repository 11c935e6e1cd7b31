use Rattle.cb_scan.proofs.FactLines.{calls_on_lines, uses_on_lines}
use Rattle.cb_scan.proofs.laws.facts_on_lines.Goals as goal

pub returns : goal.returns
returns c = record { uses = uses_on_lines; calls = calls_on_lines }
