use Rattle.std.proofs.Common.{◌≡◌, map, take}
use Rattle.cb_desk.specs.steps.Replaced.{new_of}
use Rattle.cb_desk.proofs.present.replace.new_versions.Given as goal

abbrev pub invariant-loop-renewal : goal.invariant-loop-renewal
invariant-loop-renewal l = l.made.items ≡ map new_of (take l.renewal-index l.renewals)
