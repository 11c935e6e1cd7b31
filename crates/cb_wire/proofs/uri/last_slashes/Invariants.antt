use Rattle.std.proofs.Common.{◌≡◌, ◌≤◌, ◌+◌, ◌-◌, length, take}
use Rattle.cb_wire.specs.Uris.{last_slashes}
use Rattle.cb_wire.proofs.uri.last_slashes.Given as goal

abbrev pub invariant-slashes : goal.invariant-slashes
invariant-slashes l = record {
  within : l.end ≤ length l.text;
  counted : last_slashes l.text ≡ length l.text - l.end + last_slashes (take l.end l.text);
}

abbrev pub decreases-slashes : goal.decreases-slashes
decreases-slashes l = l.end
