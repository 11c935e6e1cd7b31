use Rattle.std.proofs.Common.{◌≡◌, ◌++◌, length}
use Rattle.cb_wire.specs.Uris.{one_form}
use Rattle.cb_wire.proofs.uri.one_form_of.Given as goal

abbrev pub invariant-segments : goal.invariant-segments
invariant-segments l = l.form.items ++ one_form l.rest ≡ one_form l.path

abbrev pub decreases-segments : goal.decreases-segments
decreases-segments l = length l.rest
