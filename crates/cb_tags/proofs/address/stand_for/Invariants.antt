use Rattle.std.proofs.Common.{◌≡◌, drop, false}
use Rattle.std.specs.Str.{bytes_eq}
use Rattle.cb_tags.specs.steps.Items.{unescaped}
use Rattle.cb_tags.proofs.address.stand_for.Given as goal

abbrev pub invariant-loop-byte : goal.invariant-loop-byte
invariant-loop-byte l = bytes_eq (unescaped l.escaping (drop l.byte-index l.items)) l.rest
    ≡ bytes_eq (unescaped false l.items) l.text
