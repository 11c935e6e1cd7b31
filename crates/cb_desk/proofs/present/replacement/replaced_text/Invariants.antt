use Rattle.std.proofs.Common.{◌≡◌, ◌++◌, map}
use Rattle.std.specs.List.{flat_map}
use Rattle.cb_desk.specs.Replacement.{replaced_if_marked, replaced_text}
use Rattle.cb_desk.proofs.present.replacement.replaced_text.Given as goal

abbrev pub invariant-loop-line : goal.invariant-loop-line
invariant-loop-line l =
    l.made.items ++ flat_map (replaced_if_marked l.old l.new) l.line-iterator
    ≡ replaced_text l.old l.new (map (λ m. m.line) l.marks) l.source
