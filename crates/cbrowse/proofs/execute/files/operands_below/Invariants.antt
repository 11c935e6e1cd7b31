use Rattle.std.proofs.Common.{◌≡◌, ◌++◌, map}
use Rattle.std.specs.Option.{option_map}
use Rattle.std.specs.Vec.Iter.{into_iter_items}
use Rattle.cb_session.specs.Operands.{file_of_operand}
use Rattle.cbrowse.specs.Program.{file_below}
use Rattle.cbrowse.proofs.execute.files.operands_below.Given as goal

-- those that have their names, and those that will have them
abbrev pub invariant-loop-operand : goal.invariant-loop-operand
invariant-loop-operand l =
    map file_of_operand l.its.items
    ++ map (file_below (option_map (λ r. r.now.path) l.root))
    (map file_of_operand (into_iter_items l.operand-iterator))
    ≡ map (file_below (option_map (λ r. r.now.path) l.root))
    (map file_of_operand l.fn.operands.items)
