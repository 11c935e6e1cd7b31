-- What is found and what is left are all.
use Rattle.std.proofs.Common.{◌≡◌, ◌++◌, length}
use Rattle.std.specs.Prelude.{drop}
use Rattle.cb_names.specs.Declarators.{begins_list, lists_behind}
use Rattle.cb_names.proofs.declarators.Heads.push_lists.Given as goal

abbrev pub invariant-loop-i : goal.invariant-loop-i
invariant-loop-i l = l.lists.items ++ lists_behind (begins_list l.shape.items.items l.self.name l.self.function l.self.pointer)
    l.second l.first (drop l._i l.places)
    ≡ l.initial.lists.items ++ lists_behind (begins_list l.shape.items.items l.self.name l.self.function l.self.pointer)
    (length l.shape.items.items) (length l.shape.items.items) l.places
