use Rattle.std.proofs.Common.{◌≡◌, ◌++◌, map, string_bytes}
use Rattle.cbrowse.specs.Lists.{names_in}
use Rattle.cbrowse.proofs.execute.list.add_names.Given as goal

-- the names that are there, and those to come
abbrev pub invariant-loop-line : goal.invariant-loop-line
invariant-loop-line l =
    map string_bytes l.files.items ++ l.line-iterator
    ≡ map string_bytes l.fn.files.items ++ names_in l.fn.text
