use Rattle.std.proofs.Common.{drop, map, string_bytes}
use Rattle.std.specs.List.{AllByRecursion}
use Rattle.cbrowse.specs.Tagsfile.{IsOther}
use Rattle.cbrowse.proofs.execute.tagsfile.check_operands.Given as goal

abbrev pub invariant-loop-file : goal.invariant-loop-file
invariant-loop-file g l =
    AllByRecursion (IsOther (g.D.Storage.shows l.disk) l.seen)
    (map string_bytes (drop l.file-index l.files))
    → AllByRecursion (IsOther (g.D.Storage.shows l.disk) l.seen) (map string_bytes l.files)
