use Rattle.std.proofs.Common.{◌≡◌, map, string_bytes, take}
use Rattle.cbrowse.specs.Program.{AreFound, most_read, names_of}
use Rattle.cbrowse.proofs.execute.files.read_operands.Given as goal

abbrev pub invariant-loop-name : goal.invariant-loop-name
invariant-loop-name g l = record {
  at : l.place ≡ l.name-index;
  read : names_of l.operands.items ≡ map string_bytes (take l.name-index l.files);
  found : AreFound (g.D.Disk.finds l.disk) (most_read l.bounds) l.operands.items;
}
