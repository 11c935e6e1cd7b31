use Rattle.std.proofs.Common.{rules}
use Rattle.std.proofs.lemmas.List.Sorted.{IsPartitionPoint-from_clause}
use Rattle.cb_index.specs.Files.{file_of}
use Rattle.cb_desk.proofs.NamedFile.{below, parted}
use Rattle.cb_desk.proofs.ShownFiles.{files-ascend}
use Rattle.cb_desk.proofs.present.replace.index_for.Goals as goal

pub returns-clause-parted : goal.returns-clause-parted
returns-clause-parted c =
    let a = c.args.archive.now in
    let files = c.args.files.now in
    let name = c.args.name.now in
    IsPartitionPoint-from_clause (below (file_of a) name) files _
    c.partition_point.ensures.partitioned
    (parted (file_of a) name files (files-ascend a files c.requires))
    (λ s r f k. (search (rules, k), search (rules, k)))
