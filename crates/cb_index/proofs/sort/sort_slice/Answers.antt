use Rattle.std.proofs.Common.{◌∙◌}
use Rattle.std.proofs.lemmas.List.Sorted.{sum_by-IsPermutation}
use Rattle.cb_index.specs.Entries.{sort_key}
use Rattle.cb_index.proofs.EntryLemmas.{sort_exact}
use Rattle.cb_index.proofs.InOrderLemmas.{same_order}
use Rattle.cb_index.specs.Kinds.{keyer_of}
use Rattle.cb_index.proofs.sort.sort_slice.Goals as goal

-- the same entries are one list in order
pub returns-clause-items : goal.returns-clause-items
returns-clause-items c =
    let keyer = keyer_of c.args.kind in
    let a = c.args.archive.now in
    c.sort_parts.ensures
    ∙ same_order (sort_key keyer a) (sort_exact keyer a) c.sort_by_prefix.new.entries
    c.args.entries.now
    (λ f. sum_by-IsPermutation f c.args.entries.now c.sort_by_prefix.new.entries
    c.sort_by_prefix.ensures.moved)
