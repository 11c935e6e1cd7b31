use Rattle.std.proofs.Common.{◌∙◌, ap, slice_index_or}
use Rattle.cb_index.proofs.EachLemmas.{kind_at}
use Rattle.cb_index.proofs.shelf.Shelf.index.Goals as goal

pub returns-clause-kind : goal.returns-clause-kind
returns-clause-kind c =
    let xs = c.self.inside.indexes in
    let d = c.index-self-place_of.result in
    ap (λ n. (slice_index_or xs n d).kind) c.place_of.ensures
    ∙ kind_at c.args.by_tag_name xs d c.self.invariant.0.kinds
