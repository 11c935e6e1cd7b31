use Rattle.std.proofs.Common.{◌∙◌, refl, ap, map}
use Rattle.cb_scan.specs.Order.{in_order}
use Rattle.cb_index.specs.Entries.{sort_key}
use Rattle.cb_index.specs.Held.{all_entries}
use Rattle.cb_index.specs.Kinds.{keyer_of, lister_of}
use Rattle.cb_index.specs.steps.Found.{tag_at}
use Rattle.cb_index.specs.declared.entry.IndexKind.TheVariants.{DefsByName}
use Rattle.cb_index.proofs.DefSearchLemmas.{all_asked}
use Rattle.cb_index.proofs.RowLemmas.{rows_by_name}
use Rattle.cb_index.proofs.shelf.Shelf.all_defs.Goals as goal

pub returns : goal.returns
returns c =
    let s = c.args.self.now in
    let es =
    in_order (sort_key (keyer_of DefsByName) s.archive)
    (all_entries (lister_of DefsByName) s.archive s.shown) in
    let is = c.in_order.ensures in
    is.tags ∙ ap (map (tag_at s.archive)) (all_asked DefsByName s.archive es)
    ∙ rows_by_name s.archive s.shown is.there is.ascending es is.bytes refl
