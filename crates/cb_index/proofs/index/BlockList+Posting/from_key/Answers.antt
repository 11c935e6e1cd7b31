use Rattle.std.proofs.Common.{◌≡◌, ◌∙◌, ap, filter, subst, sym}
use Rattle.cb_scan.specs.Order.{in_order}
use Rattle.cb_index.specs.Blocks.{Listing, before, joined}
use Rattle.cb_index.specs.Entries.{has_key_from, sort_key}
use Rattle.cb_index.specs.declared.order.Side.TheVariants.{Before}
use Rattle.cb_index.specs.declared.entry.Posting.{Posting}
use Rattle.cb_index.proofs.RangeLemmas.{ahead_parts, key_behind}
use Rattle.cb_index.specs.Kinds.{keyer_of}
use Rattle.cb_index.proofs.index.BlockList+Posting.from_key.Goals as goal

-- what is held is in order
pub lower_bound-requires-clause-parted : goal.lower_bound-requires-clause-parted
lower_bound-requires-clause-parted c =
    let keyer = keyer_of c.args.kind in
    let a = c.args.archive.now in
    ahead_parts keyer a (Before c.prefix-prefix.result c.args.key) (joined c.used-blocks.result.now)
    (subst (λ es. es ≡ in_order (sort_key keyer a) es)
    (sym (ap joined c.used-blocks.ensures.value ∙ ap (λ (h : Listing Posting). h.items)
    c.self.view_is))
    c.requires)

-- what stands behind the place has such a key
pub returns : goal.returns
returns c =
    let keyer = keyer_of c.args.kind in
    let a = c.args.archive.now in
    let key = c.args.key.now in
    let bs = c.used-blocks.result.now in
    c.after.ensures
    ∙ key_behind keyer a c.prefix-prefix.result c.args.key
    (before bs c.lower_bound.result.block c.lower_bound.result.at) (joined bs)
    c.lower_bound.ensures.ahead c.lower_bound.ensures.behind
    ∙ (λ i. filter (has_key_from keyer a (c.prefix-prefix.ensures i) key)
    ((ap joined c.used-blocks.ensures.value ∙ ap (λ (h : Listing Posting). h.items) c.self.view_is)
    i))
