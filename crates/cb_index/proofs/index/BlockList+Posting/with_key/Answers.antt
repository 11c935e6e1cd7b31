use Rattle.std.proofs.Common.{◌≡◌, ◌∙◌, ap, filter, subst, sym}
use Rattle.cb_scan.specs.Order.{in_order}
use Rattle.cb_index.specs.Blocks.{Listing, before, joined}
use Rattle.cb_index.specs.Entries.{has_key, sort_key}
use Rattle.cb_index.specs.declared.order.Side.TheVariants.{After, Before}
use Rattle.cb_index.specs.declared.entry.Posting.{Posting}
use Rattle.cb_index.proofs.RangeLemmas.{ahead_parts, key_between}
use Rattle.cb_index.specs.Kinds.{keyer_of}
use Rattle.cb_index.proofs.index.BlockList+Posting.with_key.Goals as goal

-- what is held is in order
pub lower_bound-from-requires-clause-parted : goal.lower_bound-from-requires-clause-parted
lower_bound-from-requires-clause-parted c =
    let keyer = keyer_of c.args.kind in
    let a = c.args.archive.now in
    ahead_parts keyer a (Before c.prefix-prefix.result c.args.key) (joined c.used-blocks.result.now)
    (subst (λ es. es ≡ in_order (sort_key keyer a) es)
    (sym (ap joined c.used-blocks.ensures.value ∙ ap (λ (h : Listing Posting). h.items)
    c.self.view_is))
    c.requires)

pub lower_bound-to-requires-clause-parted : goal.lower_bound-to-requires-clause-parted
lower_bound-to-requires-clause-parted c =
    let keyer = keyer_of c.args.kind in
    let a = c.args.archive.now in
    ahead_parts keyer a (After c.prefix-prefix.result c.args.key) (joined c.used-blocks.result.now)
    (subst (λ es. es ≡ in_order (sort_key keyer a) es)
    (sym (ap joined c.used-blocks.ensures.value ∙ ap (λ (h : Listing Posting). h.items)
    c.self.view_is))
    c.requires)

-- what lies between is what has the key
pub returns : goal.returns
returns c =
    let keyer = keyer_of c.args.kind in
    let a = c.args.archive.now in
    let key = c.args.key.now in
    let bs = c.used-blocks.result.now in
    c.between.ensures
    ∙ key_between keyer a c.prefix-prefix.result c.args.key
    (before bs c.lower_bound-from.result.block c.lower_bound-from.result.at)
    (before bs c.lower_bound-to.result.block c.lower_bound-to.result.at) (joined bs)
    c.lower_bound-from.ensures.ahead c.lower_bound-from.ensures.behind
    c.lower_bound-to.ensures.ahead
    c.lower_bound-to.ensures.behind
    ∙ (λ i. filter (has_key keyer a (c.prefix-prefix.ensures i) key)
    ((ap joined c.used-blocks.ensures.value ∙ ap (λ (h : Listing Posting). h.items) c.self.view_is)
    i))
