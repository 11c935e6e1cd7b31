use Rattle.std.proofs.Common.{◌∙◌, ap, length, sym}
use Rattle.cb_index.specs.Scanned.{facts_of}
use Rattle.cb_index.specs.Held.{listed_of}
use Rattle.cb_index.specs.Kinds.{lister_of}
use Rattle.cb_index.specs.Orders.{def_prefix, defs_listed, tag_prefix, tags_listed}
use Rattle.cb_index.proofs.ItemLemmas.{length_numbered}
use Rattle.cb_index.proofs.order.count.Goals as goal

-- each definition of the version is an entry
pub returns-in-DefsByName : goal.returns-in-DefsByName
returns-in-DefsByName c =
    let text = c.in-Some.version.now in
    ap length c.defs_of.ensures.value
    ∙ sym (length_numbered (def_prefix text.bytes) 0 (facts_of text).defs)
    ∙ ap (λ t. length (defs_listed t)) c.in-Some.ensures
    ∙ ap (λ k. length (listed_of (lister_of k) c.args.archive.now c.args.version))
    (sym c.in-DefsByName.is)

pub returns-in-DefsByTagName : goal.returns-in-DefsByTagName
returns-in-DefsByTagName c =
    let text = c.in-Some.version.now in
    ap length c.defs_of-in-DefsByTagName.ensures.value
    ∙ sym (length_numbered (tag_prefix text.bytes) 0 (facts_of text).defs)
    ∙ ap (λ t. length (tags_listed t)) c.in-Some.ensures
    ∙ ap (λ k. length (listed_of (lister_of k) c.args.archive.now c.args.version))
    (sym c.in-DefsByTagName.is)
