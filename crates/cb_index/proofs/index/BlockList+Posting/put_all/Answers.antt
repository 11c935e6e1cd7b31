use Rattle.std.proofs.Common.{◌∙◌, ◌++◌, ap}
use Rattle.cb_scan.specs.Order.{in_order}
use Rattle.cb_index.specs.Blocks.{Listing, joined}
use Rattle.cb_index.specs.Entries.{sort_key}
use Rattle.cb_index.specs.Held.{entries_of}
use Rattle.cb_index.specs.Kinds.{keyer_of, lister_of}
use Rattle.cb_index.specs.declared.entry.Posting.{Posting}
use Rattle.cb_index.proofs.index.BlockList+Posting.put_all.Goals as goal

pub returns-clause-entries : goal.returns-clause-entries
returns-clause-entries c =
    let a = c.args.archive.now in
    let key = sort_key (keyer_of c.args.kind) a in
    let more = entries_of (lister_of c.args.kind) a c.args.shown in
    c.put_rest.ensures.entries
    ∙ ap (λ l. in_order key (joined c.self.inside.blocks.used ++ l))
    (c.append.ensures.entries ∙ ap (λ l. l ++ more) c.truncate.ensures.items)
    ∙ ap (λ (h : Listing Posting). in_order key (h.items ++ more)) c.self.view_is
