use Rattle.std.proofs.Common.{◌≡◌, ◌∙◌, ◌+◌, ◌≤◌, ap, length, subst, sym, vec_capacity, vec_len}
use Rattle.std.proofs.Common.{arith}
use Rattle.cb_index.specs.Archived.{text_at}
use Rattle.cb_index.specs.Scanned.{facts_of}
use Rattle.cb_index.specs.Held.{listed_of}
use Rattle.cb_index.specs.Kinds.{lister_of}
use Rattle.cb_index.specs.Orders.{def_prefix, defs_listed, tag_prefix, tags_listed}
use Rattle.cb_index.proofs.ItemLemmas.{length_numbered}
use Rattle.cb_index.proofs.order.append.Goals as goal

-- each definition of the version is an entry
pub append_defs-requires-clause-room : goal.append_defs-requires-clause-room
append_defs-requires-clause-room c =
    let text = c.in-Some.kept.now in
    let room =
    subst (λ k. vec_len c.args.entries.now + length (listed_of (lister_of k) c.args.archive.now
    c.args.shown.version) ≤ vec_capacity c.args.entries.now) c.in-DefsByName.is c.requires in
    let count : length c.defs_of.result.now
    ≡ length (defs_listed (text_at c.args.archive.now c.args.shown.version)) =
    ap length c.defs_of.ensures.value
    ∙ sym (length_numbered (def_prefix text.bytes) 0 (facts_of text).defs)
    ∙ ap (λ t. length (defs_listed t)) c.in-Some.ensures in
    omega (arith, count, room)

pub append_defs-requires-in-DefsByTagName-clause-room :
    goal.append_defs-requires-in-DefsByTagName-clause-room
append_defs-requires-in-DefsByTagName-clause-room c =
    let text = c.in-Some.kept.now in
    let room =
    subst (λ k. vec_len c.args.entries.now + length (listed_of (lister_of k) c.args.archive.now
    c.args.shown.version) ≤ vec_capacity c.args.entries.now) c.in-DefsByTagName.is c.requires in
    let count : length c.defs_of-in-DefsByTagName.result.now
    ≡ length (tags_listed (text_at c.args.archive.now c.args.shown.version)) =
    ap length c.defs_of-in-DefsByTagName.ensures.value
    ∙ sym (length_numbered (tag_prefix text.bytes) 0 (facts_of text).defs)
    ∙ ap (λ t. length (tags_listed t)) c.in-Some.ensures in
    omega (arith, count, room)
