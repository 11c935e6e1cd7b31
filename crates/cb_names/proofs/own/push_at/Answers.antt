use Rattle.std.proofs.Common.{◌∙◌, ◌++◌, ap, length, sym}
use Rattle.std.proofs.lemmas.List.{append-nil}
use Rattle.std.specs.List.{list_any, range_with_len}
use Rattle.cb_names.specs.Labels.{is_spelled}
use Rattle.cb_names.proofs.OwnLemmas.{none_own}
use Rattle.cb_names.proofs.own.push_at.Goals as goal

pub returns-then-not-has_spelled : goal.returns-then-not-has_spelled
returns-then-not-has_spelled c =
    let text = c.args.text.now in
    let xs = c.args.items.items in
    let name = c.args.name.now in
    let old = c.args.found.now.items in
    sym (ap (λ l. old ++ l) (none_own text xs c.args.start c.args.body name
    (sym (c.has_spelled.ensures
    ∙ ap (λ l. list_any (λ k. is_spelled text l k name) (range_with_len 0 (length l))) c.as_slice.ensures.value)
    ∙ c.if-not-has_spelled.true))
    ∙ append-nil old)
