use Rattle.std.proofs.Common.{◌∙◌, ◌+◌, Some, length, subst, sym}
use Rattle.cb_names.specs.Scopes.{ends_for, first_end, level_of}
use Rattle.cb_names.specs.Tables.{IsTable}
use Rattle.cb_names.specs.steps.Scoping.{put_if}
use Rattle.cb_names.proofs.ScopeLemmas.{first_next, put_if_changed}
use Rattle.cb_names.proofs.scopes.note_end.Goals as goal

pub returns : goal.returns
returns c =
    let xs = c.args.shape.now.items.items in
    let b = c.args.shape.now.body in
    let k = c.args.index in
    let new = c.put_if.ensures
    ∙ (λ i. put_if c.args.firsts.now.items (c.ends_for.ensures i) (c.level_of.ensures i) (Some k)) in
    subst (IsTable (λ j. first_end xs b j k) (length xs)) (sym new)
    (put_if_changed (λ j. first_end xs b j (k + 1)) (λ j. first_end xs b j k) (length xs) _ (Some k) c.requires.firsts
    (ends_for xs b k) (level_of xs k) (λ j. first_next xs b j k c.requires.within))
