use Rattle.std.proofs.Common.{◌∙◌, ◌+◌, None, Some, ap, length, refl, subst, sym}
use Rattle.std.specs.Prelude.{cond}
use Rattle.cb_names.specs.Pairs.{innermost}
use Rattle.cb_names.specs.Scopes.{begins_for, ends_for, ends_on, for_before, level_of}
use Rattle.cb_names.specs.Tables.{IsTable}
use Rattle.cb_names.specs.steps.Pairing.{answer}
use Rattle.cb_names.specs.steps.Scoping.{put_if}
use Rattle.cb_names.proofs.ScopeLemmas.{before_next, put_if_changed}
use Rattle.cb_names.proofs.scopes.note_for.Goals as goal

pub returns : goal.returns
returns c =
    let s = c.args.shape.now in
    let xs = s.items.items in
    let b = s.body in
    let k = c.args.index in
    let around = c.answer-around.ensures ∙ ap (λ t. answer t k) c.as_slice.ensures.value
    ∙ c.requires.shape.around.at k None c.requires.within in
    let begins = c.begins_for-begins.ensures ∙ ap (λ l. begins_for l k) c.as_slice-2.ensures.value in
    let first = c.put_if.ensures
    ∙ (λ i. put_if c.args.fors.now.items (c.ends_for.ensures i) (c.level_of.ensures i) None) in
    let second = c.put_if-2.ensures ∙ (λ i. put_if (first i) (begins i) (around i) (Some k)) in
    let ended = put_if_changed (λ j. for_before xs b j k) (λ j. cond (ends_on xs b j k) None (for_before xs b j k))
    (length xs) _ None c.requires.fors (ends_for xs b k) (level_of xs k) (λ j. refl) in
    subst (IsTable (λ j. for_before xs b j (k + 1)) (length xs)) (sym second)
    (put_if_changed (λ j. cond (ends_on xs b j k) None (for_before xs b j k)) (λ j. for_before xs b j (k + 1))
    (length xs) _ (Some k) ended (begins_for xs k) (innermost xs k) (λ j. before_next xs b j k))
