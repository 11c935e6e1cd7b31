use Rattle.std.proofs.Common.{◌≡◌, ◌∙◌, ◌+◌, ◌-◌, ◌<◌, Some, ap, arith, length, subst, sym}
use Rattle.cb_names.specs.Scopes.{for_end}
use Rattle.cb_names.specs.Tables.{IsTable}
use Rattle.cb_names.specs.steps.Scoping.{around_answer, from_index}
use Rattle.cb_names.proofs.ScopeLemmas.{end_same, from_next, put_changed}
use Rattle.cb_names.proofs.scopes.for_ends_of.Goals as goal

pub tokens-preserved : goal.tokens-preserved
tokens-preserved c =
    let xs = c.args.shape.now.items.items in
    let b = c.args.shape.now.body in
    let k = c.tokens.left - 1 in
    let h = c.tokens.invariant in
    let next : c.tokens.left ≡ k + 1 = omega (arith, c.tokens-test.true) in
    let within : k < length xs = omega (arith, next, h.within) in
    let end = c.around_answer-end.ensures ∙ ap (λ t. around_answer xs t k) c.as_slice.ensures.value
    ∙ end_same xs b k _ within c.note_end.ensures in
    record {
      firsts = c.note_end.ensures;
      ends = subst (IsTable (from_index (for_end xs b) k) (length xs)) (sym c.put.ensures)
          (put_changed (from_index (for_end xs b) (k + 1)) (from_index (for_end xs b) k) (length xs) _ _
          (subst (λ n. IsTable (from_index (for_end xs b) n) (length xs) c.tokens.ends.items) next h.ends)
          (Some k) (from_next (for_end xs b) k _ end));
      within = omega (arith, next, h.within);
    }
