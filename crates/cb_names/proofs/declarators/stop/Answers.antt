use Rattle.std.proofs.Common.{◌∙◌, ◌+◌, ◌-◌, ◌<◌, ap, arith, length, sym}
use Rattle.cb_names.specs.Declarators.{is_stop, stop_from}
use Rattle.cb_names.proofs.DeclaratorLemmas.{stop_here, stop_next}
use Rattle.cb_names.proofs.declarators.stop.Goals as goal

pub returns-then-is_stop-clause-value : goal.returns-then-is_stop-clause-value
returns-then-is_stop-clause-value c =
    let items = c.args.shape.now.items in
    let n = length items.items in
    let less : c.tokens.step < n = omega (arith, c.tokens-test.true, c.len-step-end.ensures, items.ok) in
    let within : c.tokens.left < n = omega (arith, c.if-left-len.false, c.len.ensures, items.ok) in
    sym (stop_here items.items n c.tokens.step c.tokens.left less within
    (sym (c.is_stop.ensures ∙ ap (λ l. is_stop l c.tokens.left) c.as_slice.ensures.value) ∙ c.if-is_stop.true))
    ∙ c.tokens.invariant.value

pub tokens-preserved : goal.tokens-preserved
tokens-preserved c =
    let items = c.args.shape.now.items in
    let n = length items.items in
    let less : c.tokens.step < n = omega (arith, c.tokens-test.true, c.len-step-end.ensures, items.ok) in
    let within : c.tokens.left < n = omega (arith, c.if-left-len.false, c.len.ensures, items.ok) in
    record {
      value = ap (stop_from items.items (n - (c.tokens.step + 1))) c.behind_pair-left.ensures.value
          ∙ sym (stop_next items.items n c.tokens.step c.tokens.left less within
          (sym (c.is_stop.ensures ∙ ap (λ l. is_stop l c.tokens.left) c.as_slice.ensures.value) ∙ c.if-is_stop.false))
          ∙ c.tokens.invariant.value;
      within = c.behind_pair-left.ensures.within;
    }
