use Rattle.std.proofs.Common.{◌≡◌, ◌∙◌, ◌+◌, ◌-◌, ◌<◌, ◌++◌, ap, arith, sym}
use Rattle.std.proofs.lemmas.List.{append-nil, append_assoc}
use Rattle.cb_names.specs.Declarators.{if_so, is_kept, next_token, tokens_from}
use Rattle.cb_names.proofs.DeclaratorLemmas.{tokens_done, tokens_empty, tokens_next}
use Rattle.cb_names.proofs.declarators.Codes.tokens_between.Goals as goal

pub returns-then-left-end-clause-value : goal.returns-then-left-end-clause-value
returns-then-left-end-clause-value c =
    let xs = c.args.self.now.shape.now.items.items in
    let end = c.args.end in
    sym (ap (λ l. c.tokens.found.items ++ l) (tokens_done xs end (end - c.tokens.step) c.tokens.left c.if-left-end.true)
    ∙ append-nil c.tokens.found.items)
    ∙ c.tokens.invariant.value

pub tokens-preserved : goal.tokens-preserved
tokens-preserved c =
    let xs = c.args.self.now.shape.now.items.items in
    let end = c.args.end in
    let k = c.tokens.left in
    let within : k < end = omega (arith, c.if-left-end.false) in
    let less : c.tokens.step < end = omega (arith, c.tokens-test.true) in
    let rest = tokens_from xs end (end - (c.tokens.step + 1)) (next_token xs k) in
    let new = c.in_ok-push_if.ensures.value ∙ ap (λ b. c.tokens.found.items ++ if_so b k) c.is_kept.ensures in
    record {
      value = (λ i. new i ++ tokens_from xs end (end - (c.tokens.step + 1)) (c.next_token-left.ensures i))
          ∙ append_assoc c.tokens.found.items (if_so (is_kept xs k) k) rest
          ∙ ap (λ l. c.tokens.found.items ++ l) (sym (tokens_next xs end end c.tokens.step k less within))
          ∙ c.tokens.invariant.value;
      few = omega (arith, c.in_ok-push_if.ensures.few, c.tokens.invariant.few);
    }

pub returns-clause-value : goal.returns-clause-value
returns-clause-value c =
    let xs = c.args.self.now.shape.now.items.items in
    let end = c.args.end in
    let none : end - c.tokens.step ≡ 0 = omega (arith, c.tokens-test.false) in
    sym (ap (λ l. c.tokens.found.items ++ l) (tokens_empty xs end (end - c.tokens.step) c.tokens.left none)
    ∙ append-nil c.tokens.found.items)
    ∙ c.tokens.invariant.value
