use Rattle.std.proofs.Common.{◌∙◌, ◌++◌, ◌≤◌, ap, append_assoc, append-nil, arith, drop, subst, sym}
use Rattle.cb_wire.specs.Surrogates.{front_size, front_text, with_whole_pairs}
use Rattle.cb_wire.proofs.Pairs.{pairs-nil, pairs-step}
use Rattle.cb_wire.proofs.surrogates.with_whole_pairs.Goals as goal

pub fronts-preserved : goal.fronts-preserved
fronts-preserved c =
    let text = c.fronts.text.items in
    let rest = c.fronts.rest.now in
    let more = c.after_place-rest.result.now in
    let some : 1 ≤ front_size rest = subst (λ n. 1 ≤ n) c.front_size.ensures.value
    c.front_size.ensures.some.0 in
    ap (λ t. t ++ with_whole_pairs more)
    (c.in_ok-extend_from_slice.ensures.items ∙ ap (λ f. text ++ f) c.front_text.ensures)
    ∙ append_assoc text (front_text rest) (with_whole_pairs more)
    ∙ ap (λ r. text ++ (front_text rest ++ with_whole_pairs r))
    (c.after_place-rest.ensures.value ∙ ap (λ n. drop n rest) c.front_size.ensures.value)
    ∙ ap (λ l. text ++ l) (sym (pairs-step rest (omega (arith, c.fronts-test.true)) some))
    ∙ c.fronts.invariant

pub returns : goal.returns
returns c =
    let text = c.fronts.text.items in
    let rest = c.fronts.rest.now in
    sym (append-nil text)
    ∙ ap (λ l. text ++ l) (sym (pairs-nil rest (omega (arith, c.fronts-test.false))))
    ∙ c.fronts.invariant
