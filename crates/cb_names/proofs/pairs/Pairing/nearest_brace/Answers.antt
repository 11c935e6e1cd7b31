use Rattle.std.proofs.Common.{◌≡◌, ◌∙◌, ◌+◌, ◌<◌, ◌≤◌, ◌==◌, sym, ap, subst, arith}
use Rattle.std.proofs.lemmas.Bool.{ne_eqb}
use Rattle.cb_names.specs.Pairs.{nearest_brace, sign}
use Rattle.cb_names.specs.steps.Pairing.{answer}
use Rattle.cb_names.proofs.PairingLemmas.{bound, bound_top, brace_beyond, brace_here, from, from_top}
use Rattle.cb_names.proofs.PairingLemmas.{next_is, next_less, no_brace}
use Rattle.cb_names.proofs.pairs.Pairing.nearest_brace.Goals as goal

pub brackets-init : goal.brackets-init
brackets-init c =
    let xs = c.args.items.now in
    record {
      found = ap (λ o. nearest_brace xs (from xs o)) c.requires.top ∙ ap (nearest_brace xs) (from_top xs c.args.at);
      less = subst (λ o. bound xs o ≤ c.args.at) (sym c.requires.top) (bound_top xs c.args.at);
    }

pub returns-then-sign-eq123 : goal.returns-then-sign-eq123
returns-then-sign-eq123 c =
    let xs = c.args.items.now in
    sym (brace_here xs c.in-Some.open (ap (λ n. n == 123) (sym c.sign.ensures ∙ c.if-sign-eq123.true)))
    ∙ ap (λ o. nearest_brace xs (from xs o)) (sym c.in-Some.is) ∙ c.brackets.invariant.found

-- the brackets go outwards
pub brackets-smaller : goal.brackets-smaller
brackets-smaller c =
    let xs = c.args.items.now in
    let i = c.in-Some.open in
    let here : bound xs c.brackets.left ≡ i + 1 = ap (bound xs) c.in-Some.is in
    let less : i < c.args.at = omega (arith, here, c.brackets.invariant.less) in
    let next = subst (λ o. bound xs o ≤ i) (sym (c.answer-left.ensures ∙ ap (λ t. answer t i) c.as_slice.ensures.value))
    (next_less xs c.args.at _ c.requires.around i less) in
    omega (arith, next, here)

pub brackets-preserved : goal.brackets-preserved
brackets-preserved c =
    let xs = c.args.items.now in
    let i = c.in-Some.open in
    let here : bound xs c.brackets.left ≡ i + 1 = ap (bound xs) c.in-Some.is in
    let less : i < c.args.at = omega (arith, here, c.brackets.invariant.less) in
    let next_is_it = c.answer-left.ensures ∙ ap (λ t. answer t i) c.as_slice.ensures.value in
    let next = subst (λ o. bound xs o ≤ i) (sym next_is_it) (next_less xs c.args.at _ c.requires.around i less) in
    record {
      found = ap (λ o. nearest_brace xs (from xs o)) next_is_it
          ∙ ap (nearest_brace xs) (next_is xs c.args.at _ c.requires.around i less)
          ∙ sym (brace_beyond xs i (ne_eqb (sign xs i) 123 (λ e. c.if-sign-eq123.false (c.sign.ensures ∙ e))))
          ∙ ap (λ o. nearest_brace xs (from xs o)) (sym c.in-Some.is) ∙ c.brackets.invariant.found;
      less = omega (arith, next, less);
    }

pub returns : goal.returns
returns c =
    let xs = c.args.items.now in
    sym (no_brace xs) ∙ ap (λ o. nearest_brace xs (from xs o)) (sym c.in_default.is) ∙ c.brackets.invariant.found
