use Rattle.std.proofs.Common.{◌≡◌, ◌∙◌, ◌+◌, ◌<◌, ◌≤◌, sym, ap, subst, arith}
use Rattle.std.specs.Option.{option_or}
use Rattle.cb_names.specs.Pairs.{lowest_brace}
use Rattle.cb_names.specs.steps.Pairing.{answer, lowest_after}
use Rattle.cb_names.proofs.PairingLemmas.{bound, bound_top, from, from_top, lowest_beyond, next_is}
use Rattle.cb_names.proofs.PairingLemmas.{next_less, no_lowest, or_none}
use Rattle.cb_names.proofs.pairs.Pairing.lowest_brace.Goals as goal

pub brackets-init : goal.brackets-init
brackets-init c =
    let xs = c.args.items.now in
    record {
      found = or_none xs (lowest_brace xs (from xs c.args.self.now.top))
          ∙ ap (λ o. lowest_brace xs (from xs o)) c.requires.top ∙ ap (lowest_brace xs) (from_top xs c.args.at);
      less = subst (λ o. bound xs o ≤ c.args.at) (sym c.requires.top) (bound_top xs c.args.at);
    }

-- the brackets go outwards
pub brackets-smaller : goal.brackets-smaller
brackets-smaller c =
    let xs = c.args.items.now in
    let i = c.in-Some.open in
    let here : bound xs c.brackets.left ≡ i + 1 = ap (bound xs) c.in-Some.is in
    let less : i < c.args.at = omega (arith, here, c.brackets.invariant.less) in
    let next = subst (λ o. bound xs o ≤ i) (sym (c.answer-left.ensures ∙ ap (λ t. answer t i) c.as_slice.ensures.value))
    (next_less xs c.args.at _ c.requires.around i less) in
    omega (arith, next, here)

pub brackets-preserved : goal.brackets-preserved
brackets-preserved c =
    let xs = c.args.items.now in
    let i = c.in-Some.open in
    let here : bound xs c.brackets.left ≡ i + 1 = ap (bound xs) c.in-Some.is in
    let less : i < c.args.at = omega (arith, here, c.brackets.invariant.less) in
    let next_is_it = c.answer-left.ensures ∙ ap (λ t. answer t i) c.as_slice.ensures.value in
    let next = subst (λ o. bound xs o ≤ i) (sym next_is_it) (next_less xs c.args.at _ c.requires.around i less) in
    record {
      found = (λ k. option_or (lowest_brace xs (from xs (next_is_it k))) (c.lowest_after-lowest.ensures k))
          ∙ ap (λ l. option_or (lowest_brace xs l) (lowest_after xs i c.brackets.lowest)) (next_is xs c.args.at _ c.requires.around i less)
          ∙ sym (lowest_beyond xs i c.brackets.lowest)
          ∙ ap (λ o. option_or (lowest_brace xs (from xs o)) c.brackets.lowest) (sym c.in-Some.is)
          ∙ c.brackets.invariant.found;
      less = omega (arith, next, less);
    }

pub returns : goal.returns
returns c =
    let xs = c.args.items.now in
    sym (no_lowest xs c.brackets.lowest)
    ∙ ap (λ o. option_or (lowest_brace xs (from xs o)) c.brackets.lowest) (sym c.in_default.is)
    ∙ c.brackets.invariant.found
