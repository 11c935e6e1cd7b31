use Rattle.std.proofs.Common.{◌≡◌, ◌∙◌, ◌+◌, ◌-◌, ◌<◌, add-one, ap, arith, length, sym}
use Rattle.cb_names.specs.Accesses.{behind_from}
use Rattle.cb_names.proofs.AccessLemmas.{behind_empty, behind_last, behind_next}
use Rattle.cb_names.proofs.accesses.behind_indices.Goals as goal

pub returns-in-None : goal.returns-in-None
returns-in-None c =
    sym (behind_last c.args.shape.now.items.items _ c.pairs.left (sym c.index_end.ensures.value ∙ c.in-None.is))
    ∙ c.pairs.invariant

pub pairs-preserved : goal.pairs-preserved
pairs-preserved c =
    let items = c.args.shape.now.items in
    let n = length items.items in
    let less : c.pairs.step < n = omega (arith, c.pairs-test.true, c.len-step-end.ensures, items.ok) in
    ap (behind_from items.items (n - (c.pairs.step + 1))) (add-one c.in-Some.end)
    ∙ sym (behind_next items.items n c.pairs.step c.pairs.left c.in-Some.end less
    (sym c.index_end.ensures.value ∙ c.in-Some.is))
    ∙ c.pairs.invariant

pub returns : goal.returns
returns c =
    let items = c.args.shape.now.items in
    let none : length items.items - c.pairs.step ≡ 0
    = omega (arith, c.pairs-test.false, c.len-step-end.ensures, items.ok) in
    sym (behind_empty items.items _ c.pairs.left none) ∙ c.pairs.invariant
