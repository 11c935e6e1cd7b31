use Rattle.std.proofs.Common.{◌∙◌}
use Rattle.cb_names.specs.steps.Pairing.{other_by}
use Rattle.cb_names.proofs.PairingLemmas.{around_next, opens_closes_none, other_is, others_open}
use Rattle.cb_names.proofs.PairingLemmas.{partner_pass, top_open}
use Rattle.cb_names.proofs.pairs.Pairing.open.Goals as goal

pub returns : goal.returns
returns c =
    let xs = c.args.items.now in
    let k = c.args.at in
    let h = c.requires.holds in
    let is = c.requires.opening in
    record {
      around = around_next xs k _ _ _ h.around c.in_ok-push.ensures.items h.top;
      partner = partner_pass xs k _ _ h.partner c.in_ok-push-3.ensures.items (opens_closes_none xs k is);
      others = others_open xs k _ _ _ h.others c.in_ok-push-2.ensures.items is
          (c.other_by-other.ensures ∙ (λ i. other_by xs (c.as_slice.ensures.value i) (h.top i) k)
          ∙ other_is xs k _ h.others);
      top = top_open xs k is;
    }
