use Rattle.std.proofs.Common.{◌∙◌, None, ap, arith}
use Rattle.cb_names.specs.steps.Pairing.{answer}
use Rattle.cb_names.proofs.PairingLemmas.{around_next, closed_less, others_pass, partner_close, top_close}
use Rattle.cb_names.proofs.pairs.Pairing.close.Goals as goal

pub index_mut-requires : goal.index_mut-requires
index_mut-requires c =
    omega (
      arith,
      closed_less c.args.items.now c.args.at c.args.closed c.requires.closing,
      c.in_ok-push-3.ensures.len,
      c.requires.holds.partner.len,
    )

pub returns : goal.returns
returns c =
    let xs = c.args.items.now in
    let k = c.args.at in
    let j = c.args.closed in
    let h = c.requires.holds in
    let less = closed_less xs k j c.requires.closing in
    record {
      around = around_next xs k _ _ _ h.around c.in_ok-push.ensures.items h.top;
      partner = partner_close xs k j _ _ h.partner c.in_ok-push-3.ensures.items c.requires.closing;
      others = others_pass xs k _ _ h.others c.in_ok-push-2.ensures.items c.requires.opening;
      top = c.kept_after-top.ensures
          ∙ top_close xs k j _ c.requires.opening c.requires.closing
          (c.answer.ensures ∙ ap (λ t. answer t j) c.as_slice.ensures.value ∙ h.around.at j None less);
    }
