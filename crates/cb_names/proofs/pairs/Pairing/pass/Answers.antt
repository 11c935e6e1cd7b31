use Rattle.std.proofs.Common.{◌∙◌}
use Rattle.cb_names.proofs.PairingLemmas.{around_next, others_pass, partner_pass, top_pass}
use Rattle.cb_names.proofs.pairs.Pairing.pass.Goals as goal

pub returns : goal.returns
returns c =
    let xs = c.args.items.now in
    let k = c.args.at in
    let h = c.requires.holds in
    record {
      around = around_next xs k _ _ _ h.around c.in_ok-push.ensures.items h.top;
      partner = partner_pass xs k _ _ h.partner c.in_ok-push-3.ensures.items c.requires.closing;
      others = others_pass xs k _ _ h.others c.in_ok-push-2.ensures.items c.requires.opening;
      top = c.kept_after-top.ensures ∙ top_pass xs k _ c.requires.opening c.requires.closing h.top;
    }
