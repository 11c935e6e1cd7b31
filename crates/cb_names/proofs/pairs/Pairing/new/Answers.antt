use Rattle.std.proofs.Common.{refl}
use Rattle.cb_names.specs.Pairs.{innermost, opened, partner_among}
use Rattle.cb_names.specs.steps.Pairing.{other}
use Rattle.cb_names.proofs.TableLemmas.{none}
use Rattle.cb_names.proofs.pairs.Pairing.new.Goals as goal

-- no token is looked at yet
pub returns : goal.returns
unfolding opened
returns c xs = record {
  around = none (innermost xs) _ c.new.ensures.items;
  partner = none (partner_among xs 0) _ c.new-2.ensures.items;
  others = none (other xs) _ c.new-3.ensures.items;
  top = refl;
}
