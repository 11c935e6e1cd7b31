use Rattle.cb_index.proofs.FactOrderLemmas.{by_place}
use Rattle.cb_index.proofs.laws.facts_come_by_place.Goals as goal

pub returns : goal.returns
returns c = by_place
