use Rattle.cb_index.proofs.SpreadLemmas.{spread}
use Rattle.cb_index.proofs.laws.ranges_have_the_rows_of_their_keys.Goals as goal

pub returns : goal.returns
returns c = spread
