use Rattle.cb_index.proofs.RowsAscendLemmas.{ascend}
use Rattle.cb_index.proofs.laws.rows_of_files_ascend.Goals as goal

pub returns : goal.returns
returns c = ascend
