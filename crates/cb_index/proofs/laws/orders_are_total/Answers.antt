use Rattle.std.proofs.lemmas.Cmp.{nat_list_cmp_total, on_total}
use Rattle.cb_index.specs.Entries.{sort_key}
use Rattle.cb_index.specs.Kinds.{keyer_of}
use Rattle.cb_index.proofs.laws.orders_are_total.Goals as goal

pub returns : goal.returns
returns c kind a = on_total (sort_key (keyer_of kind) a) nat_list_cmp_total
