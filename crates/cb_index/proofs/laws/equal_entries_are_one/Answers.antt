use Rattle.cb_scan.proofs.KeyOrder.{same_bytes}
use Rattle.cb_index.specs.Kinds.{keyer_of}
use Rattle.cb_index.proofs.EntryLemmas.{sort_exact}
use Rattle.cb_index.proofs.laws.equal_entries_are_one.Goals as goal

pub returns : goal.returns
returns c kind a e f tied = sort_exact (keyer_of kind) a e f (same_bytes _ _ tied)
