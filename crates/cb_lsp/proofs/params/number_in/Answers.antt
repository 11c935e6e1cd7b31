use Rattle.std.proofs.Common.{None, Some}
use Rattle.json.specs.Value.{value_view}
use Rattle.cb_lsp.proofs.Numbers.{parsed-number}
use Rattle.cb_lsp.proofs.params.number_in.Goals as goal

pub returns-in-Some-as_u64 : goal.returns-in-Some-as_u64
returns-in-Some-as_u64 c =
    rw c.in-Some.is (parsed-number (value_view c.in-Some.value.now) (Some c.in-Some-as_u64.number)
    c.in-Some-as_u64.ensures)

pub returns-in-None-as_u64 : goal.returns-in-None-as_u64
returns-in-None-as_u64 c =
    rw c.in-Some.is (parsed-number (value_view c.in-Some.value.now) None c.in-None-as_u64.ensures)
