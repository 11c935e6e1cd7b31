-- The first tokens are looked at.
use Rattle.std.proofs.Common.{◌≡◌}
use Rattle.cb_names.specs.Macros.{is_own_name, macro_name}
use Rattle.cb_names.specs.Tables.{those_where}
use Rattle.cb_names.proofs.macros.Text.own_names.Given as goal

abbrev pub invariant-loop-at : goal.invariant-loop-at
invariant-loop-at l = l.found.items ≡ those_where (macro_name l.self.tokens.now)
    (is_own_name l.self.bytes.now l.self.listed.now l.self.tokens.now) l.at
