use Rattle.std.proofs.Common.{refl}
use Rattle.cb_scan.specs.lex.Reserved.{reserved_words}
use Rattle.cb_scan.proofs.laws.limits_are.Goals as goal

pub returns-clause-reserved : goal.returns-clause-reserved
unfolding reserved_words
returns-clause-reserved c = refl
