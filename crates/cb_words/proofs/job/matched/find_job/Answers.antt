use Rattle.std.proofs.Common.{codes, sym}
use Rattle.cb_words.specs.Commands.{rows_in}
use Rattle.cb_words.proofs.Bounded.{no_job, no_rules}
use Rattle.cb_words.proofs.job.matched.find_job.Goals as goal

pub returns-in_default-bounds_of : goal.returns-in_default-bounds_of
returns-in_default-bounds_of c =
    no_job (codes "find", rows_in c.args.found.now) c.in_default-bounds_of.ensures

pub returns-in_default-rules_of : goal.returns-in_default-rules_of
returns-in_default-rules_of c =
    no_rules (codes "find", rows_in c.args.found.now) (sym c.in_default-rules_of.ensures)
