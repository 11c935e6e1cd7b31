use Rattle.std.proofs.Common.{codes, sym}
use Rattle.cb_words.specs.Commands.{rows_in}
use Rattle.cb_words.proofs.Bounded.{no_job, no_rules}
use Rattle.cb_words.proofs.job.matched.lsp_job.Goals as goal

pub returns-in_default : goal.returns-in_default
returns-in_default c =
    no_job (codes "lsp", rows_in c.args.found.now) c.in_default.ensures

pub returns-in_default-rules_of : goal.returns-in_default-rules_of
returns-in_default-rules_of c =
    no_rules (codes "lsp", rows_in c.args.found.now) (sym c.in_default-rules_of.ensures)
