use Rattle.std.proofs.Common.{◌∙◌, ap, codes}
use Rattle.std.proofs.lemmas.Result.{IfOk-weaker}
use Rattle.clap.specs.Words.{with_rule}
use Rattle.cb_words.specs.Jobs.{most_file_bytes, most_rule}
use Rattle.cb_words.proofs.job.command.with_bounds.Goals as goal

pub returns : goal.returns
returns c = IfOk-weaker c.with_most-2.result _ _
    (λ more h. h ∙ ap (λ a. with_rule a (most_rule (codes "max_file_bytes") (codes "max-file-bytes")
    most_file_bytes (codes "1000000"))) c.in_ok-command.ensures) c.with_most-2.ensures
