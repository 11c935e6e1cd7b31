use Rattle.std.proofs.Common.{rules, ◌≡◌, ◌∙◌, ap, false}
use Rattle.std.proofs.lemmas.Result.{IfOk-weaker}
use Rattle.clap.specs.Words.{app_of, rule_of, with_rule}
use Rattle.cb_words.specs.Jobs.{prototypes_rule}
use Rattle.cb_words.proofs.job.command.with_prototypes.Goals as goal

pub returns : goal.returns
returns c =
    let same : rule_of c.help-prototypes.result ≡ prototypes_rule = search rules in
    let local : c.help-prototypes.result.global ≡ false = search rules in
    IfOk-weaker c.arg.result _ _
    (λ more h. h.shape local ∙ ap (with_rule (app_of c.args.command)) same) c.arg.ensures
