use Rattle.std.proofs.Common.{rules, ◌≡◌, ◌∙◌, ap, false}
use Rattle.std.proofs.lemmas.Result.{IfOk-weaker}
use Rattle.clap.specs.Words.{app_of, rule_of, with_rule}
use Rattle.cb_words.specs.Jobs.{root_rule}
use Rattle.cb_words.proofs.job.command.with_root.Goals as goal

pub returns : goal.returns
returns c =
    let same : rule_of c.help-root.result ≡ root_rule = search rules in
    let local : c.help-root.result.global ≡ false = search rules in
    IfOk-weaker c.arg.result _ _
    (λ more h. h.shape local ∙ ap (with_rule (app_of c.args.command)) same) c.arg.ensures
