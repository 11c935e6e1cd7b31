use Rattle.std.proofs.Common.{rules, ◌≡◌, ◌∙◌, ap, ap₂, codes}
use Rattle.std.proofs.lemmas.Result.{IfOk-weaker}
use Rattle.clap.specs.Words.{App, app_of, with_subcommand, new_app}
use Rattle.cb_words.specs.Jobs.{with_version}
use Rattle.cb_words.proofs.Local.{third-false}
use Rattle.cb_words.proofs.job.command.browse_command.Goals as goal

pub returns : goal.returns
returns c =
    let line = c.in_ok-line_command.ensures in
    let tags = c.in_ok-tags_command.ensures in
    let top : app_of c.subcommand_required.result ≡ with_version (new_app (codes "cbrowse")) =
    search rules in
    let find = c.in_ok-find_command.ensures in
    let lsp = c.in_ok-lsp_command.ensures in
    let first =
    c.in_ok-subcommand.ensures.shape (third-false _ _ _ _ (ap (λ (a : App). a.top.is_plain) line))
    ∙ ap₂ with_subcommand top (ap (λ (a : App). a.top) line) in
    let second =
    c.in_ok-subcommand-2.ensures.shape (third-false _ _ _ _ (ap (λ (a : App). a.top.is_plain) find))
    ∙ ap₂ with_subcommand first (ap (λ (a : App). a.top) find) in
    let third =
    c.in_ok-subcommand-3.ensures.shape (third-false _ _ _ _ (ap (λ (a : App). a.top.is_plain) tags.2))
    ∙ ap₂ with_subcommand second (ap (λ (a : App). a.top) tags.2) in
    IfOk-weaker c.subcommand-4.result _ _
    (λ command h. (
      tags.0,
      tags.1,
      h.shape (third-false _ _ _ _ (ap (λ (a : App). a.top.is_plain) lsp))
          ∙ ap₂ with_subcommand third (ap (λ (a : App). a.top) lsp),
    ))
    c.subcommand-4.ensures
