use Rattle.std.proofs.Common.{◌≡◌, ◌∙◌, ap, inr, sym, subst, map, string_bytes}
use Rattle.clap.specs.Words.{is_simple, is_simple_and_free, subcommand_of, subcommand_rows_of}
use Rattle.cb_words.specs.Jobs.{browse_app, IsJobOf}
use Rattle.cb_words.specs.Usages.{no_job_text}
use Rattle.cb_words.proofs.Choices.{same_found}
use Rattle.cb_words.proofs.Refusing.{usage_from_kind, usage_from_search}
use Rattle.cb_words.proofs.job.job_of.Goals as goal

pub returns-in-Some : goal.returns-in-Some
returns-in-Some c =
    let words = map string_bytes c.args.words.now in
    let app = c.in_ok-command.ensures in
    let found = c.in-Ok.ensures.ok.2 (ap is_simple app.2) in
    let same : subcommand_rows_of c.in-Ok.matches ≡ subcommand_of browse_app words =
    found.1 ∙ ap (λ a. subcommand_of a words) app.2 ∙ sym (same_found app.0 words) in
    subst (λ o. IsJobOf o c.in-Some.job) same (rw c.in-Some.is at c.in-Ok-found_job.ensures)

pub returns-in-Err : goal.returns-in-Err
returns-in-Err c =
    let words = map string_bytes c.args.words.now in
    let app = c.in_ok-command.ensures in
    usage_from_kind words _ app.0 _ _ app.1 app.2 c.usage_of.ensures
    (c.in-Err.ensures.kinds (ap is_simple_and_free app.2))

pub returns-in-Err-found_job : goal.returns-in-Err-found_job
returns-in-Err-found_job c =
    let words = map string_bytes c.args.words.now in
    let app = c.in_ok-command.ensures in
    let found = c.in-Ok.ensures.ok.2 (ap is_simple app.2) in
    let same : subcommand_rows_of c.in-Ok.matches ≡ subcommand_of browse_app words =
    found.1 ∙ ap (λ a. subcommand_of a words) app.2 ∙ sym (same_found app.0 words) in
    usage_from_search words (subcommand_rows_of c.in-Ok.matches) c.in-Err-found_job.usage same
    c.in-Err-found_job.ensures

pub returns : goal.returns
returns c =
    let words = map string_bytes c.args.words.now in
    let app = c.in_ok-command.ensures in
    let found = c.in-Ok.ensures.ok.2 (ap is_simple app.2) in
    let same : subcommand_rows_of c.in-Ok.matches ≡ subcommand_of browse_app words =
    found.1 ∙ ap (λ a. subcommand_of a words) app.2 ∙ sym (same_found app.0 words) in
    let none = rw c.in-None.is at c.in-Ok-found_job.ensures in
    inr (
      (λ job is. none job (subst (λ o. IsJobOf o job) (sym same) is)),
      c.in_ok-from_str-in-None.ensures.ok ∙ c.no_job_text.ensures ∙ ap no_job_text same,
    )
