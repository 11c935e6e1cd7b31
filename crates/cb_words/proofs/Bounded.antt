-- Where no bounds, no rules, no files, no list that may be read or no root from `/` are found there
-- is no job.
use Rattle.std.proofs.Common.{◌≡◌, ◌∙◌, ap, sym, List, None, Some}
use Rattle.std.proofs.lemmas.Bool.{true≢false}
use Rattle.std.specs.Prelude.{is_some}
use Rattle.clap.specs.Words.{Row, Text}
use Rattle.cb_desk.specs.World.{WorldBounds}
use Rattle.cb_scan.specs.declared.profile.Rules.{Rules}
use Rattle.cb_words.specs.Jobs.{AreBoundsOf, IsJobOf}
use Rattle.cb_words.specs.Jobs.{rules_in}
use Rattle.cb_words.specs.declared.job.Job.{Job}
use Rattle.cb_words.specs.declared.job.Job.TheVariants.{Line, Find, Tags, Lsp}

pub no_job : (found : Text × List Row) → ((b : WorldBounds) → AreBoundsOf found.1 b → ⊥)
    → (job : Job) → IsJobOf (Some found) job → ⊥
no_job found none (Line bounds rules list files) is = none bounds is.1
no_job found none (Find bounds rules field pattern list files) is = none bounds is.1
no_job found none (Tags bounds rules listing tagsfile force format list files) is = none bounds is.1
no_job found none (Lsp bounds rules root list files) is = none bounds is.1

none_is : (r : Rules) → None ≡ Some r → ⊥
none_is p e = true≢false (sym (ap is_some e))

-- without rules there is no job
pub no_rules : (found : Text × List Row) → rules_in found.1 ≡ None
    → (job : Job) → IsJobOf (Some found) job → ⊥
no_rules found none (Line bounds rules list files) is = none_is rules (sym none ∙ is.2)
no_rules found none (Find bounds rules field pattern list files) is = none_is rules (sym none ∙ is.2)
no_rules found none (Tags bounds rules listing tagsfile force format list files) is =
    none_is rules (sym none ∙ is.2)
no_rules found none (Lsp bounds rules root list files) is = none_is rules (sym none ∙ is.2)
