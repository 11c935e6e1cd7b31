use Rattle.cb_lsp.proofs.Untouched.{requests_change_nothing, told_of_events_changed_nothing}
use Rattle.cb_lsp.proofs.Untouched.{what_is_told_changed_nothing}
use Rattle.cb_lsp.proofs.laws.refusals_change_nothing.Goals as goal

pub returns-clause-told : goal.returns-clause-told
returns-clause-told c = what_is_told_changed_nothing

pub returns-clause-events : goal.returns-clause-events
returns-clause-events c = told_of_events_changed_nothing

pub returns-clause-requests : goal.returns-clause-requests
returns-clause-requests c = requests_change_nothing
