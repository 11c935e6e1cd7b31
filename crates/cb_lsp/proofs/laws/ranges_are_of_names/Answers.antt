use Rattle.cb_lsp.proofs.NamedCalls.{reached-named}
use Rattle.cb_lsp.proofs.NamedTags.{found-named, shown-named}
use Rattle.cb_lsp.proofs.NamedUses.{references-named}
use Rattle.cb_lsp.proofs.NamedWords.{word-named}
use Rattle.cb_lsp.proofs.laws.ranges_are_of_names.Goals as goal

pub returns-clause-word : goal.returns-clause-word
returns-clause-word c = word-named

pub returns-clause-shown : goal.returns-clause-shown
returns-clause-shown c = shown-named

pub returns-clause-uses : goal.returns-clause-uses
returns-clause-uses c = references-named

pub returns-clause-calls : goal.returns-clause-calls
returns-clause-calls c = reached-named

pub returns-clause-found : goal.returns-clause-found
returns-clause-found c = found-named
