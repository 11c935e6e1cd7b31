use Rattle.cb_wire.proofs.Roots.{names-again, path-again, path-of-name, uri-path}
use Rattle.cb_wire.proofs.laws.names_are_read_back.Goals as goal

pub returns-clause-path : goal.returns-clause-path
returns-clause-path c = uri-path

pub returns-clause-name : goal.returns-clause-name
returns-clause-name c = path-again

pub returns-clause-uri : goal.returns-clause-uri
returns-clause-uri c = names-again

pub returns-clause-path_again : goal.returns-clause-path_again
returns-clause-path_again c = path-of-name
