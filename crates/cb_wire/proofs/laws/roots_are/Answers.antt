use Rattle.cb_wire.proofs.Roots.{folder_is_root, no_folder_is_root, uri_is_root}
use Rattle.cb_wire.proofs.laws.roots_are.Goals as goal

pub returns-clause-folder : goal.returns-clause-folder
returns-clause-folder c = folder_is_root

pub returns-clause-none : goal.returns-clause-none
returns-clause-none c = no_folder_is_root

pub returns-clause-uri : goal.returns-clause-uri
returns-clause-uri c = uri_is_root
