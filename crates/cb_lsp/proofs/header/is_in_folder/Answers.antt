use Rattle.cb_lsp.proofs.Headers.{beside-found, beside-other}
use Rattle.cb_lsp.proofs.header.is_in_folder.Goals as goal

pub returns-in-Some : goal.returns-in-Some
returns-in-Some c =
    beside-found c.args.folder.now c.args.header.now c.args.name.now c.in-Some.rest.now
    c.eq.result c.in-Some.ensures.cases.0 c.in-Some.ensures.cases.1 c.eq.ensures

pub returns-in-None : goal.returns-in-None
returns-in-None c =
    beside-other c.args.folder.now c.args.header.now c.args.name.now c.in-None.ensures.cases
