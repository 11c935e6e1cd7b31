use Rattle.std.proofs.Common.{◌∙◌, sym}
use Rattle.cb_index.proofs.ListedLemmas.{there_if, there_is}
use Rattle.cb_index.proofs.shown.are_there.Goals as goal

pub returns-clause-there : goal.returns-clause-there
returns-clause-there c = λ is.
    there_if c.args.archive.now c.args.news.now (sym c.are_below.ensures ∙ is)

pub returns-clause-missing : goal.returns-clause-missing
returns-clause-missing c = λ all.
    c.are_below.ensures ∙ there_is c.args.archive.now c.args.news.now all
