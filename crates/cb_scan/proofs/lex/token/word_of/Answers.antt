use Rattle.std.proofs.Common.{◌∙◌, sym}
use Rattle.cb_scan.proofs.WordLemmas.{no_meaning}
use Rattle.cb_scan.proofs.lex.token.word_of.Goals as goal

pub returns-then-not-may_mean : goal.returns-then-not-may_mean
returns-then-not-may_mean c = no_meaning c.args.word.now (sym c.may_mean.ensures ∙ c.if-not-may_mean.true)
