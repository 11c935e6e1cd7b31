use Rattle.cbrowse.proofs.Process.{collected}
use Rattle.cbrowse.proofs.execute.all_words.Goals as goal

pub returns : goal.returns
returns g = collected g.args.words g.collect.result g.collect.ensures.ran
