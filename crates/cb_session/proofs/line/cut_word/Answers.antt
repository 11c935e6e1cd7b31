use Rattle.std.proofs.Common.{◌+◌, ap, sym}
use Rattle.std.proofs.lemmas.List.{take_rest}
use Rattle.cb_session.specs.Commands.{cut_at, is_space}
use Rattle.cb_session.proofs.Words.{split_at, split_none}
use Rattle.cb_session.proofs.line.cut_word.Goals as goal

pub returns-in-Some-clause-words : goal.returns-in-Some-clause-words
returns-in-Some-clause-words c =
    rw (take_rest c.args.text.now (c.in-Some.at + 1))
    (split_at is_space c.args.text.now c.in-Some.at c.in-Some.ensures)

pub returns-in-Some-clause-cut : goal.returns-in-Some-clause-cut
returns-in-Some-clause-cut c =
    rw (take_rest c.args.text.now (c.in-Some.at + 1))
    (ap (cut_at c.args.text.now) (sym c.in-Some.ensures))

pub returns-in-None-clause-words : goal.returns-in-None-clause-words
returns-in-None-clause-words c = split_none is_space c.args.text.now c.in-None.ensures

pub returns-in-None-clause-cut : goal.returns-in-None-clause-cut
returns-in-None-clause-cut c = ap (cut_at c.args.text.now) (sym c.in-None.ensures)
