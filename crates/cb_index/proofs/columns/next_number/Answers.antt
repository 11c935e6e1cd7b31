use Rattle.cb_index.proofs.NumberLemmas.{knows_more, knows_new, number_found, number_known}
use Rattle.cb_index.proofs.columns.next_number.Goals as goal

pub returns-in-Some-clause-value : goal.returns-in-Some-clause-value
returns-in-Some-clause-value c =
    number_found c.args.sort c.args.text.now c.args.item c.in-Some.number c.in-Some.ensures

pub returns-in-Some-clause-known : goal.returns-in-Some-clause-known
returns-in-Some-clause-known c =
    knows_more c.args.sort c.args.text.now c.args.item c.in-Some.number c.args.known.now
    c.requires.known c.in-Some.ensures

pub returns-clause-value : goal.returns-clause-value
returns-clause-value c =
    number_known c.args.sort c.args.text.now c.args.item c.in_ok-number.number c.args.known.now
    c.function_in.result c.requires.known c.function_in.ensures c.in_ok-number.ensures.first

pub returns-clause-known : goal.returns-clause-known
returns-clause-known c =
    knows_new c.args.sort c.args.text.now c.args.item c.args.known.now c.first_known.new.known
    c.function_in.result c.requires.known c.function_in.ensures c.in_ok-number.ensures.known
