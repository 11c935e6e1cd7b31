use Rattle.std.proofs.Common.{◌∙◌, sym, ap}
use Rattle.cb_scan.specs.steps.Cut.{class_at}
use Rattle.cb_scan.proofs.FirstBytes.{by_code, class_by_code}
use Rattle.cb_scan.proofs.lex.lexeme.class_at.Goals as goal

pub returns-in-0 : goal.returns-in-0
returns-in-0 c =
    sym (class_by_code c.args.text.now c.requires
    ∙ ap (λ n. by_code n (class_at c.args.text.now)) (sym c.first_code.ensures ∙ c.in-0.is))

pub returns-in-1 : goal.returns-in-1
returns-in-1 c =
    sym (class_by_code c.args.text.now c.requires
    ∙ ap (λ n. by_code n (class_at c.args.text.now)) (sym c.first_code.ensures ∙ c.in-1.is))

pub returns-in-6 : goal.returns-in-6
returns-in-6 c =
    sym (class_by_code c.args.text.now c.requires
    ∙ ap (λ n. by_code n (class_at c.args.text.now)) (sym c.first_code.ensures ∙ c.in-6.is))

pub returns-in-2 : goal.returns-in-2
returns-in-2 c =
    sym (class_by_code c.args.text.now c.requires
    ∙ ap (λ n. by_code n (class_at c.args.text.now)) (sym c.first_code.ensures ∙ c.in-2.is))

pub returns-in-3 : goal.returns-in-3
returns-in-3 c =
    sym (class_by_code c.args.text.now c.requires
    ∙ ap (λ n. by_code n (class_at c.args.text.now)) (sym c.first_code.ensures ∙ c.in-3.is))

pub returns-in-4 : goal.returns-in-4
returns-in-4 c =
    sym (class_by_code c.args.text.now c.requires
    ∙ ap (λ n. by_code n (class_at c.args.text.now)) (sym c.first_code.ensures ∙ c.in-4.is))

pub returns-in-5 : goal.returns-in-5
returns-in-5 c =
    sym (class_by_code c.args.text.now c.requires
    ∙ ap (λ n. by_code n (class_at c.args.text.now)) (sym c.first_code.ensures ∙ c.in-5.is))
