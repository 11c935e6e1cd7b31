use Rattle.std.proofs.Common.{◌∙◌, ◌<◌, ◌-◌, [], sym, ap, arith, unwrap_or, ⊎_elim}
use Rattle.std.proofs.lemmas.Bool.{cases_eq}
use Rattle.std.proofs.lemmas.Option.{get_or_from_slice_get, none-some, unwrap_or-slice_get}
use Rattle.cb_scan.specs.Lines.{line_text, lines}
use Rattle.cb_scan.proofs.LineTable.{line_text-at}
use Rattle.cb_scan.proofs.source.Source.shown_line.Goals as goal

-- the line that is there, and no bytes where none is
pub returns-in-Some : goal.returns-in-Some
returns-in-Some c =
    let text = c.args.self.now in
    ⊎_elim
    (λ zero. absurd (none-some _ (sym (c.in-Some.ensures.zero zero))))
    (λ some.
    let above : 0 < c.args.n = omega (arith, some) in
    sym (line_text-at text c.args.n above
    ∙ get_or_from_slice_get (lines text) (c.args.n - 1) _
    [] (sym (c.in-Some.ensures.line above))))
    (cases_eq c.args.n 0)

pub returns-in-None : goal.returns-in-None
returns-in-None c =
    let text = c.args.self.now in
    ⊎_elim
    (λ zero. sym (ap (line_text text) zero))
    (λ some.
    let above : 0 < c.args.n = omega (arith, some) in
    sym (line_text-at text c.args.n above
    ∙ sym (unwrap_or-slice_get (lines text) (c.args.n - 1) [])
    ∙ ap (λ found. unwrap_or found []) (sym (c.in-None.ensures.line above))))
    (cases_eq c.args.n 0)
