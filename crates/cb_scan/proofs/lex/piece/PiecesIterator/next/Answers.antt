use Rattle.std.proofs.Common.{◌∙◌, length, sym}
use Rattle.std.proofs.lemmas.Bool.{eqb-true}
use Rattle.cb_scan.proofs.PieceLists.{gave_first, pieces-empty, pieces-next, some_left}
use Rattle.cb_scan.proofs.lex.piece.PiecesIterator.next.Goals as goal

pub returns-then-is_empty-clause-steps : goal.returns-then-is_empty-clause-steps
returns-then-is_empty-clause-steps c =
    let none = sym c.self.view_is
    ∙ pieces-empty c.self.inside.at c.self.inside.rest.now
    (eqb-true _ _ (sym c.is_empty.ensures ∙ c.if-is_empty.true)) in
    (none, none)

pub returns-clause-steps : goal.returns-clause-steps
returns-clause-steps c =
    let rest = c.self.inside.rest.now in
    let some = some_left (length rest) (sym c.is_empty.ensures ∙ c.if-is_empty.false) in
    sym c.self.view_is ∙ pieces-next c.self.inside.at rest c.first_piece-piece.result some
    c.first_piece-piece.ensures.value

pub returns-clause-goes : goal.returns-clause-goes
returns-clause-goes c =
    let rest = c.self.inside.rest.now in
    let some = some_left (length rest) (sym c.is_empty.ensures ∙ c.if-is_empty.false) in
    gave_first _ (λ _. tt) _ _ _
    (sym c.self.view_is ∙ pieces-next c.self.inside.at rest c.first_piece-piece.result some
    c.first_piece-piece.ensures.value)
