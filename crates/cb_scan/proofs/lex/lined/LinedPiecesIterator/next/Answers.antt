use Rattle.std.proofs.Common.{◌∙◌, ◌-◌, arith, drop, length, sym, take}
use Rattle.std.proofs.lemmas.Bool.{eqb-true}
use Rattle.cb_scan.proofs.LinedPieces.{line_after, line-small, lined-empty, lined-next, no_feeds}
use Rattle.cb_scan.proofs.PieceLists.{gave_first, some_left}
use Rattle.cb_scan.proofs.lex.lined.LinedPiecesIterator.next.Goals as goal

pub returns-then-is_empty-clause-steps : goal.returns-then-is_empty-clause-steps
returns-then-is_empty-clause-steps c =
    let none = sym c.self.view_is
    ∙ lined-empty c.self.inside.text.now c.self.inside.at
    (eqb-true _ _ (sym c.is_empty.ensures ∙ c.if-is_empty.true)) in
    (none, none)

pub feeds_at-requires-clause-none : goal.feeds_at-requires-clause-none
feeds_at-requires-clause-none c =
    let text = c.self.inside.text.now in
    let place = c.self.inside.at in
    let rest = take (length text - place) (drop place text) in
    no_feeds place rest c.first_piece-piece.result
    (some_left (length rest) (sym c.is_empty.ensures ∙ c.if-is_empty.false)) c.first_piece-piece.ensures.value

pub overflow_add-self : goal.overflow_add-self
overflow_add-self c =
    let text = c.self.inside.text.now in
    let inv = c.self.invariant in
    let piece = c.first_piece-piece.ensures in
    let end = c.first_piece-piece.result.span.end in
    let after = line_after text c.self.inside.at end c.self.inside.line c.feeds_at.result inv.1
    (omega arith) piece.within inv.2 c.feeds_at.ensures in
    let small = line-small text end after.0 in
    omega arith

pub invariant_of-self : goal.invariant_of-self
invariant_of-self c =
    let text = c.self.inside.text.now in
    let inv = c.self.invariant in
    let piece = c.first_piece-piece.ensures in
    let end = c.first_piece-piece.result.span.end in
    let after = line_after text c.self.inside.at end c.self.inside.line c.feeds_at.result inv.1
    (omega arith) piece.within inv.2 c.feeds_at.ensures in
    (inv.0, after.0, after.1)

pub returns-clause-steps : goal.returns-clause-steps
returns-clause-steps c =
    let text = c.self.inside.text.now in
    let place = c.self.inside.at in
    let rest = take (length text - place) (drop place text) in
    let some = some_left (length rest) (sym c.is_empty.ensures ∙ c.if-is_empty.false) in
    sym c.self.view_is ∙ lined-next text place c.self.inside.line c.first_piece-piece.result some
    c.first_piece-piece.ensures.value c.self.invariant.2

pub returns-clause-goes : goal.returns-clause-goes
returns-clause-goes c =
    let text = c.self.inside.text.now in
    let place = c.self.inside.at in
    let rest = take (length text - place) (drop place text) in
    let some = some_left (length rest) (sym c.is_empty.ensures ∙ c.if-is_empty.false) in
    gave_first _ (λ _. tt) _ _ _
    (sym c.self.view_is ∙ lined-next text place c.self.inside.line c.first_piece-piece.result some
    c.first_piece-piece.ensures.value c.self.invariant.2)
