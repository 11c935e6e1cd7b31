use Rattle.std.proofs.Common.{◌≡◌, ◌≤◌, ◌++◌, ap, refl, List, [], ◌∷◌, length, subst, arith}
use Rattle.std.specs.List.{flat_map}
use Rattle.cb_desk.specs.Models.{row_of}
use Rattle.cb_session.specs.Output.{count_line, row_line}
use Rattle.cb_session.specs.Writing.{Puts}
use Rattle.cb_session.proofs.Puts.{Puts-unfinished, WrittenAfter-all, WrittenAfter-fault}
use Rattle.cb_session.proofs.Puts.{WrittenAfter-more}
use Rattle.cb_session.proofs.reply.put_rows.Goals as goal
use Rattle.cb_session.proofs.reply.put_rows.Goals.{in-Some+in_ok-put_row-in-Some, in-None}

nothing-left : {X : Type 0} (xs : List X) → length xs ≤ 0 → xs ≡ []
nothing-left [] few = refl
nothing-left (x ∷ xs) few = absurd (omega arith)

pub returns-in_err-put_count : goal.returns-in_err-put_count
returns-in_err-put_count g c =
    let k = c.in_err-put_count.ensures in
    subst (λ n. Puts c.args.out.now c.put_count.new.out c.from_residual.result
    (count_line n ++ flat_map row_line c.args.rows)) c.count_left-count.ensures
    (Puts-unfinished _ _ _ _ _ _ c.from_residual.ensures.1 k.1 k.0)

pub returns-in_err-put_row-in-Some : goal.returns-in_err-put_row-in-Some
returns-in_err-put_row-in-Some g c =
    let k = c.in_err-put_row-in-Some.ensures in
    WrittenAfter-fault _ row_line _ _ _ _ _ _ (row_of c.in-Some.row) _ _ c.rows.invariant.wrote
    c.in-Some.ensures.steps c.from_residual-in_err-put_row-in-Some.ensures.1 k.1 k.0

pub rows-preserved : goal.rows-preserved
rows-preserved g c =
    elim c.match-next.branch [
      | in-Some+in_ok-put_row-in-Some w ↦
          let fewer = ap length w.in-Some.ensures.steps in
          let left = c.rows.invariant.left in
          record {
            wrote =
                rw w.out-is (WrittenAfter-more _ row_line _ _ _ _ _ _ (row_of w.in-Some.row)
                c.rows.invariant.wrote w.in-Some.ensures.steps w.in_ok-put_row-in-Some.ensures.0);
            left = omega (arith, fewer, left);
          }
      | in-None w ↦
          let none = ap length w.in-None.ensures.steps.0 in
          let left = c.rows.invariant.left in
          let before = c.rows-test.true in
          let counted = c.count_left-count.ensures in
          absurd (omega (arith, none, left, before, counted))
    ]

pub returns : goal.returns
returns g c =
    let counted = c.count_left-count.ensures in
    let left = c.rows.invariant.left in
    let after = c.rows-test.false in (
      WrittenAfter-all _ row_line _ _ _ _ c.rows.invariant.wrote
          (nothing-left _ (omega (arith, left, after, counted))),
      tt,
    )
