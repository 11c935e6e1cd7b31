use Rattle.std.proofs.Common.{⊎_elim, sym, subst, arith}
use Rattle.cb_index.specs.Shelved.{CanShow, Shelved}
use Rattle.cb_index.proofs.shelf.Shelf.can_show.Goals as goal

-- what there is room for can be counted
pub returns-in_default-clause-cannot : goal.returns-in_default-clause-cannot
returns-in_default-clause-cannot c = λ up asked-of.
    let room = c.read_room.ensures in
    let asked = subst (λ (s : Shelved). CanShow s c.args.news.now) (sym c.self.view_is) asked-of in
    absurd (⊎_elim (λ n. omega (arith, n, asked.defs, room.defs))
    (λ rest. ⊎_elim (λ n. omega (arith, n, asked.uses, room.uses))
    (λ n. omega (arith, n, asked.calls, room.calls)) rest) c.in_default.ensures)
