use Rattle.std.proofs.Common.{length, subst, sym}
use Rattle.cb_names.specs.Scoped.{contains, found}
use Rattle.cb_names.specs.Tables.{IsTable}
use Rattle.cb_names.proofs.declared.Told.declared.Goals as goal

pub returns-clause-names : goal.returns-clause-names
returns-clause-names c =
    let xs = c.args.self.now.shape.now.items.items in
    let own = c.args.self.now.own in
    let b = c.args.self.now.shape.now.body in
    c.in_ok-names.ensures (contains (found xs own b).names)
    (subst (IsTable (contains (found xs own b).names) (length xs)) (sym c.as_slice-3.ensures.value) c.in_ok-found.ensures.names)
