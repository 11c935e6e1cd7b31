use Rattle.std.proofs.Common.{length, subst, sym}
use Rattle.std.specs.Prelude.{◌||◌}
use Rattle.cb_names.specs.Bindings.{scope_of}
use Rattle.cb_names.specs.Scoped.{contains, declares, found, is_bare, is_enumerator, is_list}
use Rattle.cb_names.specs.Tables.{IsTable}
use Rattle.cb_names.proofs.visible.visible_told.Goals as goal

pub visible-requires-clause-scoped : goal.visible-requires-clause-scoped
visible-requires-clause-scoped c =
    let xs = c.args.told.shape.now.items.items in
    let b = c.args.told.shape.now.body in
    let m = c.args.name in
    let own = c.requires.own in
    let lists_are = subst (IsTable (is_list xs m b) (length xs)) (sym c.as_slice.ensures.value)
    (subst (λ o. IsTable (λ i. contains (found xs o b).lists i) (length xs) c.in_ok-declared.declared.lists.items) own
    c.in_ok-declared.ensures.lists) in
    record {
      shape = c.requires.told.shape;
      starts = c.requires.told.starts;
      declares = subst (IsTable (declares xs m b) (length xs)) (sym c.as_slice-2.ensures.value)
          (subst (λ o. IsTable (λ i. contains (found xs o b).names i || is_bare xs o b i || is_enumerator xs b i) (length xs)
          c.in_ok-declared.declared.names.items) own c.in_ok-declared.ensures.names);
      scopes = subst (IsTable (scope_of xs m b) (length xs)) (sym c.as_slice-3.ensures.value)
          (c.in_ok-scopes.ensures (is_list xs m b) lists_are);
    }
