use Rattle.std.proofs.Common.{◌∙◌, ◌++◌, ap, length, subst, sym}
use Rattle.std.specs.Prelude.{◌||◌}
use Rattle.cb_names.specs.Bindings.{scope_of}
use Rattle.cb_names.specs.Scoped.{contains, declares, found, is_bare, is_enumerator, is_list}
use Rattle.cb_names.specs.Tables.{IsTable}
use Rattle.cb_names.proofs.VariableLemmas.{own_is}
use Rattle.cb_names.proofs.bindings.push_own.Goals as goal

pub returns : goal.returns
returns c =
    let text = c.args.text.now in
    let xs = c.args.told.shape.now.items.items in
    let b = c.args.told.shape.now.body in
    λ m own.
    let lists_are = subst (IsTable (is_list xs m b) (length xs)) (sym c.as_slice.ensures.value)
    (subst (λ o. IsTable (λ i. contains (found xs o b).lists i) (length xs) c.in_ok-declared.declared.lists.items) own
    c.in_ok-declared.ensures.lists) in
    let names_are = subst (IsTable (declares xs m b) (length xs)) (sym c.as_slice-2.ensures.value)
    (subst (λ o. IsTable (λ i. contains (found xs o b).names i || is_bare xs o b i || is_enumerator xs b i) (length xs)
    c.in_ok-declared.declared.names.items) own c.in_ok-declared.ensures.names) in
    let scopes_are = subst (IsTable (scope_of xs m b) (length xs)) (sym c.as_slice-3.ensures.value)
    (c.in_ok-scopes.ensures (is_list xs m b) lists_are) in
    c.in_ok-push_own.ensures
    ∙ ap (λ l. c.args.found.now.items ++ l)
    (own_is text xs b c.args.told.starts.now c.requires.told.starts m _ _ c.args.name.now names_are scopes_are)
