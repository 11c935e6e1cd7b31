use Rattle.std.proofs.Common.{◌≡◌, ◌∙◌, None, ap, false, length, subst, sym, true}
use Rattle.std.specs.Prelude.{◌||◌, cond}
use Rattle.cb_scan.specs.lex.Tokens.{bytes_of}
use Rattle.cb_names.specs.Bindings.{declares_name, is_named, scope_of, variable_by}
use Rattle.cb_names.specs.Labels.{span}
use Rattle.cb_names.specs.Pairs.{at}
use Rattle.cb_names.specs.Scoped.{contains, declares, found, is_bare, is_enumerator, is_list}
use Rattle.cb_names.specs.Spaces.{is_ordinary}
use Rattle.cb_names.specs.Tables.{IsTable}
use Rattle.cb_names.specs.steps.Naming.{is_ordinary_by}
use Rattle.cb_names.proofs.VariableLemmas.{ordinary_same, variable_is}
use Rattle.cb_names.proofs.bindings.variable_at.Goals as goal

pub returns-then-not-is_ordinary : goal.returns-then-not-is_ordinary
returns-then-not-is_ordinary c =
    let text = c.args.text.now in
    let xs = c.args.told.shape.now.items.items in
    let b = c.args.told.shape.now.body in
    let k = c.args.index in
    let name = bytes_of text (span (at xs k)) in
    let begun = c.args.told.starts.now in
    let isnt : is_ordinary xs b k ≡ false
    = sym (ordinary_same text xs b begun c.requires.told.starts k c.requires.index)
    ∙ sym (c.is_ordinary.ensures ∙ ap (λ l. is_ordinary_by l begun k) c.as_slice-items.ensures.value)
    ∙ c.if-not-is_ordinary.true in
    λ m own. sym (ap (λ x. cond x
    (variable_by xs (is_named text xs b name) (declares_name text xs m b name) (scope_of xs m b) k) None) isnt)

pub returns-in-Ok : goal.returns-in-Ok
returns-in-Ok c =
    let text = c.args.text.now in
    let xs = c.args.told.shape.now.items.items in
    let b = c.args.told.shape.now.body in
    let k = c.args.index in
    let name = bytes_of text (span (at xs k)) in
    let begun = c.args.told.starts.now in
    let starts_are = c.requires.told.starts in
    let is : is_ordinary xs b k ≡ true
    = sym (ordinary_same text xs b begun starts_are k c.requires.index)
    ∙ sym (c.is_ordinary.ensures ∙ ap (λ l. is_ordinary_by l begun k) c.as_slice-items.ensures.value)
    ∙ c.if-not-is_ordinary.false in
    let name_is = c.bytes_at.ensures ∙ ap (λ l. bytes_of text (span (at l k))) c.as_slice-items.ensures.value in
    λ m own.
    let lists_are = subst (IsTable (is_list xs m b) (length xs)) (sym c.as_slice.ensures.value)
    (subst (λ o. IsTable (λ i. contains (found xs o b).lists i) (length xs) c.in_ok-declared.declared.lists.items) own
    c.in_ok-declared.ensures.lists) in
    let names_are = subst (IsTable (declares xs m b) (length xs)) (sym c.as_slice-2.ensures.value)
    (subst (λ o. IsTable (λ i. contains (found xs o b).names i || is_bare xs o b i || is_enumerator xs b i) (length xs)
    c.in_ok-declared.declared.names.items) own c.in_ok-declared.ensures.names) in
    let scopes_are = subst (IsTable (scope_of xs m b) (length xs)) (sym c.as_slice-3.ensures.value)
    (c.in_ok-scopes.ensures (is_list xs m b) lists_are) in
    c.in-Ok.ensures
    ∙ variable_is text xs b begun starts_are m _ _ _ names_are scopes_are k c.requires.index
    ∙ ap (λ n. variable_by xs (is_named text xs b n) (declares_name text xs m b n) (scope_of xs m b) k) name_is
    ∙ sym (ap (λ x. cond x
    (variable_by xs (is_named text xs b name) (declares_name text xs m b name) (scope_of xs m b) k) None) is)
