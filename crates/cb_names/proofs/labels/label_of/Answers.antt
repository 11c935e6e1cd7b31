use Rattle.std.proofs.Common.{◌∙◌, true, Some, sym, ap}
use Rattle.std.specs.Option.{option_map}
use Rattle.cb_names.specs.Labels.{span}
use Rattle.cb_names.specs.Pairs.{at}
use Rattle.cb_names.specs.steps.Labelling.{definition_by, names_label_by, uses_by}
use Rattle.cb_names.proofs.LabelLemmas.{definition_same, named, names_same, unnamed, uses_same}
use Rattle.cb_names.proofs.labels.label_of.Goals as goal

pub returns-in_ok-uses : goal.returns-in_ok-uses
returns-in_ok-uses c =
    let s = c.args.shape.now in
    let xs = s.items.items in
    let items = c.as_slice-items.ensures.value in
    let is = sym (names_same c.args.text.now xs s.body c.args.k c.args.begun.now c.requires.starts c.args.k c.requires.index)
    ∙ (λ i. names_label_by (sym items i) (sym c.begins.ensures i) c.args.k)
    ∙ sym c.names_label.ensures ∙ c.if-names_label.true in
    let def_is = c.definition_of.ensures
    ∙ ap (λ l. definition_by c.args.text.now l c.args.begun.now c.args.k) items
    ∙ ap (option_map (λ j. span (at xs j)))
    (definition_same c.args.text.now xs s.body c.args.k c.args.begun.now c.requires.starts) in
    let uses_are = c.in_ok-uses.ensures
    ∙ ap (λ l. uses_by c.args.text.now l c.args.begun.now c.args.k) items
    ∙ uses_same c.args.text.now xs s.body c.args.k c.args.begun.now c.requires.starts in
    (λ i. Some (record { definition = def_is i; uses = uses_are i; is_label = true }))
    ∙ sym (named c.args.text.now xs s.body c.args.k c.args.begun.now c.requires.starts c.requires.index is)

pub returns-else-names_label : goal.returns-else-names_label
returns-else-names_label c =
    let s = c.args.shape.now in
    let xs = s.items.items in
    let items = c.as_slice-items.ensures.value in
    let isnt = sym (names_same c.args.text.now xs s.body c.args.k c.args.begun.now c.requires.starts c.args.k c.requires.index)
    ∙ (λ i. names_label_by (sym items i) (sym c.begins.ensures i) c.args.k)
    ∙ sym c.names_label.ensures ∙ c.if-names_label.false in
    sym (unnamed c.args.text.now xs s.body c.args.k c.args.begun.now c.requires.starts isnt)
