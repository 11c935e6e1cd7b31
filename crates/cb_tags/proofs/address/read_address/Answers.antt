use Rattle.std.proofs.Common.{◌∙◌, sym}
use Rattle.cb_tags.proofs.Anchors.{not_items}
use Rattle.cb_tags.proofs.ItemLemmas.{read-Items}
use Rattle.cb_tags.proofs.address.read_address.Goals as goal
use Rattle.cb_tags.proofs.address.read_address.Goals.{in_default-via-in-Some+else-are_items}
use Rattle.cb_tags.proofs.address.read_address.Goals.{in_default-via-in_default}

pub returns-in-Some : goal.returns-in-Some
returns-in-Some c = (
  c.in-Some.items.now,
  c.in-Some.ensures,
  read-Items c.in-Some.items.now
      (sym c.are_items.ensures ∙ c.if-are_items.true),
)

pub returns-in_default : goal.returns-in_default
returns-in_default c = elim c.in_default.branch [
  | in_default-via-in-Some+else-are_items w ↦ not_items _ _ w.in-Some.ensures
      (sym w.are_items.ensures ∙ w.if-are_items.false)
  | in_default-via-in_default w ↦ λ text p. w.in_default.ensures p.0 p.1
]
