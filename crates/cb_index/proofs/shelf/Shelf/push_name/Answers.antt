use Rattle.std.proofs.Common.{◌∙◌, [], ◌∷◌, refl, sym}
use Rattle.std.proofs.lemmas.List.{append-nil}
use Rattle.cb_index.proofs.KeptLemmas.{kept_more}
use Rattle.cb_index.proofs.TotalLemmas.{totals_moved}
use Rattle.cb_index.proofs.shelf.Shelf.push_name.Goals as goal

-- what is shown is still there
pub invariant_of-self : goal.invariant_of-self
invariant_of-self c = (
  kept_more c.self.inside.archive c.push_name.new.self c.self.inside.shown.items
      c.self.inside.indexes
      (c.args.name.items ∷ []) [] c.push_name.ensures.profile c.push_name.ensures.names
      (c.push_name.ensures.texts ∙ sym (append-nil _)) c.self.invariant.0,
  totals_moved c.self.inside.archive c.push_name.new.self c.self.inside.shown.items
      _ c.self.inside.totals
      c.push_name.ensures.profile c.push_name.ensures.texts refl c.self.invariant.1,
  c.self.invariant.2,
)
