use Rattle.std.proofs.Common.{◌∙◌, [], ◌∷◌, sym}
use Rattle.std.proofs.lemmas.List.{append-nil}
use Rattle.cb_index.proofs.KeptLemmas.{kept_more}
use Rattle.cb_index.proofs.TotalLemmas.{totals_more}
use Rattle.cb_index.proofs.shelf.Shelf.push_version.Goals as goal

-- what is shown is still there
pub invariant_of-self : goal.invariant_of-self
invariant_of-self c = (
  kept_more c.self.inside.archive c.push_version.new.self c.self.inside.shown.items
      c.self.inside.indexes
      [] (c.args.version.bytes ∷ []) c.push_version.ensures.profile (c.push_version.ensures.names ∙
      sym (append-nil _))
      c.push_version.ensures.texts c.self.invariant.0,
  totals_more c.self.inside.archive c.push_version.new.self c.self.inside.shown.items
      c.self.inside.totals
      (c.args.version.bytes ∷ []) c.push_version.ensures.profile c.push_version.ensures.texts
      c.self.invariant.0.there
      c.self.invariant.1,
  c.self.invariant.2,
)
