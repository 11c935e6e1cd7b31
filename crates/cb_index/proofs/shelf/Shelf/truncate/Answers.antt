use Rattle.std.proofs.Common.{◌<◌, sym, ap, subst}
use Rattle.std.specs.List.{AllByRecursion}
use Rattle.cb_index.specs.declared.entry.Shown.{Shown}
use Rattle.cb_index.proofs.KeptLemmas.{kept_front}
use Rattle.cb_index.proofs.TotalLemmas.{totals_front}
use Rattle.cb_index.proofs.shelf.Shelf.truncate.Goals as goal

-- what is shown is among the first
pub invariant_of-self : goal.invariant_of-self
invariant_of-self c = (
  kept_front c.self.inside.archive c.truncate.new.self c.self.inside.shown.items
      c.self.inside.indexes c.args.versions c.args.names
      (subst (AllByRecursion (λ (s : Shown). (s.version < c.args.versions)
      × (s.name < c.args.names))) (sym (ap (λ s. s.shown) c.self.view_is)) c.requires)
      c.truncate.ensures.profile c.truncate.ensures.names c.truncate.ensures.texts
      c.self.invariant.0,
  totals_front c.self.inside.archive c.truncate.new.self c.self.inside.shown.items
      c.self.inside.totals
      c.args.versions c.args.names c.truncate.ensures.profile c.truncate.ensures.texts
      (subst (AllByRecursion (λ (s : Shown). (s.version < c.args.versions)
      × (s.name < c.args.names))) (sym (ap (λ s. s.shown) c.self.view_is)) c.requires)
      c.self.invariant.1,
  c.self.invariant.2,
)
