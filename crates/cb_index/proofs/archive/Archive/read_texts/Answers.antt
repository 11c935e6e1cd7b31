use Rattle.std.proofs.Common.{subst}
use Rattle.std.specs.List.{AllByRecursion}
use Rattle.cb_index.specs.Archived.{Archived, AreBytes}
use Rattle.cb_index.proofs.TextLemmas.{all_bytes}
use Rattle.cb_index.proofs.archive.Archive.read_texts.Goals as goal

pub returns : goal.returns
returns c =
    subst (λ (a : Archived). AllByRecursion AreBytes a.texts) c.self.view_is
    (all_bytes c.self.inside.profile c.self.inside.versions.items c.self.invariant)
