-- Which names are visible, by what is known of each token, is as defined.
use Rattle.std.proofs.Common.{◌≡◌, ◌<◌, ℕ, ◌&&◌, [], false, length}
use Rattle.std.specs.Prelude.{nat_le}
use Rattle.cb_names.specs.Visible.{is_visible}
use Rattle.cb_names.specs.declared.visible.Scoped.{Scoped}
use Rattle.cb_names.specs.steps.Binding.{no_scope}
use Rattle.cb_names.specs.steps.Visible.{IsScoped, is_visible_by}
use Rattle.cb_names.proofs.VariableLemmas.{ordinary_same}

pub visible_same : (s : Scoped) → IsScoped s → (k d : ℕ) → d < length s.shape.now.items.items
    → is_visible_by s k d ≡ is_visible s.shape.now.items.items s.name s.shape.now.body k d
visible_same s is k d less =
    (λ i. ordinary_same [] s.shape.now.items.items s.shape.now.body s.starts.now is.starts d less i
    && (is.declares.at d false less i && nat_le k (is.scopes.at d no_scope less i).last))
