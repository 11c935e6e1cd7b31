-- Orders of which a second one counts where the first says that two are equal.
use Rattle.std.proofs.Common.{◌≡◌, ◌∙◌, refl, ap}
use Rattle.std.specs.Ordering.{ordering_then}
use Rattle.std.specs.declared.cmp.Ordering.{Ordering}
use Rattle.std.specs.declared.cmp.Ordering.TheVariants.{Less, Equal, Greater}

pub settled : {first : Ordering} (o rest : Ordering) → (o ≡ Equal → ⊥) → o ≡ first
    → o ≡ ordering_then first rest
settled o rest isnt is = by_order o isnt ∙ ap (λ p. ordering_then p rest) is
  where
    by_order : (p : Ordering) → (p ≡ Equal → ⊥) → p ≡ ordering_then p rest
    by_order Less isnt = refl
    by_order Equal isnt = absurd (isnt refl)
    by_order Greater isnt = refl
