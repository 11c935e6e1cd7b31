-- Lists of places that are compared one by one.
use Rattle.std.proofs.Common.{◌≡◌, refl, ap, Bool, true, false, ◌&&◌, eqb}
use Rattle.std.proofs.lemmas.Bool.Decides.{Decides-eqb}
use Rattle.std.specs.Bool.{Decides}
use Rattle.cb_desk.specs.contracts.places.FileLinePartialEq.TheImpl.{eq-value}
use Rattle.cb_desk.specs.declared.places.FileLine.{FileLine}

both_parts : (x y : Bool) → (x && y) ≡ true → (x ≡ true) × (y ≡ true)
both_parts true y is = (refl, is)
both_parts false y is = cc

both_joined : (x y : Bool) → x ≡ true → y ≡ true → (x && y) ≡ true
both_joined x y a b = rw (a, b) refl

-- two places are equal where name and line are
pub same_place : (a b : FileLine) → Decides (eq-value.it a b) (a ≡ b)
same_place a b = (
  λ is.
      let parts = both_parts (eqb a.name b.name) (eqb a.line b.line) is in
      let name = (Decides-eqb a.name b.name).0 parts.0 in
      let line = (Decides-eqb a.line b.line).0 parts.1 in
      λ i. record { name = name i; line = line i },
  λ is. both_joined (eqb a.name b.name) (eqb a.line b.line)
      ((Decides-eqb a.name b.name).1 (ap (λ (p : FileLine). p.name) is))
      ((Decides-eqb a.line b.line).1 (ap (λ (p : FileLine). p.line) is)),
)
