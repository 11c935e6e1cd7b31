use Rattle.std.proofs.Common.{refl}
use Rattle.cb_wire.proofs.Arrays.{location-numbers, range-numbers, symbol-numbers}
use Rattle.cb_wire.proofs.Arrays.{call-item-numbers, calls-depth, calls-numbers}
use Rattle.cb_wire.proofs.Arrays.{tree-symbol-numbers}
use Rattle.cb_wire.specs.Calls.{side_name}
use Rattle.cb_wire.proofs.Completions.{item-numbers}
use Rattle.cb_wire.proofs.Folds.{fold-numbers}
use Rattle.cb_wire.proofs.Locations.{highlight-depth, kind-numbers}
use Rattle.cb_wire.proofs.laws.places_are_values.Goals as goal

pub returns-clause-range : goal.returns-clause-range
returns-clause-range c = λ r p. (range-numbers r p, refl)

pub returns-clause-location : goal.returns-clause-location
returns-clause-location c = λ l p. (location-numbers l p, refl)

pub returns-clause-highlight : goal.returns-clause-highlight
returns-clause-highlight c = λ h p.
    ((range-numbers h.range p, kind-numbers h.kind), highlight-depth h.range h.kind)

pub returns-clause-symbol : goal.returns-clause-symbol
returns-clause-symbol c = λ s k p. (symbol-numbers s k p, refl)

pub returns-clause-tree_symbol : goal.returns-clause-tree_symbol
returns-clause-tree_symbol c = λ s k p q. (tree-symbol-numbers s k p q, refl)

pub returns-clause-call_item : goal.returns-clause-call_item
returns-clause-call_item c = λ i k p q. (call-item-numbers i k p q, refl)

pub returns-clause-calls : goal.returns-clause-calls
returns-clause-calls c = λ side i rs k p q all.
    (calls-numbers (side_name side) i rs k p q all, calls-depth (side_name side) i rs)

pub returns-clause-completion : goal.returns-clause-completion
returns-clause-completion c = λ d k. (item-numbers d k, refl)

pub returns-clause-fold : goal.returns-clause-fold
returns-clause-fold c = λ f first last. (fold-numbers f first last, refl)
