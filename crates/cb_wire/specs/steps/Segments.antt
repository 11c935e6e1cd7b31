-- The segments of a path, one after another: how long the first one is, and what it adds to the one
-- form.
use Rattle.std.specs.Prelude.{◌==◌, ℕ, not, List, [], ◌∷◌, cond}
use Rattle.std.specs.List.{prefix_len}
use Rattle.cb_wire.specs.Uris.{leads_on, slash}

abbrev pub step_of : List ℕ → List ℕ
step_of segment = cond (leads_on segment) (slash ∷ segment) []

abbrev pub segment_size : List ℕ → ℕ
segment_size path = prefix_len (λ b. not (b == slash)) path
