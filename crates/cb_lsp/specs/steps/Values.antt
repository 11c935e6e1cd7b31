-- What values of parameters stand for.
use Rattle.std.specs.Prelude.{Option}
use Rattle.std.specs.Borrow.{Bor}
use Rattle.std.specs.Option.{option_map}
use Rattle.json.specs.Json.{Json}
use Rattle.json.specs.Value.{value_view}
use Rattle.json.specs.declared.value.Value.{Value}

-- a value, if it is there
abbrev pub seen : {A : Type 0} → Option (Bor (Value A)) → Option Json
seen value = option_map (λ v. value_view v.now) value
