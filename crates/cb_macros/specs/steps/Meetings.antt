-- What the values of the search stand for in the definitions.
use Rattle.std.specs.Prelude.{ℕ, Bool, List, [], map}
use Rattle.cb_macros.specs.Meeting as definition
use Rattle.cb_macros.specs.Meeting.{calls_argument, has_either, makes_other, takes_arguments}
use Rattle.cb_macros.specs.declared.met.Met.{Met}
use Rattle.cb_macros.specs.declared.met.Seen.{Seen}
use Rattle.cb_macros.specs.declared.search.Sought.{Sought}
use Rattle.cb_macros.specs.declared.search.Sought.TheVariants.{Calls, Either, Makes, Takes}

abbrev pub met_of : Met → definition.Met
met_of m = record { name = m.name.now; through = m.through.now }

abbrev pub seen_of : Seen → definition.Seen
seen_of s = record { all = map met_of s.all.items; fresh = map met_of s.fresh.items }

abbrev pub nothing_seen : definition.Seen
nothing_seen = record { all = []; fresh = [] }

-- a text has what is sought
abbrev pub sought_in : Sought → List ℕ → Bool
sought_in (Either one other) = has_either one.now other.now
sought_in Makes = makes_other
sought_in Takes = takes_arguments
sought_in Calls = calls_argument
