-- What an editor folds of a file: the functions that have more than one line.
use Rattle.std.specs.Prelude.{ℕ, ◌-◌, Bool, nat_lt, List, filter, map}
use Rattle.json.specs.Json.{Json}
use Rattle.cb_scan.specs.Lines.{line_of}
use Rattle.cb_scan.specs.Profiles.{ranges_in}
use Rattle.cb_scan.specs.declared.profile.Rules.{Rules}
use Rattle.cb_scan.specs.declared.rules.scope.Range.{Range}
use Rattle.cb_wire.specs.Folds.{fold_of}

-- the line of the name of a function, counted from 0
abbrev pub first_line : List ℕ → Range → ℕ
first_line text r = line_of text r.name.start - 1

-- the line of the last byte of its body
abbrev pub last_line : List ℕ → Range → ℕ
last_line text r = line_of text (r.end - 1) - 1

-- the function has more than one line
abbrev pub has_lines : List ℕ → Range → Bool
has_lines text r = nat_lt (first_line text r) (last_line text r)

-- of some functions of a text those that have more than one line, as lines that are folded
abbrev pub folded : List ℕ → List Range → List Json
folded text rs =
    map (λ r. fold_of (first_line text r) (last_line text r)) (filter (has_lines text) rs)

-- those of all functions that rules find
abbrev pub folds_in : Rules → List ℕ → List Json
folds_in rules text = folded text (ranges_in rules text)
