-- Numbers of names.
use Rattle.std.specs.Prelude.{ℕ, ◌≡◌, Bool, false, List, map, nat_eq}
use Rattle.std.specs.List.{list_any}
use Rattle.cb_scan.specs.Order.{AreOrdered}
use Rattle.cb_index.specs.declared.entry.Shown.{Shown}

-- whether a number is one of these
abbrev pub is_among : List ℕ → ℕ → Bool
is_among numbers n = list_any (nat_eq n) numbers

-- the numbers of the names of files
abbrev pub names_of : List Shown → List ℕ
names_of files = map (λ (s : Shown). s.name) files

-- no two of these have one number
abbrev pub AreSingle : List Shown → Type 0
AreSingle files = AreOrdered (λ (s t : Shown). nat_eq s.name t.name ≡ false) files
