-- The renaming from one list of places to another.
use Rattle.std.specs.Prelude.{◌≡◌, ◌+◌, ◌-◌, ◌^◌, ℕ, Bool, true, false, List, nat_eq, nat_le}
use Rattle.std.specs.Prelude.{min, max, not, if◌then◌else◌}
use Rattle.std.specs.List.{count_by, prefix_len}
use Rattle.cb_desk.specs.declared.renaming.Renaming.{Renaming}
use Rattle.cb_desk.specs.declared.places.FileLine.{FileLine}
use Rattle.cb_desk.specs.steps.Edits.{Edits, both, each, renamed, renaming, turned_renaming}

-- a renaming makes one list from the other, and back
abbrev pub LeadsBetween : Renaming → (old new : List FileLine) → Type 0
LeadsBetween r old new = (renamed r old ≡ new) × (renamed (turned_renaming r) new ≡ old)

-- how many places come before the first one of a file
abbrev pub count_before : List FileLine → ℕ → ℕ
count_before ps name = prefix_len (λ (p : FileLine). not (nat_eq p.name name)) ps

-- how many places of a file there are
abbrev pub count_of : List FileLine → ℕ → ℕ
count_of ps name = count_by (λ (p : FileLine). nat_eq p.name name) ps

-- so many places of a file stand behind `before` others in one list and behind `after` others in
-- the other: the places between these two change sides with them
abbrev pub renaming_over : (from to count before after : ℕ) → Renaming
renaming_over from to count before after = record {
  from = from;
  to = to;
  start = min before after;
  end = min (max before after + count) (2 ^ 64 - 1);
  split = if nat_le before after then count else before - after;
  back = if nat_le before after then after - before else count;
}

-- the renaming between two lists in each of which the places of the file are together
abbrev pub renaming_between : (from to : ℕ) → (old new : List FileLine) → Renaming
renaming_between from to old new =
    renaming_over from to (count_of old from) (count_before old from) (count_before new to)

-- edits are kept as a renaming
abbrev pub is_renaming : Edits → Bool
is_renaming (each es) = false
is_renaming (both old new) = false
is_renaming (renaming r) = true
