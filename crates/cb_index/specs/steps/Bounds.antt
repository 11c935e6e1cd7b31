-- What stands ahead of a bound.
use Rattle.std.specs.Prelude.{ℕ, Bool, List, not}
use Rattle.std.specs.Cmp.Lexicographic.{slice_cmp}
use Rattle.std.specs.Ordering.{is_gt, is_lt, nat_cmp}
use Rattle.cb_scan.specs.Order.{goes_first}
use Rattle.cb_index.specs.Archived.{Archived, name_of}
use Rattle.cb_index.specs.Entries.{Keyer, key_cmp, sort_key}
use Rattle.cb_index.specs.declared.entry.Posting.{Posting}
use Rattle.cb_index.specs.declared.entry.Shown.{Shown}
use Rattle.cb_index.specs.declared.order.Side.{Side}
use Rattle.cb_index.specs.declared.order.Side.TheVariants.{Behind, Before, After}

-- whether an entry stands ahead of a bound
unfoldable pub is_ahead : Keyer → Archived → Side → Posting → Bool
is_ahead keyer a (Behind one) e = goes_first (sort_key keyer a) e one
is_ahead keyer a (Before prefix key) e = is_gt (key_cmp keyer a prefix key.now e)
is_ahead keyer a (After prefix key) e = not (is_lt (key_cmp keyer a prefix key.now e))

-- the name of a file is below a name
abbrev pub is_below : Archived → List ℕ → Shown → Bool
is_below a name s = is_lt (slice_cmp nat_cmp (name_of a s.name) name)

-- the name of a file is not above a name
abbrev pub is_up_to : Archived → List ℕ → Shown → Bool
is_up_to a name s = not (is_gt (slice_cmp nat_cmp (name_of a s.name) name))
