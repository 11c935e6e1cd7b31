-- Items whose row is that of an earlier item.
use Rattle.std.specs.Prelude.{ℕ, zero, suc, Bool, false, ◌&&◌, ◌||◌, []}
use Rattle.cb_index.specs.Counts.{same_row}
use Rattle.cb_index.specs.Items.{have_one_key}
use Rattle.cb_index.specs.steps.Found.{fact_at}
use Rattle.cb_index.specs.Scanned.{Scanned}
use Rattle.cb_index.specs.declared.entry.FactKind.{FactKind}

-- whether one of the numbers below one passes a test
unfoldable pub any_below : (ℕ → Bool) → ℕ → Bool
any_below p zero = false
any_below p (suc n) = p n || any_below p n

-- whether two items have one key, and equal rows under it
abbrev pub have_one_row : FactKind → Scanned → ℕ → ℕ → Bool
have_one_row sort text i j =
    same_row sort (fact_at sort [] text j) (fact_at sort [] text i) && have_one_key sort text i j

-- whether an item before an item has its key and its row
abbrev pub is_repeat : FactKind → Scanned → ℕ → Bool
is_repeat sort text item = any_below (have_one_row sort text item) item
