-- Lists of one answer for each token.
use Rattle.std.specs.Prelude.{◌≡◌, ◌<◌, ℕ, Bool, List, filter, length, map, slice_index_or}
use Rattle.std.specs.List.{range_with_len}

-- a list has the answer of f for each of the first n indices
pub record IsTable {A : Type 0} (f : ℕ → A) (n : ℕ) (xs : List A) : Type 0 where
  pub len : length xs ≡ n
  pub at : (i : ℕ) (d : A) → i < n → slice_index_or xs i d ≡ f i

-- what f gives for those of the first n indices that pass a test
abbrev pub those_where : {A : Type 0} → (ℕ → A) → (ℕ → Bool) → ℕ → List A
those_where f test n = map f (filter test (range_with_len 0 n))
