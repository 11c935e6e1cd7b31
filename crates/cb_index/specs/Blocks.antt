-- Elements that are kept in blocks.
use Rattle.std.specs.Prelude.{ℕ, ◌≡◌, ◌≤◌, ◌<◌, ◌+◌, ◌-◌, Bool, false, true, List, [], ◌∷◌, drop}
use Rattle.std.specs.Prelude.{length, slice_index_or, take}
use Rattle.std.specs.List.{AllByRecursion, flat_map}

-- the elements of each block with some, and how many blocks there are in all
pub record Parted (T : Type 0) : Type 0 where
  pub used : List (List T)
  pub count : ℕ

-- the elements of a list, and for how many there is room
pub record Listing (T : Type 0) : Type 0 where
  pub items : List T
  pub room : ℕ

-- the elements of blocks, one block after another
abbrev pub joined : {T : Type 0} → List (List T) → List T
joined blocks = flat_map (λ block. block) blocks

-- a block has an element
abbrev pub IsFilled : {T : Type 0} → List T → Type 0
IsFilled block = 0 < length block

-- no block is empty, and all blocks have room among those that are used and among those to spare
pub record AreBlocks {T : Type 0} (used : List (List T)) (count used_room spare_room : ℕ)
    : Type 0 where
  pub filled : AllByRecursion IsFilled used
  pub used_fits : count ≤ used_room
  pub spare_fits : count ≤ spare_room

-- a place in a block, which is there unless there are no blocks
abbrev pub IsPlace : {T : Type 0} → List (List T) → ℕ → ℕ → Type 0
IsPlace blocks block at =
    (block ≤ length blocks - 1) × (at ≤ length (slice_index_or blocks block []))

-- how many elements stand ahead of a place
abbrev pub before : {T : Type 0} → List (List T) → ℕ → ℕ → ℕ
before blocks block at = length (joined (take block blocks)) + at

-- the place behind the elements of blocks that pass a test. It is in the last block that begins
-- with one, else at the start
pub record IsPlaceOf {T : Type 0} (p : T → Bool) (blocks : List (List T)) (block at : ℕ)
    : Type 0 where
  pub place : IsPlace blocks block at
  pub ahead : AllByRecursion (λ e. p e ≡ true) (take (before blocks block at) (joined blocks))
  pub behind : AllByRecursion (λ e. p e ≡ false) (drop (before blocks block at) (joined blocks))
  pub start : at ≡ 0 → block ≡ 0

-- of two elements of which the later passes a test the earlier passes it too
abbrev pub AreParted : {T : Type 0} → (T → Bool) → List T → Type 0
AreParted p [] = Unit {0}
AreParted p (x ∷ xs) = (p x ≡ false → AllByRecursion (λ y. p y ≡ false) xs) × AreParted p xs

-- whether the first element passes a test
unfoldable pub head_is : {T : Type 0} → (T → Bool) → List T → Bool
head_is p [] = false
head_is p (e ∷ es) = p e
