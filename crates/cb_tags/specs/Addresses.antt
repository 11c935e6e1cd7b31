-- Addresses: the search patterns by which a tags file says where a definition stands.
use Rattle.std.specs.Prelude.{◌≡◌, ◌≢◌, ◌⊎◌, ℕ, Bool, ◌||◌, ◌==◌, List, [], ◌∷◌, ◌++◌, length}
use Rattle.std.specs.Prelude.{codes, Option, find, if◌then◌else◌}
use Rattle.std.specs.List.{AllByRecursion, flat_map, range_with_len}
use Rattle.std.specs.Str.{bytes_eq}
use Rattle.cb_scan.specs.Bytes.{slash, backslash, line_feed}
use Rattle.cb_scan.specs.Lines.{lines, line_text}

-- the bytes that an address escapes (POSIX ctags): `/` and `\`
abbrev pub is_escaped : ℕ → Bool
is_escaped b = b == slash || b == backslash

-- a byte as an address has it (POSIX ctags)
abbrev pub escaped : ℕ → List ℕ
escaped b = if is_escaped b then backslash ∷ b ∷ [] else b ∷ []

-- the text with `\` before each `/` and each `\`, and nothing else escaped (POSIX ctags; this
-- project's profile for `$` and `^`)
unfoldable pub escape : List ℕ → List ℕ
escape text = flat_map escaped text

-- the address of a line that reads so (POSIX ctags): the whole line between `/^` and `$/`
unfoldable pub address : List ℕ → List ℕ
address text = codes "/^" ++ escape text ++ codes "$/"

-- the items of an address, and what they stand for (this project's profile): `\/` is `/`, `\\` is
-- `\`, and a byte other than `/`, `\` and LF is itself
pub data Items : List ℕ → List ℕ → Type 0 where
  no_item : Items [] []
  escaped_item : {a b : ℕ} {items text : List ℕ} → a ≡ backslash → (b ≡ slash) ⊎ (b ≡ backslash)
      → Items items text → Items (a ∷ b ∷ items) (b ∷ text)
  own_item : {b : ℕ} {items text : List ℕ} → b ≢ slash → b ≢ backslash → b ≢ line_feed
      → Items items text → Items (b ∷ items) (b ∷ text)

-- the bytes are an address, whole, and this is its text (POSIX ctags): `/^`, items, `$/`
abbrev pub IsAddress : List ℕ → List ℕ → Type 0
IsAddress bytes text =
    (items : List ℕ) × (bytes ≡ codes "/^" ++ items ++ codes "$/") × Items items text

-- the place that an address with this text finds (tags(5)): the first n whose shown line is the
-- text, counted from 1
unfoldable pub finds : List ℕ → List ℕ → Option ℕ
finds source text =
    find (λ n. bytes_eq text (line_text source n)) (range_with_len 1 (length (lines source)))

-- the text has no line feed
abbrev pub IsOneLine : List ℕ → Type 0
IsOneLine text = AllByRecursion (λ b. b ≢ line_feed) text
