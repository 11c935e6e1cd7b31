-- How the files of a closure are found, a step at a time.
use Rattle.std.specs.Prelude.{◌≡◌, ℕ, ◌+◌, ◌≤◌, Bool, false, ◌||◌, ◌&&◌, not, List, [], ◌∷◌, ◌++◌}
use Rattle.std.specs.Prelude.{codes, drop, filter, fold, length, map, Option, None, Some}
use Rattle.std.specs.Prelude.{if◌then◌else◌}
use Rattle.std.specs.Borrow.{Bor}
use Rattle.std.specs.BTreeMap as tree
use Rattle.std.specs.BTreeSet.{BTreeSet}
use Rattle.std.specs.BTreeSet as sorted
use Rattle.std.specs.Cmp.Lexicographic.{slice_cmp}
use Rattle.std.specs.List.{list_any}
use Rattle.std.specs.Option.{option_map_or}
use Rattle.std.specs.Ordering.{nat_cmp}
use Rattle.std.specs.Str.{bytes_eq}
use Rattle.cb_desk.specs.World.{File}
use Rattle.cb_lsp.specs.Closures.{folder_from, nearer, nearest_of}
use Rattle.cb_lsp.specs.Headers.{folder_length, without_dots}
use Rattle.cb_lsp.specs.declared.closure.Closure.{Closure}
use Rattle.cb_lsp.specs.declared.closure.Lasts.{Lasts}
use Rattle.cb_lsp.specs.declared.closure.Search.{Search}

-- ---- the file that a header means

-- a header begins with `../`
abbrev pub begins_above : (header : List ℕ) → Bool
begins_above [] = false
begins_above (a ∷ []) = false
begins_above (a ∷ b ∷ []) = false
begins_above (a ∷ b ∷ c ∷ rest) = bytes_eq (a ∷ b ∷ c ∷ []) (codes "../")

-- the names of files
abbrev pub names_of : List File → List (List ℕ)
names_of fs = map (λ (f : File). f.name) fs

-- a name is one of some
abbrev pub is_one_of : List (List ℕ) → (name : List ℕ) → Bool
is_one_of names name = list_any (λ other. bytes_eq other name) names

-- a name, if it is one of some
abbrev pub if_among : List (List ℕ) → (name : List ℕ) → Option (List ℕ)
if_among names name = if is_one_of names name then Some name else None

-- the file of a header that is named from a folder, if it is one of these
abbrev pub beside_among : List (List ℕ) → (folder header : List ℕ) → Option (List ℕ)
beside_among names folder header =
    option_map_or (λ (base : List ℕ). if_among names (base ++ without_dots header))
    (folder_from header folder) None

-- the nearest of the one that is known, if one is, and others
abbrev pub nearest_with : (from : List ℕ) → Option (List ℕ) → List (List ℕ) → Option (List ℕ)
nearest_with from None names = nearest_of from names
nearest_with from (Some one) names = Some (fold (nearer from) one names)

-- the last part of a name: what follows its last slash
abbrev pub last_of : (name : List ℕ) → List ℕ
last_of name = drop (folder_length name) name

-- a name has this last part
abbrev pub has_last : (last name : List ℕ) → Bool
has_last last name = bytes_eq (last_of name) last

-- the names that are listed under a last part
abbrev pub listed : Lasts → (last : List ℕ) → List (List ℕ)
listed lasts last =
    option_map_or (λ names. map (λ (name : Bor (List ℕ)). name.now) names.items)
    (tree.get_by (λ (k : Bor (List ℕ)). slice_cmp nat_cmp last k.now) lasts.names) []

-- these are listed, each under its last part, in their order
abbrev pub Lists : Lasts → List (List ℕ) → Type 0
Lists lasts names = (last : List ℕ) → listed lasts last ≡ filter (has_last last) names

-- ---- what a file includes

-- a set has a name
abbrev pub has_name : BTreeSet (Bor (List ℕ)) → (name : List ℕ) → Bool
has_name names name = sorted.contains_by (λ (k : Bor (List ℕ)). slice_cmp nat_cmp name k.now) names

-- a closure has a file
abbrev pub is_held : Closure → (name : List ℕ) → Bool
is_held c name = has_name c.files name

-- a file is found
abbrev pub is_found : Search → (name : List ℕ) → Bool
is_found s name = has_name s.found name

-- its headers are still to be followed
abbrev pub is_left : Search → (name : List ℕ) → Bool
is_left s name = list_any (λ (k : Bor (List ℕ)). bytes_eq k.now name) s.left.items

-- how many files are still to be followed, at most, where these are all: those that are not found,
-- and those that are left
abbrev pub ahead : List (List ℕ) → Search → ℕ
ahead names s = length (filter (λ name. not (is_found s name)) names) + length s.left.items

-- a search finds what passes a test as well; of that the new ones are left, and no more than before
-- are ahead
pub record Finds (names : List (List ℕ)) (test : List ℕ → Bool) (old new : Search) : Type 0 where
  pub found : (name : List ℕ) → is_found new name ≡ (is_found old name || test name)
  pub left : (name : List ℕ) → is_left new name
      ≡ (is_left old name || (not (is_found old name) && test name))
  pub ahead : ahead names new ≤ ahead names old
