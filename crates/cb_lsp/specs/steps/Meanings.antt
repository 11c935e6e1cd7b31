-- Definitions by their files, one after another.
use Rattle.std.specs.Prelude.{ℕ, Bool, false, ◌||◌, ◌≡◌, List, [], ◌∷◌, if◌then◌else◌}
use Rattle.std.specs.Cmp.Lexicographic.{slice_cmp}
use Rattle.std.specs.Ordering.{is_gt, nat_cmp}
use Rattle.std.specs.Str.{bytes_eq}
use Rattle.cb_scan.specs.Order.{AreOrdered}
use Rattle.cb_tags.specs.TagLines.{Tag}
use Rattle.cb_lsp.specs.Meaning.{is_private}

-- a name of a file comes no later than another
abbrev pub IsUpTo : (f g : List ℕ) → Type 0
IsUpTo f g = is_gt (slice_cmp nat_cmp f g) ≡ false

-- definitions ascend by the names of their files
abbrev pub AreByFile : List Tag → Type 0
AreByFile ts = AreOrdered (λ (s t : Tag). IsUpTo s.file t.file) ts

-- one of the first definitions, those of a file, is private
unfoldable pub begins_private : List ℕ → List Tag → Bool
begins_private file [] = false
begins_private file (t ∷ ts) =
    if bytes_eq t.file file then is_private t || begins_private file ts else false
