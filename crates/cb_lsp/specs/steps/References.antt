-- How the uses that a file asks for are read, one after another, beside the definitions of the name.
use Rattle.std.specs.Prelude.{◌≡◌, ◌≤◌, ◌⊎◌, ℕ, Bool, true, false, List, [], ◌∷◌, filter, nat_lt}
use Rattle.std.specs.Prelude.{if◌then◌else◌}
use Rattle.std.specs.Cmp.Lexicographic.{slice_cmp}
use Rattle.std.specs.Ordering.{nat_cmp}
use Rattle.std.specs.Str.{bytes_eq}
use Rattle.std.specs.declared.cmp.Ordering.{Ordering}
use Rattle.std.specs.declared.cmp.Ordering.TheVariants.{Less, Equal, Greater}
use Rattle.cb_index.specs.FactOrder.{ComesBefore}
use Rattle.cb_index.specs.Rows.{Fact}
use Rattle.cb_scan.specs.Order.{AreOrdered}
use Rattle.cb_tags.specs.TagLines.{Tag}
use Rattle.cb_lsp.specs.References.{is_name_of}
use Rattle.cb_lsp.specs.declared.reach.Reached.{Reached}
use Rattle.cb_lsp.specs.declared.references.References.{References}
use Rattle.cb_lsp.specs.steps.Meanings.{begins_private}

-- ---- by file and place

-- a definition comes no later than another: its file goes first, or both are in one file and its
-- name begins no later
abbrev pub IsPlacedBefore : Tag → Tag → Type 0
IsPlacedBefore s t =
    (slice_cmp nat_cmp s.file t.file ≡ Less) ⊎ ((s.file ≡ t.file) × (s.place ≤ t.place))

abbrev pub AreByPlace : List Tag → Type 0
AreByPlace ts = AreOrdered IsPlacedBefore ts

abbrev pub UsesAreByPlace : List Fact → Type 0
UsesAreByPlace us = AreOrdered ComesBefore us

-- the first of two names of files goes first, or they are one and a test passes
abbrev pub goes_first : Ordering → Bool → Bool
goes_first Less test = true
goes_first Equal test = test
goes_first Greater test = false

-- a definition begins before a place of a file
abbrev pub is_before : (file : List ℕ) → (place : ℕ) → Tag → Bool
is_before file place t = goes_first (slice_cmp nat_cmp t.file file) (nat_lt t.place place)

-- the definitions from a place of a file on
unfoldable pub from_place : (file : List ℕ) → (place : ℕ) → List Tag → List Tag
from_place file place [] = []
from_place file place (t ∷ ts) =
    if is_before file place t then from_place file place ts else t ∷ ts

-- ---- in the reach

-- the definitions from a file on, unless that file is the last one
abbrev pub from_file : (last file : List ℕ) → List Tag → List Tag
from_file last file ts = if bytes_eq last file then ts else from_place file 0 ts

-- a file has a private definition, where that is known of the last one
abbrev pub is_hidden : (last : List ℕ) → (hidden : Bool) → (file : List ℕ) → List Tag → Bool
is_hidden last hidden file ts =
    if bytes_eq last file then hidden else begins_private file (from_place file 0 ts)

-- the uses in files without a private definition
unfoldable pub shared_uses : (last : List ℕ) → (hidden : Bool) → List Tag → List Fact → List Fact
shared_uses last hidden ts [] = []
shared_uses last hidden ts (u ∷ us) =
    let here = is_hidden last hidden u.file ts in
    let rest = shared_uses u.file here (from_file last u.file ts) us in
    if here then rest else u ∷ rest

-- of some uses those in the reach
abbrev pub reached_of : Reached → List Fact → List Fact
reached_of r us =
    if r.own then filter (λ (u : Fact). bytes_eq u.file r.from.now) us
    else shared_uses r.last.now r.hidden r.definitions us

-- the uses in the reach that are left
abbrev pub reached_left : Reached → List Fact
reached_left r = reached_of r r.rest

-- ---- with the names of definitions, or without

-- the first of some definitions has its name there
abbrev pub begins_at : Fact → List Tag → Bool
begins_at u [] = false
begins_at u (t ∷ ts) = is_name_of u t

-- uses that are no names of these definitions
unfoldable pub undeclared : List Tag → List Fact → List Fact
undeclared ts [] = []
undeclared ts (u ∷ us) =
    let left = from_place u.file u.place ts in
    if begins_at u left then undeclared left us else u ∷ undeclared left us

-- of some uses those that are wanted
abbrev pub wanted_of : References → List Fact → List Fact
wanted_of r us = if r.declarations then us else undeclared r.definitions us

-- the uses that are left
abbrev pub references_left : References → List Fact
references_left r = wanted_of r (reached_left r.uses)

-- a use before others, if it is one of them
abbrev pub first_if : Bool → Fact → List Fact → List Fact
first_if true u us = u ∷ us
first_if false u us = us
