-- Which definitions are private to a file, and from which files a name is seen: C's linkage, as far
-- as tokens tell it.
use Rattle.std.specs.Prelude.{ℕ, Bool, true, false, ◌&&◌, not, nat_eq, List, codes}
use Rattle.std.specs.Prelude.{if◌then◌else◌}
use Rattle.std.specs.List.{ends_with, list_any}
use Rattle.std.specs.Str.{bytes_eq}
use Rattle.cb_scan.specs.declared.facts.Kind.{Kind}
use Rattle.cb_scan.specs.declared.facts.Kind.TheVariants as kind
use Rattle.cb_tags.specs.TagLines.{Tag}

abbrev pub is_function : Kind → Bool
is_function kind.Function = true
is_function _ = false

-- a definition is private to its file: a local function of a file that ends in `.c`
unfoldable pub is_private : Tag → Bool
is_private t = is_function t.kind && t.local && ends_with nat_eq t.file (codes ".c")

-- a definition is private to that file
abbrev pub is_private_in : List ℕ → Tag → Bool
is_private_in file t = is_private t && bytes_eq t.file file

-- one of these definitions is private to the file
abbrev pub has_private : List ℕ → List Tag → Bool
has_private file ts = list_any (is_private_in file) ts

-- a file is in the reach of a name with these definitions, from another file: that file alone, if
-- it has a private one; else all files that have none
abbrev pub reaches : List Tag → (from file : List ℕ) → Bool
reaches ts from file =
    if has_private from ts then bytes_eq file from else not (has_private file ts)
