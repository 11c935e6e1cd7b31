-- Which definitions of a name are shown where it stands, and in which order: by its name space (ISO C
-- 2011, 6.2.3), and by how near their files are.
use Rattle.std.specs.Prelude.{ℕ, ◌+◌, Bool, true, false, ◌&&◌, ◌||◌, ◌==◌, not, nat_eq, List, []}
use Rattle.std.specs.Prelude.{◌∷◌, filter, codes, Option, None, Some, if◌then◌else◌}
use Rattle.std.specs.List.{count_by, ends_with, list_any, take_while}
use Rattle.std.specs.Str.{bytes_eq}
use Rattle.cb_scan.specs.Order.{in_order}
use Rattle.cb_names.specs.declared.space.Space.{Space}
use Rattle.cb_names.specs.declared.space.Space.TheVariants as name_space
use Rattle.cb_scan.specs.declared.facts.Kind.{Kind}
use Rattle.cb_scan.specs.declared.facts.Kind.TheVariants as kind
use Rattle.cb_scan.specs.Profiles.{is_declaration}
use Rattle.cb_tags.specs.TagLines.{Tag}
use Rattle.cb_lsp.specs.declared.nearest.Kinds.{Kinds}
use Rattle.cb_lsp.specs.declared.nearest.Kinds.TheVariants as kinds

-- ---- name spaces

-- a structure, a union or an enumeration
abbrev pub is_tag : Kind → Bool
is_tag kind.Struct = true
is_tag kind.Union = true
is_tag kind.Enum = true
is_tag _ = false

abbrev pub is_member : Kind → Bool
is_member kind.Member = true
is_member _ = false

-- a definition of this kind is looked for
abbrev pub takes : Kinds → Kind → Bool
takes kinds.All k = true
takes kinds.Macros kind.Macro = true
takes kinds.Members kind.Member = true
takes kinds.Structs kind.Struct = true
takes kinds.Unions kind.Union = true
takes kinds.Enums kind.Enum = true
takes kinds.Tags k = is_tag k
takes kinds.Callables kind.Function = true
takes kinds.Callables kind.Macro = true
takes kinds.Callables kind.Prototype = true
takes kinds.Ordinary kind.Member = false
takes kinds.Ordinary k = not (is_tag k)
takes _ k = false

-- members
abbrev pub is_members : Kinds → Bool
is_members kinds.Members = true
is_members _ = false

-- one of these definitions is of the kinds
abbrev pub has : Kinds → List Tag → Bool
has ks ts = list_any (λ (t : Tag). takes ks t.kind) ts

-- kinds, if one of these definitions is of them; else others
abbrev pub first_had : (first others : Kinds) → List Tag → Kinds
first_had first others ts = if has first ts then first else others

-- the kinds that a name in a space is looked for in; where it is in none, in all
abbrev pub kinds_at : Option Space → List Tag → Kinds
kinds_at None ts = kinds.All
kinds_at (Some name_space.Member) ts = first_had kinds.Members kinds.Macros ts
kinds_at (Some name_space.Struct) ts =
    first_had kinds.Structs (first_had kinds.Tags kinds.Macros ts) ts
kinds_at (Some name_space.Union) ts = first_had kinds.Unions (first_had kinds.Tags kinds.Macros ts) ts
kinds_at (Some name_space.Enum) ts = first_had kinds.Enums (first_had kinds.Tags kinds.Macros ts) ts
kinds_at (Some name_space.Called) ts = first_had kinds.Callables kinds.Ordinary ts
kinds_at (Some name_space.Plain) ts = kinds.Ordinary
kinds_at (Some name_space.Macro) ts = kinds.Macros

-- ---- files

-- a kind whose names may have linkage (ISO C 2011, 6.2.2)
abbrev pub may_link : Kind → Bool
may_link kind.Function = true
may_link kind.Variable = true
may_link kind.External = true
may_link kind.Prototype = true
may_link _ = false

-- a file that is compiled by itself
abbrev pub is_source : (file : List ℕ) → Bool
is_source file = ends_with nat_eq file (codes ".c")

-- a definition is private to its file, which ends in `.c`: it is local, or of another kind
unfoldable pub is_private : Tag → Bool
is_private t = (t.local || not (may_link t.kind)) && is_source t.file

-- how many folders a name has
abbrev pub slashes : List ℕ → ℕ
slashes name = count_by (λ b. b == 47) name

-- how many folders of two files the other one does not share
unfoldable pub apart : List ℕ → List ℕ → ℕ
apart [] ys = slashes ys
apart (x ∷ xs) [] = slashes (x ∷ xs)
apart (x ∷ xs) (y ∷ ys) =
    if x == y then apart xs ys else slashes (x ∷ xs) + slashes (y ∷ ys)

-- ---- what is shown

-- those that pass a test, if some do; else all
abbrev pub narrowed : (Tag → Bool) → List Tag → List Tag
narrowed test ts = if list_any test ts then filter test ts else ts

-- a definition is in view by a closure: it is in there, or is not private to its file
abbrev pub is_in_view : (inside : List ℕ → Bool) → Tag → Bool
is_in_view inside t = inside t.file || not (is_private t)

-- where declarations are asked for, these come before what defines; else what defines before these
abbrev pub is_preferred : (declarations : Bool) → Kind → Bool
is_preferred true k = is_declaration k
is_preferred false k = not (is_declaration k)

-- a definition of a file itself that is preferred
abbrev pub is_own : (from : List ℕ) → (declarations : Bool) → Tag → Bool
is_own from declarations t = bytes_eq t.file from && is_preferred declarations t.kind

-- a function or a variable
abbrev pub is_object : Kind → Bool
is_object kind.Function = true
is_object kind.Variable = true
is_object _ = false

abbrev pub is_function : Kind → Bool
is_function kind.Function = true
is_function _ = false

-- what counts where some are in the closure: these and, unless a function is among them, functions and
-- variables of files that end in `.c`, which they may stand for
abbrev pub counts : (inside : List ℕ → Bool) → (function : Bool) → Tag → Bool
counts inside function t = inside t.file || (not function && is_object t.kind && is_source t.file)

abbrev pub is_included_function : (inside : List ℕ → Bool) → Tag → Bool
is_included_function inside t = inside t.file && is_function t.kind

-- in the closure first, and then the nearest first
abbrev pub rank : (from : List ℕ) → (inside : List ℕ → Bool) → Tag → List ℕ
rank from inside t = (if inside t.file then 0 else 1) ∷ apart from t.file ∷ []

-- a definition is as far from a file as another one
abbrev pub is_as_near : (from : List ℕ) → Tag → Tag → Bool
is_as_near from t u = apart from u.file == apart from t.file

-- those at the front that are as near as the first one
abbrev pub as_near : (from : List ℕ) → List Tag → List Tag
as_near from [] = []
as_near from (t ∷ ts) = t ∷ take_while (is_as_near from t) ts

-- of the definitions of no file itself: if some are in the closure, what counts there, by rank; else
-- the nearest functions and variables or, if none are there, the nearest of all
abbrev pub included_or_near : (from : List ℕ) → (inside : List ℕ → Bool) → List Tag → List Tag
included_or_near from inside ts =
    if list_any (λ (t : Tag). inside t.file) ts
    then in_order (rank from inside)
    (filter (counts inside (list_any (is_included_function inside) ts)) ts)
    else as_near from (in_order (rank from inside) (narrowed (λ (t : Tag). is_object t.kind) ts))

-- those of the file itself alone, if there are some
abbrev pub own_or_near : (from : List ℕ) → (inside : List ℕ → Bool) → List Tag → List Tag
own_or_near from inside ts =
    let own = λ (t : Tag). bytes_eq t.file from in
    if list_any own ts then filter own ts else included_or_near from inside ts

-- of the definitions of a name those that are shown in a file with this closure: members all; else
-- those of the file itself that are preferred, if there are some; else those in view, or all where
-- none is, and of these those that are preferred, or all where none is
abbrev pub shown_by : (from : List ℕ) → (inside : List ℕ → Bool) → (declarations : Bool) → List Tag
    → List Tag
shown_by from inside declarations ts =
    if list_any (is_own from declarations) ts then filter (is_own from declarations) ts
    else own_or_near from inside (narrowed (λ (t : Tag). is_preferred declarations t.kind)
    (narrowed (is_in_view inside) ts))

abbrev pub shown_of : (from : List ℕ) → (inside : List ℕ → Bool) → (members declarations : Bool)
    → List Tag → List Tag
shown_of from inside true declarations ts = ts
shown_of from inside false declarations ts = shown_by from inside declarations ts

abbrev pub shown : (from : List ℕ) → (inside : List ℕ → Bool) → Kinds → (declarations : Bool)
    → List Tag → List Tag
shown from inside ks declarations ts =
    shown_of from inside (is_members ks) declarations (filter (λ (t : Tag). takes ks t.kind) ts)
