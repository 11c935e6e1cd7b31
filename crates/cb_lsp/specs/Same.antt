-- Which uses of a name name the same thing: they are in its name space, and mean nothing in their
-- function or macro alone (ISO C 2011, 6.2.1, 6.2.3 and 6.10.3).
use Rattle.std.specs.Prelude.{ℕ, Bool, true, false, ◌&&◌, ◌==◌, not, List, [], ◌∷◌, ◌++◌, filter, map}
use Rattle.std.specs.Prelude.{Option, None, Some, if◌then◌else◌}
use Rattle.std.specs.List.{flat_map, list_any}
use Rattle.cb_desk.specs.Scanned.{ScannedText, scanned_named}
use Rattle.cb_desk.specs.World.{World}
use Rattle.cb_index.specs.Rows.{Fact}
use Rattle.cb_names.specs.OwnNames.{own_names}
use Rattle.cb_names.specs.SpacedNames.{macro_names, spaced_names}
use Rattle.cb_names.specs.declared.space.Space.{Space}
use Rattle.cb_names.specs.declared.space.Space.TheVariants as name_space
use Rattle.cb_names.specs.declared.spaced.SpacedName.{SpacedName}
use Rattle.cb_scan.specs.declared.facts.Def.{Def}
use Rattle.cb_scan.specs.declared.lex.piece.Span.{Span}
use Rattle.cb_tags.specs.TagLines.{Tag}
use Rattle.cb_lsp.specs.Nearest.{is_member}
use Rattle.cb_lsp.specs.Parameters.{is_macro}
use Rattle.cb_lsp.specs.declared.same.Sort.{Sort}
use Rattle.cb_lsp.specs.declared.same.Sort.TheVariants.{All, Members, Ordinary, Tags}

-- ---- what is asked

-- by the space of a name
abbrev pub sort_in : Space → Sort
sort_in name_space.Member = Members
sort_in name_space.Struct = Tags
sort_in name_space.Union = Tags
sort_in name_space.Enum = Tags
sort_in name_space.Called = Ordinary
sort_in name_space.Plain = Ordinary
sort_in name_space.Macro = All

-- the first of some definitions is that of a macro
abbrev pub begins_macro : List Tag → Bool
begins_macro [] = false
begins_macro (t ∷ ts) = is_macro t.kind

-- the same where these definitions are shown: a macro stands in all spaces, and so does a name that
-- is in none
abbrev pub sort_of : Option Space → List Tag → Sort
sort_of None ts = All
sort_of (Some s) ts = if begins_macro ts then All else sort_in s

-- ---- the tokens of a text with the bytes of a name

-- a token is of a sort by its space; a parameter of a macro is of none
abbrev pub fits : Sort → Option Space → Bool
fits sort None = false
fits All (Some s) = true
fits Members (Some name_space.Member) = true
fits Tags (Some name_space.Struct) = true
fits Tags (Some name_space.Union) = true
fits Tags (Some name_space.Enum) = true
fits Ordinary (Some name_space.Called) = true
fits Ordinary (Some name_space.Plain) = true
fits Ordinary (Some name_space.Macro) = true
fits _ (Some s) = false

-- for members those tokens are listed that are of the sort; else those that are not
abbrev pub is_listed : Sort → SpacedName → Bool
is_listed Members s = fits Members s.space
is_listed sort s = not (fits sort s.space)

abbrev pub listed_names : Sort → List SpacedName → List Span
listed_names sort ss = map (λ (s : SpacedName). s.name) (filter (is_listed sort) ss)

-- the same where a member is declared
abbrev pub lists_members : Sort → Bool
lists_members All = false
lists_members _ = true

-- by a definition of the text: in the line of a macro, and the name of a member
abbrev pub listed_by : Sort → (text name : List ℕ) → Def → List Span
listed_by sort text name d =
    if is_macro d.kind then listed_names sort (macro_names text d.name.start name)
    else (if is_member d.kind && lists_members sort then d.name ∷ [] else [])

-- in functions: what means something there alone
abbrev pub listed_own : Sort → (text name : List ℕ) → List Span
listed_own Members text name = []
listed_own _ text name = own_names text name

-- all that are listed in a text with these definitions
abbrev pub listed : Sort → List Def → (text name : List ℕ) → List Span
listed sort ds text name =
    listed_own sort text name
    ++ (listed_names sort (spaced_names text name) ++ flat_map (listed_by sort text name) ds)

-- ---- uses

abbrev pub starts_at : (place : ℕ) → Span → Bool
starts_at place s = s.start == place

-- what begins at a place is of the sort where these are listed
abbrev pub is_same_at : Sort → List Span → (place : ℕ) → Bool
is_same_at Members ss place = list_any (starts_at place) ss
is_same_at _ ss place = not (list_any (starts_at place) ss)

abbrev pub listed_of : Sort → (name : List ℕ) → Option ScannedText → List Span
listed_of sort name None = []
listed_of sort name (Some t) = listed sort t.facts.defs t.bytes name

-- those of a file
abbrev pub listed_in : World → Sort → (name file : List ℕ) → List Span
listed_in w sort name file = listed_of sort name (scanned_named w.profile w.files file)

-- a use of a name in a file is of the sort
abbrev pub is_same : World → Sort → (name : List ℕ) → Fact → Bool
is_same w sort name u = is_same_at sort (listed_in w sort name u.file) u.place

abbrev pub same_uses : World → Sort → (name : List ℕ) → List Fact → List Fact
same_uses w sort name us = filter (is_same w sort name) us
