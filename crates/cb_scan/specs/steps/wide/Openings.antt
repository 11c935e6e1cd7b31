-- What a `{` opens, a token at a time.
use Rattle.std.specs.Prelude.{false, List, [], ◌∷◌, ◌++◌, length, drop, Option, None, Some}
use Rattle.std.specs.Prelude.{if◌then◌else◌}
use Rattle.std.specs.Option.{option_map, option_map_or}
use Rattle.cb_scan.specs.declared.facts.Kind.{Kind}
use Rattle.cb_scan.specs.declared.facts.Tag.{Tag}
use Rattle.cb_scan.specs.declared.facts.Def.{Def}
use Rattle.cb_scan.specs.declared.rules.wide.opening.Opening.{Opening}
use Rattle.cb_scan.specs.declared.rules.wide.token.WideToken.{WideToken}
use Rattle.cb_scan.specs.rules.wide.Bodies.{body_kind, first_kind, names_first}
use Rattle.cb_scan.specs.rules.wide.Kinds.{def_of, kind_of_tag}
use Rattle.cb_scan.specs.rules.wide.Words.{is_wide_name}

-- after `struct`, `union` or `enum`
abbrev pub begun : Kind → Option Opening
begun kind = Some (record { kind = kind; tag = None })

-- after a name
abbrev pub tagged : WideToken → Opening → Opening
tagged x o = record o { tag = Some x }

-- after any other token than these three
abbrev pub after_other : Option Opening → WideToken → Option Opening
after_other before x = if is_wide_name x.role then option_map (tagged x) before else None

-- after one of them, or another token
abbrev pub after_kind : Option Kind → Option Opening → WideToken → Option Opening
after_kind (Some kind) before x = begun kind
after_kind None before x = after_other before x

-- what a `{` after this token would open
abbrev pub next_opening : Option Opening → WideToken → Option Opening
next_opening before x = after_kind (body_kind x.role) before x

-- the tag of the body
abbrev pub tag_of : Opening → Option Tag
tag_of o = option_map (λ (x : WideToken). record { kind = o.kind; name = x.token.span }) o.tag

-- the first token, if there is one
abbrev pub first : List WideToken → Option WideToken
first [] = None
first (x ∷ xs) = Some x

-- an opening
abbrev pub the_opening : Kind → Option WideToken → Opening
the_opening kind tag = record { kind = kind; tag = tag }

-- what a `{` would open after these tokens, the nearest first
abbrev pub opening_after : List WideToken → Option Opening
opening_after before =
    option_map (λ kind. the_opening kind (first (names_first before)))
    (first_kind (drop (length (names_first before)) before))

-- ---- the tags of bodies

-- the tag of an opening, as a definition
abbrev pub opening_tag : Option Opening → List Def
opening_tag None = []
opening_tag (Some o) =
    option_map_or (λ (x : WideToken). def_of (kind_of_tag o.kind) false x.token ∷ []) o.tag []

-- the tag of the body that a token opens
abbrev pub tag_out : Option Opening → WideToken → List Def
tag_out o x = if x.counted then opening_tag o else []

-- the tags from a state on
unfoldable pub tags_from : Option Opening → List WideToken → List Def
tags_from o [] = []
tags_from o (x ∷ xs) = tag_out o x ++ tags_from (next_opening o x) xs
