-- The bodies of structures, unions and enumerations, their tags, and the enumerators in them (ISO C
-- 2011, 6.7.2.1 to 6.7.2.3, found in tokens by this project's profile). Attributes are left out.
use Rattle.std.specs.Prelude.{ℕ, Bool, true, false, ◌&&◌, ◌==◌, not, List, [], ◌∷◌, length, take}
use Rattle.std.specs.Prelude.{drop, map, reverse, slice_index_or, Option, None, Some, find}
use Rattle.std.specs.Prelude.{if◌then◌else◌}
use Rattle.std.specs.List.{flat_map, list_any, range_with_len, slice_split, take_while}
use Rattle.std.specs.Option.{option_map_or}
use Rattle.cb_scan.specs.declared.facts.Kind.{Kind}
use Rattle.cb_scan.specs.declared.facts.Kind.TheVariants as kind
use Rattle.cb_scan.specs.declared.lex.token.Token.{Token}
use Rattle.cb_scan.specs.declared.facts.Tag.{Tag}
use Rattle.cb_scan.specs.declared.rules.wide.role.WideRole.{WideRole}
use Rattle.cb_scan.specs.declared.rules.wide.role.WideRole.TheVariants as wide
use Rattle.cb_scan.specs.declared.rules.wide.token.WideToken.{WideToken}
use Rattle.cb_scan.specs.rules.wide.Levels.{Numbered, Placed, is_byte, is_outer_byte}
use Rattle.cb_scan.specs.rules.wide.Levels.{no_wide_token, numbered}
use Rattle.cb_scan.specs.rules.wide.Words.{is_wide_name}
use Rattle.cb_scan.specs.Bytes.{comma, open_paren}

-- ---- bodies

-- a body: of a structure, union or enumeration, its tag if it has one, the place of its `{`, and
-- those of the `{` around it, the innermost first
pub record Body : Type 0 where
  pub kind : Kind
  pub tag : Option Token
  pub place : ℕ
  pub around : List ℕ

-- what `struct`, `union` and `enum` begin
abbrev pub body_kind : WideRole → Option Kind
body_kind wide.Struct = Some kind.Struct
body_kind wide.Union = Some kind.Union
body_kind wide.Enum = Some kind.Enum
body_kind _ = None

-- what the first token begins
abbrev pub first_kind : List WideToken → Option Kind
first_kind [] = None
first_kind (x ∷ xs) = body_kind x.role

-- the first token, if there is one
abbrev pub first_token : List WideToken → Option Token
first_token [] = None
first_token (x ∷ xs) = Some x.token

-- the names at the beginning
abbrev pub names_first : List WideToken → List WideToken
names_first xs = take_while (λ x. is_wide_name x.role) xs

-- the body of that kind which a `{` opens, after some names, the nearest first
abbrev pub body_of : Placed → List WideToken → Option Kind → List Body
body_of brace names kind =
    option_map_or (λ k. record {
      kind = k;
      tag = first_token names;
      place = brace.item.token.span.start;
      around = brace.around;
    } ∷ []) kind []

-- the body that a `{` opens after these tokens, the nearest first: one of the three words is
-- directly before it, or directly before the names there
abbrev pub body_after : Placed → List WideToken → List Body
body_after brace before =
    body_of brace (names_first before) (first_kind (drop (length (names_first before)) before))

-- the token at index k
abbrev pub placed_at : List Placed → ℕ → Placed
placed_at ps k = slice_index_or ps k (record { item = no_wide_token; around = [] })

-- the tokens before index k, the nearest first
abbrev pub before : List Placed → ℕ → List WideToken
before ps k = map (λ (p : Placed). p.item) (reverse (take k ps))

-- the body that the token at index k opens, if it opens one
abbrev pub body_at : List Placed → ℕ → List Body
body_at ps k =
    if (placed_at ps k).item.counted then body_after (placed_at ps k) (before ps k) else []

-- the bodies, by the places of their `{`
abbrev pub bodies : List Placed → List Body
bodies ps = flat_map (body_at ps) (range_with_len 0 (length ps))

-- the `{` at a place opens a body
abbrev pub opens_body : List Body → ℕ → Bool
opens_body bs place = list_any (λ (b : Body). b.place == place) bs

-- the body of an enumeration
abbrev pub is_enumeration : Kind → Bool
is_enumeration kind.Enum = true
is_enumeration _ = false

-- ---- the tag that stands with a name

-- the tag of a body, if it has one
abbrev pub tag_of : Body → Option Tag
tag_of b = option_map_or (λ t. Some (record { kind = b.kind; name = t.span })) b.tag None

-- the body whose `{` is at a place
abbrev pub body_in : List Body → ℕ → Option Body
body_in bs place = find (λ (b : Body). b.place == place) bs

-- the tag of the innermost structure or union around that has one, where there is nothing else
-- between: the `{` are open around, the innermost first
unfoldable pub tag_around : List Body → List ℕ → Option Tag
tag_around bs [] = None
tag_around bs (place ∷ around) =
    option_map_or (λ b. if is_enumeration b.kind then None
    else option_map_or (λ tag. Some tag) (tag_of b) (tag_around bs around))
    (body_in bs place) None

-- ---- enumerators

-- the first token, if it is a name that `(` does not directly follow
abbrev pub first_enumerator : List Numbered → List Token
first_enumerator [] = []
first_enumerator (x ∷ []) = if is_wide_name x.item.role then x.item.token ∷ [] else []
first_enumerator (x ∷ y ∷ xs) =
    if is_wide_name x.item.role && not (is_byte open_paren y) then x.item.token ∷ [] else []

-- the enumerators on the level of an enumeration: they stand first on it or after a comma outside
-- parentheses and brackets
abbrev pub enumerators : List WideToken → List Token
enumerators level = flat_map first_enumerator (slice_split (is_outer_byte comma) (numbered 0 level))
