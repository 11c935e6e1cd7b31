-- The name space of the name at a place of a directive (ISO C 2011, 6.10, found in tokens by this
-- project's profile): conditions and `#undef` name macros, `#define` defines one, and what stands
-- behind that is told by the tokens beside it.
use Rattle.std.specs.Prelude.{ℕ, suc, ◌-◌, ◌&&◌, ◌==◌, Bool, nat_le, nat_lt, List, []}
use Rattle.std.specs.Prelude.{◌∷◌, codes, length, if◌then◌else◌, Option, None, Some}
use Rattle.std.specs.List.{list_any}
use Rattle.cb_scan.specs.Bytes.{hash, open_paren}
use Rattle.cb_scan.specs.declared.lex.piece.Piece.{Piece}
use Rattle.cb_scan.specs.rules.Code.{is_newline}
use Rattle.cb_scan.specs.steps.Cut.{pieces}
use Rattle.cb_names.specs.Braces.{is_name_at}
use Rattle.cb_names.specs.Labels.{index_at, is_spelled}
use Rattle.cb_names.specs.Pairs.{is_at}
use Rattle.cb_names.specs.Parameters.{line_items}
use Rattle.cb_names.specs.Spaces.{follows_accessor}
use Rattle.cb_names.specs.declared.space.Space.{Space}
use Rattle.cb_names.specs.declared.space.Space.TheVariants.{Called, Enum, Macro, Member, Plain}
use Rattle.cb_names.specs.declared.space.Space.TheVariants.{Struct, Union}
use Rattle.cb_names.specs.declared.word.Item.{Item}

-- ---- the line around a place

-- a line ends with a piece, at a place or before it
abbrev pub ends_line : (place : ℕ) → Piece → Bool
ends_line place p = is_newline p.class && nat_le p.span.end place

-- where the logical line of a place begins: behind the last piece that ends one before it, or at
-- place n, if there is none
unfoldable pub line_begin : (n place : ℕ) → List Piece → ℕ
line_begin n place [] = n
line_begin n place (p ∷ ps) = line_begin (if ends_line place p then p.span.end else n) place ps

abbrev pub line_start : (text : List ℕ) → (place : ℕ) → ℕ
line_start text place = line_begin 0 place (pieces text)

-- ---- in the tokens of a line

-- the own word of a directive that names macros alone
abbrev pub names_macros : (text : List ℕ) → List Item → Bool
names_macros text xs =
    list_any (is_spelled text xs 1)
    (codes "if" ∷ codes "ifdef" ∷ codes "ifndef" ∷ codes "elif" ∷ codes "elifdef" ∷ codes "elifndef"
    ∷ codes "undef" ∷ [])

-- it defines a macro, whose name has index 2
abbrev pub is_define : (text : List ℕ) → List Item → Bool
is_define text xs = is_spelled text xs 1 (codes "define") && is_name_at xs 2

-- the space of the name at index k in the text of a macro, which is no member
abbrev pub space_of_text : (text : List ℕ) → List Item → ℕ → Space
space_of_text text xs k =
    if is_spelled text xs (k - 1) (codes "struct") then Struct
    else (if is_spelled text xs (k - 1) (codes "union") then Union
    else (if is_spelled text xs (k - 1) (codes "enum") then Enum
    else (if is_at open_paren xs (suc k) then Called
    else Plain)))

-- of the name at index k of the line of a macro, where the name of the macro has index 2
abbrev pub space_of_macro : (text : List ℕ) → List Item → ℕ → Space
space_of_macro text xs k =
    if k == 2 then Macro
    else (if follows_accessor xs k then Member
    else space_of_text text xs k)

-- of the name at index k of a directive, behind its own word
abbrev pub space_named : (text : List ℕ) → List Item → ℕ → Option Space
space_named text xs k =
    if names_macros text xs then Some Macro
    else (if is_define text xs then Some (space_of_macro text xs k) else None)

-- of the name at index k of a line, if that is a directive
abbrev pub space_in_line : (text : List ℕ) → List Item → ℕ → Option Space
space_in_line text xs k =
    if is_at hash xs 0 && nat_lt 1 k && nat_lt k (length xs) then space_named text xs k else None

-- of the first name of a directive that holds a place or ends at it, if there is one
abbrev pub directive_space : (text : List ℕ) → (place : ℕ) → Option Space
directive_space text place =
    let xs = line_items text (line_start text place) in space_in_line text xs (index_at place xs)
