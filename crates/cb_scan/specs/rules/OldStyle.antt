-- Functions in the old style, which declare their parameters between `)` and `{` (ISO C 2011,
-- 6.9.1, found in tokens by this project's profile).
use Rattle.std.specs.Prelude.{ℕ, Bool, false, ◌&&◌, ◌||◌, not, List, [], ◌∷◌, if◌then◌else◌, Option}
use Rattle.std.specs.Prelude.{None, Some, filter, find, map, reverse}
use Rattle.std.specs.List.{range_with_len, take_while}
use Rattle.std.specs.Option.{option_map_or}
use Rattle.cb_scan.specs.declared.lex.token.Token.{Token}
use Rattle.cb_scan.specs.lex.Tokens.{is_any_word, is_mark, is_name_token}
use Rattle.cb_scan.specs.rules.Depth.{is_stop, token_at}
use Rattle.cb_scan.specs.rules.Heads.{Signature, begins_with_typedef, called_name, has_equals, head}
use Rattle.cb_scan.specs.rules.Heads.{signed}
use Rattle.cb_scan.specs.Bytes.{close_paren, comma, open_paren, semicolon}

-- ---- one segment

-- the first token is a word, reserved or not
abbrev pub begins_with_word : List Token → Bool
begins_with_word [] = false
begins_with_word (t ∷ ts) = is_any_word t.role

-- the tokens after the first name that is directly followed by `(`, and after that `(`
unfoldable pub after_called : List Token → List Token
after_called [] = []
after_called (t ∷ []) = []
after_called (t ∷ u ∷ ts) =
    if is_name_token t.role && is_mark open_paren u.role then ts else after_called (u ∷ ts)

-- names with one comma between each two, one name at least, then `)` and a word
unfoldable pub lists_names : List Token → Bool
lists_names [] = false
lists_names (t ∷ []) = false
lists_names (t ∷ u ∷ ts) =
    is_name_token t.role
    && (if is_mark comma u.role then lists_names ts
    else is_mark close_paren u.role && begins_with_word ts)

-- an opening: it does not begin with `typedef`, has no `=`, and its first called name has a list of
-- names after it and then a word
abbrev pub is_opening : List Token → Bool
is_opening s = not (begins_with_typedef s) && not (has_equals s) && lists_names (after_called s)

-- a declaration: its first token is a word other than `typedef`, and it has no `=`
abbrev pub is_declaration : List Token → Bool
is_declaration s = begins_with_word s && not (begins_with_typedef s) && not (has_equals s)

-- ---- the segments before a `{`

-- the stops before token k, the nearest first
abbrev pub stops_before : List Token → ℕ → List ℕ
stops_before ts k = reverse (filter (is_stop ts) (range_with_len 0 k))

-- those of them that are `;`, up to the nearest that is none
abbrev pub semicolons_before : List Token → ℕ → List ℕ
semicolons_before ts k =
    take_while (λ j. is_mark semicolon (token_at ts j).role) (stops_before ts k)

-- the segments between neighbouring stops, from the last stop that is no `;` to the last one, the
-- nearest first: what stands before each `;`
abbrev pub segments : List Token → ℕ → List (List Token)
segments ts k = map (head ts) (semicolons_before ts k)

-- the nearest opening, if every segment that is nearer is a declaration
abbrev pub nearest_opening : List (List Token) → Option (List Token)
nearest_opening ss =
    option_map_or (λ s. if is_opening s then Some s else None)
    (find (λ s. is_opening s || not (is_declaration s)) ss) None

-- the signature that these segments give
abbrev pub signature_of : List (List Token) → Option Signature
signature_of ss = option_map_or (λ s. signed s (called_name s)) (nearest_opening ss) None

-- the signature of the function in the old style whose `{` is token k, if one is
abbrev pub old_signature : List Token → ℕ → Option Signature
old_signature ts k = signature_of (segments ts k)
