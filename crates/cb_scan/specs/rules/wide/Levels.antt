-- The tokens of the code as the wide profile reads them, and the levels that braces make. This is
-- the project's profile.
use Rattle.std.specs.Prelude.{ℕ, Bool, true, false, ◌&&◌, ◌==◌, not, List, [], ◌∷◌, length, drop}
use Rattle.std.specs.Prelude.{filter, map, if◌then◌else◌, slice_index_or}
use Rattle.std.specs.List.{range_with_len}
use Rattle.cb_scan.specs.declared.lex.token.Token.{Token}
use Rattle.cb_scan.specs.declared.rules.wide.token.WideToken.{WideToken}
use Rattle.cb_scan.specs.declared.rules.wide.role.WideRole.TheVariants as wide
use Rattle.cb_scan.specs.rules.Depth.{is_counted, no_token, token_at}
use Rattle.cb_scan.specs.rules.Typedefs.{nesting_after}
use Rattle.cb_scan.specs.rules.wide.Words.{is_sign, wide_role}
use Rattle.cb_scan.specs.Bytes.{close_brace}

-- ---- tokens

-- token k of the code, what it is, and whether it is a `{` that counts
abbrev pub wide_token : List ℕ → List Token → ℕ → WideToken
wide_token text ts k = record {
  token = token_at ts k;
  role = wide_role text (token_at ts k);
  counted = is_counted ts k;
}

-- all tokens of the code
abbrev pub wide_tokens : List ℕ → List Token → List WideToken
wide_tokens text ts = map (wide_token text ts) (range_with_len 0 (length ts))

-- the token where there is none
abbrev pub no_wide_token : WideToken
no_wide_token = record { token = no_token; role = wide.Number; counted = false }

-- ---- levels

-- a token with the places of the `{` that are open before it, the innermost first
pub record Placed : Type 0 where
  pub item : WideToken
  pub around : List ℕ

-- the open `{` after a token: a `{` that counts is one more, a `}` closes the innermost, and one in
-- the first column closes all
abbrev pub around_after : WideToken → List ℕ → List ℕ
around_after x around =
    if x.counted then x.token.span.start ∷ around
    else (if is_sign close_brace x.role then (if x.token.starts_line then [] else drop 1 around)
    else around)

-- each token with the `{` around it, where these are open before the first
unfoldable pub placed : List ℕ → List WideToken → List Placed
placed around [] = []
placed around (x ∷ xs) =
    record { item = x; around = around } ∷ placed (around_after x around) xs

-- no `{` is open
abbrev pub is_outside : List ℕ → Bool
is_outside [] = true
is_outside (place ∷ around) = false

-- the innermost open `{` is at the place
abbrev pub is_inside : ℕ → List ℕ → Bool
is_inside place [] = false
is_inside place (p ∷ around) = p == place

-- the `}` that closes an open `{`; any other `}` is a token of the file
abbrev pub closes_brace : Placed → Bool
closes_brace p = is_sign close_brace p.item.role && not (is_outside p.around)

-- the level of the file: a `{` that counts stands for all up to its `}`, and is called a brace
abbrev pub file_level : List Placed → List WideToken
file_level ps = map (λ (p : Placed). p.item) (filter (λ (p : Placed). is_outside p.around) ps)

-- the level inside the `{` at a place
abbrev pub level_inside : ℕ → List Placed → List WideToken
level_inside place ps =
    map (λ (p : Placed). p.item)
    (filter (λ (p : Placed). is_inside place p.around && not (closes_brace p)) ps)

-- ---- inside parentheses and brackets

-- a token with the number of parentheses and brackets that are open before it
pub record Numbered : Type 0 where
  pub item : WideToken
  pub count : ℕ

-- each token with its number, from a number on
unfoldable pub numbered : ℕ → List WideToken → List Numbered
numbered n [] = []
numbered n (x ∷ xs) =
    record { item = x; count = n } ∷ numbered (nesting_after x.token n) xs

-- outside all parentheses and brackets
abbrev pub is_outer : Numbered → Bool
is_outer x = x.count == 0

-- the lone byte b; the same outside all parentheses and brackets
abbrev pub is_byte : ℕ → Numbered → Bool
is_byte b x = is_sign b x.item.role

abbrev pub is_outer_byte : ℕ → Numbered → Bool
is_outer_byte b x = is_outer x && is_byte b x

-- the token at index k
abbrev pub numbered_at : List Numbered → ℕ → Numbered
numbered_at xs k = slice_index_or xs k (record { item = no_wide_token; count = 0 })
