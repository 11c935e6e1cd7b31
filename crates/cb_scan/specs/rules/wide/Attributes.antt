-- Attributes, which all other rules of the wide profile leave out. This is the project's profile.
use Rattle.std.specs.Prelude.{ℕ, zero, suc, ◌-◌, Bool, false, ◌&&◌, ◌||◌, ◌==◌, List, []}
use Rattle.std.specs.Prelude.{◌∷◌, drop, if◌then◌else◌}
use Rattle.cb_scan.specs.declared.rules.wide.role.WideRole.{WideRole}
use Rattle.cb_scan.specs.declared.rules.wide.token.WideToken.{WideToken}
use Rattle.cb_scan.specs.rules.wide.Words.{is_attribute_word, is_literal, is_sign, is_wide_word}
use Rattle.cb_scan.specs.Bytes.{close_brace, close_paren, open_brace, open_paren, semicolon}

-- the first token is a number or a string
abbrev pub begins_with_literal : List WideToken → Bool
begins_with_literal [] = false
begins_with_literal (x ∷ xs) = is_literal x.role

-- an attribute begins: a word and `(`, where the word is one for attributes, or a number or a
-- string follows
abbrev pub begins_attribute : List WideToken → Bool
begins_attribute [] = false
begins_attribute (x ∷ []) = false
begins_attribute (x ∷ y ∷ xs) =
    is_wide_word x.role && is_sign open_paren y.role
    && (is_attribute_word x.role || begins_with_literal xs)

-- a `;` or a brace, which no attribute holds
abbrev pub ends_attribute : WideRole → Bool
ends_attribute role = is_sign semicolon role || is_sign open_brace role || is_sign close_brace role

-- how many tokens there are up to and with the `)` that closes a parenthesis, where n more are
-- open, or up to a `;` or a brace
unfoldable pub closing_len : ℕ → List WideToken → ℕ
closing_len n [] = 0
closing_len n (x ∷ xs) =
    if ends_attribute x.role then 0
    else (if is_sign open_paren x.role then suc (closing_len (suc n) xs)
    else (if is_sign close_paren x.role then (if n == 0 then 1 else suc (closing_len (n - 1) xs))
    else suc (closing_len n xs)))

-- how many tokens follow the first of the attribute that begins here
abbrev pub attribute_len : List WideToken → ℕ
attribute_len xs = suc (closing_len 0 (drop 2 xs))

-- the tokens without attributes, where the first n are of one: attributes are found from left to
-- right, and none begins inside another
unfoldable pub outside_attributes : ℕ → List WideToken → List WideToken
outside_attributes n [] = []
outside_attributes (suc n) (x ∷ xs) = outside_attributes n xs
outside_attributes zero (x ∷ xs) =
    if begins_attribute (x ∷ xs) then outside_attributes (attribute_len (x ∷ xs)) xs
    else x ∷ outside_attributes 0 xs

-- the tokens without attributes
abbrev pub without_attributes : List WideToken → List WideToken
without_attributes xs = outside_attributes 0 xs
