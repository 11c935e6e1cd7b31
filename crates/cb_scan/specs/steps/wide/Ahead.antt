-- What follows the next token.
use Rattle.std.specs.Prelude.{ℕ, Bool, false, ◌&&◌, List, [], ◌∷◌, if◌then◌else◌}
use Rattle.cb_scan.specs.declared.rules.wide.token.WideToken.{WideToken}
use Rattle.cb_scan.specs.rules.wide.Attributes.{ends_attribute}
use Rattle.cb_scan.specs.rules.wide.Words.{is_sign, is_wide_name, is_wide_word}
use Rattle.cb_scan.specs.Bytes.{close_paren, open_paren}

-- the first token is the lone byte b
abbrev pub first_is : ℕ → List WideToken → Bool
first_is b [] = false
first_is b (x ∷ xs) = is_sign b x.role

-- the second token is the lone byte b
abbrev pub second_is : ℕ → List WideToken → Bool
second_is b [] = false
second_is b (x ∷ xs) = first_is b xs

-- the second token and the third are `(`
abbrev pub opens_twice : List WideToken → Bool
opens_twice [] = false
opens_twice (x ∷ []) = false
opens_twice (x ∷ y ∷ xs) = is_sign open_paren y.role && first_is open_paren xs

-- the first token is a word, and the second
abbrev pub first_is_word : List WideToken → Bool
first_is_word [] = false
first_is_word (x ∷ xs) = is_wide_word x.role

abbrev pub second_is_word : List WideToken → Bool
second_is_word [] = false
second_is_word (x ∷ xs) = first_is_word xs

-- the tokens begin with `(`, a name, `)` and `(`
abbrev pub encloses_name : List WideToken → Bool
encloses_name [] = false
encloses_name (a ∷ []) = false
encloses_name (a ∷ b ∷ []) = false
encloses_name (a ∷ b ∷ c ∷ xs) =
    is_sign open_paren a.role && is_wide_name b.role && is_sign close_paren c.role
    && first_is open_paren xs

-- the tokens after the first do
abbrev pub rest_encloses_name : List WideToken → Bool
rest_encloses_name [] = false
rest_encloses_name (x ∷ xs) = encloses_name xs

-- the tokens up to the first brace or `;`
abbrev pub up_to_mark : List WideToken → List WideToken
up_to_mark [] = []
up_to_mark (x ∷ xs) = if ends_attribute x.role then [] else x ∷ up_to_mark xs

-- what is seen from the first token: it alone, if it is one of these, and else those up to the next
abbrev pub seen : List WideToken → List WideToken
seen [] = []
seen (x ∷ xs) = x ∷ (if ends_attribute x.role then [] else up_to_mark xs)
