-- Attributes left out, a token at a time.
use Rattle.std.specs.Prelude.{ℕ, zero, suc, Bool, false, not, List, [], ◌∷◌}
use Rattle.std.specs.Prelude.{if◌then◌else◌}
use Rattle.cb_scan.specs.declared.rules.wide.attribute.Attribute.{Attribute}
use Rattle.cb_scan.specs.declared.rules.wide.attribute.Attribute.TheVariants.{Begun, Inside}
use Rattle.cb_scan.specs.declared.rules.wide.attribute.Attribute.TheVariants.{Outside}
use Rattle.cb_scan.specs.declared.rules.wide.role.WideRole.{WideRole}
use Rattle.cb_scan.specs.declared.rules.wide.token.WideToken.{WideToken}
use Rattle.cb_scan.specs.rules.wide.Attributes.{begins_attribute, ends_attribute}
use Rattle.cb_scan.specs.rules.wide.Words.{is_sign}
use Rattle.cb_scan.specs.Bytes.{close_paren, open_paren}

-- after a `)` where n more parentheses are open than it closes
abbrev pub closed_after : ℕ → Attribute
closed_after zero = Outside
closed_after (suc n) = Inside n

-- after a token in the parentheses of an attribute, n of them open besides the first
abbrev pub inside_after : ℕ → WideRole → Attribute
inside_after n role =
    if is_sign open_paren role then Inside (suc n)
    else (if is_sign close_paren role then closed_after n
    else Inside n)

-- the first token is of an attribute
abbrev pub leaves_out : Attribute → List WideToken → Bool
leaves_out a [] = false
leaves_out Outside (x ∷ xs) = begins_attribute (x ∷ xs)
leaves_out Begun (x ∷ xs) = not (ends_attribute x.role)
leaves_out (Inside n) (x ∷ xs) = not (ends_attribute x.role)

-- the state after the first token
abbrev pub next_attribute : Attribute → List WideToken → Attribute
next_attribute a [] = a
next_attribute Outside (x ∷ xs) = if begins_attribute (x ∷ xs) then Begun else Outside
next_attribute Begun (x ∷ xs) = if ends_attribute x.role then Outside else Inside 0
next_attribute (Inside n) (x ∷ xs) =
    if ends_attribute x.role then Outside else inside_after n x.role

-- the tokens without attributes from a state on
unfoldable pub kept_from : Attribute → List WideToken → List WideToken
kept_from a [] = []
kept_from a (x ∷ xs) =
    if leaves_out a (x ∷ xs) then kept_from (next_attribute a (x ∷ xs)) xs
    else x ∷ kept_from (next_attribute a (x ∷ xs)) xs

-- how many parentheses of an attribute are open besides the first
abbrev pub open_count : Attribute → ℕ
open_count Outside = 0
open_count Begun = 0
open_count (Inside n) = n
