-- What the role of a token tells of lone bytes.
use Rattle.std.proofs.Common.{◌≡◌, ℕ, Bool, true, false, List, refl}
use Rattle.std.proofs.lemmas.Bool.{or_parts}
use Rattle.std.specs.Prelude.{◌||◌, if◌then◌else◌}
use Rattle.cb_scan.specs.declared.lex.token.Role.{Role}
use Rattle.cb_scan.specs.declared.lex.token.Role.TheVariants.{Word, Mark, Str, Other}
use Rattle.cb_scan.specs.declared.lex.token.Token.{Token}
use Rattle.cb_scan.specs.declared.lex.token.WordKind.TheVariants as kind
use Rattle.cb_scan.specs.declared.rules.wide.role.WideRole.{WideRole}
use Rattle.cb_scan.specs.declared.rules.wide.role.WideRole.TheVariants as wide
use Rattle.cb_scan.specs.lex.Tokens.{bytes_of, is_mark}
use Rattle.cb_scan.specs.rules.wide.Attributes.{ends_attribute}
use Rattle.cb_scan.specs.rules.wide.Words.{attribute_words, is_among, is_sign}
use Rattle.cb_scan.specs.rules.wide.Words.{reserved_role, role_from, specifier_words}
use Rattle.cb_scan.specs.rules.wide.Words.{statement_words, wide_role}

by_underscores : (b : ℕ) (u : Bool)
    → is_sign b (if u then wide.Underscored else wide.Name) ≡ false
by_underscores b true = refl
by_underscores b false = refl

by_words : (b : ℕ) (a s t : Bool)
    → is_sign b (if a then wide.Attribute else (if s then wide.Specifier
    else (if t then wide.Statement else wide.Reserved))) ≡ false
by_words b true s t = refl
by_words b false true t = refl
by_words b false false true = refl
by_words b false false false = refl

by_apostrophe : (b : ℕ) (c : Bool)
    → is_sign b (if c then wide.Character else wide.Number) ≡ false
by_apostrophe b true = refl
by_apostrophe b false = refl

-- its role is that of a lone byte where the token is one
sign_from : (b : ℕ) (r : Role) (bytes : List ℕ) → is_sign b (role_from r bytes) ≡ is_mark b r
unfolding reserved_role
sign_from b (Word kind.Name) bytes = by_underscores b _
sign_from b (Word kind.Define) bytes = by_underscores b _
sign_from b (Word kind.Include) bytes = by_underscores b _
sign_from b (Word kind.Typedef) bytes = refl
sign_from b (Word kind.Extern) bytes = refl
sign_from b (Word kind.Static) bytes = refl
sign_from b (Word kind.Struct) bytes = refl
sign_from b (Word kind.Union) bytes = refl
sign_from b (Word kind.Enum) bytes = refl
sign_from b (Word kind.Reserved) bytes =
    by_words b (is_among attribute_words bytes) (is_among specifier_words bytes)
    (is_among statement_words bytes)
sign_from b (Mark x) bytes = refl
sign_from b Str bytes = refl
sign_from b Other bytes = by_apostrophe b _

pub sign_of : (text : List ℕ) (b : ℕ) (t : Token) → is_sign b (wide_role text t) ≡ is_mark b t.role
sign_of text b t = sign_from b t.role (bytes_of text t.span)

-- what ends no attribute is no `;` and no brace
pub no_signs : (r : WideRole) → ends_attribute r ≡ false
    → (is_sign 59 r ≡ false) × (is_sign 123 r ≡ false) × (is_sign 125 r ≡ false)
no_signs r isnt =
    let all_three = or_parts (is_sign 59 r || is_sign 123 r) (is_sign 125 r) isnt in
    let first_two = or_parts (is_sign 59 r) (is_sign 123 r) all_three.0 in
    (first_two.0, first_two.1, all_three.1)
