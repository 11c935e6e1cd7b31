-- What a `{` would open inside a block, where nothing else is asked of the tokens. Attributes are
-- left out without holding tokens back.
use Rattle.std.specs.Prelude.{ℕ, zero, suc, Bool, true, false, ◌&&◌, not, ◌==◌, List, [], ◌∷◌}
use Rattle.std.specs.Prelude.{Option, None, Some, if◌then◌else◌}
use Rattle.cb_scan.specs.declared.lex.token.Role.{Role}
use Rattle.cb_scan.specs.declared.lex.token.Role.TheVariants as role
use Rattle.cb_scan.specs.declared.lex.token.WordKind.{WordKind}
use Rattle.cb_scan.specs.declared.lex.token.WordKind.TheVariants as kind
use Rattle.cb_scan.specs.declared.rules.wide.opening.Opening.{Opening}
use Rattle.cb_scan.specs.declared.rules.wide.sight.Early.{Early}
use Rattle.cb_scan.specs.declared.rules.wide.sight.Early.TheVariants as early
use Rattle.cb_scan.specs.declared.rules.wide.sight.Phase.{Phase}
use Rattle.cb_scan.specs.declared.rules.wide.sight.Phase.TheVariants.{Clear, Word, Paren, Inside}
use Rattle.cb_scan.specs.declared.rules.wide.sight.Sight.{Sight}
use Rattle.cb_scan.specs.declared.rules.wide.token.WideToken.{WideToken}
use Rattle.cb_scan.specs.lex.Tokens.{is_mark}
use Rattle.cb_scan.specs.rules.wide.Words.{attribute_words, is_among, is_attribute_word, is_literal}
use Rattle.cb_scan.specs.rules.wide.Words.{is_sign, is_wide_word}
use Rattle.cb_scan.specs.steps.wide.Openings.{next_opening}
use Rattle.cb_scan.specs.Bytes.{close_paren, open_paren}

-- where nothing is to open
abbrev pub idle_in : Phase → Sight
idle_in p = record { phase = p; before = None; opening = None }

-- the beginning of a block
abbrev pub sight_start : Sight
sight_start = idle_in Clear

-- what a `{` would open here
abbrev pub opening_in : Phase → Sight → Option Opening
opening_in Clear s = s.opening
opening_in (Word attribute) s = s.opening
opening_in Paren s = None
opening_in (Inside n) s = s.before

abbrev pub sight_opening : Sight → Option Opening
sight_opening s = opening_in s.phase s

-- after a word, and after another token
abbrev pub phase_after : WideToken → Phase
phase_after x = if is_wide_word x.role then Word (is_attribute_word x.role) else Clear

-- after a token that is of no attribute so far, where a `{` before it would open this
abbrev pub seen_after : Option Opening → WideToken → Sight
seen_after o x = record { phase = phase_after x; before = o; opening = next_opening o x }

-- after the `)` of an attribute, where n more parentheses are open
abbrev pub sight_closed : ℕ → Sight → Sight
sight_closed zero s = record s { phase = Clear; opening = s.before }
sight_closed (suc n) s = record s { phase = Inside n }

-- after a token in an attribute
abbrev pub look_inside : ℕ → Sight → WideToken → Sight
look_inside n s x =
    if is_sign open_paren x.role then record s { phase = Inside (suc n) }
    else (if is_sign close_paren x.role then sight_closed n s else s)

-- the phase after the `(` that follows a word
abbrev pub paren_after : Bool → Phase
paren_after attribute = if attribute then Inside 0 else Paren

-- after a token
abbrev pub look_in : Phase → Sight → WideToken → Sight
look_in Clear s x = seen_after s.opening x
look_in (Word attribute) s x =
    if is_sign open_paren x.role then record s { phase = paren_after attribute }
    else seen_after s.opening x
look_in Paren s x = if is_literal x.role then record s { phase = Inside 0 } else seen_after None x
look_in (Inside n) s x = look_inside n s x

abbrev pub look : Sight → WideToken → Sight
look s x = look_in s.phase s x

-- the phase, if one byte is the whole sight
abbrev pub phase_of : Early → Option Phase
phase_of early.Clear = Some Clear
phase_of early.Word = Some (Word false)
phase_of early.Paren = Some Paren
phase_of early.Late = None

abbrev pub idle_or : Option Phase → Sight → Sight
idle_or (Some p) s = idle_in p
idle_or None s = s

-- a sight that is kept in one byte, or else as it is
abbrev pub sight_by : Early → Sight → Sight
sight_by e s = idle_or (phase_of e) s

-- one byte is not the whole sight
abbrev pub is_late : Early → Bool
is_late early.Late = true
is_late _ = false

-- after a word, where it was not late before
abbrev pub early_past_word : WordKind → List ℕ → Early
early_past_word kind.Struct bytes = early.Late
early_past_word kind.Union bytes = early.Late
early_past_word kind.Enum bytes = early.Late
early_past_word kind.Reserved bytes =
    if is_among attribute_words bytes then early.Late else early.Word
early_past_word _ bytes = early.Word

-- after a `(`, where it was not late before
abbrev pub early_past_paren : Early → Early
early_past_paren early.Word = early.Paren
early_past_paren _ = early.Clear

-- after a string, a number or a character constant, where it was not late before
abbrev pub early_past_other : Early → Early
early_past_other early.Paren = early.Late
early_past_other _ = early.Clear

-- after a mark, where it was not late before
abbrev pub early_past_mark : Early → ℕ → Early
early_past_mark e b = if b == open_paren then early_past_paren e else early.Clear

-- after a token with these bytes, where one byte was the whole sight before it: late where one byte
-- may no longer do
abbrev pub early_past_role : Early → Role → List ℕ → Early
early_past_role e (role.Word kind) bytes = early_past_word kind bytes
early_past_role e (role.Mark b) bytes = early_past_mark e b
early_past_role e role.Str bytes = early_past_other e
early_past_role e role.Other bytes = early_past_other e

-- after a token with these bytes: late too where it was late before
abbrev pub early_past : Early → Role → List ℕ → Early
early_past e r bytes = if is_late e then early.Late else early_past_role e r bytes

-- a token in an attribute, which is neither a `(` nor a `)`
abbrev pub is_passed : Phase → Role → Bool
is_passed (Inside n) r = not (is_mark open_paren r) && not (is_mark close_paren r)
is_passed _ r = false

-- after some tokens
unfoldable pub look_along : Sight → List WideToken → Sight
look_along s [] = s
look_along s (x ∷ xs) = look_along (look s x) xs

-- how many parentheses of an attribute are open besides the first
abbrev pub open_in_phase : Phase → ℕ
open_in_phase Clear = 0
open_in_phase (Word attribute) = 0
open_in_phase Paren = 0
open_in_phase (Inside n) = n

-- what a `{` would open after some tokens without attributes
unfoldable pub opening_along : Option Opening → List WideToken → Option Opening
opening_along o [] = o
opening_along o (x ∷ xs) = opening_along (next_opening o x) xs
