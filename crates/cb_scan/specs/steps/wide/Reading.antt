-- The pass of the wide profile over all tokens of the code: those that may be of an attribute, or
-- ahead of which more is to be seen, are held back.
use Rattle.std.specs.Prelude.{ℕ, ◌+◌, Bool, ◌&&◌, ◌||◌, not, ◌==◌, List, [], ◌∷◌, ◌++◌, drop}
use Rattle.std.specs.Prelude.{take, length, max, Option}
use Rattle.std.specs.Prelude.{if◌then◌else◌}
use Rattle.std.specs.Option.{is_none}
use Rattle.cb_scan.specs.declared.lex.token.Role.{Role}
use Rattle.cb_scan.specs.declared.lex.token.Token.{Token}
use Rattle.cb_scan.specs.Bytes.{close_brace, open_brace, semicolon}
use Rattle.cb_scan.specs.lex.Tokens.{is_mark}
use Rattle.cb_scan.specs.declared.rules.functions.Before.{Before}
use Rattle.cb_scan.specs.declared.rules.functions.Before.TheVariants.{Anything}
use Rattle.cb_scan.specs.declared.rules.wide.attribute.Attribute.TheVariants.{Outside}
use Rattle.cb_scan.specs.declared.rules.wide.opening.Opening.{Opening}
use Rattle.cb_scan.specs.declared.rules.wide.pass.Pass.{Pass}
use Rattle.cb_scan.specs.declared.rules.wide.reader.Reader.{Reader}
use Rattle.cb_scan.specs.declared.rules.wide.reader.TheConstants.{FULL}
use Rattle.cb_scan.specs.declared.rules.wide.sight.Sight.{Sight}
use Rattle.cb_scan.specs.declared.rules.wide.token.WideToken.{WideToken}
use Rattle.cb_scan.specs.rules.wide.Attributes.{ends_attribute}
use Rattle.cb_scan.specs.steps.Functions.{before_after, is_after_linkage}
use Rattle.cb_scan.specs.steps.wide.Attributes.{kept_from, leaves_out, next_attribute, open_count}
use Rattle.cb_scan.specs.steps.wide.Contents.{are_in_block}
use Rattle.cb_scan.specs.steps.wide.HeldBack.{HeldBack, none_held}
use Rattle.cb_scan.specs.steps.wide.Lists.{Lists}
use Rattle.cb_scan.specs.steps.wide.Pass.{Taken, take_all, take_first}
use Rattle.cb_scan.specs.steps.wide.Sights.{look, open_in_phase, sight_opening, sight_start}
use Rattle.cb_scan.specs.steps.wide.Tokens.{token_after}

-- a state, and what is found so far
abbrev pub the_taken : Pass → Lists → Taken
the_taken pass lists = record { pass = pass; lists = lists }

-- ---- the tokens that are held back

-- the beginning of the code
abbrev pub reader_start : Reader
reader_start = record {
  before = Anything;
  attribute = Outside;
  sight = sight_start;
  window = none_held;
}

-- the first token, of which it is known whether it is of an attribute: it is left out or kept
abbrev pub settled_back : Bool → HeldBack → HeldBack
settled_back out w = record {
  bare = if out then w.bare else w.bare ++ take 1 w.raw;
  raw = drop 1 w.raw;
}

abbrev pub settled : Reader → Reader
settled r = record r {
  attribute = next_attribute r.attribute r.window.raw;
  window = settled_back (leaves_out r.attribute r.window.raw) r.window;
}

-- after one more token: three are enough to know it of the first
abbrev pub with_raw : Reader → WideToken → Reader
with_raw r x = record r { window = record r.window { raw = r.window.raw ++ (x ∷ []) } }

abbrev pub held : Reader → WideToken → Reader
held r x = if length (with_raw r x).window.raw == 3 then settled (with_raw r x) else with_raw r x

-- all of them, where nothing that is to come is seen from them
abbrev pub released : Reader → Reader
released r = record r {
  attribute = Outside;
  window = record { bare = r.window.bare ++ kept_from r.attribute r.window.raw; raw = [] };
}

-- the reader with these, instead of its own, as the tokens that are of no attribute
abbrev pub with_bare : Reader → List WideToken → Reader
with_bare r bare = record r { window = record r.window { bare = bare } }

-- so many are held back before the first is taken: five would be enough
abbrev pub is_full : Reader → Bool
is_full r = length r.window.bare == FULL

abbrev pub emptied : Reader → Reader
emptied r = if is_full r then with_bare r (drop 1 r.window.bare) else r

-- the first of some tokens is taken
abbrev pub first_taken : Taken → List WideToken → Taken
first_taken t [] = t
first_taken t (x ∷ xs) = take_first t (x ∷ xs) x

abbrev pub taken_if_full : Reader → Taken → Taken
taken_if_full r t = if is_full r then first_taken t r.window.bare else t

-- how many tokens are held back
abbrev pub held_len : Reader → ℕ
held_len r = length r.window.raw + length r.window.bare

-- ---- one token

-- what a `{` would open is known from the sight
abbrev pub opened_by : Option Opening → Taken → Taken
opened_by o t = record t { pass = record t.pass { opening = o } }

-- all that is held back is taken before a brace or a `;`
abbrev pub all_taken : Bool → Reader → Taken → Taken
all_taken in_block r t =
    if in_block then opened_by (sight_opening r.sight) t else take_all t (released r).window.bare

-- nothing is held back after it
abbrev pub all_released : Reader → Reader
all_released r = record r { attribute = Outside; window = none_held }

abbrev pub turned : Bool → Reader → Reader
turned in_block r = record (if in_block then r else all_released r) { sight = sight_start }

-- after any other token
abbrev pub read_on : Bool → Reader → WideToken → Reader
read_on in_block r x =
    if in_block then record r { sight = look r.sight x } else emptied (held r x)

abbrev pub taken_on : Bool → Reader → Taken → WideToken → Taken
taken_on in_block r t x = if in_block then t else taken_if_full (held r x) t

-- after a token
abbrev pub read_next : Bool → Reader → WideToken → Reader
read_next in_block r x = if ends_attribute x.role then turned in_block r else read_on in_block r x

abbrev pub taken_next : Bool → Reader → Taken → WideToken → Taken
taken_next in_block r t x =
    if ends_attribute x.role then take_first (all_taken in_block r t) (x ∷ []) x
    else taken_on in_block r t x

-- the token as the pass reads it, and what is directly before the next one
abbrev pub item_of : List ℕ → Reader → Token → WideToken
item_of text r token = token_after text r.before token

abbrev pub passed : Reader → Token → Reader
passed r token = record r { before = before_after r.before token }

-- a `;` or a brace
abbrev pub is_mark_of_blocks : Role → Bool
is_mark_of_blocks role =
    is_mark semicolon role || is_mark open_brace role || is_mark close_brace role

-- a `{` that opens a block in a block
abbrev pub opens_block : Before → Sight → Token → Bool
opens_block b s token =
    is_mark open_brace token.role && (not (is_after_linkage b) && is_none (sight_opening s))

-- a `}` that closes the innermost brace alone
abbrev pub closes_block : Token → Bool
closes_block token = is_mark close_brace token.role && not token.starts_line

-- after a token of the code
abbrev pub reader_after : List ℕ → Reader → Taken → Token → Reader
reader_after text r t token =
    read_next (are_in_block t.pass.levels) (passed r token) (item_of text r token)

abbrev pub taken_after : List ℕ → Reader → Taken → Token → Taken
taken_after text r t token =
    taken_next (are_in_block t.pass.levels) (passed r token) t (item_of text r token)

-- after the end of the code
abbrev pub taken_at_end : Reader → Taken → Taken
taken_at_end r t =
    if are_in_block t.pass.levels then t else take_all t (released r).window.bare

-- how many parentheses of an attribute are open
abbrev pub most_left_out : Reader → ℕ
most_left_out r = max (open_count r.attribute) (open_in_phase r.sight.phase)
