-- Names that are called in parentheses, a token at a time.
use Rattle.std.specs.Prelude.{Bool, true, false, ◌&&◌, ◌||◌, List, Option, None, Some}
use Rattle.std.specs.Prelude.{if◌then◌else◌}
use Rattle.std.specs.Option.{is_some, option_map}
use Rattle.cb_scan.specs.declared.rules.wide.called.Amount.{Amount}
use Rattle.cb_scan.specs.declared.rules.wide.called.Amount.TheVariants.{Nothing, One, More}
use Rattle.cb_scan.specs.declared.rules.wide.called.CalledName.{CalledName}
use Rattle.cb_scan.specs.declared.rules.wide.called.Calls.{Calls}
use Rattle.cb_scan.specs.declared.rules.wide.called.Enclosed.{Enclosed}
use Rattle.cb_scan.specs.declared.rules.wide.token.WideToken.{WideToken}
use Rattle.cb_scan.specs.rules.wide.Words.{is_sign, is_wide_name, is_wide_word}
use Rattle.cb_scan.specs.steps.wide.Ahead.{second_is}
use Rattle.cb_scan.specs.Bytes.{close_paren, open_paren, star}

-- one more
abbrev pub amount_after : Amount → Amount
amount_after Nothing = One
amount_after One = More
amount_after More = More

-- two or more
abbrev pub is_more : Amount → Bool
is_more Nothing = false
is_more One = false
is_more More = true

-- after a `(`
abbrev pub enclosed_start : Enclosed
enclosed_start = record { amount = Nothing; last = None; starred = false }

-- after one more word or star
abbrev pub next_enclosed : Enclosed → WideToken → Enclosed
next_enclosed e x = record {
  amount = amount_after e.amount;
  last = if is_wide_name x.role then Some x else None;
  starred = e.starred || is_sign star x.role;
}

-- the name that is called where another token comes: `)` and then `(`
abbrev pub call_of : Enclosed → List WideToken → WideToken → Option CalledName
call_of e xs x =
    if is_more e.amount && is_sign close_paren x.role && second_is open_paren xs
    then option_map (λ name. record { name = name; starred = e.starred }) e.last
    else None

-- the beginning of a part
abbrev pub no_calls : Calls
no_calls = record { enclosed = None; found = None }

-- after a token in the parentheses, or elsewhere
abbrev pub after_enclosed : Option Enclosed → List WideToken → WideToken → Calls
after_enclosed None xs x = no_calls
after_enclosed (Some e) xs x =
    if is_wide_word x.role || is_sign star x.role
    then record { enclosed = Some (next_enclosed e x); found = None }
    else record { enclosed = None; found = call_of e xs x }

-- after the first token
abbrev pub next_calls : Calls → Bool → List WideToken → WideToken → Calls
next_calls c outer xs x =
    if is_some c.found then c
    else (if outer && is_sign open_paren x.role
    then record { enclosed = Some enclosed_start; found = None }
    else after_enclosed c.enclosed xs x)
