-- How deep in braces a token of the code is, and where declarations part. This is the project's
-- profile.
use Rattle.std.specs.Prelude.{ℕ, zero, suc, ◌+◌, ◌-◌, Bool, false, ◌&&◌, ◌||◌, ◌==◌, not, List}
use Rattle.std.specs.Prelude.{if◌then◌else◌, slice_index_or}
use Rattle.cb_scan.specs.declared.lex.token.Token.{Token}
use Rattle.cb_scan.specs.declared.lex.token.Role.TheVariants.{Other}
use Rattle.cb_scan.specs.lex.Tokens.{is_mark, is_extern, is_str}
use Rattle.cb_scan.specs.Bytes.{close_brace, open_brace, semicolon}

-- the token where there is none
abbrev pub no_token : Token
no_token = record {
  role = Other;
  span = record { start = 0; end = 0 };
  line = 0;
  starts_line = false;
}

-- token k of the code
abbrev pub token_at : List Token → ℕ → Token
token_at ts k = slice_index_or ts k no_token

-- `extern` and a string are directly before token k
abbrev pub follows_linkage : List Token → ℕ → Bool
follows_linkage ts zero = false
follows_linkage ts (suc zero) = false
follows_linkage ts (suc (suc k)) =
    is_extern (token_at ts k).role && is_str (token_at ts (suc k)).role

-- token k is a `{`
abbrev pub is_open : List Token → ℕ → Bool
is_open ts k = is_mark open_brace (token_at ts k).role

-- token k is a `{` that counts: all do but the one after `extern` and a string
abbrev pub is_counted : List Token → ℕ → Bool
is_counted ts k = is_open ts k && not (follows_linkage ts k)

-- token k is a `{` that does not count
abbrev pub is_uncounted : List Token → ℕ → Bool
is_uncounted ts k = is_open ts k && follows_linkage ts k

-- the depth after a token: a `{` that counts adds one, a `}` takes one, and one in the first column
-- ends all
abbrev pub depth_after : Bool → Token → ℕ → ℕ
depth_after counted t d =
    if counted then d + 1
    else (if is_mark close_brace t.role then (if t.starts_line then 0 else d - 1)
    else d)

-- the depth before token k
unfoldable pub depth : List Token → ℕ → ℕ
depth ts zero = 0
depth ts (suc k) = depth_after (is_counted ts k) (token_at ts k) (depth ts k)

-- token k is a `}` after which the depth is 0
abbrev pub closes : List Token → ℕ → Bool
closes ts k = is_mark close_brace (token_at ts k).role && depth ts (suc k) == 0

-- token k is a stop: a `;` at depth 0, a `}` that leaves depth 0, or a `{` that does not count
abbrev pub is_stop : List Token → ℕ → Bool
is_stop ts k = (is_mark semicolon (token_at ts k).role && depth ts k == 0) || closes ts k
    || is_uncounted ts k

-- the place after the last stop before token k, or the beginning of the code
unfoldable pub head_start : List Token → ℕ → ℕ
head_start ts zero = 0
head_start ts (suc k) = if is_stop ts k then suc k else head_start ts k
