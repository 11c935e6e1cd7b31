-- Where bodies end, and what is known of the depth in them.
use Rattle.std.proofs.Common.{◌≡◌, ◌∙◌, ℕ, zero, suc, ◌+◌, ◌-◌, ◌<◌, ◌≤◌, Bool, true, false, List}
use Rattle.std.proofs.Common.{[], Option, Some, None, refl, sym, ap, length, arith, add-one}
use Rattle.std.proofs.Common.{inl, inr, ⊎_elim}
use Rattle.std.proofs.lemmas.Bool.{false≢true, true≢false, eqb-true, eq-eqb}
use Rattle.std.specs.Prelude.{◌⊎◌, ◌||◌, ◌&&◌, ◌==◌, if◌then◌else◌, cond, find, nat_lt, unwrap_or}
use Rattle.std.specs.List.{range_with_len}
use Rattle.cb_scan.specs.declared.facts.Def.{Def}
use Rattle.cb_scan.specs.declared.lex.piece.Span.{Span}
use Rattle.cb_scan.specs.declared.lex.token.Token.{Token}
use Rattle.cb_scan.specs.declared.lex.token.Role.{Role}
use Rattle.cb_scan.specs.declared.lex.token.Role.TheVariants.{Word, Mark, Str, Other}
use Rattle.cb_scan.specs.rules.Depth.{depth, is_counted, closes, is_stop, token_at}
use Rattle.cb_scan.specs.rules.Functions.{close_from, function_at, function_from, signature}
use Rattle.cb_scan.specs.lex.Tokens.{is_mark, is_name_token}

-- the token directly before token k, unless it is a stop
abbrev pub last_at : List Token → ℕ → Option Token
last_at ts zero = None
last_at ts (suc k) = if is_stop ts k then None else Some (token_at ts k)

-- where a body ends that is open before token k
pub close_step : (ts : List Token) (k : ℕ) → k < length ts
    → close_from ts k ≡ (if closes ts k then k else close_from ts (suc k))
close_step ts k within =
    let more : length ts - k ≡ suc (length ts - suc k) = omega arith in
    let one : k + 1 ≡ suc k = add-one k in
    ap (λ n. unwrap_or (find (closes ts) (range_with_len k n)) (length ts)) more
    ∙ ap (λ j. unwrap_or (cond (closes ts k) (Some k) (find (closes ts) (range_with_len j (length ts - suc k))))
    (length ts)) one
    ∙ elim (closes ts k) as (λ b. unwrap_or
    (cond b (Some k) (find (closes ts) (range_with_len (suc k) (length ts - suc k)))) (length ts)
    ≡ (if b then k else close_from ts (suc k))) [ true ↦ refl | false ↦ refl ]

pub close_end : (ts : List Token) (k : ℕ) → length ts ≤ k → close_from ts k ≡ length ts
close_end ts k past =
    let none : length ts - k ≡ 0 = omega arith in
    ap (λ n. unwrap_or (find (closes ts) (range_with_len k n)) (length ts)) none

pub close_bound : (ts : List Token) (n k : ℕ) → n ≡ length ts - k → k ≤ length ts
    → k ≤ unwrap_or (find (closes ts) (range_with_len k n)) (length ts)
close_bound ts zero k is within = within
close_bound ts (suc n) k is within =
    elim (closes ts k) as (λ b. k ≤ unwrap_or (cond b (Some k) (find (closes ts) (range_with_len (k + 1) n)))
    (length ts)) [
      | true ↦ omega arith
      | false ↦ let later : k + 1 ≤ unwrap_or (find (closes ts) (range_with_len (k + 1) n)) (length ts) =
          close_bound ts n (k + 1) (omega arith) (omega arith) in omega arith
    ]

-- a lone byte is one byte
pub only_mark : (r : Role) (a b : ℕ) → (a == b) ≡ false → is_mark a r ≡ true → is_mark b r ≡ false
only_mark (Word w) a b other is = refl
only_mark Str a b other is = refl
only_mark Other a b other is = refl
only_mark (Mark x) a b other is = ap (λ y. y == b) (eqb-true x a is) ∙ other

-- a stop is no name
pub no_name : (r : Role) (a b c : Bool) → ((is_mark 59 r && a) || (is_mark 125 r && b) || (is_mark 123 r && c)) ≡ true
    → is_name_token r ≡ false
no_name (Word w) a b c is = absurd (false≢true is)
no_name Str a b c is = refl
no_name Other a b c is = refl
no_name (Mark x) a b c is = refl

pub and_left : (a b : Bool) → (a && b) ≡ true → a ≡ true
and_left true b is = refl
and_left false b is = is

pub and_right : (a b : Bool) → (a && b) ≡ true → b ≡ true
and_right true b is = is
and_right false b is = absurd (false≢true is)

-- the depth stays above 0 where nothing ends all
pub stays_deep : (c b s : Bool) (d : ℕ) → 0 < d
    → (b && (if c then d + 1 else (if b then (if s then 0 else d - 1) else d)) == 0) ≡ false
    → 0 < (if c then d + 1 else (if b then (if s then 0 else d - 1) else d))
stays_deep true b s d deep open_ = omega arith
stays_deep false false s d deep open_ = deep
stays_deep false true true d deep open_ = absurd (true≢false open_)
stays_deep false true false d deep open_ =
    ⊎_elim (λ e. absurd (true≢false (sym (eq-eqb (d - 1) 0 e) ∙ open_))) (λ e. omega arith) (zero_or_more (d - 1))
  where
    zero_or_more : (n : ℕ) → (n ≡ 0) ⊎ (0 < n)
    zero_or_more zero = inl refl
    zero_or_more (suc n) = inr (omega arith)

-- where a body ends whose `}` is token j, or that nothing ends
abbrev pub place_of : List ℕ → List Token → ℕ → ℕ
place_of text ts j = if nat_lt j (length ts) then (token_at ts j).span.end else length text

-- the name of a definition
abbrev pub def_name : Def → Span
def_name d = d.name

-- no function begins where a `{` does not count or is in braces
pub none_here : (ts : List Token) (k : ℕ) → (is_counted ts k && depth ts k == 0) ≡ false
    → function_at ts k ≡ []
none_here ts k shut = ap (λ b. cond b (function_from ts k (signature ts k)) []) shut

-- the same on both ways
pub either : (b : Bool) (o : Option Span) → (if b then o else o) ≡ o
either true o = refl
either false o = refl
