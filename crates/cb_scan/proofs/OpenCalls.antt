-- The calls in a body that is open, each told by the token after it.
use Rattle.std.proofs.Common.{◌≡◌, ◌∙◌, ℕ, zero, suc, ◌-◌, ◌<◌, ◌≤◌, Bool, true, false, List}
use Rattle.std.proofs.Common.{[], ◌∷◌, ◌++◌, Option, Some, None, refl, ap, length, arith}
use Rattle.std.proofs.Common.{add-one}
use Rattle.std.proofs.lemmas.List.{append-nil, get_or_past}
use Rattle.std.proofs.Math.Bool.{and-false}
use Rattle.std.specs.Prelude.{◌&&◌, cond, if◌then◌else◌}
use Rattle.std.specs.List.{flat_map, range_with_len}
use Rattle.std.specs.Option.{option_to_list}
use Rattle.cb_scan.specs.declared.facts.Call.{Call}
use Rattle.cb_scan.specs.declared.lex.piece.Span.{Span}
use Rattle.cb_scan.specs.declared.lex.token.Token.{Token}
use Rattle.cb_scan.specs.rules.Depth.{closes, depth, no_token, token_at}
use Rattle.cb_scan.specs.rules.Functions.{close_from}
use Rattle.cb_scan.specs.lex.Tokens.{is_mark, is_name_token}
use Rattle.cb_scan.specs.rules.Uses.{call_at, call_of, is_call}
use Rattle.cb_scan.specs.steps.Functions.{call_before}
use Rattle.cb_scan.proofs.Bodies.{and_left, close_bound, close_end, close_step, only_mark}

-- the token directly before token k
abbrev pub token_before : List Token → ℕ → Option Token
token_before ts zero = None
token_before ts (suc k) = Some (token_at ts k)

-- the calls of an open body from token k on, the last of which the next token tells
abbrev pub open_calls : List Token → ℕ → Span → List Call
open_calls ts k caller = flat_map (call_at ts caller) (range_with_len k (close_from ts (suc k) - k))

-- the calls that are still to come of the body that is open before token k
abbrev pub pending : List Token → ℕ → Option Span → List Call
pending ts zero body = []
pending ts (suc k) body = flat_map (open_calls ts k) (option_to_list body)

-- ---- the calls of an open body

-- the next token tells whether a token is a call
pub call_told : (ts : List Token) (k : ℕ) (caller : Span)
    → option_to_list (call_before (Some caller) (Some (token_at ts k)) (token_at ts (suc k)))
    ≡ call_at ts caller k
call_told ts k caller = one (is_call (token_at ts k) (token_at ts (suc k)))
  where
    one : (b : Bool) → option_to_list (cond b (Some (call_of caller (token_at ts k))) None)
        ≡ cond b (call_of caller (token_at ts k) ∷ []) []
    one true = refl
    one false = refl

-- a token is no call where no `(` follows it
pub no_call_before : (ts : List Token) (k : ℕ) (caller : Span)
    → is_mark 40 (token_at ts (suc k)).role ≡ false → call_at ts caller k ≡ []
no_call_before ts k caller shut =
    let name = is_name_token (token_at ts k).role in
    let call : Bool → List Call = λ b. cond b (call_of caller (token_at ts k) ∷ []) [] in
    ap (λ b. call (name && b)) shut ∙ ap call (and-false name)

-- no token after the last one calls it
no_call_at_end : (ts : List Token) (k : ℕ) (caller : Span) → length ts ≤ suc k
    → call_at ts caller k ≡ []
no_call_at_end ts k caller past =
    let none : is_mark 40 (token_at ts (suc k)).role ≡ false =
    ap (λ (u : Token). is_mark 40 u.role) (get_or_past ts (suc k) no_token past) in
    no_call_before ts k caller none

-- the calls of an open body, one token on
pub open_step : (ts : List Token) (k : ℕ) (caller : Span) → suc k < length ts
    → closes ts (suc k) ≡ false
    → open_calls ts k caller ≡ call_at ts caller k ++ open_calls ts (suc k) caller
open_step ts k caller within goes_on =
    let later : close_from ts (suc k) ≡ close_from ts (suc (suc k)) =
    close_step ts (suc k) within
    ∙ ap (λ b. if b then suc k else close_from ts (suc (suc k))) goes_on in
    let bound : suc (suc k) ≤ close_from ts (suc (suc k)) =
    close_bound ts (length ts - suc (suc k)) (suc (suc k)) refl (omega arith) in
    let more : close_from ts (suc k) - k ≡ suc (close_from ts (suc (suc k)) - suc k) =
    omega arith in
    ap (λ n. flat_map (call_at ts caller) (range_with_len k n)) more
    ∙ ap (λ j. call_at ts caller k
    ++ flat_map (call_at ts caller) (range_with_len j (close_from ts (suc (suc k)) - suc k)))
    (add-one k)

pub open_end : (ts : List Token) (k : ℕ) (caller : Span) → suc k < length ts
    → closes ts (suc k) ≡ true → open_calls ts k caller ≡ []
open_end ts k caller within ends =
    let here_ends : close_from ts (suc k) ≡ suc k =
    close_step ts (suc k) within
    ∙ ap (λ b. if b then suc k else close_from ts (suc (suc k))) ends in
    let one : close_from ts (suc k) - k ≡ 1 = omega arith in
    let shut : is_mark 40 (token_at ts (suc k)).role ≡ false =
    only_mark (token_at ts (suc k)).role 125 40 refl (and_left _ _ ends) in
    ap (λ n. flat_map (call_at ts caller) (range_with_len k n)) one
    ∙ append-nil _
    ∙ no_call_before ts k caller shut

pub open_past : (ts : List Token) (k : ℕ) (caller : Span) → length ts ≤ suc k
    → open_calls ts k caller ≡ []
open_past ts k caller past =
    ap (λ e. flat_map (call_at ts caller) (range_with_len k (e - k))) (close_end ts (suc k) past)
    ∙ few (length ts - k) (omega arith)
  where
    few : (n : ℕ) → n ≤ 1 → flat_map (call_at ts caller) (range_with_len k n) ≡ []
    few zero small = refl
    few (suc zero) small = append-nil _ ∙ no_call_at_end ts k caller past
    few (suc (suc n)) small = absurd (omega arith)

pub depth_zero : (ts : List Token) → depth ts 0 ≡ 0
unfolding depth
depth_zero ts = refl
