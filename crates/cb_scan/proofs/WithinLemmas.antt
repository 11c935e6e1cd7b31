-- What is found in a text lies in it.
use Rattle.std.proofs.Common.{◌≤◌, ◌<◌, ℕ, zero, suc, Bool, true, false, List, [], ◌∷◌, ◌++◌}
use Rattle.std.proofs.Common.{Option, Some, None, map, ◌+◌, sym, subst, arith, take, drop, length}
use Rattle.std.specs.Prelude.{◌&&◌, ◌||◌, ◌==◌, cond, not, filter, find}
use Rattle.std.specs.List.{AllByRecursion, flat_map, slice_split, onto_first, range_with_len}
use Rattle.std.specs.Option.{option_map_or, MatchOption}
use Rattle.std.proofs.lemmas.List.{map-append}
use Rattle.cb_scan.specs.declared.lex.piece.Piece.{Piece}
use Rattle.cb_scan.specs.declared.lex.token.Token.{Token}
use Rattle.cb_scan.specs.rules.Code.{is_newline, is_directive, code, logical_lines}
use Rattle.cb_scan.specs.Definitions.{IsWithin, function_def}
use Rattle.cb_scan.specs.rules.Functions.{function_at, function_from, functions, signature}
use Rattle.cb_scan.specs.rules.Heads.{Signature, called_name, defined_name, head, may_define, signed}
use Rattle.cb_scan.specs.rules.OldStyle.{is_declaration, is_opening, nearest_opening, old_signature, signature_of}
use Rattle.cb_scan.specs.rules.OldStyle.{segments, semicolons_before}
use Rattle.cb_scan.specs.rules.Depth.{depth, head_start, is_counted}
use Rattle.cb_scan.specs.declared.facts.Def.{Def}
use Rattle.cb_scan.specs.Lines.{IsLineOf}
use Rattle.cb_scan.specs.steps.Cut.{pieces}
use Rattle.cb_scan.specs.lex.Pieces.{LiesIn}
use Rattle.cb_scan.specs.lex.Tokens.{tokens, token_of, is_significant, is_name_token, is_mark}
use Rattle.cb_scan.proofs.LineTable.{line-within}

-- each of a list of lists
abbrev pub AllOfAll : {X : Type 0} → (X → Type 0) → List (List X) → Type 0
AllOfAll P ls = AllByRecursion (AllByRecursion P) ls

module _ {X : Type 0} (P : X → Type 0) where
  pub all-append : (xs ys : List X) → AllByRecursion P xs → AllByRecursion P ys → AllByRecursion P (xs ++ ys)
  all-append [] ys a b = b
  all-append (x ∷ xs) ys a b = (a.0, all-append xs ys a.1 b)

  pub all-take : (k : ℕ) (xs : List X) → AllByRecursion P xs → AllByRecursion P (take k xs)
  all-take zero xs a = tt
  all-take (suc k) [] a = tt
  all-take (suc k) (x ∷ xs) a = (a.0, all-take k xs a.1)

  pub all-drop : (k : ℕ) (xs : List X) → AllByRecursion P xs → AllByRecursion P (drop k xs)
  all-drop zero xs a = a
  all-drop (suc k) [] a = tt
  all-drop (suc k) (x ∷ xs) a = all-drop k xs a.1

  pub all-filter : (test : X → Bool) (xs : List X) → AllByRecursion P xs → AllByRecursion P (filter test xs)
  all-filter test [] a = tt
  all-filter test (x ∷ xs) a =
      elim (test x) as (λ b. AllByRecursion P (cond b (x ∷ filter test xs) (filter test xs)))
      [ true ↦ (a.0, all-filter test xs a.1) | false ↦ all-filter test xs a.1 ]

  pub all-joined : (ls : List (List X)) → AllOfAll P ls → AllByRecursion P (flat_map (λ l. l) ls)
  all-joined [] a = tt
  all-joined (l ∷ ls) a = all-append l (flat_map (λ l. l) ls) a.0 (all-joined ls a.1)

  all-onto_first : (x : X) (ls : List (List X)) → P x → AllOfAll P ls → AllOfAll P (onto_first x ls)
  all-onto_first x [] p a = ((p, tt), tt)
  all-onto_first x (l ∷ ls) p a = ((p, a.0), a.1)

  pub all-split : (test : X → Bool) (xs : List X) → AllByRecursion P xs → AllOfAll P (slice_split test xs)
  all-split test [] a = (tt, tt)
  all-split test (x ∷ xs) a =
      elim (test x) as (λ b. AllOfAll P (cond b ([] ∷ slice_split test xs) (onto_first x (slice_split test xs)))) [
        | true ↦ (tt, all-split test xs a.1)
        | false ↦ all-onto_first x (slice_split test xs) a.0
            (all-split test xs a.1)
      ]

-- a token lies in the text, has a byte at least, and is on a line of the text
abbrev pub TokenWithin : List ℕ → Token → Type 0
TokenWithin text t = (t.span.start < t.span.end) × (t.span.end ≤ length text) × IsLineOf text t.line

token-within : (text : List ℕ) (p : Piece) → LiesIn text p → TokenWithin text (token_of text p)
token-within text p a = (a.0, a.1, line-within text p.span.start (omega (arith, a.0, a.1)))

-- what holds of the tokens of pieces that have L holds of all tokens of such pieces
module _
    (text : List ℕ) (L : Piece → Type 0) (Q : Token → Type 0)
    (token_is : (p : Piece) → L p → Q (token_of text p)) where
  tokens-have : (ps : List Piece) → AllByRecursion L ps → AllByRecursion Q (tokens text ps)
  tokens-have [] a = tt
  tokens-have (p ∷ ps) a =
      elim (is_significant p.class) as (λ b. AllByRecursion Q
      (map (token_of text) (cond b (p ∷ filter (λ q. is_significant q.class) ps)
      (filter (λ q. is_significant q.class) ps))))
      [ true ↦ (token_is p a.0, tokens-have ps a.1) | false ↦ tokens-have ps a.1 ]

  pub lines-have : (ls : List (List Piece)) → AllOfAll L ls → AllOfAll Q (map (tokens text) ls)
  lines-have [] a = tt
  lines-have (l ∷ ls) a = (tokens-have l a.0, lines-have ls a.1)

  -- and of the tokens of the code
  pub code-has : (ps : List Piece) → AllByRecursion L ps → AllByRecursion Q (code text ps)
  code-has ps a =
      all-joined Q _ (all-filter (AllByRecursion Q) (λ l. not (is_directive l)) (logical_lines text ps)
      (lines-have _ (all-split L (λ p. is_newline p.class) ps a)))

pub lines-within : (text : List ℕ) (ls : List (List Piece)) → AllOfAll (LiesIn text) ls
    → AllOfAll (TokenWithin text) (map (tokens text) ls)
lines-within text = lines-have text (LiesIn text) (TokenWithin text) (token-within text)

-- the code of pieces that lie in the text
pub code-within : (text : List ℕ) (ps : List Piece) → AllByRecursion (LiesIn text) ps
    → AllByRecursion (TokenWithin text) (code text ps)
code-within text = code-has text (LiesIn text) (TokenWithin text) (token-within text)

-- the first called name of some tokens is one of them
pub called-among : (P : Token → Type 0) (h : List Token) → AllByRecursion P h → MatchOption (called_name h) (Unit {0}) P
unfolding called_name
called-among P [] a = tt
called-among P (t ∷ []) a = tt
called-among P (t ∷ u ∷ h) a =
    elim (is_name_token t.role
    && is_mark 40 u.role) as (λ b. MatchOption (cond b (Some t) (called_name (u ∷ h))) (Unit {0}) P)
    [ true ↦ a.0 | false ↦ called-among P (u ∷ h) a.1 ]

-- the first element that passes is one of the list
pub found_among : {X : Type 0} (Q : X → Type 0) (test : X → Bool) (xs : List X) → AllByRecursion Q xs
    → MatchOption (find test xs) (Unit {0}) Q
found_among Q test [] a = tt
found_among Q test (x ∷ xs) a =
    elim (test x) as (λ b. MatchOption (cond b (Some x) (find test xs)) (Unit {0}) Q)
    [ true ↦ a.0 | false ↦ found_among Q test xs a.1 ]

-- the opening among some segments is one of them
opening_among : (Q : List Token → Type 0) (ss : List (List Token)) → AllByRecursion Q ss
    → MatchOption (nearest_opening ss) (Unit {0}) Q
opening_among Q ss a =
    elim (find (λ s. is_opening s || not (is_declaration s)) ss) as (λ o. MatchOption o (Unit {0}) Q
    → MatchOption (option_map_or (λ s. cond (is_opening s) (Some s) None) o None) (Unit {0}) Q) [
      | None ↦ λ q. tt
      | Some s ↦ λ q. elim (is_opening s) as (λ b. MatchOption (cond b (Some s) None) (Unit {0}) Q)
          [ true ↦ q | false ↦ tt ]
    ] (found_among Q (λ s. is_opening s || not (is_declaration s)) ss a)

-- what is named by one of some tokens
pub signed_among : (P : Token → Type 0) (h : List Token) (o : Option Token) → MatchOption o (Unit {0}) P
    → MatchOption (signed h o) (Unit {0}) (λ s. P s.name)
signed_among P h None p = tt
signed_among P h (Some t) p = p

-- the name that some segments give is a token of one of them
pub old_among : (P : Token → Type 0) (ss : List (List Token)) → AllOfAll P ss
    → MatchOption (signature_of ss) (Unit {0}) (λ s. P s.name)
old_among P ss a = of_opening (nearest_opening ss) (opening_among (AllByRecursion P) ss a)
  where
    of_opening : (o : Option (List Token)) → MatchOption o (Unit {0}) (AllByRecursion P)
        → MatchOption (option_map_or (λ s. signed s (called_name s)) o None) (Unit {0}) (λ s. P s.name)
    of_opening None p = tt
    of_opening (Some s) p = signed_among P s (called_name s) (called-among P s p)

-- the name of a function is a token of its head, or of a segment before it
pub signature_among : (P : Token → Type 0) (ts : List Token) (k : ℕ) → AllByRecursion P (head ts k)
    → AllOfAll P (segments ts k) → MatchOption (signature ts k) (Unit {0}) (λ s. P s.name)
signature_among P ts k a b =
    elim (head_start ts k == k) as (λ x. MatchOption
    (cond x (old_signature ts k) (signed (head ts k) (defined_name (head ts k)))) (Unit {0}) (λ s. P s.name)) [
      | true ↦ old_among P (segments ts k) b
      | false ↦ elim (may_define (head ts k)) as (λ x. MatchOption
          (signed (head ts k) (cond x (called_name (head ts k)) None)) (Unit {0}) (λ s. P s.name)) [
            | true ↦ signed_among P (head ts k) (called_name (head ts k)) (called-among P (head ts k) a)
            | false ↦ tt
          ]
    ]

-- heads are parts of the code
module _ (P : Token → Type 0) (ts : List Token) (a : AllByRecursion P ts) where
  pub head_of_all : (k : ℕ) → AllByRecursion P (head ts k)
  head_of_all k = all-drop P (head_start ts k) (take k ts) (all-take P k ts a)

  pub heads_of_all : (ks : List ℕ) → AllOfAll P (map (head ts) ks)
  heads_of_all [] = tt
  heads_of_all (k ∷ ks) = (head_of_all k, heads_of_all ks)

-- the name of a definition lies in the text, and its line is one of the text
abbrev pub DefWithin : List ℕ → Def → Type 0
DefWithin text d = IsWithin text d.name × IsLineOf text d.line

-- a function is named by a token of the code
function-within : (text : List ℕ) (ts : List Token) (k : ℕ) → AllByRecursion (TokenWithin text) ts
    → AllByRecursion (DefWithin text) (map function_def (function_at ts k))
function-within text ts k a =
    by_cases (is_counted ts k && depth ts k == 0) (signature ts k)
    (signature_among (TokenWithin text) ts k (head_of_all (TokenWithin text) ts a k)
    (heads_of_all (TokenWithin text) ts a (semicolons_before ts k)))
  where
    by_cases : (b : Bool) (o : Option Signature) → MatchOption o (Unit {0}) (λ s. TokenWithin text s.name)
        → AllByRecursion (DefWithin text) (map function_def (cond b (function_from ts k o) []))
    by_cases true None w = tt
    by_cases true (Some s) w = (((omega (arith, w.0), w.1), w.2), tt)
    by_cases false o w = tt

functions-within : (text : List ℕ) (ts : List Token) (k n : ℕ) → AllByRecursion (TokenWithin text) ts
    → AllByRecursion (DefWithin text) (map function_def (flat_map (function_at ts) (range_with_len k n)))
functions-within text ts k zero a = tt
functions-within text ts k (suc n) a =
    subst (AllByRecursion (DefWithin text))
    (sym (map-append function_def (function_at ts k) (flat_map (function_at ts) (range_with_len (k + 1) n))))
    (all-append (DefWithin text) _ _ (function-within text ts k a) (functions-within text ts (k + 1) n a))

-- the functions of a text whose pieces lie in it
pub functions-lie : (text : List ℕ) → AllByRecursion (LiesIn text) (pieces text)
    → AllByRecursion (DefWithin text) (map function_def (functions (code text (pieces text))))
functions-lie text a = functions-within text (code text (pieces text)) 0 (length (code text (pieces text)))
    (code-within text (pieces text) a)
