-- A text has few facts.
use Rattle.std.proofs.Common.{refl, ℕ, zero, suc, ◌+◌, ◌-◌, ◌*◌, ◌≤◌, Bool, true, false}
use Rattle.std.proofs.Common.{not, cond, List, [], ◌∷◌, map, filter, length, length-append}
use Rattle.std.proofs.Common.{Option, Some, None, arith, suc-mul}
use Rattle.std.specs.Prelude.{find, nat_lt}
use Rattle.std.specs.List.{AllByRecursion, flat_map, onto_first, range_with_len, slice_split}
use Rattle.std.specs.Option.{option_map_or, unwrap_or}
use Rattle.std.proofs.lemmas.List.{length-map}
use Rattle.std.proofs.lemmas.List.Filters.{length-filter_both}
use Rattle.cb_scan.specs.declared.facts.Include.{Include}
use Rattle.cb_scan.specs.declared.lex.piece.Piece.{Piece}
use Rattle.cb_scan.specs.declared.lex.token.Token.{Token}
use Rattle.cb_scan.specs.Bytes.{greater, less}
use Rattle.cb_scan.specs.Definitions.{facts_of}
use Rattle.cb_scan.specs.lex.Tokens.{has_kind, is_mark, is_significant}
use Rattle.cb_scan.specs.lex.Tokens.{is_str, kind_is_include, token_of, tokens}
use Rattle.cb_scan.specs.rules.Code.{directives, is_directive, is_newline, logical_lines}
use Rattle.cb_scan.specs.rules.Depth.{closes}
use Rattle.cb_scan.specs.rules.Functions.{close_from}
use Rattle.cb_scan.specs.rules.Scope.{scope}
use Rattle.cb_scan.specs.rules.Uses.{angle_header}
use Rattle.cb_scan.specs.rules.Uses.{header_between, header_of}
use Rattle.cb_scan.specs.rules.Uses.{include_of, includes}
use Rattle.cb_scan.specs.rules.Uses.{string_header}
use Rattle.cb_scan.specs.lex.Tokens.{bytes_of}
use Rattle.cb_scan.specs.steps.Cut.{pieces}
use Rattle.cb_scan.specs.steps.Quote.{is_closed}
use Rattle.cb_scan.proofs.PieceLists.{length-pieces}

-- ---- lists
length-kept : {X : Type 0} (p : X → Bool) (xs : List X) → length (filter p xs) ≤ length xs
length-kept p xs = let split = length-filter_both p (λ x. not (p x)) (λ x. refl) xs in omega (arith, split)

module _ {X Y : Type 0} (f : X → List Y) (k : ℕ) where
  pub flat-few : (xs : List X) → AllByRecursion (λ x. length (f x) ≤ k) xs → length (flat_map f xs) ≤ length xs * k
  flat-few [] each = omega arith
  flat-few (x ∷ xs) each =
      let here = each.0 in
      omega (arith, length-append (f x) (flat_map f xs), here, flat-few xs each.1, suc-mul (length xs) k)

all-each : {X : Type 0} (P : X → Type 0) → ((x : X) → P x) → (xs : List X) → AllByRecursion P xs
all-each P holds [] = tt
all-each P holds (x ∷ xs) = (holds x, all-each P holds xs)

abbrev joined : {X : Type 0} → List (List X) → List X
joined ls = flat_map (λ l. l) ls

flat-below : {X Y : Type 0} (f : List X → List Y) → ((l : List X) → length (f l) ≤ length l) → (ls : List (List X))
    → length (flat_map f ls) ≤ length (joined ls)
flat-below f each [] = omega arith
flat-below f each (l ∷ ls) =
    omega (arith, length-append (f l) (flat_map f ls), length-append l (joined ls), each l, flat-below f each ls)

joined-kept : {X : Type 0} (test : List X → Bool) (ls : List (List X))
    → length (joined (filter test ls)) ≤ length (joined ls)
joined-kept test [] = omega arith
joined-kept test (l ∷ ls) =
    let later = joined-kept test ls in
    elim (test l) as (λ b. length (joined (cond b (l ∷ filter test ls) (filter test ls))) ≤ length (joined (l ∷ ls))) [
      | true ↦ omega (arith, length-append l (joined (filter test ls)), length-append l (joined ls), later)
      | false ↦ omega (arith, length-append l (joined ls), later)
    ]

-- ---- the tokens of the logical lines
split-few : (test : Piece → Bool) (ps : List Piece) → length (joined (slice_split test ps)) ≤ length ps
split-few test [] = omega arith
split-few test (p ∷ ps) = step (slice_split test ps) (split-few test ps)
  where
    step : (ls : List (List Piece)) → length (joined ls) ≤ length ps
        → length (joined (cond (test p) ([] ∷ ls) (onto_first p ls))) ≤ suc (length ps)
    step [] few = elim (test p) as
        (λ b. length (joined (cond b ([] ∷ []) (onto_first p []))) ≤ suc (length ps))
        [ true ↦ omega arith | false ↦ omega arith ]
    step (l ∷ ls) few = elim (test p) as
        (λ b. length (joined (cond b ([] ∷ l ∷ ls) (onto_first p (l ∷ ls)))) ≤ suc (length ps))
        [ true ↦ omega (arith, few) | false ↦ omega (arith, few) ]

tokens-few : (text : List ℕ) (ls : List (List Piece)) → length (joined (map (tokens text) ls)) ≤ length (joined ls)
tokens-few text [] = omega arith
tokens-few text (l ∷ ls) =
    omega (
      arith,
      length-append (tokens text l) (joined (map (tokens text) ls)),
      length-append l (joined ls),
      length-map (filter (λ (p : Piece). is_significant p.class) l) (token_of text),
      length-kept (λ (p : Piece). is_significant p.class) l,
      tokens-few text ls,
    )

module _ (text : List ℕ) where
  abbrev ps : List Piece
  ps = pieces text

  abbrev lines : List (List Token)
  lines = logical_lines text ps

  lines-few : length (joined lines) ≤ length text
  lines-few =
      omega (
        arith,
        tokens-few text (slice_split (λ (p : Piece). is_newline p.class) ps),
        split-few
            (λ (p : Piece). is_newline p.class) ps,
        length-pieces 0 text,
      )

-- ---- includes
between-few : (start end line : ℕ) → length (header_between start end line) ≤ 1
between-few start end line =
    let include : Include = record { header = record { start = start; end = end }; line = line; scope = None } in
    elim (nat_lt start end) as (λ b. length (cond b (include ∷ []) []) ≤ 1) [ true ↦ omega arith | false ↦ omega arith ]

string-few : (text : List ℕ) (t : Token) → length (string_header text t) ≤ 1
string-few text t =
    let few = between-few (t.span.start + 1) (t.span.end - 1) t.line in
    elim (is_closed (bytes_of text t.span)) as
    (λ b. length (cond b (header_between (t.span.start + 1) (t.span.end - 1) t.line) []) ≤ 1)
    [ true ↦ few | false ↦ omega arith ]

angle-few : (t : Token) (rest : List Token) → length (angle_header t rest) ≤ 1
angle-few t rest = by_cases (find (λ (u : Token). is_mark greater u.role) rest)
  where
    by_cases : (g : Option Token) → length
        (option_map_or (λ (g : Token). header_between t.span.end g.span.start t.line) g []) ≤ 1
    by_cases None = omega arith
    by_cases (Some g) = between-few t.span.end g.span.start t.line

header-few : (text : List ℕ) (t : Token) (rest : List Token) → length (header_of text t rest) ≤ 1
header-few text t rest =
    elim (is_str t.role) as (λ b. length
    (cond b (string_header text t) (cond (is_mark less t.role) (angle_header t rest) [])) ≤ 1) [
      | true ↦ string-few text t
      | false ↦ elim (is_mark less t.role) as (λ b. length (cond b (angle_header t rest) []) ≤ 1)
          [ true ↦ angle-few t rest | false ↦ omega arith ]
    ]

include-few : (text : List ℕ) (l : List Token) → length (include_of text l) ≤ length l
include-few text [] = omega arith
include-few text (h ∷ []) = omega arith
include-few text (h ∷ o ∷ []) = omega arith
include-few text (h ∷ o ∷ t ∷ rest) =
    let few = header-few text t rest in
    elim (has_kind kind_is_include o.role) as
    (λ b. length (cond b (header_of text t rest) []) ≤ length (h ∷ o ∷ t ∷ rest))
    [ true ↦ omega (arith, few) | false ↦ omega arith ]

abbrev scoped : List ℕ → Include → Include
scoped text i = record i { scope = scope text (pieces text) i.header.start }

pub includes-few : (text : List ℕ) → length (facts_of text).includes ≤ length text
unfolding includes
includes-few text =
    omega (
      arith,
      length-map (flat_map (include_of text) (directives text (ps text))) (scoped text),
      flat-below (include_of text) (include-few text) (directives text (ps text)),
      joined-kept is_directive (lines text),
      lines-few text,
    )

-- ---- calls

found-below : (test : ℕ → Bool) (k n limit : ℕ) → k + n ≤ limit
    → unwrap_or (find test (range_with_len k n)) limit ≤ limit
found-below test k zero limit within = omega arith
found-below test k (suc n) limit within =
    let later = found-below test (k + 1) n limit (omega (arith, within)) in
    elim (test k) as (λ b. unwrap_or (cond b (Some k) (find test (range_with_len (k + 1) n))) limit ≤ limit) [
      | true ↦ omega (arith, within)
      | false ↦ later
    ]

module _ (ts : List Token) where
  close-below : (k : ℕ) → k ≤ length ts → close_from ts k ≤ length ts
  close-below k within = found-below (closes ts) k (length ts - k) (length ts) (omega (arith, within))
