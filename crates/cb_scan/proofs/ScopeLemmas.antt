-- The scopes that are found range by range are those of all ranges.
use Rattle.std.proofs.Common.{◌≡◌, ◌∙◌, ◌≤◌, ◌<◌, ◌+◌, ◌-◌, ℕ, true, false, List, [], ◌∷◌, ◌++◌}
use Rattle.std.proofs.Common.{Option, Some, None, refl, sym, ap, subst, map, arith, lt-ltb, le-leb}
use Rattle.std.proofs.Common.{⊎_elim}
use Rattle.std.proofs.lemmas.Bool.{cases_Bool, cases_lt, false_from_ne_true, ltb-true, leb-true, true≢false}
use Rattle.std.proofs.Math.Bool.{and-false}
use Rattle.std.specs.Prelude.{◌&&◌, cond, find, nat_le, nat_lt}
use Rattle.std.specs.List.{AllByRecursion, flat_map}
use Rattle.std.specs.Option.{option_map, option_map_or}
use Rattle.cb_scan.specs.steps.Cut.{pieces}
use Rattle.cb_scan.specs.declared.facts.Include.{Include}
use Rattle.cb_scan.specs.declared.lex.piece.Span.{Span}
use Rattle.cb_scan.specs.declared.rules.scope.Range.{Range}
use Rattle.cb_scan.specs.declared.lex.token.Token.{Token}
use Rattle.cb_scan.specs.rules.Code.{code, directives, logical_lines}
use Rattle.cb_scan.specs.rules.Functions.{Function, functions}
use Rattle.cb_scan.specs.rules.Macros.{Macro, macros}
use Rattle.cb_scan.specs.rules.Scope.{function_range, function_ranges, holds, macro_ranges, name_around}
use Rattle.cb_scan.specs.rules.Scope.{ranges_of, scope_among}
use Rattle.cb_scan.specs.rules.Uses.{header_between, header_of, include_of, includes_with, used}
use Rattle.cb_scan.specs.rules.Uses.{uses_with}
use Rattle.cb_scan.specs.lex.Tokens.{bytes_of, has_kind, is_mark, is_str, kind_is_include}
use Rattle.cb_scan.specs.steps.Quote.{is_closed}
use Rattle.cb_scan.specs.steps.Scopes.{first_around, include_place, include_with, reached, scoped, token_place, use_of}
use Rattle.cb_scan.proofs.MacroLines.{range_names}
use Rattle.cb_scan.proofs.FunctionsRise.{functions_rise}
use Rattle.cb_scan.proofs.Rising.{From, Rising, all-prefix, directive_tokens_rise, rising-split, macros_rise, used_rise}

-- ranges begin in order
abbrev pub Ascending : List Range → Type 0
Ascending [] = Unit {0}
Ascending (r ∷ rs) = AllByRecursion (λ (s : Range). r.name.start ≤ s.name.start) rs × Ascending rs

ascending_reached : (p : ℕ) (rs : List Range) → Ascending rs → Ascending (reached p rs)
ascending_reached p [] a = tt
ascending_reached p (r ∷ rs) a =
    elim (nat_lt p r.end) as (λ b. Ascending (cond b (r ∷ rs) (reached p rs)))
    [ true ↦ a | false ↦ ascending_reached p rs a.1 ]

-- a range that ends by a place holds none after it
ended : (p q : ℕ) (r : Range) → p ≤ q → nat_lt p r.end ≡ false → holds q r ≡ false
ended p q r le is =
    ap (λ b. nat_le r.name.start q && b)
    (false_from_ne_true (nat_lt q r.end)
    (λ e. let below : q < r.end = ltb-true q r.end e in true≢false (sym (lt-ltb p r.end (omega arith)) ∙ is)))
    ∙ and-false (nat_le r.name.start q)

find_reached : (p q : ℕ) (rs : List Range) → p ≤ q → find (holds q) (reached p rs) ≡ find (holds q) rs
find_reached p q [] le = refl
find_reached p q (r ∷ rs) le =
    ⊎_elim
    (λ is. ap (λ b. find (holds q) (cond b (r ∷ rs) (reached p rs))) is)
    (λ is. ap (λ b. find (holds q) (cond b (r ∷ rs) (reached p rs))) is ∙ find_reached p q rs le
    ∙ sym (ap (λ b. cond b (Some r) (find (holds q) rs)) (ended p q r le is)))
    (cases_Bool (nat_lt p r.end))

-- none of the ranges that begin after a place holds it
none_yet : (q s : ℕ) (rs : List Range) → q < s → AllByRecursion (λ (r : Range). s ≤ r.name.start) rs
    → find (holds q) rs ≡ None
none_yet q s [] below a = refl
none_yet q s (r ∷ rs) below a =
    ap (λ b. cond (b && nat_lt q r.end) (Some r) (find (holds q) rs))
    (false_from_ne_true (nat_le r.name.start q)
    (λ e. let le : r.name.start ≤ q = leb-true r.name.start q e in absurd (omega (arith, a.0))))
    ∙ none_yet q s rs below a.1

-- the first range that is left decides
first_decides : (q : ℕ) (rs : List Range) → Ascending rs → first_around q (reached q rs) ≡ name_around rs q
first_decides q [] a = refl
first_decides q (r ∷ rs) a =
    ⊎_elim
    (λ open_.
    ap (λ b. first_around q (cond b (r ∷ rs) (reached q rs))) open_
    ∙ ⊎_elim
    (λ begun. ap (λ b. cond b (Some r.name) None) begun
    ∙ sym (λ i. option_map (λ (s : Range). s.name) (cond (begun i && open_ i) (Some r) (find (holds q) rs))))
    (λ ahead.
    let below : q < r.name.start = not_le r.name.start q ahead in
    ap (λ b. cond b (Some r.name) None) ahead
    ∙ sym (ap (option_map (λ (s : Range). s.name))
    ((λ i. cond (ahead i && nat_lt q r.end) (Some r) (find (holds q) rs)) ∙ none_yet q r.name.start rs below a.0)))
    (cases_Bool (nat_le r.name.start q)))
    (λ closed_.
    ap (λ b. first_around q (cond b (r ∷ rs) (reached q rs))) closed_
    ∙ first_decides q rs a.1
    ∙ sym (ap (λ b. option_map (λ (s : Range). s.name) (cond (nat_le r.name.start q && b) (Some r) (find (holds q) rs)))
    closed_ ∙ ap (λ b. option_map (λ (s : Range). s.name) (cond b (Some r) (find (holds q) rs)))
    (and-false (nat_le r.name.start q))))
    (cases_Bool (nat_lt q r.end))
  where
    not_le : (m n : ℕ) → nat_le m n ≡ false → n < m
    not_le m n is = ⊎_elim (λ lt. lt) (λ le. absurd (true≢false (sym (le-leb m n le) ∙ is))) (cases_lt n m)

-- what was left after a place serves every place after it
pub record Serves (p : ℕ) (left all : List Range) : Type 0 where
  pub ascends : Ascending left
  pub finds : (q : ℕ) → p ≤ q → find (holds q) left ≡ find (holds q) all

pub serves_on : (p q : ℕ) (left all : List Range) → p ≤ q → Serves p left all → Serves q (reached q left) all
serves_on p q left all le s = record {
  ascends = ascending_reached q left s.ascends;
  finds = λ k h. find_reached q k left h ∙ s.finds k (omega arith);
}

pub serves_name : (p q : ℕ) (left all : List Range) → p ≤ q → Serves p left all
    → first_around q (reached q left) ≡ name_around all q
serves_name p q left all le s = first_decides q left s.ascends ∙ ap (option_map (λ (r : Range). r.name)) (s.finds q le)

-- places in order
abbrev pub Ordered : {A : Type 0} → (A → ℕ) → ℕ → List A → Type 0
Ordered place p [] = Unit {0}
Ordered place p (x ∷ xs) = (p ≤ place x) × Ordered place (place x) xs

-- the scope among some ranges
abbrev pub scope_in : List Range → List Range → ℕ → Option Span
scope_in fs ms q = option_map_or (λ name. Some name) (name_around ms q) (name_around fs q)

module _ {A B : Type 0} (place : A → ℕ) (give : A → Option Span → B) (fs ms : List Range) where
  scoped_from : (p : ℕ) (lf lm : List Range) (xs : List A) → Serves p lf fs → Serves p lm ms → Ordered place p xs
      → scoped place give lf lm xs ≡ map (λ x. give x (scope_in fs ms (place x))) xs
  scoped_from p lf lm [] sf sm o = refl
  scoped_from p lf lm (x ∷ xs) sf sm o =
      λ i.
      give x (option_map_or (λ name. Some name) (serves_name p (place x) lm ms o.0 sm i)
      (serves_name p (place x) lf fs o.0 sf i))
      ∷ scoped_from (place x) (reached (place x) lf) (reached (place x) lm) xs (serves_on p (place x) lf fs o.0 sf)
      (serves_on p (place x) lm ms o.0 sm) o.1 i

  pub scoped_all : (xs : List A) → Ascending fs → Ascending ms → Ordered place 0 xs
      → scoped place give fs ms xs ≡ map (λ x. give x (scope_in fs ms (place x))) xs
  scoped_all xs af am o = scoped_from 0 fs ms xs (record { ascends = af; finds = λ q h. refl })
      (record { ascends = am; finds = λ q h. refl }) o

-- ---- the ranges and the places of a text
from_starts : (p q : ℕ) (fs : List Function) (text : List ℕ) (ts : List Token) → p ≤ q
    → AllByRecursion (From q) (map (λ (f : Function). f.name) fs)
    → AllByRecursion (λ (s : Range). p ≤ s.name.start) (map (function_range text ts) fs)
from_starts p q [] text ts le a = tt
from_starts p q (f ∷ fs) text ts le a = (omega (arith, a.0), from_starts p q fs text ts le a.1)

pub function_ranges_ascend : (text : List ℕ) (ts : List Token) (fs : List Function)
    → Rising (map (λ (f : Function). f.name) fs) → Ascending (map (function_range text ts) fs)
function_ranges_ascend text ts [] r = tt
function_ranges_ascend text ts (f ∷ fs) r = (
  from_starts f.name.span.start f.name.span.end fs text ts (omega (arith, r.0)) r.1,
  function_ranges_ascend text ts fs r.2,
)

-- names begin in order
abbrev NamesAscend : List Span → Type 0
NamesAscend [] = Unit {0}
NamesAscend (s ∷ ss) = AllByRecursion (λ (t : Span). s.start ≤ t.start) ss × NamesAscend ss

macro_names_ascend : (ms : List Macro) → Rising (map (λ (m : Macro). m.name) ms)
    → NamesAscend (map (λ (m : Macro). m.name.span) ms)
macro_names_ascend [] r = tt
macro_names_ascend (m ∷ ms) r =
    (later m.name.span.start m.name.span.end ms (omega (arith, r.0)) r.1, macro_names_ascend ms r.2)
  where
    later : (p q : ℕ) (ms : List Macro) → p ≤ q → AllByRecursion (From q) (map (λ (m : Macro). m.name) ms)
        → AllByRecursion (λ (t : Span). p ≤ t.start) (map (λ (m : Macro). m.name.span) ms)
    later p q [] le a = tt
    later p q (m ∷ ms) le a = (omega (arith, a.0), later p q ms le a.1)

named_ascend : (rs : List Range) → NamesAscend (map (λ (r : Range). r.name) rs) → Ascending rs
named_ascend [] a = tt
named_ascend (r ∷ rs) a = (later r.name.start rs a.0, named_ascend rs a.1)
  where
    later : (p : ℕ) (rs : List Range) → AllByRecursion (λ (t : Span). p ≤ t.start) (map (λ (r : Range). r.name) rs)
        → AllByRecursion (λ (s : Range). p ≤ s.name.start) rs
    later p [] a = tt
    later p (r ∷ rs) a = (a.0, later p rs a.1)

pub functions_ascend : (text : List ℕ) → Ascending (function_ranges text (pieces text))
functions_ascend text = function_ranges_ascend text (code text (pieces text)) (functions (code text (pieces text)))
    (functions_rise text)

pub macros_ascend : (text : List ℕ) → Ascending (macro_ranges text (pieces text))
macros_ascend text =
    named_ascend (macro_ranges text (pieces text))
    (subst NamesAscend (sym (range_names text (pieces text)))
    (macro_names_ascend (macros text (pieces text)) (macros_rise text)))

tokens_ordered : (p : ℕ) (ts : List Token) → AllByRecursion (From p) ts → Rising ts → Ordered token_place p ts
tokens_ordered p [] a r = tt
tokens_ordered p (t ∷ ts) a r =
    (a.0, tokens_ordered t.span.start ts (later t.span.start t.span.end ts (omega (arith, r.0)) r.1) r.2)
  where
    later : (i j : ℕ) (ts : List Token) → i ≤ j → AllByRecursion (From j) ts → AllByRecursion (From i) ts
    later i j [] le a = tt
    later i j (t ∷ ts) le a = (omega (arith, a.0), later i j ts le a.1)

from_zero : (ts : List Token) → AllByRecursion (From 0) ts
from_zero [] = tt
from_zero (t ∷ ts) = (omega arith, from_zero ts)

-- the names used come in the order of their places
pub names_in_order : (text : List ℕ) → Ordered token_place 0 (flat_map used (logical_lines text (pieces text)))
names_in_order text = tokens_ordered 0 (flat_map used (logical_lines text (pieces text)))
    (from_zero (flat_map used (logical_lines text (pieces text)))) (used_rise text)

pub uses_scoped : (text : List ℕ) (fs : List Function) → Ascending (ranges_of text (pieces text) fs)
    → scoped token_place use_of (ranges_of text (pieces text) fs)
    (macro_ranges text (pieces text)) (flat_map used (logical_lines text (pieces text)))
    ≡ uses_with (scope_among text (pieces text) fs) text (pieces text)
uses_scoped text fs ascend =
    scoped_all token_place use_of (ranges_of text (pieces text) fs) (macro_ranges text (pieces text))
    (flat_map used (logical_lines text (pieces text))) ascend (macros_ascend text)
    (names_in_order text)

-- ---- includes
-- there is one header or none, and it begins in its token or directly after it
one_between : (Q : List Include → Type 0) (s e l : ℕ) → Q [] → ((i : Include) → i.header.start ≡ s → Q (i ∷ []))
    → Q (header_between s e l)
one_between Q s e l none one =
    elim (nat_lt s e) as (λ b. Q
    (cond b (record { header = record { start = s; end = e }; line = l; scope = None } ∷ []) []))
    [ true ↦ one (record { header = record { start = s; end = e }; line = l; scope = None }) refl | false ↦ none ]

one_header : (text : List ℕ) (Q : List Include → Type 0) (t : Token) (rest : List Token) → t.span.start < t.span.end
    → Q [] → ((i : Include) → t.span.start ≤ i.header.start → i.header.start ≤ t.span.end → Q (i ∷ []))
    → Q (header_of text t rest)
one_header text Q t rest some none one =
    elim (is_str t.role) as (λ b. Q
    (cond b (cond (is_closed (bytes_of text t.span)) (header_between (t.span.start + 1) (t.span.end - 1) t.line) [])
    (cond (is_mark 60 t.role)
    (option_map_or (λ (g : Token). header_between t.span.end g.span.start t.line)
    (find (λ (u : Token). is_mark 62 u.role) rest) []) []))) [
      | true ↦ elim (is_closed (bytes_of text t.span)) as (λ b. Q
          (cond b (header_between (t.span.start + 1) (t.span.end - 1) t.line) [])) [
            | true ↦ one_between Q (t.span.start + 1) (t.span.end - 1) t.line none
                (λ i is. one i (omega (arith, is)) (omega (arith, is)))
            | false ↦ none
          ]
      | false ↦ elim (is_mark 60 t.role) as (λ b. Q
          (cond b (option_map_or (λ (g : Token). header_between t.span.end g.span.start t.line)
          (find (λ (u : Token). is_mark 62 u.role) rest) []) [])) [
            | true ↦ elim (find (λ (u : Token). is_mark 62 u.role) rest) as (λ o. Q
                (option_map_or (λ (g : Token). header_between t.span.end g.span.start t.line) o [])) [
                  | None ↦ none
                  | Some g ↦ one_between Q t.span.end g.span.start t.line none
                      (λ i is. one i (omega (arith, is)) (omega (arith, is)))
                ]
            | false ↦ none
          ]
    ]

one_include : (text : List ℕ) (Q : List Include → Type 0) (l : List Token) → Rising l → Q []
    → ((t : Token) (i : Include) → ((P : Token → Type 0) → AllByRecursion P l → P t) → t.span.start ≤ i.header.start
    → i.header.start ≤ t.span.end → Q (i ∷ [])) → Q (include_of text l)
one_include text Q [] r none one = none
one_include text Q (h ∷ []) r none one = none
one_include text Q (h ∷ o ∷ []) r none one = none
one_include text Q (h ∷ o ∷ t ∷ rest) r none one =
    elim (has_kind kind_is_include o.role) as (λ b. Q (cond b (header_of text t rest) [])) [
      | true ↦ one_header text Q t rest r.2.2.0 none (λ i a b. one t i (λ P all. all.1.1.0) a b)
      | false ↦ none
    ]

from_less : (i j : ℕ) (ts : List Token) → i ≤ j → AllByRecursion (From j) ts → AllByRecursion (From i) ts
from_less i j [] le a = tt
from_less i j (t ∷ ts) le a = (omega (arith, a.0), from_less i j ts le a.1)

includes_ordered : (text : List ℕ) (p : ℕ) (ls : List (List Token)) → AllByRecursion (From p) (flat_map (λ l. l) ls)
    → Rising (flat_map (λ l. l) ls) → Ordered include_place p (flat_map (include_of text) ls)
includes_ordered text p [] a r = tt
includes_ordered text p (l ∷ ls) a r =
    let rest = flat_map (λ (k : List Token). k) ls in
    let parts = rising-split l rest r in
    let starts = all-prefix (From p) l rest a in
    one_include text (λ is. Ordered include_place p (is ++ flat_map (include_of text) ls)) l parts.0
    (includes_ordered text p ls starts.1 parts.1)
    (λ t i among low high. (
      omega (arith, among (From p) starts.0),
      includes_ordered text i.header.start ls
          (from_less i.header.start t.span.end rest high (among (λ x. AllByRecursion (From x.span.end) rest) parts.2))
          parts.1,
    ))

-- headers come in the order of their places
pub headers_in_order : (text : List ℕ)
    → Ordered include_place 0 (flat_map (include_of text) (directives text (pieces text)))
headers_in_order text = includes_ordered text 0 (directives text (pieces text))
    (from_zero (flat_map (λ l. l) (directives text (pieces text)))) (directive_tokens_rise text)

pub includes_scoped : (text : List ℕ) (fs : List Function) → Ascending (ranges_of text (pieces text) fs)
    → scoped include_place include_with (ranges_of text (pieces text) fs) (macro_ranges text (pieces text))
    (flat_map (include_of text) (directives text (pieces text)))
    ≡ includes_with (scope_among text (pieces text) fs) text (pieces text)
includes_scoped text fs ascend =
    scoped_all include_place include_with (ranges_of text (pieces text) fs) (macro_ranges text (pieces text))
    (flat_map (include_of text) (directives text (pieces text))) ascend (macros_ascend text)
    (headers_in_order text)
