-- Tokens come in the order of their places, and so does what is picked from them.
use Rattle.std.proofs.Common.{◌≡◌, ◌∙◌, ◌≤◌, ◌<◌, ℕ, Bool, true, false, List, [], ◌∷◌, ◌++◌, refl}
use Rattle.std.proofs.Common.{sym, ap, subst, map, length, arith}
use Rattle.std.proofs.lemmas.List.{map-append}
use Rattle.std.specs.Prelude.{cond, not, filter}
use Rattle.std.specs.List.{AllByRecursion, flat_map}
use Rattle.cb_scan.specs.declared.rules.directives.Stage.{Stage}
use Rattle.cb_scan.specs.declared.rules.directives.Stage.TheVariants.{Start}
use Rattle.cb_scan.specs.declared.lex.piece.Piece.{Piece}
use Rattle.cb_scan.specs.declared.lex.token.Token.{Token}
use Rattle.cb_scan.specs.rules.Code.{is_newline, is_directive, code, directives, logical_lines}
use Rattle.cb_scan.specs.rules.Macros.{Macro, after_arguments, defines_macro, macro_of, macros}
use Rattle.cb_scan.specs.lex.Pieces.{Adjoin}
use Rattle.cb_scan.specs.lex.Tokens.{is_any_word, is_name_token, is_significant, token_of}
use Rattle.cb_scan.specs.rules.Uses.{after_own_word, is_include, usable, used}
use Rattle.cb_scan.specs.steps.Cut.{pieces}
use Rattle.cb_scan.specs.steps.Directives.{next_stage, nothing, run, walk}
use Rattle.cb_scan.specs.steps.Lined.{lined}
use Rattle.cb_scan.proofs.LineLemmas.{walk_lines}
use Rattle.cb_scan.proofs.PieceLists.{pieces-adjoin}
use Rattle.cb_scan.proofs.WithinLemmas.{all-append, all-filter}

-- the token begins at a place or after it
abbrev pub From : ℕ → Token → Type 0
From place t = place ≤ t.span.start

-- each token has a byte at least and ends before the next ones begin
abbrev pub Rising : List Token → Type 0
Rising [] = Unit {0}
Rising (t ∷ ts) = (t.span.start < t.span.end) × AllByRecursion (From t.span.end) ts × Rising ts

-- each of the first tokens ends before any of the others begins
abbrev pub Before : List Token → List Token → Type 0
Before xs ys = AllByRecursion (λ (x : Token). AllByRecursion (From x.span.end) ys) xs

pub all-prefix : {X : Type 0} (P : X → Type 0) (xs ys : List X) → AllByRecursion P (xs ++ ys)
    → AllByRecursion P xs × AllByRecursion P ys
all-prefix P [] ys a = (tt, a)
all-prefix P (x ∷ xs) ys a = let later = all-prefix P xs ys a.1 in ((a.0, later.0), later.1)

pub rising-split : (xs ys : List Token) → Rising (xs ++ ys) → Rising xs × Rising ys × Before xs ys
rising-split [] ys r = (tt, r, tt)
rising-split (x ∷ xs) ys r =
    let later = rising-split xs ys r.2 in
    let parts = all-prefix (From x.span.end) xs ys r.1 in
    ((r.0, parts.0, later.0), later.1, (parts.1, later.2))

pub rising-join : (xs ys : List Token) → Rising xs → Rising ys → Before xs ys → Rising (xs ++ ys)
rising-join [] ys a b c = b
rising-join (x ∷ xs) ys a b c = (a.0, all-append (From x.span.end) xs ys a.1 c.0, rising-join xs ys a.2 b c.1)

pub rising-filter : (test : Token → Bool) (ts : List Token) → Rising ts → Rising (filter test ts)
rising-filter test [] r = tt
rising-filter test (t ∷ ts) r =
    elim (test t) as (λ b. Rising (cond b (t ∷ filter test ts) (filter test ts))) [
      | true ↦ (r.0, all-filter (From t.span.end) test ts r.1, rising-filter test ts r.2)
      | false ↦ rising-filter test ts r.2
    ]

-- what is picked from a line is in the line, and in its order
pub record Picks (pick : List Token → List Token) : Type 1 where
  pub all : (P : Token → Type 0) (l : List Token) → AllByRecursion P l → AllByRecursion P (pick l)
  pub rises : (l : List Token) → Rising l → Rising (pick l)

module _ (pick : List Token → List Token) (picks : Picks pick) where
  pub all-picked : (P : Token → Type 0) (ls : List (List Token)) → AllByRecursion P (flat_map (λ l. l) ls)
      → AllByRecursion P (flat_map pick ls)
  all-picked P [] a = tt
  all-picked P (l ∷ ls) a =
      let parts = all-prefix P l (flat_map (λ l. l) ls) a in
      all-append P (pick l) (flat_map pick ls) (picks.all P l parts.0) (all-picked P ls parts.1)

  pub each_before : (ls : List (List Token)) (xs : List Token) → Before xs (flat_map (λ l. l) ls)
      → Before xs (flat_map pick ls)
  each_before ls [] b = tt
  each_before ls (x ∷ xs) b = (all-picked (From x.span.end) ls b.0, each_before ls xs b.1)

  pub rising-picked : (ls : List (List Token)) → Rising (flat_map (λ l. l) ls) → Rising (flat_map pick ls)
  rising-picked [] r = tt
  rising-picked (l ∷ ls) r =
      let parts = rising-split l (flat_map (λ l. l) ls) r in
      rising-join (pick l) (flat_map pick ls) (picks.rises l parts.0) (rising-picked ls parts.1)
      (picks.all (λ x. AllByRecursion (From x.span.end) (flat_map pick ls)) l (each_before ls l parts.2))

-- ---- the tokens of all lines
pub each_token : Stage → Token → List Token
each_token s t = t ∷ []

pub run_each : (s : Stage) (l : List Token) → run each_token (λ s. []) s l ≡ l
unfolding each_token
run_each s [] = refl
run_each s (t ∷ ts) = ap (λ c. t ∷ c) (run_each (next_stage s t) ts)

-- the pieces from a place on give tokens from there on, in order
pub record RisesFrom (place : ℕ) (ts : List Token) : Type 0 where
  pub rises : Rising ts
  pub from : AllByRecursion (From place) ts

pub from_later : (i j : ℕ) (ts : List Token) → i ≤ j → AllByRecursion (From j) ts → AllByRecursion (From i) ts
from_later i j [] le a = tt
from_later i j (t ∷ ts) le a = (omega (arith, a.0), from_later i j ts le a.1)

pub rises_later : (i j : ℕ) (ts : List Token) → i ≤ j → RisesFrom j ts → RisesFrom i ts
rises_later i j ts le r = record { rises = r.rises; from = from_later i j ts le r.from }

pub walk_rises : (text : List ℕ) (s : Stage) (i j : ℕ) (ps : List Piece) → Adjoin i j ps
    → RisesFrom i (walk each_token nothing text s (map (lined text) ps))
unfolding each_token lined Adjoin
walk_rises text s i j [] a = record { rises = tt; from = tt }
walk_rises text s i j (p ∷ ps) a =
    let after : (s : Stage) → RisesFrom p.span.end (walk each_token nothing text s (map (lined text) ps)) =
    λ s. walk_rises text s p.span.end j ps a.2 in
    let skip : (s : Stage) → RisesFrom i (walk each_token nothing text s (map (lined text) ps)) =
    λ s. rises_later i p.span.end _ (omega (arith, a.1)) (after s) in
    let t = token_of text p in
    elim (is_newline p.class) as (λ b. RisesFrom i
    (cond b (walk each_token nothing text Start (map (lined text) ps))
    (cond (is_significant p.class) (t ∷ walk each_token nothing text (next_stage s t) (map (lined text) ps))
    (walk each_token nothing text s (map (lined text) ps))))) [
      | true ↦ skip Start
      | false ↦ elim (is_significant p.class) as (λ b. RisesFrom i
          (cond b (t ∷ walk each_token nothing text (next_stage s t) (map (lined text) ps))
          (walk each_token nothing text s (map (lined text) ps)))) [
            | true ↦ record {
              rises = (omega (arith, a.0, a.1), (after (next_stage s t)).from, (after (next_stage s t)).rises);
              from = (omega (arith, a.0), from_later i p.span.end _ (omega (arith, a.1)) (after (next_stage s t)).from);
            }
            | false ↦ skip s
          ]
    ]

pub all_rise : (text : List ℕ) → Rising (flat_map (λ l. l) (logical_lines text (pieces text)))
unfolding each_token
all_rise text =
    subst Rising (walk_lines each_token (λ s. []) text (pieces text)
    ∙ (λ i. flat_map (λ l. run_each Start l i) (logical_lines text (pieces text))))
    (walk_rises text Start 0 (length text) (pieces text) (pieces-adjoin text)).rises

-- ---- the code
pub code_pick : List Token → List Token
code_pick l = cond (is_directive l) [] l

pub code_picks : Picks code_pick
unfolding code_pick
code_picks = record {
  all = λ P l a. elim (is_directive l) as (λ b. AllByRecursion P (cond b [] l)) [ true ↦ tt | false ↦ a ];
  rises = λ l r. elim (is_directive l) as (λ b. Rising (cond b [] l)) [ true ↦ tt | false ↦ r ];
}

pub code_flat : (ls : List (List Token))
    → flat_map (λ l. l) (filter (λ l. not (is_directive l)) ls) ≡ flat_map code_pick ls
unfolding code_pick
code_flat [] = refl
code_flat (l ∷ ls) =
    elim (is_directive l) as (λ b. flat_map (λ l. l)
    (cond (not b) (l ∷ filter (λ l. not (is_directive l)) ls) (filter (λ l. not (is_directive l)) ls)) ≡ cond b [] l
    ++ flat_map code_pick ls) [
      | true ↦ code_flat ls
      | false ↦ ap (λ c. l ++ c) (code_flat ls)
    ]

pub code_rises : (text : List ℕ) → Rising (code text (pieces text))
code_rises text = subst Rising (sym (code_flat (logical_lines text (pieces text))))
    (rising-picked code_pick code_picks (logical_lines text (pieces text)) (all_rise text))

-- ---- the names used
pub after_all : (P : Token → Type 0) (l : List Token) → AllByRecursion P l → AllByRecursion P (after_own_word l)
after_all P [] a = tt
after_all P (h ∷ []) a = tt
after_all P (h ∷ own ∷ l) a =
    elim (is_any_word own.role) as (λ b. AllByRecursion P (cond b l (own ∷ l))) [ true ↦ a.1.1 | false ↦ a.1 ]

pub after_rises : (l : List Token) → Rising l → Rising (after_own_word l)
after_rises [] r = tt
after_rises (h ∷ []) r = tt
after_rises (h ∷ own ∷ l) r =
    elim (is_any_word own.role) as (λ b. Rising (cond b l (own ∷ l))) [ true ↦ r.2.2 | false ↦ r.2 ]

pub used_picks : Picks used
used_picks = record {
  all = λ P l a. all-filter P (λ (t : Token). is_name_token t.role) (usable l) (usable_all P l a);
  rises = λ l r. rising-filter (λ (t : Token). is_name_token t.role) (usable l) (usable_rises l r);
}
  where
    usable_all : (P : Token → Type 0) (l : List Token) → AllByRecursion P l → AllByRecursion P (usable l)
    usable_all P l a =
        elim (is_directive l) as (λ b. AllByRecursion P (cond b (cond (is_include l) [] (after_own_word l)) l)) [
          | true ↦ elim (is_include l) as (λ b. AllByRecursion P (cond b [] (after_own_word l)))
              [ true ↦ tt | false ↦ after_all P l a ]
          | false ↦ a
        ]

    usable_rises : (l : List Token) → Rising l → Rising (usable l)
    usable_rises l r =
        elim (is_directive l) as (λ b. Rising (cond b (cond (is_include l) [] (after_own_word l)) l)) [
          | true ↦ elim (is_include l) as (λ b. Rising (cond b [] (after_own_word l)))
              [ true ↦ tt | false ↦ after_rises l r ]
          | false ↦ r
        ]

pub used_rise : (text : List ℕ) → Rising (flat_map used (logical_lines text (pieces text)))
used_rise text = rising-picked used used_picks (logical_lines text (pieces text)) (all_rise text)

-- ---- the names of macros
pub macro_names : List Token → List Token
macro_names l = map (λ (m : Macro). m.name) (macro_of l)

pub macro_picks : Picks macro_names
unfolding macro_names
macro_picks = record { all = names_all; rises = names_rise }
  where
    names_all : (P : Token → Type 0) (l : List Token) → AllByRecursion P l
        → AllByRecursion P (map (λ (m : Macro). m.name) (macro_of l))
    names_all P [] a = tt
    names_all P (h ∷ []) a = tt
    names_all P (h ∷ o ∷ []) a = tt
    names_all P (h ∷ o ∷ n ∷ []) a = tt
    names_all P (h ∷ o ∷ n ∷ p ∷ l) a =
        elim (defines_macro o n p) as (λ b. AllByRecursion P
        (map (λ (m : Macro). m.name) (cond b (record { name = n; body = after_arguments l } ∷ []) [])))
        [ true ↦ (a.1.1.0, tt) | false ↦ tt ]

    names_rise : (l : List Token) → Rising l → Rising (map (λ (m : Macro). m.name) (macro_of l))
    names_rise [] r = tt
    names_rise (h ∷ []) r = tt
    names_rise (h ∷ o ∷ []) r = tt
    names_rise (h ∷ o ∷ n ∷ []) r = tt
    names_rise (h ∷ o ∷ n ∷ p ∷ l) r =
        elim (defines_macro o n p) as (λ b. Rising
        (map (λ (m : Macro). m.name) (cond b (record { name = n; body = after_arguments l } ∷ []) [])))
        [ true ↦ (r.2.2.0, tt, tt) | false ↦ tt ]

pub names_flat : (ls : List (List Token)) → flat_map macro_names ls ≡ map (λ (m : Macro). m.name) (flat_map macro_of ls)
unfolding macro_names
names_flat [] = refl
names_flat (l ∷ ls) = ap (λ c. macro_names l ++ c) (names_flat ls)
    ∙ sym (map-append (λ (m : Macro). m.name) (macro_of l) (flat_map macro_of ls))

pub only_directives : (ls : List (List Token)) (P : Token → Type 0) → AllByRecursion P (flat_map (λ l. l) ls)
    → AllByRecursion P (flat_map (λ l. l) (filter is_directive ls))
only_directives [] P a = tt
only_directives (l ∷ ls) P a =
    let parts = all-prefix P l (flat_map (λ l. l) ls) a in
    elim (is_directive l) as (λ b. AllByRecursion P
    (flat_map (λ l. l) (cond b (l ∷ filter is_directive ls) (filter is_directive ls)))) [
      | true ↦ all-append P l _ parts.0 (only_directives ls P parts.1)
      | false ↦ only_directives ls P parts.1
    ]

pub before_directives : (ls : List (List Token)) (xs : List Token) → Before xs (flat_map (λ l. l) ls)
    → Before xs (flat_map (λ l. l) (filter is_directive ls))
before_directives ls [] b = tt
before_directives ls (x ∷ xs) b = (only_directives ls (From x.span.end) b.0, before_directives ls xs b.1)

pub directives_rise : (ls : List (List Token)) → Rising (flat_map (λ l. l) ls)
    → Rising (flat_map (λ l. l) (filter is_directive ls))
directives_rise [] r = tt
directives_rise (l ∷ ls) r =
    let parts = rising-split l (flat_map (λ l. l) ls) r in
    elim (is_directive l) as (λ b. Rising
    (flat_map (λ l. l) (cond b (l ∷ filter is_directive ls) (filter is_directive ls)))) [
      | true ↦ rising-join l _ parts.0 (directives_rise ls parts.1) (before_directives ls l parts.2)
      | false ↦ directives_rise ls parts.1
    ]

pub directive_tokens_rise : (text : List ℕ) → Rising (flat_map (λ l. l) (directives text (pieces text)))
directive_tokens_rise text = directives_rise (logical_lines text (pieces text)) (all_rise text)

pub macros_rise : (text : List ℕ) → Rising (map (λ (m : Macro). m.name) (macros text (pieces text)))
macros_rise text = subst Rising (names_flat (directives text (pieces text)))
    (rising-picked macro_names macro_picks (directives text (pieces text)) (directive_tokens_rise text))
