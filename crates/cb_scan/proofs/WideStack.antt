-- The pass along all levels finds what each of them defines.
use Rattle.std.proofs.Common.{◌≡◌, ◌∙◌, ℕ, suc, ◌<◌, ◌≤◌, Bool, true, false, List, [], ◌∷◌, ◌++◌}
use Rattle.std.proofs.Common.{refl, sym, ap, subst, arith, append_assoc, drop, map, ⊎_elim, Option}
use Rattle.std.proofs.lemmas.Bool.{cases_Bool, eq-eqb, eqb-true, false≢true, false_from_ne_true}
use Rattle.std.proofs.lemmas.List.Sorted.{IsPermutation-append_comm, IsPermutation-append_left}
use Rattle.std.proofs.lemmas.List.Sorted.{IsPermutation-append_right, IsPermutation-refl, IsPermutation-trans}
use Rattle.std.specs.Prelude.{◌&&◌, ◌||◌, ◌==◌, not, cond, filter, if◌then◌else◌}
use Rattle.std.specs.List.{flat_map}
use Rattle.std.specs.List.Sorted.{IsPermutation}
use Rattle.cb_scan.specs.declared.facts.Def.{Def}
use Rattle.cb_scan.specs.declared.rules.wide.level.Level.{Level}
use Rattle.cb_scan.specs.declared.rules.wide.opening.Opening.{Opening}
use Rattle.cb_scan.specs.declared.rules.wide.role.WideRole.TheVariants as wide
use Rattle.cb_scan.specs.declared.rules.wide.token.WideToken.{WideToken}
use Rattle.cb_scan.specs.rules.wide.Attributes.{ends_attribute}
use Rattle.cb_scan.specs.rules.wide.Levels.{Placed, around_after, closes_brace, is_inside}
use Rattle.cb_scan.specs.rules.wide.Levels.{level_inside, placed}
use Rattle.cb_scan.specs.rules.wide.Words.{is_sign}
use Rattle.cb_scan.specs.steps.wide.Ahead.{seen, up_to_mark}
use Rattle.cb_scan.specs.steps.wide.Contents.{closed_by, contents_from, defined_by, first_goes_on}
use Rattle.cb_scan.specs.steps.wide.Contents.{level_defs, level_out, next_level, next_levels, tag_inside}
use Rattle.cb_scan.specs.steps.wide.Levels.{opened}
use Rattle.cb_scan.specs.steps.wide.Openings.{next_opening}
use Rattle.cb_scan.proofs.WideSeen.{next_seen, out_seen}

-- ---- tokens of a text

-- the tokens go on from a place, and a brace that counts is one
abbrev pub Rise : ℕ → List WideToken → Type 0
Rise n [] = Unit {0}
Rise n (x ∷ xs) =
    (n ≤ x.token.span.start) × ((x.counted ≡ true → x.role ≡ wide.Mark 123)
    × Rise (suc x.token.span.start) xs)

-- places before a place, the nearest first
abbrev pub Below : ℕ → List ℕ → Type 0
Below n [] = Unit {0}
Below n (p ∷ ps) = (p < n) × Below p ps

-- a place is none of these
abbrev Apart : ℕ → List ℕ → Type 0
Apart p [] = Unit {0}
Apart p (q ∷ qs) = ((q == p) ≡ false) × Apart p qs

not_equal : (p q : ℕ) → p < q → (p == q) ≡ false
not_equal p q less = false_from_ne_true (p == q) (λ e. let same : p ≡ q = eqb-true p q e in absurd (omega arith))

not_equal_back : (p q : ℕ) → q < p → (p == q) ≡ false
not_equal_back p q less = false_from_ne_true (p == q) (λ e. let same : p ≡ q = eqb-true p q e in absurd (omega arith))

below_more : (m n : ℕ) (ps : List ℕ) → m ≤ n → Below m ps → Below n ps
below_more m n [] le is = tt
below_more m n (p ∷ ps) le is = let less = is.0 in (omega arith, is.1)

apart_above : (m n : ℕ) (ps : List ℕ) → m ≤ n → Below m ps → Apart n ps
apart_above m n [] le is = tt
apart_above m n (p ∷ ps) le is =
    let less = is.0 in
    (not_equal p n (omega arith), apart_above p n ps (omega arith) is.1)

apart_rest : (p : ℕ) (ps : List ℕ) → Apart p ps → Apart p (drop 1 ps)
apart_rest p [] is = tt
apart_rest p (q ∷ qs) is = is.1

-- a brace that counts is no `}`
counted_opens : (x : WideToken) → (x.counted ≡ true → x.role ≡ wide.Mark 123) → x.counted ≡ true
    → is_sign 125 x.role ≡ false
counted_opens x formed is = ap (is_sign 125) (formed is)

-- ---- what is open after a token
module _ (x : WideToken) (n : ℕ) (le : n ≤ x.token.span.start) where
  apart_after : (p : ℕ) (around : List ℕ) → p < n → Apart p around → Apart p (around_after x around)
  apart_after p around less is =
      elim (x.counted) as (λ b. Apart p (cond b (x.token.span.start ∷ around)
      (if is_sign 125 x.role then (if x.token.starts_line then [] else drop 1 around) else around))) [
        | true ↦ (not_equal_back x.token.span.start p (omega arith), is)
        | false ↦ elim (is_sign 125 x.role) as (λ b. Apart p
            (cond b (if x.token.starts_line then [] else drop 1 around) around)) [
              | true ↦ elim (x.token.starts_line) as (λ b. Apart p (cond b [] (drop 1 around)))
                  [ true ↦ tt | false ↦ apart_rest p around is ]
              | false ↦ is
            ]
      ]

outside_of : (p : ℕ) (around : List ℕ) → Apart p around → is_inside p around ≡ false
outside_of p [] is = refl
outside_of p (q ∷ qs) is = is.0

-- the level inside a place, by one token more
more_inside : (p : ℕ) (x : WideToken) (around : List ℕ) (ps : List Placed)
    → is_inside p around ≡ false
    → level_inside p (record { item = x; around = around } ∷ ps) ≡ level_inside p ps
more_inside p x around ps isnt =
    ap (λ b. map (λ (q : Placed). q.item) (cond (b && not (closes_brace (record { item = x; around = around })))
    (record { item = x; around = around } ∷ filter (λ (q : Placed). is_inside p q.around && not (closes_brace q)) ps)
    (filter (λ (q : Placed). is_inside p q.around && not (closes_brace q)) ps))) isnt

closed_inside : (p : ℕ) (x : WideToken) (around : List ℕ) (ps : List Placed)
    → closes_brace (record { item = x; around = around }) ≡ true
    → level_inside p (record { item = x; around = around } ∷ ps) ≡ level_inside p ps
closed_inside p x around ps is =
    elim (is_inside p around) as (λ a. map (λ (q : Placed). q.item)
    (cond (a && not (closes_brace (record { item = x; around = around })))
    (record { item = x; around = around } ∷ filter (λ (q : Placed). is_inside p q.around && not (closes_brace q)) ps)
    (filter (λ (q : Placed). is_inside p q.around && not (closes_brace q)) ps)) ≡ level_inside p ps) [
      | true ↦ ap (λ b. map (λ (q : Placed). q.item) (cond (not b)
          (record { item = x; around = around }
          ∷ filter (λ (q : Placed). is_inside p q.around && not (closes_brace q)) ps)
          (filter (λ (q : Placed). is_inside p q.around && not (closes_brace q)) ps))) is
      | false ↦ refl
    ]

kept_inside : (p : ℕ) (x : WideToken) (around : List ℕ) (ps : List Placed) → is_sign 125 x.role ≡ false
    → level_inside p (record { item = x; around = p ∷ around } ∷ ps) ≡ x ∷ level_inside p ps
kept_inside p x around ps isnt =
    ap (λ b. map (λ (q : Placed). q.item) (cond (b && not (is_sign 125 x.role && true))
    (record { item = x; around = p ∷ around }
    ∷ filter (λ (q : Placed). is_inside p q.around && not (closes_brace q)) ps)
    (filter (λ (q : Placed). is_inside p q.around && not (closes_brace q)) ps))) (eq-eqb p p refl)
    ∙ ap (λ b. map (λ (q : Placed). q.item) (cond (not (b && true))
    (record { item = x; around = p ∷ around }
    ∷ filter (λ (q : Placed). is_inside p q.around && not (closes_brace q)) ps)
    (filter (λ (q : Placed). is_inside p q.around && not (closes_brace q)) ps))) isnt

-- a place that is not open never is again
none_inside : (p n : ℕ) (around : List ℕ) (xs : List WideToken) → p < n → Apart p around → Rise n xs
    → level_inside p (placed around xs) ≡ []
unfolding placed
none_inside p n around [] less apart rise = refl
none_inside p n around (x ∷ xs) less apart rise =
    let le = rise.0 in
    more_inside p x around (placed (around_after x around) xs) (outside_of p around apart)
    ∙ none_inside p (suc x.token.span.start) (around_after x around) xs (omega arith)
    (apart_after x n rise.0 p around less apart) rise.1.1

-- what is ahead on the level that is open is what is ahead
ahead_same : (p n : ℕ) (around : List ℕ) (xs : List WideToken) → p < n → Below p around → Rise n xs
    → up_to_mark (level_inside p (placed (p ∷ around) xs)) ≡ up_to_mark xs
unfolding placed
ahead_same p n around [] less below rise = refl
ahead_same p n around (x ∷ xs) less below rise =
    let le = rise.0 in
    let after = around_after x (p ∷ around) in
    let here : Placed = record { item = x; around = p ∷ around } in
    ⊎_elim
    (λ is. ⊎_elim
    (λ closes.
    let uncounted : x.counted ≡ false = false_from_ne_true x.counted
    (λ e. absurd (false≢true (sym (counted_opens x rise.1.0 e) ∙ closes))) in
    let left : after ≡ (if x.token.starts_line then [] else around) =
    ap (λ b. cond b (x.token.span.start ∷ p ∷ around)
    (cond (is_sign 125 x.role) (if x.token.starts_line then [] else around) (p ∷ around))) uncounted
    ∙ ap (λ b. cond b (if x.token.starts_line then [] else around) (p ∷ around)) closes in
    let apart : Apart p after = subst (Apart p) (sym left)
    (elim (x.token.starts_line) as (λ b. Apart p (cond b [] around))
    [ true ↦ tt | false ↦ apart_above p p around (omega arith) below ]) in
    ap up_to_mark (closed_inside p x (p ∷ around) (placed after xs) (ap (λ b. b && true) closes)
    ∙ none_inside p (suc x.token.span.start) after xs (omega arith) apart rise.1.1)
    ∙ ap (λ b. cond b [] (x ∷ up_to_mark xs)) (sym is))
    (λ stays.
    ap up_to_mark (kept_inside p x around (placed after xs) stays)
    ∙ ap (λ b. cond b [] (x ∷ up_to_mark (level_inside p (placed after xs)))) is
    ∙ ap (λ b. cond b [] (x ∷ up_to_mark xs)) (sym is))
    (cases_Bool (is_sign 125 x.role)))
    (λ isnt.
    let uncounted : x.counted ≡ false = false_from_ne_true x.counted
    (λ e. absurd (false≢true (sym isnt ∙ ap ends_attribute (rise.1.0 e)))) in
    let stays : is_sign 125 x.role ≡ false = false_from_ne_true (is_sign 125 x.role)
    (λ e. absurd (false≢true (sym isnt ∙ last_true (is_sign 59 x.role || is_sign 123 x.role) (is_sign 125 x.role) e))) in
    let same : after ≡ p ∷ around =
    ap (λ b. cond b (x.token.span.start ∷ p ∷ around)
    (cond (is_sign 125 x.role) (if x.token.starts_line then [] else around) (p ∷ around))) uncounted
    ∙ ap (λ b. cond b (if x.token.starts_line then [] else around) (p ∷ around)) stays in
    ap up_to_mark (kept_inside p x around (placed after xs) stays)
    ∙ ap (λ a. up_to_mark (x ∷ level_inside p (placed a xs))) same
    ∙ ap (λ b. cond b [] (x ∷ up_to_mark (level_inside p (placed (p ∷ around) xs)))) isnt
    ∙ ap (λ l. x ∷ l) (ahead_same p (suc x.token.span.start) around xs (omega arith) below rise.1.1)
    ∙ ap (λ b. cond b [] (x ∷ up_to_mark xs)) (sym isnt))
    (cases_Bool (ends_attribute x.role))
  where
    last_true : (a b : Bool) → b ≡ true → (a || b) ≡ true
    last_true true b is = refl
    last_true false b is = is

-- ---- the levels that are open

-- a `{` and the level that it makes
pub record Open : Type 0 where
  pub place : ℕ
  pub level : Level

abbrev pub places : List Open → List ℕ
places os = map (λ (o : Open). o.place) os

abbrev pub levels : List Open → List Level
levels os = map (λ (o : Open). o.level) os

-- what a level defines in some tokens
abbrev pub content : List Placed → Open → List Def
content ps o = level_defs o.level (level_inside o.place ps)

-- the innermost goes on
abbrev pub goes_on : List Open → List WideToken → WideToken → List Open
goes_on [] xs x = []
goes_on (o ∷ os) xs x = record { place = o.place; level = next_level o.level xs x } ∷ os

-- the level that a token opens
abbrev pub opened_here : Option Opening → List Open → WideToken → List Open
opened_here o os x =
    if x.counted then record { place = x.token.span.start; level = opened o (tag_inside (levels os)) } ∷ []
    else []

-- those that are open after it
abbrev pub next_opens : Option Opening → List Open → List WideToken → WideToken → List Open
next_opens o os xs x =
    if x.counted then
    record { place = x.token.span.start; level = opened o (tag_inside (levels os)) } ∷ goes_on os xs x
    else (if is_sign 125 x.role then (if x.token.starts_line then [] else drop 1 os) else goes_on os xs x)

-- the levels that are opened from a state on
unfoldable pub opens_from : Option Opening → List Open → List WideToken → List Open
opens_from o os [] = []
opens_from o os (x ∷ xs) =
    opened_here o os x ++ opens_from (next_opening o x) (next_opens o os (x ∷ xs) x) xs

goes_on_levels : (os : List Open) (xs : List WideToken) (x : WideToken)
    → levels (goes_on os xs x) ≡ first_goes_on (levels os) xs x
goes_on_levels [] xs x = refl
goes_on_levels (o ∷ os) xs x = refl

pub goes_on_places : (os : List Open) (xs : List WideToken) (x : WideToken) → places (goes_on os xs x) ≡ places os
goes_on_places [] xs x = refl
goes_on_places (o ∷ os) xs x = refl

drop_map : {X Y : Type 0} (f : X → Y) (xs : List X) → map f (drop 1 xs) ≡ drop 1 (map f xs)
drop_map f [] = refl
drop_map f (x ∷ xs) = refl

module _ (o : Option Opening) (os : List Open) (xs : List WideToken) (x : WideToken) where
  pub next_are_levels : levels (next_opens o os xs x) ≡ next_levels o (levels os) xs x
  next_are_levels =
      elim (x.counted) as (λ b. levels (cond b (record {
        place = x.token.span.start;
        level = opened o (tag_inside (levels os));
      } ∷ goes_on os xs x)
      (if is_sign 125 x.role then (if x.token.starts_line then [] else drop 1 os) else goes_on os xs x))
      ≡ cond b (opened o (tag_inside (levels os)) ∷ first_goes_on (levels os) xs x)
      (if is_sign 125 x.role then closed_by x (levels os) else first_goes_on (levels os) xs x)) [
        | true ↦ ap (λ l. opened o (tag_inside (levels os)) ∷ l) (goes_on_levels os xs x)
        | false ↦ elim (is_sign 125 x.role) as (λ b.
            levels (cond b (if x.token.starts_line then [] else drop 1 os) (goes_on os xs x))
            ≡ cond b (closed_by x (levels os)) (first_goes_on (levels os) xs x)) [
              | true ↦ elim (x.token.starts_line) as (λ b. levels (cond b [] (drop 1 os))
                  ≡ cond b [] (drop 1 (levels os)))
                  [ true ↦ refl | false ↦ drop_map (λ (o : Open). o.level) os ]
              | false ↦ goes_on_levels os xs x
            ]
      ]

  pub next_are_places : places (next_opens o os xs x) ≡ around_after x (places os)
  next_are_places =
      elim (x.counted) as (λ b. places (cond b (record {
        place = x.token.span.start;
        level = opened o (tag_inside (levels os));
      } ∷ goes_on os xs x)
      (if is_sign 125 x.role then (if x.token.starts_line then [] else drop 1 os) else goes_on os xs x))
      ≡ cond b (x.token.span.start ∷ places os)
      (if is_sign 125 x.role then (if x.token.starts_line then [] else drop 1 (places os)) else places os)) [
        | true ↦ ap (λ l. x.token.span.start ∷ l) (goes_on_places os xs x)
        | false ↦ elim (is_sign 125 x.role) as (λ b.
            places (cond b (if x.token.starts_line then [] else drop 1 os) (goes_on os xs x))
            ≡ cond b (if x.token.starts_line then [] else drop 1 (places os)) (places os)) [
              | true ↦ elim (x.token.starts_line) as (λ b. places (cond b [] (drop 1 os))
                  ≡ cond b [] (drop 1 (places os)))
                  [ true ↦ refl | false ↦ drop_map (λ (o : Open). o.place) os ]
              | false ↦ goes_on_places os xs x
            ]
      ]

below_rest : (n : ℕ) (ps : List ℕ) → Below n ps → Below n (drop 1 ps)
below_rest n [] is = tt
below_rest n (p ∷ ps) is = below_more p n ps (omega (arith, is.0)) is.1

-- those that are open after a token lie before what is to come
below_after : (x : WideToken) (n : ℕ) (around : List ℕ) → n ≤ x.token.span.start → Below n around
    → Below (suc x.token.span.start) (around_after x around)
below_after x n around le below =
    let more : Below (suc x.token.span.start) around = below_more n (suc x.token.span.start) around (omega arith) below in
    elim (x.counted) as (λ b. Below (suc x.token.span.start) (cond b (x.token.span.start ∷ around)
    (if is_sign 125 x.role then (if x.token.starts_line then [] else drop 1 around) else around))) [
      | true ↦ (omega arith, below_more n x.token.span.start around le below)
      | false ↦ elim (is_sign 125 x.role) as (λ b. Below (suc x.token.span.start)
          (cond b (if x.token.starts_line then [] else drop 1 around) around)) [
            | true ↦ elim (x.token.starts_line) as (λ b. Below (suc x.token.span.start) (cond b [] (drop 1 around)))
                [ true ↦ tt | false ↦ below_rest (suc x.token.span.start) around more ]
            | false ↦ more
          ]
    ]

-- ---- what they define, by one token more

-- nothing is in a level of no tokens
empty_content : (os : List Open) → flat_map (content []) os ≡ []
unfolding level_defs
empty_content [] = refl
empty_content (o ∷ os) = empty_content os

-- the levels that are opened hold nothing of what was before
same_later : (n : ℕ) (ps qs : List Placed) → ((p : ℕ) → n ≤ p → level_inside p ps ≡ level_inside p qs)
    → (o : Option Opening) (os : List Open) (xs : List WideToken) → Rise n xs
    → flat_map (content ps) (opens_from o os xs) ≡ flat_map (content qs) (opens_from o os xs)
unfolding opens_from
same_later n ps qs same o os [] rise = refl
same_later n ps qs same o os (x ∷ xs) rise =
    let le = rise.0 in
    let later = opens_from (next_opening o x) (next_opens o os (x ∷ xs) x) xs in
    let rest : flat_map (content ps) later ≡ flat_map (content qs) later =
    same_later (suc x.token.span.start) ps qs (λ p above. same p (omega arith)) (next_opening o x)
    (next_opens o os (x ∷ xs) x) xs rise.1.1 in
    elim (x.counted) as (λ b. flat_map (content ps) (cond b (record {
      place = x.token.span.start;
      level = opened o (tag_inside (levels os));
    } ∷ []) [] ++ later)
    ≡ flat_map (content qs) (cond b (record {
      place = x.token.span.start;
      level = opened o (tag_inside (levels os));
    } ∷ []) [] ++ later)) [
      | true ↦ ap (λ l. level_defs (opened o (tag_inside (levels os))) l ++ flat_map (content ps) later)
          (same x.token.span.start le)
          ∙ ap (λ l. level_defs (opened o (tag_inside (levels os))) (level_inside x.token.span.start qs) ++ l) rest
      | false ↦ rest
    ]

-- levels that are open before a place hold the same in two lists that agree there
same_before : (n : ℕ) (ps qs : List Placed) → ((p : ℕ) → p < n → level_inside p ps ≡ level_inside p qs)
    → (os : List Open) → Below n (places os) → flat_map (content ps) os ≡ flat_map (content qs) os
same_before n ps qs same [] below = refl
same_before n ps qs same (o ∷ os) below =
    let less = below.0 in
    ap (λ l. level_defs o.level l ++ flat_map (content ps) os) (same o.place below.0)
    ∙ ap (λ l. content qs o ++ l)
    (same_before o.place ps qs (λ p lower. same p (omega arith)) os below.1)

-- a level that is closed holds nothing more
closed_content : (n : ℕ) (around : List ℕ) (xs : List WideToken) → Rise n xs
    → (os : List Open) → Below n (places os) → ((p : ℕ) → p < n → Apart p around)
    → flat_map (content (placed around xs)) os ≡ []
unfolding level_defs
closed_content n around xs rise [] below apart = refl
closed_content n around xs rise (o ∷ os) below apart =
    let less = below.0 in
    ap (λ l. level_defs o.level l ++ flat_map (content (placed around xs)) os)
    (none_inside o.place n around xs less (apart o.place less) rise)
    ∙ closed_content n around xs rise os (below_more o.place n (places os) (omega arith) below.1) apart

-- ---- one token

module _ (x : WideToken) (xs : List WideToken) (n : ℕ) (rise : Rise n (x ∷ xs)) where
  -- a token of the innermost level that is no `}`
  on_level : (os : List Open) → Below n (places os) → is_sign 125 x.role ≡ false
      → flat_map (content (placed (places os) (x ∷ xs))) os
      ≡ defined_by (levels os) (x ∷ xs) x
      ++ flat_map (content (placed (around_after x (places os)) xs)) (goes_on os (x ∷ xs) x)
  unfolding placed level_defs
  on_level [] below stays = refl
  on_level (o ∷ os) below stays =
      let le = rise.0 in
      let less = below.0 in
      let around = places os in
      let after = around_after x (o.place ∷ around) in
      let ps = placed after xs in
      let inner = level_inside o.place ps in
      let later : List Placed → List Def = λ l. flat_map (content l) os in
      let whole : List Placed = record { item = x; around = o.place ∷ around } ∷ ps in
      let alike : seen (x ∷ inner) ≡ seen (x ∷ xs) = ahead in
      ap (λ l. level_defs o.level l ++ later whole) (kept_inside o.place x around ps stays)
      ∙ ap (λ l. (level_out o.level (x ∷ inner) x
      ++ level_defs (next_level o.level (x ∷ inner) x) inner) ++ l)
      (same_before o.place whole ps
      (λ p lower. more_inside p x (o.place ∷ around) ps (not_equal_back o.place p lower)) os below.1)
      ∙ ap (λ l. (l ++ level_defs (next_level o.level (x ∷ inner) x) inner) ++ later ps)
      (out_seen o.level x inner ∙ ap (λ l. level_out o.level l x) alike ∙ sym (out_seen o.level x xs))
      ∙ ap (λ l. (level_out o.level (x ∷ xs) x ++ level_defs l inner) ++ later ps)
      (next_seen o.level x inner ∙ ap (λ l. next_level o.level l x) alike ∙ sym (next_seen o.level x xs))
      ∙ append_assoc (level_out o.level (x ∷ xs) x)
      (level_defs (next_level o.level (x ∷ xs) x) inner) (later ps)
      ∙ ap (λ b. cond b [] (level_out o.level (x ∷ xs) x)
      ++ (level_defs (next_level o.level (x ∷ xs) x) inner ++ later ps)) (sym stays)
    where
      ahead : seen (x ∷ level_inside o.place (placed (around_after x (o.place ∷ places os)) xs)) ≡ seen (x ∷ xs)
      ahead =
          let le = rise.0 in
          let less = below.0 in
          ⊎_elim
          (λ is. ap (λ b. x ∷ cond b []
          (up_to_mark (level_inside o.place (placed (around_after x (o.place ∷ places os)) xs)))) is
          ∙ ap (λ b. x ∷ cond b [] (up_to_mark xs)) (sym is))
          (λ isnt.
          let uncounted : x.counted ≡ false = false_from_ne_true x.counted
          (λ e. absurd (false≢true (sym isnt ∙ ap ends_attribute (rise.1.0 e)))) in
          let same : around_after x (o.place ∷ places os) ≡ o.place ∷ places os =
          ap (λ b. cond b (x.token.span.start ∷ o.place ∷ places os)
          (cond (is_sign 125 x.role) (if x.token.starts_line then [] else places os) (o.place ∷ places os))) uncounted
          ∙ ap (λ b. cond b (if x.token.starts_line then [] else places os) (o.place ∷ places os)) stays in
          ap (λ b. x ∷ cond b []
          (up_to_mark (level_inside o.place (placed (around_after x (o.place ∷ places os)) xs)))) isnt
          ∙ ap (λ a. x ∷ up_to_mark (level_inside o.place (placed a xs))) same
          ∙ ap (λ l. x ∷ l) (ahead_same o.place (suc x.token.span.start) (places os) xs (omega arith) below.1 rise.1.1)
          ∙ ap (λ b. x ∷ cond b [] (up_to_mark xs)) (sym isnt))
          (cases_Bool (ends_attribute x.role))

  -- a `}`, which closes the innermost or all
  at_close : (os : List Open) → Below n (places os) → x.counted ≡ false → is_sign 125 x.role ≡ true
      → flat_map (content (placed (places os) (x ∷ xs))) os
      ≡ flat_map (content (placed (around_after x (places os)) xs))
      (if x.token.starts_line then [] else drop 1 os)
  unfolding placed level_defs
  at_close [] below uncounted closes =
      elim (x.token.starts_line) as (λ b.
      [] ≡ flat_map (content (placed (around_after x []) xs)) (cond b [] []))
      [ true ↦ refl | false ↦ refl ]
  at_close (o ∷ os) below uncounted closes =
      let le = rise.0 in
      let less = below.0 in
      let around = places os in
      let ps = placed (around_after x (o.place ∷ around)) xs in
      let whole : List Placed = record { item = x; around = o.place ∷ around } ∷ ps in
      let left : around_after x (o.place ∷ around) ≡ (if x.token.starts_line then [] else around) =
      ap (λ b. cond b (x.token.span.start ∷ o.place ∷ around)
      (cond (is_sign 125 x.role) (if x.token.starts_line then [] else around) (o.place ∷ around))) uncounted
      ∙ ap (λ b. cond b (if x.token.starts_line then [] else around) (o.place ∷ around)) closes in
      same_before n whole ps
      (λ p lower. closed_inside p x (o.place ∷ around) ps (ap (λ b. b && true) closes)) (o ∷ os) below
      ∙ ap (λ a. flat_map (content (placed a xs)) (o ∷ os)) left
      ∙ elim (x.token.starts_line) as (λ b.
      flat_map (content (placed (cond b [] around) xs)) (o ∷ os)
      ≡ flat_map (content (placed (cond b [] around) xs)) (cond b [] os)) [
        | true ↦ closed_content (suc x.token.span.start) [] xs rise.1.1 (o ∷ os)
            (below_more n (suc x.token.span.start) (places (o ∷ os)) (omega arith) below) (λ p lower. tt)
        | false ↦ ap (λ l. level_defs o.level l ++ flat_map (content (placed around xs)) os)
            (none_inside o.place (suc x.token.span.start) around xs (omega arith)
            (apart_above o.place o.place around (omega arith) below.1) rise.1.1)
      ]
      ∙ sym (ap (λ a. flat_map (content (placed a xs)) (if x.token.starts_line then [] else os)) left)

  nothing_defined : (os : List Open) → is_sign 125 x.role ≡ true → defined_by (levels os) (x ∷ xs) x ≡ []
  nothing_defined [] closes = refl
  nothing_defined (o ∷ os) closes = ap (λ b. cond b [] (level_out o.level (x ∷ xs) x)) closes

-- ---- all tokens

-- what one token defines, and what it opens, in their places
arranged : (d g m l c : List Def) → IsPermutation c ((m ++ g) ++ l)
    → IsPermutation (d ++ c) ((d ++ g) ++ (m ++ l))
arranged d g m l c is =
    subst (IsPermutation (d ++ c)) (ap (λ z. d ++ z) (append_assoc g m l) ∙ sym (append_assoc d g (m ++ l)))
    (IsPermutation-trans (d ++ c) (d ++ ((m ++ g) ++ l)) (d ++ ((g ++ m) ++ l))
    (IsPermutation-append_right d c ((m ++ g) ++ l) is)
    (IsPermutation-append_right d ((m ++ g) ++ l) ((g ++ m) ++ l)
    (IsPermutation-append_left l (m ++ g) (g ++ m) (IsPermutation-append_comm m g))))

pub stack_is : (o : Option Opening) (os : List Open) (n : ℕ) (xs : List WideToken)
    → Rise n xs → Below n (places os)
    → IsPermutation (contents_from o (levels os) xs)
    (flat_map (content (placed (places os) xs)) os
    ++ flat_map (content (placed (places os) xs)) (opens_from o os xs))
unfolding placed contents_from opens_from
stack_is o os n [] rise below =
    subst (IsPermutation []) (sym (ap (λ l. l ++ []) (empty_content os))) (IsPermutation-refl [])
stack_is o os n (x ∷ xs) rise below =
    let le = rise.0 in
    let o′ = next_opening o x in
    let os′ = next_opens o os (x ∷ xs) x in
    let after = around_after x (places os) in
    let ps = placed after xs in
    let whole : List Placed = record { item = x; around = places os } ∷ ps in
    let here = defined_by (levels os) (x ∷ xs) x in
    let rest = contents_from o′ (next_levels o (levels os) (x ∷ xs) x) xs in
    let opens = opens_from o′ os′ xs in
    let later = flat_map (content ps) opens in
    let after_is : places os′ ≡ after = next_are_places o os (x ∷ xs) x in
    let outside : (p : ℕ) → n ≤ p → level_inside p whole ≡ level_inside p ps =
    λ p above. more_inside p x (places os) ps
    (outside_of p (places os) (apart_above n p (places os) above below)) in
    let later_is : flat_map (content whole) opens ≡ later =
    same_later (suc x.token.span.start) whole ps (λ p above. outside p (omega arith)) o′ os′ xs rise.1.1 in
    let known : IsPermutation rest (flat_map (content ps) os′ ++ later) =
    subst (λ ls. IsPermutation (contents_from o′ ls xs) (flat_map (content ps) os′ ++ later))
    (next_are_levels o os (x ∷ xs) x)
    (subst (λ a. IsPermutation (contents_from o′ (levels os′) xs)
    (flat_map (content (placed a xs)) os′ ++ flat_map (content (placed a xs)) opens)) after_is
    (stack_is o′ os′ (suc x.token.span.start) xs rise.1.1
    (subst (Below (suc x.token.span.start)) (sym after_is) (below_after x n (places os) le below)))) in
    ⊎_elim
    (λ counted.
    let new : Open = record { place = x.token.span.start; level = opened o (tag_inside (levels os)) } in
    let going = goes_on os (x ∷ xs) x in
    let other = if is_sign 125 x.role then (if x.token.starts_line then [] else drop 1 os) else going in
    let os_are : os′ ≡ new ∷ going = ap (λ b. cond b (new ∷ going) other) counted in
    subst (λ l. IsPermutation (here ++ rest) (l ++ flat_map (content whole) (opened_here o os x ++ opens)))
    (sym (on_level x xs n rise os below (counted_opens x rise.1.0 counted)))
    (subst (λ h. IsPermutation (here ++ rest)
    ((here ++ flat_map (content ps) going) ++ flat_map (content whole) (h ++ opens)))
    (sym (ap (λ b. cond b (new ∷ []) []) counted))
    (subst (λ l. IsPermutation (here ++ rest)
    ((here ++ flat_map (content ps) going) ++ (level_defs new.level l ++ flat_map (content whole) opens)))
    (sym (outside x.token.span.start le))
    (subst (λ l. IsPermutation (here ++ rest)
    ((here ++ flat_map (content ps) going) ++ (content ps new ++ l))) (sym later_is)
    (arranged here (flat_map (content ps) going) (content ps new) later rest
    (subst (λ l. IsPermutation rest (flat_map (content ps) l ++ later)) os_are known))))))
    (λ uncounted. ⊎_elim
    (λ closes.
    let closed_ = if x.token.starts_line then [] else drop 1 os in
    let os_are : os′ ≡ closed_ =
    ap (λ b. cond b (record {
      place = x.token.span.start;
      level = opened o (tag_inside (levels os));
    } ∷ goes_on os (x ∷ xs) x) (cond (is_sign 125 x.role) closed_ (goes_on os (x ∷ xs) x))) uncounted
    ∙ ap (λ b. cond b closed_ (goes_on os (x ∷ xs) x)) closes in
    subst (λ l. IsPermutation (here ++ rest) (l ++ flat_map (content whole) (opened_here o os x ++ opens)))
    (sym (at_close x xs n rise os below uncounted closes))
    (subst (λ h. IsPermutation (here ++ rest)
    (flat_map (content ps) closed_ ++ flat_map (content whole) (h ++ opens)))
    (sym (ap (λ b. cond b (record {
      place = x.token.span.start;
      level = opened o (tag_inside (levels os));
    } ∷ []) []) uncounted))
    (subst (λ l. IsPermutation (here ++ rest) (flat_map (content ps) closed_ ++ l)) (sym later_is)
    (subst (λ h. IsPermutation (h ++ rest) (flat_map (content ps) closed_ ++ later))
    (sym (nothing_defined x xs n rise os closes))
    (subst (λ l. IsPermutation rest (flat_map (content ps) l ++ later)) os_are known)))))
    (λ stays.
    let going = goes_on os (x ∷ xs) x in
    let os_are : os′ ≡ going =
    ap (λ b. cond b (record {
      place = x.token.span.start;
      level = opened o (tag_inside (levels os));
    } ∷ going) (cond (is_sign 125 x.role) (if x.token.starts_line then [] else drop 1 os) going)) uncounted
    ∙ ap (λ b. cond b (if x.token.starts_line then [] else drop 1 os) going) stays in
    subst (λ l. IsPermutation (here ++ rest) (l ++ flat_map (content whole) (opened_here o os x ++ opens)))
    (sym (on_level x xs n rise os below stays))
    (subst (λ h. IsPermutation (here ++ rest)
    ((here ++ flat_map (content ps) going) ++ flat_map (content whole) (h ++ opens)))
    (sym (ap (λ b. cond b (record {
      place = x.token.span.start;
      level = opened o (tag_inside (levels os));
    } ∷ []) []) uncounted))
    (subst (λ l. IsPermutation (here ++ rest) ((here ++ flat_map (content ps) going) ++ l)) (sym later_is)
    (arranged here (flat_map (content ps) going) [] later rest
    (subst (λ l. IsPermutation rest (flat_map (content ps) l ++ later)) os_are known)))))
    (cases_Bool (is_sign 125 x.role)))
    (cases_Bool x.counted)
