-- The pass finds the names that the typedefs of the code define.
use Rattle.std.proofs.Common.{◌≡◌, ◌∙◌, ℕ, zero, suc, ◌+◌, ◌-◌, ◌<◌, ◌≤◌, Bool, true, false, List}
use Rattle.std.proofs.Common.{[], ◌∷◌, ◌++◌, Option, Some, None, refl, sym, ap, subst, length, drop}
use Rattle.std.proofs.Common.{map, arith, length-drop, add-one, append_assoc}
use Rattle.std.proofs.lemmas.Bool.{false≢true, eq-eqb, eqb-true, false_from_ne_true}
use Rattle.std.proofs.lemmas.List.{drop_more, append-nil, map-append}
use Rattle.std.specs.Prelude.{◌||◌, ◌&&◌, ◌==◌, not, if◌then◌else◌, cond, find}
use Rattle.std.specs.List.{flat_map, range_with_len}
use Rattle.std.specs.Option.{is_none, option_map, option_to_list, option_map_or}
use Rattle.cb_scan.specs.declared.rules.functions.Machine.{Machine}
use Rattle.cb_scan.specs.declared.lex.token.Token.{Token}
use Rattle.cb_scan.specs.declared.lex.token.Role.{Role}
use Rattle.cb_scan.specs.declared.lex.token.Role.TheVariants.{Word, Mark, Str, Other}
use Rattle.cb_scan.specs.declared.rules.typedefs.Declaration.{Declaration}
use Rattle.cb_scan.specs.Definitions.{typedef_def}
use Rattle.cb_scan.specs.rules.Depth.{depth, head_start, is_stop, token_at, no_token}
use Rattle.cb_scan.specs.lex.Tokens.{is_mark, is_typedef}
use Rattle.cb_scan.specs.rules.Typedefs.{begins_typedef, ends_declaration, taken, taken_at}
use Rattle.cb_scan.specs.rules.Typedefs.{typedef_at, typedef_names, typedef_stop, typedefs}
use Rattle.cb_scan.specs.steps.Functions.{grown, next, start}
use Rattle.cb_scan.specs.steps.Heads.{empty_head}
use Rattle.cb_scan.specs.steps.Typedefs.{after, all_names, begins, declaration_start, ends, name_of}
use Rattle.cb_scan.specs.steps.Typedefs.{names_out, next_declaration, next_pending, parts_at, takes}
use Rattle.cb_scan.specs.steps.Typedefs.{typedef_defs_from, typedefs_from}
use Rattle.cb_scan.proofs.DeclarationLemmas.{names_after, names_from, names_of_typedef}
use Rattle.cb_scan.proofs.FunctionLemmas.{IsAt, last_grown, step, stops_is}

-- ---- where a declaration begins

-- what the state before token k knows besides
record AtHead (ts : List Token) (k : ℕ) (m : Machine) : Type 0 where
  at : IsAt ts k m
  empty_is : is_none m.head.last ≡ (head_start ts k == k)

start_le : (ts : List Token) (k : ℕ) → head_start ts k ≤ k
unfolding head_start
start_le ts zero = omega arith
start_le ts (suc k) =
    let before = start_le ts k in
    elim (is_stop ts k) as (λ b. (if b then suc k else head_start ts k) ≤ suc k)
    [ true ↦ omega arith | false ↦ omega arith ]

same : (n : ℕ) → true ≡ (n == n)
same n = sym (eq-eqb n n refl)

before : (h k : ℕ) → h ≤ k → false ≡ (h == suc k)
before h k le = sym (false_from_ne_true (h == suc k)
    (λ e. let equal : h ≡ suc k = eqb-true h (suc k) e in absurd (omega arith)))

-- a token later
at_head_next : (ts : List Token) (k : ℕ) (m : Machine) → k < length ts → AtHead ts k m
    → AtHead ts (suc k) (next m (token_at ts k))
unfolding next head_start
at_head_next ts k m within here = record {
  at = step ts k m here.at within;
  empty_is = (λ i. is_none (if stops_is ts k m here.at i then empty_head else grown m (token_at ts k)).last)
      ∙ by_stop (is_stop ts k);
}
  where
    by_stop : (b : Bool) → is_none (if b then empty_head else grown m (token_at ts k)).last
        ≡ ((if b then suc k else head_start ts k) == suc k)
    by_stop true = same (suc k)
    by_stop false = ap is_none (last_grown m (token_at ts k)) ∙ before (head_start ts k) k (start_le ts k)

-- ---- the typedef that is open

-- two answers that agree from k on
agree : (p : ℕ → Bool) (f g : ℕ → List Token) (n k : ℕ) → ((j : ℕ) → k ≤ j → f j ≡ g j)
    → option_map_or f (find p (range_with_len k n)) [] ≡ option_map_or g (find p (range_with_len k n)) []
agree p f g zero k alike = refl
agree p f g (suc n) k alike =
    elim (p k) as (λ b. option_map_or f (cond b (Some k) (find p (range_with_len (k + 1) n))) []
    ≡ option_map_or g (cond b (Some k) (find p (range_with_len (k + 1) n))) []) [
      | true ↦ alike k (omega arith)
      | false ↦ agree p f g n (k + 1) (λ j later. alike j (omega arith))
    ]

-- the names of a typedef whose `;` is token j, from a state before token k on
abbrev names_to : List Token → Declaration → List Token → ℕ → ℕ → List Token
names_to ts d pending k j = if ends_declaration ts j then pending ++ names_from d (taken ts k j) else []

-- the names of the open typedef, from a state before token k on
abbrev still : List Token → ℕ → Option Declaration → List Token → List Token
still ts k None pending = []
still ts k (Some d) pending = option_map_or (names_to ts d pending k) (typedef_stop ts k) []

stop_step : (ts : List Token) (k : ℕ) → k < length ts
    → typedef_stop ts k ≡ (if ends_declaration ts k || begins_typedef ts k then Some k else typedef_stop ts (suc k))
stop_step ts k within =
    let more : length ts - k ≡ suc (length ts - suc k) = omega arith in
    let one : k + 1 ≡ suc k = add-one k in
    ap (λ n. find (λ j. ends_declaration ts j || begins_typedef ts j) (range_with_len k n)) more
    ∙ ap (λ i. cond (ends_declaration ts k || begins_typedef ts k) (Some k)
    (find (λ j. ends_declaration ts j || begins_typedef ts j) (range_with_len i (length ts - suc k)))) one

taken_none : (ts : List Token) (k : ℕ) → taken ts k k ≡ []
taken_none ts k =
    let none : k - k ≡ 0 = omega arith in
    ap (λ n. flat_map (taken_at ts) (range_with_len k n)) none

taken_step : (ts : List Token) (k j : ℕ) → suc k ≤ j → taken ts k j ≡ taken_at ts k ++ taken ts (suc k) j
taken_step ts k j later =
    let more : j - k ≡ suc (j - suc k) = omega arith in
    let one : k + 1 ≡ suc k = add-one k in
    ap (λ n. flat_map (taken_at ts) (range_with_len k n)) more
    ∙ ap (λ i. taken_at ts k ++ flat_map (taken_at ts) (range_with_len i (j - suc k))) one

-- the token is taken
abbrev is_taken : List Token → ℕ → Bool
is_taken ts k = depth ts k == 0 && not (is_mark 123 (token_at ts k).role || is_mark 125 (token_at ts k).role)

-- a `;` is no `typedef`
end_begins_none : (r : Role) (a b : Bool) → (is_mark 59 r && a) ≡ true → (is_typedef r && b) ≡ false
end_begins_none (Word w) a b is = absurd (false≢true is)
end_begins_none Str a b is = refl
end_begins_none Other a b is = refl
end_begins_none (Mark x) a b is = refl

and_left : (a b : Bool) → (a && b) ≡ true → a ≡ true
and_left true b is = refl
and_left false b is = is

-- what a typedef that begins here defines
typedef_here : (ts : List Token) (k : ℕ) → begins_typedef ts k ≡ true
    → typedef_at ts k ≡ still ts (suc k) (Some declaration_start) []
typedef_here ts k is =
    ap (λ b. if b then option_map_or (λ j. if ends_declaration ts j then typedef_names (taken ts k j) else [])
    (typedef_stop ts (suc k)) [] else []) is
    ∙ agree (λ j. ends_declaration ts j || begins_typedef ts j)
    (λ j. if ends_declaration ts j then typedef_names (taken ts k j) else [])
    (names_to ts declaration_start [] (suc k)) (length ts - suc k) (suc k) (λ j later.
    ap (λ l. if ends_declaration ts j then l else []) (names j later))
  where
    names : (j : ℕ) → suc k ≤ j → typedef_names (taken ts k j) ≡ names_from declaration_start (taken ts (suc k) j)
    names j later =
        sym (names_of_typedef (taken ts k j))
        ∙ ap (names_from declaration_start) (taken_step ts k j later)
        ∙ names_after (token_at ts k) (is_taken ts k) (taken ts (suc k) j) (and_left _ _ is)

no_typedef_here : (ts : List Token) (k : ℕ) → begins_typedef ts k ≡ false → typedef_at ts k ≡ []
no_typedef_here ts k is =
    ap (λ b. if b then option_map_or (λ j. if ends_declaration ts j then typedef_names (taken ts k j) else [])
    (typedef_stop ts (suc k)) [] else []) is

-- ---- one token

-- the name that a comma ends, by whether the token is taken
abbrev ended_by : Bool → Option Declaration → Token → Option Token
ended_by c None t = None
ended_by c (Some d) t = if c && parts_at d.nesting t then name_of d else None

-- what a token gives and what is still open after it, by what it does
abbrev given : List Token → ℕ → Bool → Bool → Bool → Option Declaration → List Token → Token → List Token
given ts k e b c s pending t =
    (if e then all_names s pending else [])
    ++ still ts (suc k) (if e then None
    else (if b then Some declaration_start else option_map (λ d. if c then after d t else d) s))
    (if e || b then [] else pending ++ option_to_list (ended_by c s t))

-- the names that a token moves from what is to come
moved : (d : Declaration) (pending : List Token) (t : Token) (c : Bool) (ts : List Token)
    → (pending ++ option_to_list (if c && parts_at d.nesting t then name_of d else None))
    ++ names_from (if c then after d t else d) ts ≡ pending ++ names_from d ((if c then t ∷ [] else []) ++ ts)
moved d pending t true ts = append_assoc pending _ _
moved d pending t false ts = ap (λ l. l ++ names_from d ts) (append-nil pending)

module _ (ts : List Token) (k : ℕ) (within : k < length ts) where
  -- what is open by what the token does
  open_by : (d : Declaration) (pending : List Token) (e b : Bool) → ends_declaration ts k ≡ e → begins_typedef ts k ≡ b
      → still ts k (Some d) pending
      ≡ option_map_or (names_to ts d pending k) (if e || b then Some k else typedef_stop ts (suc k)) []
  open_by d pending e b ends_is begins_is =
      ap (λ o. option_map_or (names_to ts d pending k) o []) (stop_step ts k within)
      ∙ (λ i. option_map_or (names_to ts d pending k)
      (if ends_is i || begins_is i then Some k else typedef_stop ts (suc k)) [])

  one_token : (s : Option Declaration) (pending : List Token) (e b : Bool) → ends_declaration ts k ≡ e
      → begins_typedef ts k ≡ b
      → given ts k e b (is_taken ts k) s pending (token_at ts k) ≡ still ts k s pending ++ typedef_at ts k
  one_token s pending true true ends_is begins_is =
      absurd (false≢true (sym (end_begins_none (token_at ts k).role _ _ ends_is) ∙ begins_is))
  one_token None pending true false ends_is begins_is = sym (no_typedef_here ts k begins_is)
  one_token (Some d) pending true false ends_is begins_is =
      append-nil _
      ∙ sym
      (append-nil _
      ∙ open_by d pending true false ends_is begins_is
      ∙ (λ i. if ends_is i then pending ++ names_from d (taken_none ts k i) else []))
      ∙ ap (λ l. still ts k (Some d) pending ++ l) (sym (no_typedef_here ts k begins_is))
  one_token None pending false true ends_is begins_is = sym (typedef_here ts k begins_is)
  one_token (Some d) pending false true ends_is begins_is =
      sym (typedef_here ts k begins_is)
      ∙ ap (λ l. l ++ typedef_at ts k)
      (sym (open_by d pending false true ends_is begins_is
      ∙ ap (λ b. if b then pending ++ names_from d (taken ts k k) else []) ends_is))
  one_token None pending false false ends_is begins_is = sym (no_typedef_here ts k begins_is)
  one_token (Some d) pending false false ends_is begins_is =
      agree (λ j. ends_declaration ts j || begins_typedef ts j)
      (names_to ts (if is_taken ts k then after d (token_at ts k) else d)
      (pending ++ option_to_list (ended_by (is_taken ts k) (Some d) (token_at ts k))) (suc k))
      (names_to ts d pending k) (length ts - suc k) (suc k) (λ j later.
      ap (λ l. if ends_declaration ts j then l else [])
      (moved d pending (token_at ts k) (is_taken ts k) (taken ts (suc k) j)
      ∙ ap (λ l. pending ++ names_from d l) (sym (taken_step ts k j later))))
      ∙ sym (open_by d pending false false ends_is begins_is)
      ∙ sym (append-nil _)
      ∙ ap (λ l. still ts k (Some d) pending ++ l) (sym (no_typedef_here ts k begins_is))

  token_step : (m : Machine) (s : Option Declaration) (pending : List Token) → AtHead ts k m
      → names_out m s pending (token_at ts k)
      ++ still ts (suc k) (next_declaration m s (token_at ts k)) (next_pending m s pending (token_at ts k))
      ≡ still ts k s pending ++ typedef_at ts k
  token_step m s pending here = by_state s ∙ one_token s pending (ends_declaration ts k) (begins_typedef ts k) refl refl
    where
      ends_is : ends m (token_at ts k) ≡ ends_declaration ts k
      ends_is = ap (λ d. is_mark 59 (token_at ts k).role && d == 0) here.at.depth_is

      begins_is : begins m (token_at ts k) ≡ begins_typedef ts k
      begins_is = ap (λ b. is_typedef (token_at ts k).role && b) here.empty_is

      takes_is : takes m (token_at ts k) ≡ is_taken ts k
      takes_is = ap (λ d. d == 0 && not (is_mark 123 (token_at ts k).role || is_mark 125 (token_at ts k).role))
          here.at.depth_is

      by_state : (s : Option Declaration)
          → names_out m s pending (token_at ts k)
          ++ still ts (suc k) (next_declaration m s (token_at ts k)) (next_pending m s pending (token_at ts k))
          ≡ given ts k (ends_declaration ts k) (begins_typedef ts k) (is_taken ts k) s pending (token_at ts k)
      by_state None = λ i. given ts k (ends_is i) (begins_is i) (takes_is i) None pending (token_at ts k)
      by_state (Some d) = λ i. given ts k (ends_is i) (begins_is i) (takes_is i) (Some d) pending (token_at ts k)

-- ---- all tokens

still_end : (ts : List Token) (k : ℕ) (s : Option Declaration) (pending : List Token) → length ts ≤ k
    → still ts k s pending ≡ []
still_end ts k None pending past = refl
still_end ts k (Some d) pending past =
    let none : length ts - k ≡ 0 = omega arith in
    ap (λ n. option_map_or (names_to ts d pending k)
    (find (λ j. ends_declaration ts j || begins_typedef ts j) (range_with_len k n)) []) none

-- from token k on
typedefs_are : (ts : List Token) (k : ℕ) (m : Machine) (s : Option Declaration) (pending rest : List Token)
    → drop k ts ≡ rest → AtHead ts k m
    → typedefs_from m s pending rest ≡ still ts k s pending ++ flat_map (typedef_at ts) (range_with_len k (length rest))
typedefs_are ts k m s pending [] left here =
    sym (append-nil _ ∙ still_end ts k s pending (omega (arith, length-drop k ts, ap length left)))
typedefs_are ts k m s pending (t ∷ rest) left here =
    let within : k < length ts = omega (arith, length-drop k ts, ap length left) in
    let split : token_at ts k ∷ drop (k + 1) ts ≡ t ∷ rest = sym (drop_more ts k no_token within) ∙ left in
    let t_is : token_at ts k ≡ t = cc in
    let rest_is : drop (k + 1) ts ≡ rest = cc in
    let next_here : AtHead ts (k + 1) (next m t) =
    subst (λ j. AtHead ts j (next m t)) (sym (add-one k))
    (subst (λ u. AtHead ts (suc k) (next m u)) t_is (at_head_next ts k m within here)) in
    let later = typedefs_are ts (k + 1) (next m t) (next_declaration m s t)
    (next_pending m s pending t) rest rest_is next_here in
    ap (λ l. names_out m s pending t ++ l) later
    ∙ sym (append_assoc (names_out m s pending t) _ _)
    ∙ ap (λ l. l ++ flat_map (typedef_at ts) (range_with_len (k + 1) (length rest))) (stepped within t_is)
    ∙ append_assoc (still ts k s pending) _ _
  where
    stepped : k < length ts → token_at ts k ≡ t
        → names_out m s pending t ++ still ts (k + 1) (next_declaration m s t) (next_pending m s pending t)
        ≡ still ts k s pending ++ typedef_at ts k
    stepped within t_is =
        (λ i. names_out m s pending (sym t_is i)
        ++ still ts (add-one k i) (next_declaration m s (sym t_is i)) (next_pending m s pending (sym t_is i)))
        ∙ token_step ts k within m s pending here

-- the pass over the code finds the names of its typedefs
pub typedefs_from_start : (ts : List Token) → typedefs_from start None [] ts ≡ typedefs ts
unfolding depth head_start
typedefs_from_start ts =
    typedefs_are ts 0 start None [] ts refl
    (record {
      at = record {
        depth_is = refl;
        linkage_is = refl;
        extern_is = refl;
        head_is = λ _. refl;
        empty_is = refl;
        opened_is = refl;
      };
      empty_is = refl;
    })

-- the same as definitions
defs_are : (m : Machine) (s : Option Declaration) (pending ts : List Token)
    → typedef_defs_from m s pending ts ≡ map typedef_def (typedefs_from m s pending ts)
defs_are m s pending [] = refl
defs_are m s pending (t ∷ ts) =
    ap (λ l. map typedef_def (names_out m s pending t) ++ l)
    (defs_are (next m t) (next_declaration m s t) (next_pending m s pending t) ts)
    ∙ sym (map-append typedef_def (names_out m s pending t) _)

pub typedef_defs_from_start : (ts : List Token) → typedef_defs_from start None [] ts ≡ map typedef_def (typedefs ts)
typedef_defs_from_start ts = defs_are start None [] ts ∙ ap (map typedef_def) (typedefs_from_start ts)
