-- Functions come in the order of their names.
use Rattle.std.proofs.Common.{◌≡◌, ◌∙◌, ◌≤◌, ◌<◌, ◌+◌, ◌-◌, ℕ, zero, suc, Bool, true, false, List}
use Rattle.std.proofs.Common.{[], ◌∷◌, ◌++◌, Option, Some, None, refl, sym, ap, subst, map, take}
use Rattle.std.proofs.Common.{drop, length, add-one, inl, inr, ⊎_elim, add-zero, arith}
use Rattle.std.proofs.Common.{take-append-drop}
use Rattle.std.proofs.lemmas.List.{drop-drop, map-append}
use Rattle.std.specs.Prelude.{◌⊎◌, ◌&&◌, ◌||◌, ◌==◌, cond}
use Rattle.std.specs.List.{AllByRecursion, flat_map, range_with_len}
use Rattle.std.specs.Option.{MatchOption}
use Rattle.std.proofs.lemmas.Bool.{cases_Bool, eqb-true, false_from_ne_true}
use Rattle.std.proofs.Math.Bool.{and-false}
use Rattle.cb_scan.specs.declared.lex.token.Token.{Token}
use Rattle.cb_scan.specs.rules.Code.{code}
use Rattle.cb_scan.specs.rules.Depth.{closes, depth, depth_after, head_start, is_counted, is_stop}
use Rattle.cb_scan.specs.rules.Depth.{is_uncounted, token_at}
use Rattle.cb_scan.specs.rules.Functions.{Function, function_at, function_from, functions, signature}
use Rattle.cb_scan.specs.rules.Heads.{Signature, head}
use Rattle.cb_scan.specs.rules.OldStyle.{segments, semicolons_before}
use Rattle.cb_scan.specs.lex.Tokens.{is_mark}
use Rattle.cb_scan.specs.steps.Cut.{pieces}
use Rattle.cb_scan.proofs.Bodies.{and_left, none_here, only_mark, stays_deep}
use Rattle.cb_scan.proofs.FunctionLemmas.{head_start_le}
use Rattle.cb_scan.proofs.OldStyleLemmas.{all_semicolons, semicolons_next}
use Rattle.cb_scan.proofs.WithinLemmas.{AllOfAll, all-append, all-take, all-drop, head_of_all}
use Rattle.cb_scan.proofs.WithinLemmas.{heads_of_all, signature_among}
use Rattle.cb_scan.proofs.Rising.{From, Rising, Before, rising-split, rising-join, code_rises}

-- ---- the names of functions
abbrev function_name : Function → Token
function_name f = f.name

-- a function is named by a token of its head, or of a segment before it
pub named_before : (P : Token → Type 0) (ts : List Token) (k : ℕ) → AllByRecursion P (head ts k)
    → AllOfAll P (segments ts k) → AllByRecursion P (map function_name (function_at ts k))
named_before P ts k a b = by_cases (is_counted ts k && depth ts k == 0) (signature ts k) (signature_among P ts k a b)
  where
    by_cases : (b : Bool) (o : Option Signature) → MatchOption o (Unit {0}) (λ s. P s.name)
        → AllByRecursion P (map function_name (cond b (function_from ts k o) []))
    by_cases true None p = tt
    by_cases true (Some s) p = (p, tt)
    by_cases false o p = tt

-- a head begins after token a, and so do the segments before it
record Anew (ts : List Token) (a k : ℕ) : Type 0 where
  start : a < head_start ts k
  starts : AllByRecursion (λ j. a < head_start ts j) (semicolons_before ts k)

-- from a depth above 0 on the depth stays above 0, or all begins anew after it
deep_or_new : (ts : List Token) (a n : ℕ) → 0 < depth ts a → (0 < depth ts (a + n)) ⊎ Anew ts a (a + n)
unfolding depth head_start
deep_or_new ts a zero deep = inl (subst (λ k. 0 < depth ts k) (sym (add-zero a)) deep)
deep_or_new ts a (suc n) deep =
    let k = a + n in
    let next : a + suc n ≡ suc k = omega arith in
    subst (λ j. (0 < depth ts j) ⊎ Anew ts a j) (sym next)
    (⊎_elim
    (λ ends. inr (closed_here k ends (omega arith)))
    (λ goes_on.
    ⊎_elim
    (λ above. inl (stays_deep (is_counted ts k) (is_mark 125 (token_at ts k).role) (token_at ts k).starts_line
    (depth ts k) above goes_on))
    (λ new. inr (later k new))
    (deep_or_new ts a n deep))
    (cases_Bool (closes ts k)))
  where
    or_mid : (a c : Bool) → (a || true || c) ≡ true
    or_mid true c = refl
    or_mid false c = refl

    -- after a stop
    start_at : (k : ℕ) → is_stop ts k ≡ true → head_start ts (suc k) ≡ suc k
    start_at k stop = ap (λ b. cond b (suc k) (head_start ts k)) stop

    -- a `}` that ends all is a stop, and no `;`
    closed_here : (k : ℕ) → closes ts k ≡ true → a ≤ k → Anew ts a (suc k)
    closed_here k ends behind =
        let stop : is_stop ts k ≡ true =
        ap (λ b. (is_mark 59 (token_at ts k).role && depth ts k == 0) || b || is_uncounted ts k) ends
        ∙ or_mid (is_mark 59 (token_at ts k).role && depth ts k == 0) (is_uncounted ts k) in
        let other : is_mark 59 (token_at ts k).role ≡ false =
        only_mark (token_at ts k).role 125 59 refl (and_left _ _ ends) in
        let at = start_at k stop in
        record {
          start = omega (arith, at);
          starts = subst (AllByRecursion (λ j. a < head_start ts j)) (sym (semicolons_next ts k
              ∙ (λ i. cond (stop i) (cond (other i) (k ∷ semicolons_before ts k) []) (semicolons_before ts k)))) tt;
        }

    later : (k : ℕ) → Anew ts a k → Anew ts a (suc k)
    later k new = by_cases (is_stop ts k) refl
      where
        here : k < suc k
        here = omega arith

        by_cases : (b : Bool) → is_stop ts k ≡ b → Anew ts a (suc k)
        by_cases true stop =
            let at = start_at k stop in
            record {
              start = omega (arith, at, new.start, head_start_le ts k);
              starts = subst (AllByRecursion (λ j. a < head_start ts j)) (sym (semicolons_next ts k
                  ∙ ap (λ b. cond b (cond (is_mark 59 (token_at ts k).role) (k ∷ semicolons_before ts k) [])
                  (semicolons_before ts k)) stop))
                  (elim (is_mark 59 (token_at ts k).role) as (λ b. AllByRecursion (λ j. a < head_start ts j)
                  (cond b (k ∷ semicolons_before ts k) [])) [ true ↦ (new.start, new.starts) | false ↦ tt ]);
            }
        by_cases false on = record {
          start = subst (λ h. a < h) (sym (ap (λ b. cond b (suc k) (head_start ts k)) on)) new.start;
          starts = subst (AllByRecursion (λ j. a < head_start ts j)) (sym (semicolons_next ts k
              ∙ ap (λ b. cond b (cond (is_mark 59 (token_at ts k).role) (k ∷ semicolons_before ts k) [])
              (semicolons_before ts k)) on)) new.starts;
        }

-- a part of a list after its first k tokens
nothing_left : {X : Type 0} (P : X → Type 0) (h : ℕ) → AllByRecursion P (drop h [])
nothing_left P zero = tt
nothing_left P (suc h) = tt

part_of_rest : {X : Type 0} (P : X → Type 0) (ts : List X) (k h m : ℕ) → k ≤ h → AllByRecursion P (drop k ts)
    → AllByRecursion P (drop h (take m ts))
part_of_rest P [] k h zero behind a = nothing_left P h
part_of_rest P [] k h (suc m) behind a = nothing_left P h
part_of_rest P (x ∷ xs) k h zero behind a = nothing_left P h
part_of_rest P (x ∷ xs) zero zero (suc m) behind a = (a.0, all-take P m xs a.1)
part_of_rest P (x ∷ xs) (suc k) zero (suc m) behind a = absurd (omega arith)
part_of_rest P (x ∷ xs) zero (suc h) (suc m) behind a = part_of_rest P xs zero h m (omega arith) a.1
part_of_rest P (x ∷ xs) (suc k) (suc h) (suc m) behind a = part_of_rest P xs k h m (omega arith) a

pub all_implied : {X : Type 0} (P Q : X → Type 0) → ((x : X) → P x → Q x) → (xs : List X) → AllByRecursion P xs
    → AllByRecursion Q xs
all_implied P Q f [] a = tt
all_implied P Q f (x ∷ xs) a = (f x a.0, all_implied P Q f xs a.1)

-- each token has a byte at least
unfoldable pub HasByte : Token → Type 0
HasByte t = t.span.start < t.span.end

pub all_some : (ts : List Token) → Rising ts → AllByRecursion HasByte ts
unfolding HasByte
all_some [] r = tt
all_some (t ∷ ts) r = (r.0, all_some ts r.2)

one_rises : (ts : List Token) (k : ℕ) → AllByRecursion HasByte ts → Rising (map function_name (function_at ts k))
unfolding HasByte
one_rises ts k a =
    by_cases (is_counted ts k && depth ts k == 0) (signature ts k)
    (signature_among HasByte ts k (head_of_all HasByte ts a k) (heads_of_all HasByte ts a (semicolons_before ts k)))
  where
    by_cases : (b : Bool) (o : Option Signature) → MatchOption o (Unit {0}) (λ s. s.name.span.start < s.name.span.end)
        → Rising (map function_name (cond b (function_from ts k o) []))
    by_cases true None p = tt
    by_cases true (Some s) p = (p, tt, tt)
    by_cases false o p = tt

-- a shorter part from the front
take_less : {X : Type 0} (P : X → Type 0) (xs : List X) (j k : ℕ) → j < k → AllByRecursion P (take k xs)
    → AllByRecursion P (take j xs)
take_less P [] zero k less a = tt
take_less P [] (suc j) k less a = tt
take_less P (x ∷ xs) zero k less a = tt
take_less P (x ∷ xs) (suc j) zero less a = absurd (omega arith)
take_less P (x ∷ xs) (suc j) (suc k) less a = (a.0, take_less P xs j k (omega arith) a.1)

-- heads before token k are parts of what stands before it
heads_within : (P : Token → Type 0) (ts : List Token) (k : ℕ) → AllByRecursion P (take k ts) → (js : List ℕ)
    → AllByRecursion (λ j. j < k) js → AllOfAll P (map (head ts) js)
heads_within P ts k a [] less = tt
heads_within P ts k a (j ∷ js) less =
    (all-drop P (head_start ts j) (take j ts) (take_less P ts j k less.0 a), heads_within P ts k a js less.1)

-- ---- functions that are named as those of a profile are

module _ (ts : List Token) (at : ℕ → List Function)
    (named : (P : Token → Type 0) (k : ℕ) → AllByRecursion P (head ts k) → AllOfAll P (segments ts k)
    → AllByRecursion P (map function_name (at k)))
    (none : (k : ℕ) → (is_counted ts k && depth ts k == 0) ≡ false → at k ≡ [])
    (one : (k : ℕ) → AllByRecursion HasByte ts → Rising (map function_name (at k))) where
  -- the functions whose `{` is after a body that token a is in are named by tokens after token a
  later_names : (P : Token → Type 0) (a k n : ℕ) → a ≤ k
      → ((j : ℕ) → k ≤ j → (0 < depth ts j) ⊎ Anew ts a j) → AllByRecursion P (drop a ts)
      → AllByRecursion P (map function_name (flat_map at (range_with_len k n)))
  later_names P a k zero behind new all = tt
  later_names P a k (suc n) behind new all =
      subst (AllByRecursion P)
      (sym (map-append function_name (at k) (flat_map at (range_with_len (k + 1) n))))
      (all-append P _ _ (⊎_elim in_body at_top (new k (omega arith)))
      (later_names P a (k + 1) n (omega arith) (λ j le. new j (omega arith)) all))
    where
      behind_it : (j : ℕ) → a < head_start ts j → AllByRecursion P (head ts j)
      behind_it j above = part_of_rest P ts a (head_start ts j) j (omega arith) all

      each : (js : List ℕ) → AllByRecursion (λ j. a < head_start ts j) js → AllOfAll P (map (head ts) js)
      each [] b = tt
      each (j ∷ js) b = (behind_it j b.0, each js b.1)

      at_top : Anew ts a k → AllByRecursion P (map function_name (at k))
      at_top new = named P k (behind_it k new.start) (each (semicolons_before ts k) new.starts)

      in_body : 0 < depth ts k → AllByRecursion P (map function_name (at k))
      in_body deep =
          let shut : (is_counted ts k && depth ts k == 0) ≡ false =
          ap (λ b. is_counted ts k && b)
          (false_from_ne_true (depth ts k == 0)
          (λ e. let none : depth ts k ≡ 0 = eqb-true (depth ts k) 0 e in absurd (omega arith)))
          ∙ and-false (is_counted ts k) in
          subst (λ fs. AllByRecursion P (map function_name fs)) (sym (none k shut)) tt

  -- the functions after one are named after its `{`
  after_it : (k n : ℕ) → (is_counted ts k && depth ts k == 0) ≡ true → (x : Token)
      → AllByRecursion (From x.span.end) (drop k ts)
      → AllByRecursion (From x.span.end) (map function_name (flat_map at (range_with_len (k + 1) n)))
  unfolding depth
  after_it k n is x all =
      let counted : is_counted ts k ≡ true = and_left (is_counted ts k) (depth ts k == 0) is in
      let opened : depth ts (suc k) ≡ depth ts k + 1 = ap (λ b. depth_after b (token_at ts k) (depth ts k)) counted in
      let deep : 0 < depth ts (k + 1) = subst (λ j. 0 < depth ts j) (sym (add-one k)) (omega arith) in
      later_names (From x.span.end) (k + 1) (k + 1) n (omega arith)
      (λ j le. let at : k + 1 + (j - (k + 1)) ≡ j =
      omega arith in subst (λ i. (0 < depth ts i) ⊎ Anew ts (k + 1) i) at
      (deep_or_new ts (k + 1) (j - (k + 1)) deep))
      (subst (AllByRecursion (From x.span.end)) (drop-drop 1 k ts) (all-drop (From x.span.end) 1 (drop k ts) all))

  -- a token is before the names of the functions after token k
  abbrev Behind : ℕ → ℕ → Token → Type 0
  Behind k n x = AllByRecursion (From x.span.end)
      (map function_name (flat_map at (range_with_len (k + 1) n)))

  each_before : (k n : ℕ) → (is_counted ts k && depth ts k == 0) ≡ true
      → Before (take k ts) (drop k ts) → AllByRecursion (Behind k n) (take k ts)
  each_before k n is b = all_implied (λ x. AllByRecursion (From x.span.end) (drop k ts)) (Behind k n)
      (after_it k n is) (take k ts) b

  -- the names of the functions from token k on
  pub names_rise_from : (k n : ℕ) → Rising ts
      → Rising (map function_name (flat_map at (range_with_len k n)))
  names_rise_from k zero r = tt
  names_rise_from k (suc n) r =
      subst Rising (sym (map-append function_name (at k)
      (flat_map at (range_with_len (k + 1) n))))
      (by_cases (is_counted ts k && depth ts k == 0) refl (names_rise_from (k + 1) n r))
    where
      by_cases : (b : Bool) → (is_counted ts k && depth ts k == 0) ≡ b
          → Rising (map function_name (flat_map at (range_with_len (k + 1) n)))
          → Rising (map function_name (at k)
          ++ map function_name (flat_map at (range_with_len (k + 1) n)))
      by_cases false is later =
          subst (λ fs. Rising (map function_name fs
          ++ map function_name (flat_map at (range_with_len (k + 1) n))))
          (sym (none k is)) later
      by_cases true is later =
          let parts : Rising (take k ts) × Rising (drop k ts) × Before (take k ts) (drop k ts) =
          rising-split (take k ts) (drop k ts) (subst Rising (sym (take-append-drop k ts)) r) in
          rising-join _ _
          (one k (all_some ts r))
          later
          (named (Behind k n) k (all-drop (Behind k n) (head_start ts k) (take k ts)
          (each_before k n is parts.2))
          (earlier (Behind k n) (each_before k n is parts.2)))
        where
          earlier : (P : Token → Type 0) → AllByRecursion P (take k ts) → AllOfAll P (segments ts k)
          earlier P a = heads_within P ts k a (semicolons_before ts k)
              (all_semicolons (λ i j. i < j) ts (λ i j le. omega arith) (λ j. omega arith) k)

pub functions_rise : (text : List ℕ) → Rising (map function_name (functions (code text (pieces text))))
functions_rise text =
    let ts = code text (pieces text) in
    names_rise_from ts (function_at ts) (λ P k. named_before P ts k) (none_here ts) (one_rises ts) 0 (length ts)
    (code_rises text)
