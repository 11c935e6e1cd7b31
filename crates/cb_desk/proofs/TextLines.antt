-- The search of a whole text finds the lines that hold a pattern.
use Rattle.std.proofs.Common.{◌≡◌, ◌≢◌, ◌∙◌, sym, ap, refl, subst, ℕ, zero, suc, ◌+◌, ◌-◌, ◌<◌, ◌≤◌}
use Rattle.std.proofs.Common.{Bool, true, false, ◌||◌, ◌&&◌, ◌==◌, nat_lt, cond, List, [], ◌∷◌}
use Rattle.std.proofs.Common.{◌++◌, map, filter, length, take, drop, slice_index, count_by, Option}
use Rattle.std.proofs.Common.{Some, None, arith, ⊎_elim, inl, inr, append_assoc, length-append}
use Rattle.std.proofs.Common.{length-drop, length-take-le, take_all, drop-drop, get_or-drop}
use Rattle.std.specs.Prelude.{is_some}
use Rattle.std.specs.List.{list_any, range_with_len, slice_index_or}
use Rattle.std.proofs.Math.Seq.{take-add, get_or-append_seam}
use Rattle.std.proofs.lemmas.Bool.{cases_eq, cond-true, eq-eqb, false_from_ne_true}
use Rattle.std.proofs.lemmas.List.Sums.{sum_by-append, sum_by-cons}
use Rattle.bstr.specs.Text.{line_len, lines_of, without_terminator, no_cr}
use Rattle.bstr.proofs.lemmas.LineLemmas.{line_len-bounds, lines-step, lines-nil}
use Rattle.memchr.specs.Find.{OccursAt, occurs_at, Nowhere, FindsNeedle}
use Rattle.memchr.proofs.lemmas.MatchLemmas.{OccursAt-true, occurs_at-true}
use Rattle.cb_scan.specs.Lines.{lines, line_text}
use Rattle.cb_scan.proofs.LineTable.{line_text-at}
use Rattle.cb_desk.specs.Search.{holds, lines_with}
use Rattle.cb_desk.specs.steps.Search.{found_from, IsLineStart}
use Rattle.cb_desk.proofs.Gaps.{occurs-later, occurs-sooner, occurs-first, occurs-within}
use Rattle.cb_desk.proofs.Gaps.{some-length}

-- ---- a line holds a pattern where a search finds it

any-at : (f : ℕ → Bool) (a n k : ℕ) → a ≤ k → k < a + n → f k ≡ true
    → list_any f (range_with_len a n) ≡ true
any-at f a zero k low high is = absurd (omega arith)
any-at f a (suc n) k low high is = ⊎_elim
    (λ here. ap (λ b. b || list_any f (range_with_len (a + 1) n)) (ap f (sym here) ∙ is))
    (λ later. rw (any-at f (a + 1) n k (omega arith) (omega arith) is) (or-true (f a)))
    (cases_eq k a)
  where
    or-true : (b : Bool) → b || true ≡ true
    or-true true = refl
    or-true false = refl

any-none : (f : ℕ → Bool) (a n : ℕ) → ((k : ℕ) → a ≤ k → k < a + n → f k ≡ false)
    → list_any f (range_with_len a n) ≡ false
any-none f a zero none = refl
any-none f a (suc n) none =
    ap (λ b. b || list_any f (range_with_len (a + 1) n)) (none a (omega arith) (omega arith))
    ∙ any-none f (a + 1) n (λ k low high. none k (omega arith) (omega arith))

holds-none : (p l : List ℕ) → Nowhere (OccursAt l p) 0 (length l + 1) → holds p l ≡ false
holds-none p l none = any-none (occurs_at l p) 0 (length l + 1)
    (λ k low high. false_from_ne_true (occurs_at l p k)
    (λ yes. none k low (omega arith) (OccursAt-true l p k yes)))

pub holds-found : (p l : List ℕ) (r : Option ℕ) → FindsNeedle l p 0 r → is_some r ≡ holds p l
holds-found p l None none = sym (holds-none p l none)
holds-found p l (Some k) found =
    let first = found.0 in
    sym (any-at (occurs_at l p) 0 (length l + 1) k (omega arith) (omega (arith, first.high))
    (occurs_at-true l p k found.1))

-- ---- a shown line is the front of its line

take-take : (n m : ℕ) (l : List ℕ) → n ≤ m → take n (take m l) ≡ take n l
take-take zero m l le = refl
take-take (suc n) zero l le = absurd (omega arith)
take-take (suc n) (suc m) [] le = refl
take-take (suc n) (suc m) (b ∷ bs) le = ap (λ xs. b ∷ xs) (take-take n m bs (omega arith))

no_cr-front : (bs : List ℕ) → (n : ℕ) × (n ≤ length bs) × (no_cr bs ≡ take n bs)
no_cr-front bs =
    elim (nat_lt 0 (length bs) && slice_index bs (length bs - 1) == 13) as
    (λ b. (n : ℕ) × (n ≤ length bs) × (cond b (take (length bs - 1) bs) bs ≡ take n bs)) [
      | true ↦ (length bs - 1, omega arith, refl)
      | false ↦ (length bs, omega arith, sym (take_all (length bs) bs (omega arith)))
    ]

shown-front : (l : List ℕ) → (n : ℕ) × (n ≤ length l) × (without_terminator l ≡ take n l)
shown-front l =
    elim (nat_lt 0 (length l) && slice_index l (length l - 1) == 10) as
    (λ b. (n : ℕ) × (n ≤ length l) × (cond b (no_cr (take (length l - 1) l)) l ≡ take n l)) [
      | true ↦ let front = no_cr-front (take (length l - 1) l) in
          let long = length-take-le (length l - 1) l (omega arith) in
          let low = front.1 in
          (front.0, omega arith, front.2 ∙ take-take front.0 (length l - 1) l (omega arith))
      | false ↦ (length l, omega arith, sym (take_all (length l) l (omega arith)))
    ]

shown-occurs : (l p : List ℕ) (k : ℕ) → OccursAt (without_terminator l) p k → OccursAt l p k
shown-occurs l p k occurs =
    let front = shown-front l in
    occurs-first l p front.0 k front.1 (subst (λ xs. OccursAt xs p k) front.2 occurs)

-- ---- a line that ends in a line feed has one

abbrev pub is_feed : ℕ → Bool
is_feed b = b == 10

count-cons : (b : ℕ) (bs : List ℕ)
    → count_by is_feed (b ∷ bs) ≡ cond (is_feed b) 1 0 + count_by is_feed bs
count-cons b bs = sum_by-cons (λ c. cond (is_feed c) 1 0) b bs

zero-plus : (n : ℕ) → 0 + n ≡ n
zero-plus n = omega arith

line-feed : (rest : List ℕ) (t : ℕ) → t < length rest → slice_index rest t ≡ 10
    → (line_len rest ≤ t + 1) × (count_by is_feed (take (line_len rest) rest) ≡ 1)
unfolding line_len
line-feed [] t within is = absurd (omega arith)
line-feed (b ∷ bs) zero within is =
    let h = eq-eqb b 10 is in
    let one : line_len (b ∷ bs) ≡ 1 = cond-true (b == 10) 1 (suc (line_len bs)) h in (
      omega arith,
      ap (λ n. count_by is_feed (take n (b ∷ bs))) one ∙ count-cons b []
          ∙ ap (λ c. cond c 1 0 + 0) h,
    )
line-feed (b ∷ bs) (suc u) within is =
    let more = line-feed bs u (omega arith) is in
    let low = more.0 in
    (elim (b == 10) as (λ c. b == 10 ≡ c → (cond c 1 (suc (line_len bs)) ≤ suc u + 1)
    × (count_by is_feed (take (cond c 1 (suc (line_len bs))) (b ∷ bs)) ≡ 1)) [
      | true ↦ λ h. (omega arith, count-cons b [] ∙ ap (λ c. cond c 1 0 + 0) h)
      | false ↦ λ h. (
        omega arith,
        count-cons b (take (line_len bs) bs)
            ∙ ap (λ c. cond c 1 0 + count_by is_feed (take (line_len bs) bs)) h
            ∙ zero-plus _ ∙ more.1,
      )
    ]) refl

-- ---- lines before the first match hold nothing

module _ (p : List ℕ) (some : 0 < length p) where
  -- the first line, where nothing is found before its end
  not-held : (rest : List ℕ) (end : ℕ) → 0 < length rest → line_len rest ≤ end
      → ((j : ℕ) → j < end → ¬ OccursAt rest p j)
      → holds p (without_terminator (take (line_len rest) rest)) ≡ false
  not-held rest end full low none =
      let bounds = line_len-bounds rest full in
      let long = length-take-le (line_len rest) rest bounds.1 in
      holds-none p (without_terminator (take (line_len rest) rest)) (λ j a b occurs.
      let inside = shown-occurs (take (line_len rest) rest) p j occurs in
      let fits = inside.fits in
      none j (omega arith) (occurs-first rest p (line_len rest) j bounds.1 inside))

  found-step : (n : ℕ) (rest : List ℕ) → 0 < length rest
      → holds p (without_terminator (take (line_len rest) rest)) ≡ false
      → found_from p n (lines rest) ≡ found_from p (n + 1) (lines (drop (line_len rest) rest))
  found-step n rest full bare =
      ap (λ ls. found_from p n (map without_terminator ls)) (lines-step rest full)
      ∙ ap (λ b. cond b (n ∷ found_from p (n + 1) (lines (drop (line_len rest) rest)))
      (found_from p (n + 1) (lines (drop (line_len rest) rest)))) bare

  all-bare : (fuel n : ℕ) (rest : List ℕ) → length rest ≤ fuel → ((j : ℕ) → ¬ OccursAt rest p j)
      → found_from p n (lines rest) ≡ []
  all-bare fuel n [] small none = ap (λ ls. found_from p n (map without_terminator ls)) lines-nil
  all-bare zero n (b ∷ bs) small none = absurd (omega arith)
  all-bare (suc fuel) n (b ∷ bs) small none =
      let rest = b ∷ bs in
      let bounds = line_len-bounds rest (omega arith) in
      let left = length-drop (line_len rest) rest in
      found-step n rest (omega arith)
      (not-held rest (line_len rest) (omega arith) (omega arith) (λ j low. none j))
      ∙ all-bare fuel (n + 1) (drop (line_len rest) rest) (omega arith)
      (λ j occurs. none (line_len rest + j) (occurs-later rest p (line_len rest) j some occurs))

  -- nothing was found
  pub found-none : (n : ℕ) (rest : List ℕ) → FindsNeedle rest p 0 None
      → found_from p n (lines rest) ≡ []
  found-none n rest none = all-bare (length rest) n rest (omega arith)
      (λ j occurs. let fits = occurs.fits in none j (omega arith) (omega arith) occurs)

  -- the lines before a place are passed over and counted
  pub record Skips (n : ℕ) (rest : List ℕ) (place : ℕ) : Type 0 where
    pub found : found_from p n (lines rest)
        ≡ found_from p (n + count_by is_feed (take place rest)) (lines (drop place rest))
    pub many : length (lines rest)
        ≡ count_by is_feed (take place rest) + length (lines (drop place rest))

  skips-on : (n L place : ℕ) (rest : List ℕ) → 0 < length rest → L ≡ line_len rest
      → count_by is_feed (take L rest) ≡ 1
      → holds p (without_terminator (take (line_len rest) rest)) ≡ false
      → Skips (n + 1) (drop L rest) place → Skips n rest (L + place)
  skips-on n L place rest full is one bare later =
      let more = count_by is_feed (take place (drop L rest)) in
      let feeds : count_by is_feed (take (L + place) rest) ≡ 1 + more =
      ap (count_by is_feed) (take-add L place rest)
      ∙ sum_by-append (λ b. cond (is_feed b) 1 0) (take L rest) (take place (drop L rest))
      ∙ ap (λ k. k + more) one in
      let there : drop place (drop L rest) ≡ drop (L + place) rest = drop-drop place L rest in
      let first : lines rest
      ≡ without_terminator (take (line_len rest) rest) ∷ lines (drop L rest) =
      ap (map without_terminator) (lines-step rest full)
      ∙ ap (λ k. without_terminator (take (line_len rest) rest) ∷ lines (drop k rest)) (sym is) in
      let number : n + 1 + more ≡ n + count_by is_feed (take (L + place) rest) = omega arith in
      let same = later.many in
      let longer = ap length first in
      let left = ap (λ xs. length (lines xs)) there in
      record {
        found =
            found-step n rest full bare
            ∙ ap (λ k. found_from p (n + 1) (lines (drop k rest))) (sym is) ∙ later.found
            ∙ (λ i. found_from p (number i) (lines (there i)));
        many = omega arith;
      }

  pub skips : (fuel n place : ℕ) (rest : List ℕ) → length rest ≤ fuel → place ≤ length rest
      → IsLineStart rest place → ((j : ℕ) → j < place → ¬ OccursAt rest p j)
      → Skips n rest place
  skips fuel n zero rest small within start none =
      let same : n ≡ n + 0 = omega arith in
      record { found = ap (λ k. found_from p k (lines rest)) same; many = omega arith }
  skips fuel n (suc t) [] small within start none = absurd (omega arith)
  skips zero n (suc t) (b ∷ bs) small within start none = absurd (omega arith)
  skips (suc fuel) n (suc t) (b ∷ bs) small within start none =
      let rest = b ∷ bs in
      let L = line_len rest in
      let feed : slice_index rest t ≡ 10 =
      ⊎_elim (λ e. absurd (omega arith))
      (λ e. ap (slice_index rest) (let k : t ≡ suc t - 1 = omega arith in k) ∙ e) start in
      let line = line-feed rest t (omega arith) feed in
      let low = line.0 in
      let bounds = line_len-bounds rest (omega arith) in
      let left = length-drop L rest in
      let m = suc t - L in
      let place : L + m ≡ suc t = omega arith in
      let begins : IsLineStart (drop L rest) m = ⊎_elim
      (λ whole. inl whole)
      (λ more. inr (get_or-drop L rest (m - 1) 0
      ∙ ap (slice_index rest) (let k : L + (m - 1) ≡ t = omega arith in k) ∙ feed))
      (cases_eq m 0) in
      subst (Skips n rest) place (skips-on n L m rest (omega arith) refl line.1
      (not-held rest (suc t) (omega arith) (omega arith) none)
      (skips fuel (n + 1) m (drop L rest) (omega arith) (omega arith) begins
      (λ j a occurs. none (L + j) (omega arith) (occurs-later rest p L j some occurs))))

-- ---- the lines of a text that hold a pattern

lines-found : (p text : List ℕ) (pre ls : List (List ℕ)) (k n : ℕ) → lines text ≡ pre ++ ls
    → k ≡ length pre → n ≡ k + 1
    → filter (λ i. holds p (line_text text i)) (range_with_len n (length ls)) ≡ found_from p n ls
lines-found p text pre [] k n is at number = refl
lines-found p text pre (l ∷ ls) k n is at number =
    let later =
    lines-found p text (pre ++ l ∷ []) ls (k + 1) (n + 1) (is ∙ sym (append_assoc pre (l ∷ []) ls))
    (omega (arith, length-append pre (l ∷ []))) (omega arith) in
    let place : n - 1 ≡ length pre = omega arith in
    let line : line_text text n ≡ l =
    line_text-at text n (omega arith) ∙ ap (λ j. slice_index_or (lines text) j []) place
    ∙ ap (λ ls'. slice_index_or ls' (length pre) []) is ∙ get_or-append_seam pre l ls [] in
    (λ i. cond (holds p (line i)) (n ∷ later i) (later i))

pub lines_with-found : (p text : List ℕ) → lines_with p text ≡ found_from p 1 (lines text)
lines_with-found p text = lines-found p text [] (lines text) 0 1 refl refl refl

pub found-few : (p : List ℕ) (n : ℕ) (ls : List (List ℕ)) → length (found_from p n ls) ≤ length ls
found-few p n [] = omega arith
found-few p n (l ∷ ls) =
    let few = found-few p (n + 1) ls in
    elim (holds p l) as (λ b.
    length (cond b (n ∷ found_from p (n + 1) ls) (found_from p (n + 1) ls)) ≤ suc (length ls)) [
      | true ↦ omega arith
      | false ↦ omega arith
    ]

-- ---- one step of the search

-- what is left from a place on, as a slice
abbrev pub rest_from : ℕ → List ℕ → List ℕ
rest_from start rest = take (length rest - start) (drop start rest)

-- the lines before a place hold nothing, and there are so many of them
pub record Passes (p : List ℕ) (n : ℕ) (rest : List ℕ) (start count : ℕ) : Type 0 where
  pub found : found_from p n (lines rest) ≡ found_from p (n + count) (lines (rest_from start rest))
  pub many : length (lines rest) ≡ count + length (lines (rest_from start rest))

pub passes : (p rest : List ℕ) (n start place count : ℕ) → p ≢ []
    → FindsNeedle rest p 0 (Some place) → start ≤ place → IsLineStart rest start
    → count ≡ count_by is_feed (take start rest) → Passes p n rest start count
passes p rest n start place count other match low begins counted =
    let some = some-length p other in
    let first = match.0 in
    let fits = match.1.fits in
    let all =
    skips p some (length rest) n start rest (omega arith) (omega arith) begins
    (λ j a occurs. first.before j (omega arith) (omega arith) occurs) in
    let whole : rest_from start rest ≡ drop start rest =
    take_all (length rest - start) (drop start rest) (omega (arith, length-drop start rest)) in
    let same = ap (λ xs. length (lines xs)) whole in
    let more = all.many in
    let number = sym counted in
    let left = sym whole in
    record {
      found = all.found ∙ (λ i. found_from p (n + number i) (lines (left i)));
      many = omega arith;
    }

-- the first shown line is the front of the text
front-of : (text l : List ℕ) (ls : List (List ℕ)) → 0 < length text → lines text ≡ l ∷ ls
    → (n : ℕ) × (n ≤ length text) × (l ≡ take n text) × (length l ≡ n)
front-of text l ls full is =
    let L = line_len text in
    let first : lines text
    ≡ without_terminator (take L text) ∷ map without_terminator (lines_of (drop L text)) =
    ap (map without_terminator) (lines-step text full) in
    let same : l ≡ without_terminator (take L text) = first-same (sym is ∙ first) in
    let front = shown-front (take L text) in
    let bounds = line_len-bounds text full in
    let long : length (take L text) ≡ L = length-take-le L text (omega (arith, bounds)) in
    let low = front.1 in
    let here : l ≡ take front.0 text =
    same ∙ front.2 ∙ take-take front.0 L text (omega (arith, low, long)) in (
      front.0,
      omega (arith, low, long, bounds),
      here,
      ap length here ∙ length-take-le front.0 text (omega (arith, low, long, bounds)),
    )
  where
    first-same : {a b : List ℕ} {xs ys : List (List ℕ)} → a ∷ xs ≡ b ∷ ys → a ≡ b
    first-same e = cc

module _ (p rest : List ℕ) (start place : ℕ) (l rest' : List ℕ) (other : p ≢ [])
    (match : FindsNeedle rest p 0 (Some place)) (low : start ≤ place)
    (next : lines (rest_from start rest) ≡ l ∷ lines rest') where
  whole-rest : rest_from start rest ≡ drop start rest
  whole-rest =
      let fits = match.1.fits in
      take_all (length rest - start) (drop start rest) (omega (arith, length-drop start rest))

  shown-part : (n : ℕ) × (n ≤ length (drop start rest)) × (l ≡ take n (drop start rest))
      × (length l ≡ n)
  shown-part =
      let fits = match.1.fits in
      let some = some-length p other in
      front-of (drop start rest) l (lines rest') (omega (arith, length-drop start rest))
      (ap lines (sym whole-rest) ∙ next)

  -- the line of the first match holds the pattern where the match lies in what is shown
  pub held-within : place - start + length p ≤ length l → holds p l ≡ true
  held-within within =
      let part = shown-part in
      let long = part.3 in
      let from_start : start + (place - start) ≡ place = omega (arith, low) in
      let there =
      occurs-sooner rest p start (place - start)
      (subst (OccursAt rest p) (sym from_start) match.1) in
      let here =
      subst (λ xs. OccursAt xs p (place - start)) (sym part.2) (occurs-within
      (drop start rest) p part.0 (place - start) part.1 (omega (arith, long, within)) there) in
      any-at (occurs_at l p) 0 (length l + 1) (place - start) (omega arith) (omega (arith, within))
      (occurs_at-true l p (place - start) here)

  -- and does not where the match takes more
  pub held-outside : length l < place - start + length p → holds p l ≡ false
  held-outside beyond =
      let part = shown-part in
      holds-none p l (λ k _ _ occurs.
      let fits = occurs.fits in
      let there =
      occurs-first (drop start rest) p part.0 k part.1
      (subst (λ xs. OccursAt xs p k) part.2 occurs) in
      let found = occurs-later rest p start k (some-length p other) there in
      match.0.before (start + k) (omega arith) (omega (arith, fits, beyond, low)) found)

module _ (p : List ℕ) (n : ℕ) (rest : List ℕ) (start count : ℕ) (pass : Passes p n rest start count)
    (l rest' : List ℕ) (next : lines (rest_from start rest) ≡ l ∷ lines rest') where
  -- the line after them holds the pattern
  pub passes-held : holds p l ≡ true
      → found_from p n (lines rest) ≡ (n + count) ∷ found_from p (n + count + 1) (lines rest')
  passes-held held =
      pass.found ∙ ap (found_from p (n + count)) next
      ∙ ap (λ b. cond b ((n + count) ∷ found_from p (n + count + 1) (lines rest'))
      (found_from p (n + count + 1) (lines rest'))) held

  -- or it does not
  pub passes-bare : holds p l ≡ false
      → found_from p n (lines rest) ≡ found_from p (n + count + 1) (lines rest')
  passes-bare bare =
      pass.found ∙ ap (found_from p (n + count)) next
      ∙ ap (λ b. cond b ((n + count) ∷ found_from p (n + count + 1) (lines rest'))
      (found_from p (n + count + 1) (lines rest'))) bare

  pub passes-many : length (lines rest) ≡ count + 1 + length (lines rest')
  passes-many = let many = pass.many in let more = ap length next in omega arith
