-- The spaces and tabs that a text begins with are its blank, and hold no line feed.
use Rattle.std.proofs.Common.{◌≡◌, ◌∙◌, ◌<◌, ◌≤◌, ◌+◌, ℕ, zero, suc, Bool, true, false, List, []}
use Rattle.std.proofs.Common.{◌∷◌, length, take, get_or, cond, count_by, refl, sym, ap, subst}
use Rattle.std.proofs.Common.{arith, ⊎_elim}
use Rattle.std.proofs.lemmas.Bool.{cases_Bool, eqb-true, false_from_ne_true, false≢true, ltb-true}
use Rattle.std.proofs.lemmas.List.Sums.{sum_by-cons}
use Rattle.std.proofs.lemmas.Simd.{length-chunk}
use Rattle.std.specs.Prelude.{◌||◌, ◌&&◌, ◌==◌, not, nat_lt, if◌then◌else◌}
use Rattle.std.specs.List.{prefix_len}
use Rattle.cb_scan.specs.lex.Lexeme.{is_blank}
use Rattle.cb_scan.specs.steps.Cut.{blank_len, ends_join}
use Rattle.cb_scan.specs.steps.Lanes.{ends_blank, is_space}
use Rattle.cb_scan.specs.steps.Lined.{is_feed}
use Rattle.cb_scan.proofs.WordRun.{short_run}

-- what is known of a space or tab
Known : ℕ → Type 0
Known b = (is_blank b ≡ true) × ((b == 92) ≡ false) × (is_feed b ≡ false)

known : (b : ℕ) → is_space b ≡ true → Known b
unfolding Known
known b is =
    ⊎_elim
    (λ space. subst Known (sym (eqb-true b 32 space)) (refl, refl, refl))
    (λ no. subst Known (sym (eqb-true b 9 (sym (ap (λ x. x || b == 9) no) ∙ is))) (refl, refl, refl))
    (cases_Bool (b == 32))

unequal : (b n : ℕ) → n < b → (b == n) ≡ false
unequal b n below = false_from_ne_true (b == n) (λ e. let same : b ≡ n = eqb-true b n e in absurd (omega arith))

no_blank : (b : ℕ) → 32 < b → is_blank b ≡ false
no_blank b above = λ i. unequal b 32 above i || unequal b 9 (omega arith) i || unequal b 11 (omega arith) i
    || unequal b 12 (omega arith) i || unequal b 13 (omega arith) i

-- the spaces and tabs are all of the blank, where such a byte follows
run_is : (xs : List ℕ) → is_blank (get_or xs (prefix_len is_space xs) 0) ≡ false
    → (get_or xs (prefix_len is_space xs) 0 == 92) ≡ false → blank_len false xs ≡ prefix_len is_space xs
unfolding Known blank_len
run_is [] no_more other = refl
run_is (b ∷ xs) no_more other = ⊎_elim (more (run_is xs)) none (cases_Bool (is_space b))
  where
    more : (is_blank (get_or xs (prefix_len is_space xs) 0) ≡ false → (get_or xs
        (prefix_len is_space xs) 0 == 92) ≡ false
        → blank_len false xs ≡ prefix_len is_space xs)
        → is_space b ≡ true → blank_len false (b ∷ xs) ≡ prefix_len is_space (b ∷ xs)
    more rest is =
        let all : Known b = known b is in
        let one : 1 + prefix_len is_space xs ≡ suc (prefix_len is_space xs) = omega arith in
        let next : prefix_len is_space (b ∷ xs) ≡ suc (prefix_len is_space xs) =
        ap (λ x. cond x (1 + prefix_len is_space xs) 0) is ∙ one in
        ap (λ x. if x || (false && b == 10) || (b == 92 && ends_join xs)
        then suc (blank_len (b == 92 || (false && not (b == 10))) xs) else 0) all.0
        ∙ ap (λ x. suc (blank_len (x || (false && not (b == 10))) xs)) all.1
        ∙ ap suc (rest (subst (λ m. is_blank (get_or (b ∷ xs) m 0) ≡ false) next no_more)
        (subst (λ m. (get_or (b ∷ xs) m 0 == 92) ≡ false) next other))
        ∙ sym next

    none : is_space b ≡ false → blank_len false (b ∷ xs) ≡ prefix_len is_space (b ∷ xs)
    none is =
        let here : prefix_len is_space (b ∷ xs) ≡ 0 = ap (λ x. cond x (1 + prefix_len is_space xs) 0) is in
        let no_here : is_blank b ≡ false = subst (λ m. is_blank (get_or (b ∷ xs) m 0) ≡ false) here no_more in
        let other_here : (b == 92) ≡ false = subst (λ m. (get_or (b ∷ xs) m 0 == 92) ≡ false) here other in
        (λ i. if no_here i || (false && b == 10) || (other_here i && ends_join xs)
        then suc (blank_len (b == 92 || (false && not (b == 10))) xs) else 0)
        ∙ sym here

not_back : (a b : Bool) → (a && not b) ≡ true → b ≡ false
not_back true true is = sym is
not_back true false is = refl
not_back false b is = absurd (false≢true is)

above : (a b : Bool) → (a && b) ≡ true → a ≡ true
above true b is = refl
above false b is = is

-- a byte that ends a blank is none, and no `\`
Ends : ℕ → Type 0
Ends b = (is_blank b ≡ false) × ((b == 92) ≡ false)

ends_known : (b : ℕ) → ends_blank b ≡ true → Ends b
unfolding Ends
ends_known b is =
    ⊎_elim
    (λ mark. (no_blank b (ltb-true 32 b (above _ _ mark)), not_back _ _ mark))
    (λ no. subst Ends (sym (eqb-true b 10 (sym (ap (λ x. x || b == 10) no) ∙ is))) (refl, refl))
    (cases_Bool (nat_lt 32 b && not (b == 92)))

-- where the run ends among the bytes that are looked at together
pub spaces_are : (text : List ℕ) (run : ℕ) → 16 ≤ length text → run ≡ prefix_len is_space (take 16 text) → run < 16
    → ends_blank (get_or text run 0) ≡ true → run ≡ blank_len false text
unfolding Ends
spaces_are text run long is short ends =
    let all : prefix_len is_space (take 16 text) ≡ prefix_len is_space text =
    short_run is_space 16 text (length-chunk 0 16 text long) (omega (arith, is)) in
    let ends_there : ends_blank (get_or text (prefix_len is_space text) 0) ≡ true =
    subst (λ m. ends_blank (get_or text m 0) ≡ true) (is ∙ all) ends in
    let known_there : Ends (get_or text (prefix_len is_space text) 0) =
    ends_known (get_or text (prefix_len is_space text) 0) ends_there in
    is ∙ all
    ∙ sym (run_is text known_there.0 known_there.1)

-- no space and no tab is a line feed
pub no_feed_in : (text : List ℕ) (len n : ℕ) → len ≤ prefix_len is_space (take n text)
    → count_by is_feed (take len text) ≡ 0
unfolding Known
no_feed_in text zero n short = refl
no_feed_in [] (suc len) n short = refl
no_feed_in (b ∷ text) (suc len) zero short = absurd (omega (arith, short))
no_feed_in (b ∷ text) (suc len) (suc n) short = ⊎_elim (more (no_feed_in text len n)) none (cases_Bool (is_space b))
  where
    more : (len ≤ prefix_len is_space (take n text) → count_by is_feed (take len text) ≡ 0)
        → is_space b ≡ true → count_by is_feed (take (suc len) (b ∷ text)) ≡ 0
    more none_later is =
        let next : prefix_len is_space (take (suc n) (b ∷ text)) ≡ 1 + prefix_len is_space (take n text) =
        ap (λ x. cond x (1 + prefix_len is_space (take n text)) 0) is in
        let rest : count_by is_feed (take len text) ≡ 0 =
        none_later (omega (arith, short, next)) in
        sum_by-cons (λ x. cond (is_feed x) 1 0) b (take len text)
        ∙ (λ i. cond ((known b is).2 i) 1 0 + rest i)

    none : is_space b ≡ false → count_by is_feed (take (suc len) (b ∷ text)) ≡ 0
    none is =
        let here : prefix_len is_space (take (suc n) (b ∷ text)) ≡ 0 =
        ap (λ x. cond x (1 + prefix_len is_space (take n text)) 0) is in
        absurd (omega (arith, short, here))
