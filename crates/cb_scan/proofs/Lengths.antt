-- How far a lexeme of each class reaches: what is counted is a lexeme, and none is longer.
use Rattle.std.proofs.Common.{◌≡◌, ◌≢◌, ◌⊎◌, ◌≤◌, ℕ, zero, suc, Bool, true, false, not, ◌==◌, ◌&&◌}
use Rattle.std.proofs.Common.{◌||◌, List, [], ◌∷◌, length, take, refl, sym, ap, subst, ◌∙◌, arith}
use Rattle.std.proofs.Common.{inl, inr, ⊎_elim}
use Rattle.std.proofs.lemmas.Bool.{cases_Bool, cases_eq, false≢true, cond-true, cond-false}
use Rattle.std.proofs.lemmas.Bool.{cond_both, eqb-true, ne_eqb, and_from, and_parts, or_cases}
use Rattle.std.proofs.lemmas.Bool.Decides.{nat_tests}
use Rattle.std.specs.List.{list_all, prefix_len}
use Rattle.cb_scan.specs.declared.lex.lexeme.Escape.{Escape}
use Rattle.cb_scan.specs.declared.lex.lexeme.Escape.TheVariants.{Plain, Backslash, Return}
use Rattle.cb_scan.specs.lex.Lexeme.{is_blank, goes_on, first_is, all_go_on, Blanks, no_blank}
use Rattle.cb_scan.specs.lex.Lexeme.{a_blank, a_join, a_cr_join, Commented, comment_ends}
use Rattle.cb_scan.specs.lex.Lexeme.{commented_byte, commented_join, commented_cr_join}
use Rattle.cb_scan.specs.steps.Cut.{ends_join, number_len, goes_on_blank, blank_len, comment_escape}
use Rattle.cb_scan.specs.steps.Cut.{ends_comment, comment_len}

-- words
pub list_all-prefix : (p : ℕ → Bool) (xs : List ℕ) → list_all p (take (prefix_len p xs) xs) ≡ true
list_all-prefix p [] = refl
list_all-prefix p (x ∷ xs) = ⊎_elim
    (λ t.
    let long : prefix_len p (x ∷ xs) ≡ suc (prefix_len p xs) = cond-true _ _ _ t ∙ omega arith in
    subst (λ n. list_all p (take n (x ∷ xs)) ≡ true) (sym long) (and_from _ _ t (list_all-prefix p xs)))
    (λ f. subst (λ n. list_all p (take n (x ∷ xs)) ≡ true) (sym (cond-false _ _ _ f)) refl)
    (cases_Bool (p x))

pub prefix-step : (p : ℕ → Bool) (x : ℕ) (xs : List ℕ) → p x ≡ true → prefix_len p (x ∷ xs) ≡ suc (prefix_len p xs)
prefix-step p x xs t = cond-true _ _ _ t ∙ omega arith

pub prefix_longest : (p : ℕ → Bool) (xs : List ℕ) (n : ℕ) → n ≤ length xs → list_all p (take n xs) ≡ true
    → n ≤ prefix_len p xs
prefix_longest p xs zero le all = omega arith
prefix_longest p [] (suc n) le all = absurd (omega arith)
prefix_longest p (x ∷ xs) (suc n) le all =
    let parts = and_parts (p x) (list_all p (take n xs)) all in
    let inner = prefix_longest p xs n (omega arith) parts.1 in
    let e = prefix-step p x xs parts.0 in
    omega arith

pub prefix_within : (p : ℕ → Bool) (xs : List ℕ) → prefix_len p xs ≤ length xs
prefix_within p [] = omega arith
prefix_within p (x ∷ xs) =
    let inner = prefix_within p xs in
    cond_both (p x) _ _ (λ n. n ≤ suc (length xs)) (λ _. omega arith) (λ _. omega arith)

-- numbers
pub all_go_on-counted : (last : ℕ) (xs : List ℕ) → all_go_on last (take (number_len last xs) xs) ≡ true
unfolding all_go_on number_len
all_go_on-counted last [] = refl
all_go_on-counted last (x ∷ xs) = cond_both (goes_on last x) _ _ (λ n. all_go_on last (take n (x ∷ xs)) ≡ true)
    (λ t. and_from _ _ t (all_go_on-counted x xs))
    (λ f. refl)

pub number-step : (last x : ℕ) (xs : List ℕ) → goes_on last x ≡ true → number_len last (x ∷ xs) ≡ suc (number_len x xs)
unfolding number_len
number-step last x xs t = cond-true _ _ _ t

pub number_longest : (last : ℕ) (xs : List ℕ) (n : ℕ) → n ≤ length xs → all_go_on last (take n xs) ≡ true
    → n ≤ number_len last xs
unfolding all_go_on
number_longest last xs zero le all = omega arith
number_longest last [] (suc n) le all = absurd (omega arith)
number_longest last (x ∷ xs) (suc n) le all =
    let parts = and_parts (goes_on last x) (all_go_on x (take n xs)) all in
    let inner = number_longest x xs n (omega arith) parts.1 in
    let e = number-step last x xs parts.0 in
    omega arith

pub number_len-within : (last : ℕ) (xs : List ℕ) → number_len last xs ≤ length xs
unfolding number_len
number_len-within last [] = omega arith
number_len-within last (x ∷ xs) =
    let inner = number_len-within x xs in
    cond_both (goes_on last x) _ _ (λ n. n ≤ suc (length xs)) (λ _. omega arith) (λ _. omega arith)

-- blanks
pub blank-step : (j : Bool) (b : ℕ) (rest : List ℕ) → goes_on_blank j b rest ≡ true
    → blank_len j (b ∷ rest) ≡ suc (blank_len (b == 92 || (j && not (b == 10))) rest)
unfolding blank_len
blank-step j b rest t = cond-true _ _ _ t

pub blank-join : (j : Bool) (rest : List ℕ) → blank_len j (92 ∷ 10 ∷ rest) ≡ suc (suc (blank_len false rest))
unfolding blank_len ends_join
blank-join true rest = refl
blank-join false rest = refl

pub blank-cr_join : (j : Bool) (rest : List ℕ)
    → blank_len j (92 ∷ 13 ∷ 10 ∷ rest) ≡ suc (suc (suc (blank_len false rest)))
unfolding blank_len ends_join first_is
blank-cr_join true rest = refl
blank-cr_join false rest = refl

-- a blank byte leaves it open whether a join has begun
pub blank-blank : (j : Bool) (b : ℕ) (rest : List ℕ) → is_blank b ≡ true
    → blank_len j (b ∷ rest) ≡ suc (blank_len j rest)
blank-blank j b rest t =
    let other : (b == 92) ≡ false = grind (arith, nat_tests) in
    let feed : (b == 10) ≡ false = grind (arith, nat_tests) in
    let goes : goes_on_blank j b rest ≡ true = grind arith in
    let same : (b == 92 || (j && not (b == 10))) ≡ j =
    elim j as (λ i. (b == 92 || (i && not (b == 10))) ≡ i) [ true ↦ grind arith | false ↦ grind arith ] in
    blank-step j b rest goes ∙ ap (λ i. suc (blank_len i rest)) same

pub blank_longest : {rest : List ℕ} {n : ℕ} → Blanks rest n → (j : Bool) → n ≤ blank_len j rest
blank_longest no_blank j = omega arith
blank_longest (a_blank {a = a} {n = n} {rest = rest} t more) j =
    let inner = blank_longest more j in
    subst (λ m. suc n ≤ m) (sym (blank-blank j a rest t)) (omega arith)
blank_longest (a_join {a = a} {b = b} {n = n} {rest = rest} x y more) j =
    let inner = blank_longest more false in
    let e : blank_len j (a ∷ b ∷ rest) ≡ suc (suc (blank_len false rest)) = rw (x, y) (blank-join j rest) in
    subst (λ m. suc (suc n) ≤ m) (sym e) (omega arith)
blank_longest (a_cr_join {a = a} {b = b} {c = c} {n = n} {rest = rest} x y z more) j =
    let inner = blank_longest more false in
    let e : blank_len j (a ∷ b ∷ c ∷ rest) ≡ suc (suc (suc (blank_len false rest))) =
    rw (x, y, z) (blank-cr_join j rest) in
    subst (λ m. suc (suc (suc n)) ≤ m) (sym e) (omega arith)

pub blank-stops : (b : ℕ) (rest : List ℕ) → is_blank b ≡ false → (b == 92 && ends_join rest) ≡ false
    → blank_len false (b ∷ rest) ≡ 0
unfolding blank_len
blank-stops b rest f g = cond-false (goes_on_blank false b rest) _ _ (grind arith)

-- what is after the `\` of a join
pub joins : (rest : List ℕ) → ends_join rest ≡ true → (r : List ℕ) × ((rest ≡ 10 ∷ r) ⊎ (rest ≡ 13 ∷ 10 ∷ r))
unfolding ends_join first_is
joins [] t = cc
joins (a ∷ []) t = (
  [],
  inl
      (ap (λ x. x ∷ []) (⊎_elim (λ e. eqb-true _ _ e)
      (λ e. let p = and_parts (a == 13) false e in absurd (false≢true p.1)) (or_cases (a == 10) (a == 13 && false) t))),
)
joins (a ∷ b ∷ r) t = ⊎_elim
    (λ e. (b ∷ r, inl (ap (λ x. x ∷ b ∷ r) (eqb-true a 10 e))))
    (λ e.
    let parts = and_parts (a == 13) (b == 10) e in
    let x = eqb-true a 13 parts.0 in
    let y = eqb-true b 10 parts.1 in
    (r, inr (ap (λ z. z ∷ b ∷ r) x ∙ ap (λ z. 13 ∷ z ∷ r) y)))
    (or_cases (a == 10) (a == 13 && b == 10) t)

pub blank-nil : blank_len false [] ≡ 0
unfolding blank_len
blank-nil = refl

abbrev pub BlankCounted : List ℕ → Type 0
BlankCounted xs = Blanks xs (blank_len false xs)

pub join_counted : (r : List ℕ) → BlankCounted r → BlankCounted (92 ∷ 10 ∷ r)
join_counted r h = subst (λ n. Blanks (92 ∷ 10 ∷ r) n) (sym (blank-join false r)) (a_join refl refl h)

pub cr_join_counted : (r : List ℕ) → BlankCounted r → BlankCounted (92 ∷ 13 ∷ 10 ∷ r)
cr_join_counted r h = subst (λ n. Blanks (92 ∷ 13 ∷ 10 ∷ r) n) (sym (blank-cr_join false r))
    (a_cr_join refl refl refl h)

pub blank_counted : (f : ℕ) (xs : List ℕ) → length xs ≤ f → BlankCounted xs
blank_counted f [] le = subst (λ n. Blanks [] n) (sym blank-nil) no_blank
blank_counted zero (b ∷ rest) le = absurd (omega arith)
blank_counted (suc f) (b ∷ rest) le = ⊎_elim
    (λ t. subst (λ n. Blanks (b ∷ rest) n) (sym (blank-blank false b rest t))
    (a_blank t (blank_counted f rest (omega arith))))
    (λ none. ⊎_elim
    (λ t.
    let parts = and_parts (b == 92) (ends_join rest) t in
    let is = eqb-true b 92 parts.0 in
    let j = joins rest parts.1 in
    subst (λ a. BlankCounted (a ∷ rest)) (sym is) (⊎_elim
    (λ e. let size = ap length e in subst (λ l. BlankCounted (92 ∷ l)) (sym e)
    (join_counted j.0 (blank_counted f j.0 (omega arith))))
    (λ e. let size = ap length e in subst (λ l. BlankCounted (92 ∷ l)) (sym e)
    (cr_join_counted j.0 (blank_counted f j.0 (omega arith))))
    j.1))
    (λ g. subst (λ n. Blanks (b ∷ rest) n) (sym (blank-stops b rest none g)) no_blank)
    (cases_Bool (b == 92 && ends_join rest)))
    (cases_Bool (is_blank b))

pub blank_len-within : (j : Bool) (xs : List ℕ) → blank_len j xs ≤ length xs
unfolding blank_len
blank_len-within j [] = omega arith
blank_len-within j (x ∷ xs) =
    let inner = blank_len-within (x == 92 || (j && not (x == 10))) xs in
    cond_both (goes_on_blank j x xs) _ _ (λ n. n ≤ suc (length xs)) (λ _. omega arith) (λ _. omega arith)

-- line comments
pub comment_len-within : (e : Escape) (xs : List ℕ) → comment_len e xs ≤ length xs
unfolding comment_len
comment_len-within e [] = omega arith
comment_len-within e (x ∷ xs) =
    let inner = comment_len-within (comment_escape e x) xs in
    cond_both (ends_comment e x) _ _ (λ n. n ≤ suc (length xs)) (λ _. omega arith) (λ _. omega arith)

pub comment-goes : (e : Escape) (a : ℕ) (rest : List ℕ) → a ≢ 10
    → comment_len e (a ∷ rest) ≡ suc (comment_len (comment_escape e a) rest)
unfolding comment_len ends_comment
comment-goes Plain a rest other = cond-false _ _ _ (ne_eqb a 10 other)
comment-goes Backslash a rest other = refl
comment-goes Return a rest other = refl

pub comment-join : (e : Escape) (rest : List ℕ) → comment_len e (92 ∷ 10 ∷ rest) ≡ suc (suc (comment_len Plain rest))
unfolding comment_len ends_comment comment_escape
comment-join Plain rest = refl
comment-join Backslash rest = refl
comment-join Return rest = refl

pub comment-cr_join : (e : Escape) (rest : List ℕ)
    → comment_len e (92 ∷ 13 ∷ 10 ∷ rest) ≡ suc (suc (suc (comment_len Plain rest)))
unfolding comment_len ends_comment comment_escape
comment-cr_join Plain rest = refl
comment-cr_join Backslash rest = refl
comment-cr_join Return rest = refl

pub comment_longest : {rest : List ℕ} {n : ℕ} → Commented rest n → (e : Escape) → n ≤ comment_len e rest
comment_longest (comment_ends h) e = omega arith
comment_longest (commented_byte {a = a} {n = n} {rest = rest} other more) e =
    let inner = comment_longest more (comment_escape e a) in
    let same = comment-goes e a rest other in
    omega arith
comment_longest (commented_join {a = a} {b = b} {n = n} {rest = rest} x y more) e =
    let inner = comment_longest more Plain in
    let same : comment_len e (a ∷ b ∷ rest) ≡ suc (suc (comment_len Plain rest)) = rw (x, y) (comment-join e rest) in
    omega arith
comment_longest (commented_cr_join {a = a} {b = b} {c = c} {n = n} {rest = rest} x y z more) e =
    let inner = comment_longest more Plain in
    let same : comment_len e (a ∷ b ∷ c ∷ rest) ≡ suc (suc (suc (comment_len Plain rest))) =
    rw (x, y, z) (comment-cr_join e rest) in
    omega arith

-- what is counted after nothing special, after `\` and after `\` CR
pub record CommentCounted (xs : List ℕ) : Type 0 where
  pub plain : Commented xs (comment_len Plain xs)
  pub slash : Commented (92 ∷ xs) (suc (comment_len Backslash xs))
  pub return : Commented (92 ∷ 13 ∷ xs) (suc (suc (comment_len Return xs)))

pub slash_byte : ◌≢◌ {A = ℕ} 92 10
slash_byte e = omega arith

pub return_byte : ◌≢◌ {A = ℕ} 13 10
return_byte e = omega arith

pub comment_counted-nil : CommentCounted []
unfolding comment_len
comment_counted-nil = record {
  plain = comment_ends (inl refl);
  slash = commented_byte slash_byte (comment_ends (inl refl));
  return = commented_byte slash_byte (commented_byte return_byte (comment_ends (inl refl)));
}

pub comment_counted-feed : (r : List ℕ) → CommentCounted r → CommentCounted (10 ∷ r)
unfolding comment_len ends_comment comment_escape
comment_counted-feed r h = record {
  plain = comment_ends (inr refl);
  slash = commented_join refl refl h.plain;
  return = commented_cr_join refl refl refl h.plain;
}

pub comment_counted-slash : (r : List ℕ) → CommentCounted r → CommentCounted (92 ∷ r)
unfolding comment_len ends_comment comment_escape
comment_counted-slash r h = record {
  plain = h.slash;
  slash = commented_byte slash_byte h.slash;
  return = commented_byte slash_byte (commented_byte return_byte h.slash);
}

pub comment_counted-return : (r : List ℕ) → CommentCounted r → CommentCounted (13 ∷ r)
unfolding comment_len ends_comment comment_escape
comment_counted-return r h = record {
  plain = commented_byte return_byte h.plain;
  slash = h.return;
  return = commented_byte slash_byte (commented_byte return_byte (commented_byte return_byte h.plain));
}

pub comment_escape-other : (e : Escape) (b : ℕ) → b ≢ 92 → b ≢ 13 → comment_escape e b ≡ Plain
unfolding comment_escape
comment_escape-other Plain b x y = cond-false _ _ _ (ne_eqb b 92 x)
comment_escape-other Backslash b x y = cond-false _ _ _ (ne_eqb b 92 x) ∙ cond-false _ _ _ (ne_eqb b 13 y)
comment_escape-other Return b x y = cond-false _ _ _ (ne_eqb b 92 x)

pub comment-other : (e : Escape) (b : ℕ) (r : List ℕ) → b ≢ 92 → b ≢ 13 → b ≢ 10
    → comment_len e (b ∷ r) ≡ suc (comment_len Plain r)
comment-other e b r x y z = comment-goes e b r z ∙ ap (λ s. suc (comment_len s r)) (comment_escape-other e b x y)

pub comment_counted-other : (b : ℕ) (r : List ℕ) → b ≢ 92 → b ≢ 13 → b ≢ 10 → CommentCounted r → CommentCounted (b ∷ r)
comment_counted-other b r x y z h =
    let one : Commented (b ∷ r) (suc (comment_len Plain r)) = commented_byte z h.plain in
    record {
      plain = subst (λ n. Commented (b ∷ r) n) (sym (comment-other Plain b r x y z)) one;
      slash = subst (λ n. Commented (92 ∷ b ∷ r) (suc n)) (sym (comment-other Backslash b r x y z))
          (commented_byte slash_byte one);
      return = subst (λ n. Commented (92 ∷ 13 ∷ b ∷ r) (suc (suc n))) (sym (comment-other Return b r x y z))
          (commented_byte slash_byte (commented_byte return_byte one));
    }

pub comment_counted : (xs : List ℕ) → CommentCounted xs
comment_counted [] = comment_counted-nil
comment_counted (b ∷ r) =
    let h = comment_counted r in
    ⊎_elim (λ e. subst (λ a. CommentCounted (a ∷ r)) (sym e) (comment_counted-feed r h)) (λ z.
    ⊎_elim (λ e. subst (λ a. CommentCounted (a ∷ r)) (sym e) (comment_counted-slash r h)) (λ x.
    ⊎_elim (λ e. subst (λ a. CommentCounted (a ∷ r)) (sym e) (comment_counted-return r h)) (λ y.
    comment_counted-other b r x y z h) (cases_eq b 13)) (cases_eq b 92)) (cases_eq b 10)

pub comment_spelled : (xs : List ℕ) → Commented xs (comment_len Plain xs)
comment_spelled xs = let h = comment_counted xs in h.plain
