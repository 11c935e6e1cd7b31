-- How far a literal reaches: what is counted is a literal, and none has another length.
use Rattle.std.proofs.Common.{◌≡◌, ◌≢◌, ◌≤◌, ℕ, suc, true, false, cond, ◌==◌, ◌||◌, List, [], ◌∷◌}
use Rattle.std.proofs.Common.{length, take, refl, sym, ap, subst, ◌∙◌, arith, inl, inr, ⊎_elim}
use Rattle.std.proofs.lemmas.Bool.{cases_eq, or_from, or_left, or_right, cond-true, cond-false}
use Rattle.std.proofs.lemmas.Bool.{cond_both, eq-eqb, ne_eqb}
use Rattle.cb_scan.specs.declared.lex.lexeme.Escape.{Escape}
use Rattle.cb_scan.specs.declared.lex.lexeme.Escape.TheVariants.{Plain, Backslash, Return}
use Rattle.cb_scan.specs.lex.Lexeme.{IsLineEnd, Quoted, closed, not_closed, joined, escaped, last_escape, quoted_byte}
use Rattle.cb_scan.specs.steps.Cut.{literal_escape, ends_literal, literal_len}

-- literals
-- a quote is neither `\` nor LF
pub record IsQuote (q : ℕ) : Type 0 where
  pub slash : (92 == q) ≡ false
  pub feed : (10 == q) ≡ false

module _ (q : ℕ) (is : IsQuote q) where
  pub literal_len-within : (e : Escape) (xs : List ℕ) → literal_len q e xs ≤ length xs
  unfolding literal_len
  literal_len-within e [] = omega arith
  literal_len-within e (x ∷ xs) =
      let inner = literal_len-within (literal_escape e x) xs in
      cond_both (ends_literal q e x) _ _ (λ n. n ≤ suc (length xs))
      (λ _. cond_both (x == q) 1 0 (λ n. n ≤ suc (length xs)) (λ _. omega arith) (λ _. omega arith))
      (λ _. omega arith)

  literal-goes : (e : Escape) (a : ℕ) (rest : List ℕ) → ends_literal q e a ≡ false
      → literal_len q e (a ∷ rest) ≡ suc (literal_len q (literal_escape e a) rest)
  unfolding literal_len
  literal-goes e a rest f = cond-false _ _ _ f

  literal-slash : (e : Escape) (rest : List ℕ) → e ≢ Backslash
      → literal_len q e (92 ∷ rest) ≡ suc (literal_len q Backslash rest)
  unfolding ends_literal literal_escape
  literal-slash Plain rest other = literal-goes Plain 92 rest (or_from _ _ is.slash refl)
  literal-slash Backslash rest other = absurd (other refl)
  literal-slash Return rest other = literal-goes Return 92 rest is.slash

  literal-return : (rest : List ℕ) → literal_len q Backslash (13 ∷ rest) ≡ suc (literal_len q Return rest)
  unfolding ends_literal literal_escape
  literal-return rest = literal-goes Backslash 13 rest refl

  literal-escaped : (b : ℕ) (rest : List ℕ) → b ≢ 13
      → literal_len q Backslash (b ∷ rest) ≡ suc (literal_len q Plain rest)
  unfolding ends_literal literal_escape
  literal-escaped b rest other =
      literal-goes Backslash b rest refl ∙ ap (λ e. suc (literal_len q e rest)) (cond-false _ _ _ (ne_eqb b 13 other))

  literal-joined : (rest : List ℕ) → literal_len q Return (10 ∷ rest) ≡ suc (literal_len q Plain rest)
  unfolding ends_literal literal_escape
  literal-joined rest = literal-goes Return 10 rest is.feed

  literal-closed : (rest : List ℕ) → literal_len q Plain (q ∷ rest) ≡ 1
  unfolding literal_len ends_literal
  literal-closed rest =
      let t : (q == q) ≡ true = eq-eqb q q refl in
      cond-true _ _ _ (or_left _ _ t) ∙ cond-true _ _ _ t

  literal-feed : (rest : List ℕ) → literal_len q Plain (10 ∷ rest) ≡ 0
  unfolding literal_len ends_literal
  literal-feed rest = cond-true _ _ _ (or_right _ _ refl) ∙ cond-false _ _ _ is.feed

  literal-byte : (a : ℕ) (rest : List ℕ) → a ≢ q → a ≢ 92 → a ≢ 10
      → literal_len q Plain (a ∷ rest) ≡ suc (literal_len q Plain rest)
  unfolding ends_literal literal_escape
  literal-byte a rest x y z =
      literal-goes Plain a rest (or_from _ _ (ne_eqb a q x) (ne_eqb a 10 z))
      ∙ ap (λ e. suc (literal_len q e rest)) (cond-false _ _ _ (ne_eqb a 92 y))

  -- after `\` CR without an LF it goes on as ever
  literal-resumes : (rest : List ℕ) → take 1 rest ≢ 10 ∷ [] → literal_len q Return rest ≡ literal_len q Plain rest
  unfolding literal_len ends_literal literal_escape
  literal-resumes [] other = refl
  literal-resumes (a ∷ rest) other =
      let f : (a == 10) ≡ false = ne_eqb a 10 (λ e. other (ap (λ x. x ∷ []) e)) in
      let t : (a == q) ≡ (a == q || a == 10) =
      elim (a == q) as (λ b. b ≡ (b || a == 10)) [ true ↦ refl | false ↦ sym f ] in
      ap (λ b. cond b (cond (a == q) 1 0) (suc (literal_len q (cond (a == 92) Backslash Plain) rest))) t

  plain_other : Plain ≢ Backslash
  plain_other e = cc

  -- a literal that isn't closed ends at once before a line's end
  literal_at_end : (rest : List ℕ) → IsLineEnd rest → 0 ≡ literal_len q Plain rest
  unfolding literal_len
  literal_at_end [] ends = refl
  literal_at_end (a ∷ rest) ends =
      ⊎_elim (λ e. absurd (omega arith))
      (λ e. sym (ap (λ b. literal_len q Plain (b ∷ rest)) (feed e) ∙ literal-feed rest)) ends
    where
      feed : take 1 (a ∷ rest) ≡ 10 ∷ [] → a ≡ 10
      feed e = cc

  literal-empty : (e : Escape) → literal_len q e [] ≡ 0
  unfolding literal_len
  literal-empty e = refl

  -- a literal has one length
  pub literal_exact : {rest : List ℕ} {n : ℕ} → Quoted q rest n → n ≡ literal_len q Plain rest
  literal_exact (closed {a = a} {rest = rest} x) =
      let same : literal_len q Plain (a ∷ rest) ≡ 1 = rw x (literal-closed rest) in
      omega arith
  literal_exact (not_closed {rest = rest} h) = literal_at_end rest h
  literal_exact (joined {a = a} {b = b} {c = c} {n = n} {rest = rest} x y z more) =
      let inner = literal_exact more in
      let same : literal_len q Plain (a ∷ b ∷ c ∷ rest) ≡ suc (suc (suc (literal_len q Plain rest))) =
      rw (x, y, z) (literal-slash Plain (13 ∷ 10 ∷ rest) plain_other ∙ ap suc (literal-return (10 ∷ rest))
      ∙ ap (λ m. suc (suc m)) (literal-joined rest)) in
      omega arith
  literal_exact (escaped {a = a} {b = b} {n = n} {rest = rest} x other more) =
      let inner = literal_exact more in
      let first : literal_len q Plain (a ∷ b ∷ rest) ≡ suc (literal_len q Backslash (b ∷ rest)) =
      rw x (literal-slash Plain (b ∷ rest) plain_other) in
      let second : literal_len q Backslash (b ∷ rest) ≡ suc (literal_len q Plain rest) = ⊎_elim
      (λ e.
      let start : take 1 rest ≢ 10 ∷ [] = λ t. other (ap (λ v. v ∷ take 1 rest) e ∙ ap (λ l. 13 ∷ l) t) in
      rw e (literal-return rest ∙ ap suc (literal-resumes rest start)))
      (λ ne. literal-escaped b rest ne)
      (cases_eq b 13) in
      omega arith
  literal_exact (last_escape {a = a} x) =
      let same : literal_len q Plain (a ∷ []) ≡ suc (literal_len q Backslash []) =
      rw x (literal-slash Plain [] plain_other) in
      let none = literal-empty Backslash in
      omega arith
  literal_exact (quoted_byte {a = a} {n = n} {rest = rest} x y z more) =
      let inner = literal_exact more in
      let same = literal-byte a rest x y z in
      omega arith

  pub literal_longest : {rest : List ℕ} {n : ℕ} → Quoted q rest n → n ≤ literal_len q Plain rest
  literal_longest is = let same = literal_exact is in omega (arith, same)

  -- what is counted after nothing special, after `\` and after `\` CR
  record LiteralCounted (xs : List ℕ) : Type 0 where
    plain : Quoted q xs (literal_len q Plain xs)
    slash : Quoted q (92 ∷ xs) (suc (literal_len q Backslash xs))
    return : Quoted q (92 ∷ 13 ∷ xs) (suc (suc (literal_len q Return xs)))

  alone : (b : ℕ) (rest : List ℕ) → b ≢ 10 → take 2 (13 ∷ b ∷ rest) ≢ 13 ∷ 10 ∷ []
  alone b rest other e = other cc

  literal_counted-nil : LiteralCounted []
  unfolding literal_len
  literal_counted-nil = record {
    plain = not_closed (inl refl);
    slash = last_escape refl;
    return = escaped refl (λ e. cc) (not_closed (inl refl));
  }

  counted-plain : (b : ℕ) (r : List ℕ) → LiteralCounted r → Quoted q (b ∷ r) (literal_len q Plain (b ∷ r))
  counted-plain b r h =
      let P = λ (x : ℕ). Quoted q (x ∷ r) (literal_len q Plain (x ∷ r)) in
      ⊎_elim (λ e. subst (λ n. Quoted q (b ∷ r) n) (sym (rw e (literal-closed r))) (closed e)) (λ x.
      ⊎_elim (λ e. subst P (sym e) (subst (λ n. Quoted q (10 ∷ r) n) (sym (literal-feed r)) (not_closed (inr refl))))
      (λ z.
      ⊎_elim (λ e. subst P (sym e) (subst (λ n. Quoted q (92 ∷ r) n) (sym (literal-slash Plain r plain_other)) h.slash))
      (λ y.
      subst (λ n. Quoted q (b ∷ r) n) (sym (literal-byte b r x y z)) (quoted_byte x y z h.plain)) (cases_eq b 92))
      (cases_eq b 10)) (cases_eq b q)

  counted-slash : (b : ℕ) (r : List ℕ) → LiteralCounted r
      → Quoted q (92 ∷ b ∷ r) (suc (literal_len q Backslash (b ∷ r)))
  counted-slash b r h =
      let P = λ (x : ℕ). Quoted q (92 ∷ x ∷ r) (suc (literal_len q Backslash (x ∷ r))) in
      ⊎_elim (λ e. subst P (sym e) (subst (λ n. Quoted q (92 ∷ 13 ∷ r) (suc n)) (sym (literal-return r)) h.return))
      (λ x.
      subst (λ n. Quoted q (92 ∷ b ∷ r) (suc n)) (sym (literal-escaped b r x)) (escaped refl (λ e. x cc) h.plain))
      (cases_eq b 13)

  counted-return : (b : ℕ) (r : List ℕ) → LiteralCounted r
      → Quoted q (92 ∷ 13 ∷ b ∷ r) (suc (suc (literal_len q Return (b ∷ r))))
  counted-return b r h =
      let P = λ (x : ℕ). Quoted q (92 ∷ 13 ∷ x ∷ r) (suc (suc (literal_len q Return (x ∷ r)))) in
      ⊎_elim (λ e. subst P (sym e)
      (subst (λ n. Quoted q (92 ∷ 13 ∷ 10 ∷ r) (suc (suc n))) (sym (literal-joined r))
      (joined refl refl refl h.plain))) (λ x.
      subst (λ n. Quoted q (92 ∷ 13 ∷ b ∷ r) (suc (suc n))) (sym (literal-resumes (b ∷ r) (λ e. x cc)))
      (escaped refl (alone b r x) (counted-plain b r h))) (cases_eq b 10)

  literal_counted : (xs : List ℕ) → LiteralCounted xs
  literal_counted [] = literal_counted-nil
  literal_counted (b ∷ r) =
      let h = literal_counted r in
      record { plain = counted-plain b r h; slash = counted-slash b r h; return = counted-return b r h }

  pub literal_spelled : (xs : List ℕ) → Quoted q xs (literal_len q Plain xs)
  literal_spelled xs = let h = literal_counted xs in h.plain
