-- What is found closed byte by byte is a literal whatever follows it, and the other way round.
use Rattle.std.proofs.Common.{◌≡◌, ◌∙◌, ◌-◌, ℕ, suc, true, false, List, [], ◌∷◌, ◌++◌, length, take}
use Rattle.std.proofs.Common.{refl, sym, ap, subst, arith, ⊎_elim}
use Rattle.std.specs.Prelude.{◌==◌, ◌↔◌}
use Rattle.std.proofs.lemmas.Bool.{and_from, and_parts, cases_Bool, cond-false, cond-true, eq-eqb, eqb-true, false≢true}
use Rattle.cb_scan.specs.declared.lex.lexeme.Escape.{Escape}
use Rattle.cb_scan.specs.declared.lex.lexeme.Escape.TheVariants.{Plain, Backslash, Return}
use Rattle.cb_scan.specs.lex.Lexeme.{IsClosedLiteral, Quoted}
use Rattle.cb_scan.specs.steps.Cut.{ends_literal, literal_escape, literal_len}
use Rattle.cb_scan.specs.steps.Quote.{closes_from, is_closed}
use Rattle.cb_scan.proofs.Cuts.{quote}
use Rattle.cb_scan.proofs.Literals.{literal_exact, literal_spelled}

-- a string that closes has its length, whatever follows
closed_len : (e : Escape) (bs more : List ℕ) → closes_from e bs ≡ true → literal_len 34 e (bs ++ more) ≡ length bs
unfolding literal_len
closed_len e [] more is = absurd (false≢true is)
closed_len e (b ∷ bs) more is =
    ⊎_elim
    (λ ends.
    let parts = and_parts (b == 34) (length bs == 0) (sym (cond-true _ _ _ ends) ∙ is) in
    let none : length bs ≡ 0 = eqb-true (length bs) 0 parts.1 in
    cond-true _ _ _ ends ∙ cond-true _ _ _ parts.0 ∙ omega (arith, none))
    (λ goes_on. cond-false _ _ _ goes_on
    ∙ ap suc (closed_len (literal_escape e b) bs more (sym (cond-false _ _ _ goes_on) ∙ is)))
    (cases_Bool (ends_literal 34 e b))

-- a NUL ends no literal
goes_past : (e : Escape) → ends_literal 34 e 0 ≡ false
unfolding ends_literal
goes_past Plain = refl
goes_past Backslash = refl
goes_past Return = refl

-- a string that has its length before a NUL closes
len_closes : (e : Escape) (bs : List ℕ) → literal_len 34 e (bs ++ 0 ∷ []) ≡ length bs → closes_from e bs ≡ true
unfolding literal_len
len_closes e [] is = let past : literal_len 34 e (0 ∷ []) ≡ suc (literal_len 34 (literal_escape e 0) []) =
    cond-false _ _ _ (goes_past e) in absurd (omega (arith, past, is))
len_closes e (b ∷ bs) is =
    ⊎_elim
    (λ ends.
    ⊎_elim
    (λ quote_is.
    let one : 1 ≡ suc (length bs) = sym (cond-true _ _ _ quote_is) ∙ sym (cond-true _ _ _ ends) ∙ is in
    cond-true _ _ _ ends ∙ and_from _ _ quote_is (eq-eqb (length bs) 0 (omega (arith, one))))
    (λ other. let none : 0 ≡ suc (length bs) =
    sym (cond-false _ _ _ other) ∙ sym (cond-true _ _ _ ends) ∙ is in absurd (omega (arith, none)))
    (cases_Bool (b == 34)))
    (λ goes_on.
    let more : suc (literal_len 34 (literal_escape e b) (bs ++ 0 ∷ [])) ≡ suc (length bs) =
    sym (cond-false _ _ _ goes_on) ∙ is in
    cond-false _ _ _ goes_on ∙ len_closes (literal_escape e b) bs (omega (arith, more)))
    (cases_Bool (ends_literal 34 e b))

closed_is : (bytes : List ℕ) → is_closed bytes ≡ true → IsClosedLiteral 34 bytes
unfolding is_closed
closed_is [] is more = absurd (false≢true is)
closed_is (b ∷ bs) is more =
    let parts = and_parts (b == 34) (closes_from Plain bs) is in
    let len : literal_len 34 Plain (bs ++ more) ≡ suc (length bs) - 1 =
    closed_len Plain bs more parts.1 ∙ omega arith in (
      ap (λ x. x ∷ []) (eqb-true b 34 parts.0),
      omega arith,
      subst (λ n. Quoted 34 (bs ++ more) n) len (literal_spelled 34 quote (bs ++ more)),
    )

is_closed_literal : (bytes : List ℕ) → IsClosedLiteral 34 bytes → is_closed bytes ≡ true
unfolding is_closed
is_closed_literal [] is = let literal = is [] in absurd (omega (arith, literal.1))
is_closed_literal (b ∷ bs) is =
    let literal = is (0 ∷ []) in
    let first : b ≡ 34 = first_byte literal.0 in
    let len : suc (length bs) - 1 ≡ literal_len 34 Plain (bs ++ 0 ∷ []) = literal_exact 34 quote literal.2 in
    and_from _ _ (eq-eqb b 34 first) (len_closes Plain bs (omega (arith, len)))
  where
    first_byte : take 1 (b ∷ bs ++ 0 ∷ []) ≡ 34 ∷ [] → b ≡ 34
    first_byte same = cc

-- a string is closed exactly if it is a literal whatever follows it
pub closed_strings : (bytes : List ℕ) → (is_closed bytes ≡ true) ↔ IsClosedLiteral 34 bytes
closed_strings bytes = (closed_is bytes, is_closed_literal bytes)
