-- The tokens of the first logical line, a piece at a time, are those of its pieces.
use Rattle.std.proofs.Common.{◌≡◌, ◌∙◌, ◌∷◌, [], ℕ, Bool, true, false, List, refl, ap, sym, map}
use Rattle.std.proofs.lemmas.List.Sums.{take_while-cons}
use Rattle.std.specs.Prelude.{cond, filter, not}
use Rattle.std.specs.List.{take_while}
use Rattle.cb_scan.specs.declared.lex.piece.Piece.{Piece}
use Rattle.cb_scan.specs.declared.lex.token.Token.{Token}
use Rattle.cb_scan.specs.lex.Tokens.{is_significant, token_of, tokens}
use Rattle.cb_scan.specs.rules.Code.{is_newline}
use Rattle.cb_scan.specs.steps.Lined.{lined}
use Rattle.cb_scan.specs.steps.LineTokens.{line_from}

-- a piece of a line, which is a token or not
first : (text : List ℕ) (p : Piece) (ps : List Piece) → line_from text (map (lined text) (p ∷ ps))
    ≡ cond (is_newline p.class) [] (cond (is_significant p.class)
    (token_of text p ∷ line_from text (map (lined text) ps)) (line_from text (map (lined text) ps)))
unfolding line_from lined
first text p ps = refl

kept : (text : List ℕ) (s : Bool) (p : Piece) (qs : List Piece)
    → map (token_of text) (cond s (p ∷ filter (λ (q : Piece). is_significant q.class) qs)
    (filter (λ (q : Piece). is_significant q.class) qs))
    ≡ cond s (token_of text p ∷ tokens text qs) (tokens text qs)
kept text true p qs = refl
kept text false p qs = refl

ended : (text : List ℕ) (n s : Bool) (p : Piece) (ts : List Token) (qs : List Piece)
    → ts ≡ tokens text qs → s ≡ is_significant p.class
    → cond n [] (cond s (token_of text p ∷ ts) ts) ≡ tokens text (cond (not n) (p ∷ qs) [])
ended text true s p ts qs are is = refl
ended text false s p ts qs are is =
    ap (λ us. cond s (token_of text p ∷ us) us) are
    ∙ ap (λ b. cond b (token_of text p ∷ tokens text qs) (tokens text qs)) is
    ∙ sym (kept text (is_significant p.class) p qs)

pub line_is : (text : List ℕ) (ps : List Piece) → line_from text (map (lined text) ps)
    ≡ tokens text (take_while (λ (p : Piece). not (is_newline p.class)) ps)
unfolding line_from
line_is text [] = refl
line_is text (p ∷ ps) =
    first text p ps
    ∙ ended text (is_newline p.class) (is_significant p.class) p _ _ (line_is text ps) refl
    ∙ ap (tokens text) (sym (take_while-cons (λ (p : Piece). not (is_newline p.class)) p ps))
