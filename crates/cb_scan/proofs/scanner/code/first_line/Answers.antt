use Rattle.std.proofs.Common.{◌≡◌, ◌∙◌, ◌++◌, ◌∷◌, ◌<◌, ◌≤◌, [], true, false, sym, ap, subst, length, arith}
use Rattle.std.specs.Prelude.{cond}
use Rattle.std.proofs.lemmas.List.{append-nil}
use Rattle.std.specs.List.{AllByRecursion}
use Rattle.cb_scan.specs.CodeTokens.{IsSpanOf}
use Rattle.cb_scan.specs.declared.lex.token.Token.{Token}
use Rattle.cb_scan.specs.lex.Tokens.{is_significant}
use Rattle.cb_scan.specs.rules.Code.{is_newline}
use Rattle.cb_scan.specs.steps.Cut.{pieces}
use Rattle.cb_scan.specs.steps.Directives.{lined_token}
use Rattle.cb_scan.specs.steps.Lined.{Within}
use Rattle.cb_scan.specs.steps.LineTokens.{line_from}
use Rattle.cb_scan.proofs.GatherLemmas.{appended}
use Rattle.cb_scan.proofs.LineTokenLemmas.{line_is}
use Rattle.cb_scan.proofs.WithinLemmas.{all-append}
use Rattle.cb_scan.proofs.scanner.code.first_line.Goals as goal

-- nothing is read yet, and all is still to come
pub loop-lined-init : goal.loop-lined-init
loop-lined-init c =
    let text = c.args.text.now in
    let source = c.into_iter-lined-iterator.ensures.into_iter_gives ∙ c.lined_pieces-lined-items.ensures.value in
    let bounds = c.lined_pieces-lined-items.ensures in
    record {
      read = (λ i. c.new-tokens.ensures.items i ++ line_from text (source i)) ∙ line_is text (pieces text);
      taken = subst (AllByRecursion (IsSpanOf text)) (sym c.new-tokens.ensures.items) tt;
      within = subst (AllByRecursion (Within text))
          (sym c.into_iter-lined-iterator.ensures.into_iter_gives) bounds.within;
      room = omega (
        arith,
        bounds.len,
        ap length c.into_iter-lined-iterator.ensures.into_iter_gives,
        ap length c.new-tokens.ensures.items,
      );
    }

-- a piece of the line that is a token
pub loop-lined-preserved-in-Continue-1 : goal.loop-lined-preserved-in-Continue-1
unfolding line_from
loop-lined-preserved-in-Continue-1 c =
    let text = c.args.text.now in
    let so_far = c.loop-lined.invariant in
    let all_is = c.in-Some.ensures.steps in
    let rest = line_from text c.next.new.self in
    let line = c.in-Some.lined in
    let goes_on : is_newline line.piece.class ≡ false = sym c.is_newline.ensures ∙ c.if-is_newline.false in
    let is : is_significant line.piece.class ≡ true = sym c.is_significant.ensures ∙ c.if-is_significant.true in
    let token_is = c.token_of.ensures in
    let here = (subst (AllByRecursion (Within text)) all_is so_far.within).0 in
    let t = c.token_of.result in
    let items = c.in_ok-push.ensures.items in
    let spans : IsSpanOf text t = subst (λ (u : Token). (u.span.start < u.span.end) × (u.span.end ≤ length text))
    (sym token_is) here in
    record {
      read = appended _ _ _ _ _ _ items
          (ap (line_from text) all_is
          ∙ ap (λ b. cond b [] (cond (is_significant line.piece.class) (lined_token text line ∷ rest) rest)) goes_on
          ∙ ap (λ b. cond b (lined_token text line ∷ rest) rest) is
          ∙ ap (λ u. u ∷ rest) (sym token_is)) so_far.read;
      taken = subst (AllByRecursion (IsSpanOf text)) (sym items)
          (all-append (IsSpanOf text) c.loop-lined.tokens.items (t ∷ []) so_far.taken (spans, tt));
      within = (subst (AllByRecursion (Within text)) all_is so_far.within).1;
      room = omega (arith, ap length all_is, c.in_ok-push.ensures.len, so_far.room);
    }

-- one that is none
pub loop-lined-preserved : goal.loop-lined-preserved
unfolding line_from
loop-lined-preserved c =
    let text = c.args.text.now in
    let so_far = c.loop-lined.invariant in
    let all_is = c.in-Some.ensures.steps in
    let rest = line_from text c.next.new.self in
    let line = c.in-Some.lined in
    let goes_on : is_newline line.piece.class ≡ false = sym c.is_newline.ensures ∙ c.if-is_newline.false in
    let is : is_significant line.piece.class ≡ false = sym c.is_significant.ensures ∙ c.if-is_significant.false in
    record {
      read = ap (λ xs. c.loop-lined.tokens.items ++ xs)
          (sym (ap (line_from text) all_is
          ∙ ap (λ b. cond b [] (cond (is_significant line.piece.class) (lined_token text line ∷ rest) rest)) goes_on
          ∙ ap (λ b. cond b (lined_token text line ∷ rest) rest) is)) ∙ so_far.read;
      taken = so_far.taken;
      within = (subst (AllByRecursion (Within text)) all_is so_far.within).1;
      room = omega (arith, ap length all_is, so_far.room);
    }

-- the line ends
pub returns-then-is_newline-clause-value : goal.returns-then-is_newline-clause-value
unfolding line_from
returns-then-is_newline-clause-value c =
    let text = c.args.text.now in
    let line = c.in-Some.lined in
    let rest = line_from text c.next.new.self in
    let ends : is_newline line.piece.class ≡ true = sym c.is_newline.ensures ∙ c.if-is_newline.true in
    sym (append-nil c.loop-lined.tokens.items)
    ∙ ap (λ xs. c.loop-lined.tokens.items ++ xs)
    (sym (ap (line_from text) c.in-Some.ensures.steps
    ∙ ap (λ b. cond b [] (cond (is_significant line.piece.class) (lined_token text line ∷ rest) rest)) ends))
    ∙ c.loop-lined.invariant.read

-- the text ends
pub returns-clause-value : goal.returns-clause-value
unfolding line_from
returns-clause-value c =
    let text = c.args.text.now in
    sym (append-nil c.loop-lined.tokens.items)
    ∙ sym (ap (λ xs. c.loop-lined.tokens.items ++ line_from text xs) c.in-None.ensures.steps.0)
    ∙ c.loop-lined.invariant.read
