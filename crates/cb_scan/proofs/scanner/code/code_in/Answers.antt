use Rattle.std.proofs.Common.{◌≡◌, ◌∙◌, ◌++◌, ◌∷◌, ◌<◌, ◌≤◌, [], true, sym, ap, subst, length, arith}
use Rattle.std.proofs.lemmas.List.{append-nil}
use Rattle.std.specs.List.{AllByRecursion}
use Rattle.cb_scan.specs.CodeTokens.{IsTokenOf}
use Rattle.cb_scan.specs.declared.rules.directives.Stage.TheVariants.{Start}
use Rattle.cb_scan.specs.declared.rules.functions.Before.TheVariants.{Anything}
use Rattle.cb_scan.specs.declared.lex.token.Token.{Token}
use Rattle.cb_scan.specs.lex.Tokens.{is_significant}
use Rattle.cb_scan.specs.rules.Code.{code}
use Rattle.cb_scan.specs.steps.Cut.{pieces}
use Rattle.cb_scan.specs.steps.Directives.{code_out, is_code, nothing, walk}
use Rattle.cb_scan.specs.steps.Lined.{Within}
use Rattle.cb_scan.specs.steps.wide.Tokens.{token_after, token_as, tokens_from}
use Rattle.cb_scan.proofs.CodeLines.{code_is}
use Rattle.cb_scan.proofs.GatherLemmas.{appended, code_on}
use Rattle.cb_scan.proofs.WideTokens.{tokens_are}
use Rattle.cb_scan.proofs.WithinLemmas.{all-append}
use Rattle.cb_scan.proofs.scanner.code.code_in.Goals as goal

-- nothing is read yet, and all is still to come
pub loop-lined-init : goal.loop-lined-init
loop-lined-init c =
    let text = c.args.text.now in
    let source = c.into_iter-lined-iterator.ensures.into_iter_gives ∙ c.lined_pieces-lined-items.ensures.value in
    let bounds = c.lined_pieces-lined-items.ensures in
    record {
      read = (λ i. c.new-tokens.ensures.items i
          ++ tokens_from text Anything (walk code_out nothing text Start (source i)))
          ∙ ap (tokens_from text Anything) (code_is text (pieces text))
          ∙ tokens_are text (code text (pieces text));
      taken = subst (AllByRecursion (IsTokenOf text)) (sym c.new-tokens.ensures.items) tt;
      within = subst (AllByRecursion (Within text))
          (sym c.into_iter-lined-iterator.ensures.into_iter_gives) bounds.within;
      room = omega (
        arith,
        bounds.len,
        ap length c.into_iter-lined-iterator.ensures.into_iter_gives,
        ap length c.new-tokens.ensures.items,
      );
    }

-- a token of the code
pub loop-lined-preserved-then-is_code : goal.loop-lined-preserved-then-is_code
unfolding tokens_from
loop-lined-preserved-then-is_code c =
    let text = c.args.text.now in
    let so_far = c.loop-lined.invariant in
    let all_is = c.in-Some.ensures.steps in
    let is : is_significant c.in-Some.lined.piece.class ≡ true =
    sym c.is_significant.ensures ∙ c.if-is_significant.true in
    let token_is = c.token_of-token.ensures in
    let line_is = c.next-then-is_significant.ensures in
    let code_is : is_code c.next-then-is_significant.new.self ≡ true = sym c.is_code.ensures ∙ c.if-is_code.true in
    let on = code_on text c.loop-lined.line c.next-then-is_significant.new.self c.token_of-token.result c.in-Some.lined
    c.loop-lined.lined-iterator c.next.new.self all_is is token_is line_is code_is in
    let here = (subst (AllByRecursion (Within text)) all_is so_far.within).0 in
    let t = c.token_of-token.result in
    let x = token_after text c.loop-lined.before t in
    let rest = walk code_out nothing text c.next-then-is_significant.new.self c.next.new.self in
    let pushed : c.token_as.result ≡ x =
    c.token_as.ensures ∙ ap (λ r. token_as r c.loop-lined.before t) c.wide_role.ensures in
    let items = c.in_ok-push.ensures.items ∙ ap (λ y. c.loop-lined.tokens.items ++ y ∷ []) pushed in
    let spans : IsTokenOf text x = subst (λ (u : Token). (u.span.start < u.span.end) × (u.span.end ≤ length text))
    (sym token_is) here in
    record {
      read = appended _ _ _ _ _ _ items
          (ap (tokens_from text c.loop-lined.before) on
          ∙ (λ i. x ∷ tokens_from text (sym c.before_after-before.ensures i) rest)) so_far.read;
      taken = subst (AllByRecursion (IsTokenOf text)) (sym items)
          (all-append (IsTokenOf text) c.loop-lined.tokens.items (x ∷ []) so_far.taken (spans, tt));
      within = (subst (AllByRecursion (Within text)) all_is so_far.within).1;
      room = omega (arith, ap length all_is, c.in_ok-push.ensures.len, so_far.room);
    }

-- all is read
pub returns-clause-value : goal.returns-clause-value
unfolding tokens_from
returns-clause-value c =
    let text = c.args.text.now in
    sym (append-nil c.loop-lined.tokens.items)
    ∙ sym (ap (λ xs. c.loop-lined.tokens.items
    ++ tokens_from text c.loop-lined.before (walk code_out nothing text c.loop-lined.line xs)) c.in-None.ensures.steps.0)
    ∙ c.loop-lined.invariant.read
