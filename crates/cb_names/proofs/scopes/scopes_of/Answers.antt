use Rattle.std.proofs.Common.{◌≡◌, ◌∙◌, ◌<◌, None, ap, arith, length, replicate, subst}
use Rattle.cb_names.specs.Scopes.{for_before, scope_at}
use Rattle.cb_names.specs.Tables.{IsTable}
use Rattle.cb_names.specs.steps.Pairing.{answer}
use Rattle.cb_names.specs.steps.Scoping.{scope_by}
use Rattle.cb_names.proofs.ScopeLemmas.{none_before, replicated, scope_is}
use Rattle.cb_names.proofs.TableLemmas.{none, push}
use Rattle.cb_names.proofs.scopes.scopes_of.Goals as goal

pub loop-at-init : goal.loop-at-init
loop-at-init c =
    let xs = c.args.shape.now.items.items in
    let b = c.args.shape.now.body in
    let count : c.len.result ≡ length xs = omega (arith, c.len.ensures, c.args.shape.now.items.ok) in
    record {
      fors = replicated (λ j. for_before xs b j 0) _ _
          (c.in_ok-fors.ensures ∙ ap (λ n. replicate n None) count) (λ i less. none_before xs b i);
      scopes = λ is_list l. none (scope_at is_list xs b) _ c.in_ok-scopes.ensures.items;
    }

pub loop-at-preserved : goal.loop-at-preserved
loop-at-preserved c =
    let s = c.args.shape.now in
    let xs = s.items.items in
    let k = c.loop-at.at in
    let is = c.requires in
    let within : k < length xs = omega (arith, c.loop-at-test.true) in
    let bracket = c.answer-bracket.ensures ∙ ap (λ t. answer t k) c.as_slice-in-loop-at.ensures.value
    ∙ is.around.at k None within in
    record {
      fors = c.note_for.ensures;
      scopes = λ is_list l. push (scope_at is_list xs s.body) k _ _ _ (c.loop-at.invariant.scopes is_list l)
          c.in_ok-push.ensures.items
          (c.scope_by-scope.ensures
          ∙ (λ i. scope_by xs (c.as_slice.ensures.value i) s.kinds.items (c.as_slice-2.ensures.value i)
          (c.as_slice-3.ensures.value i) c.args.lists.now (c.as_slice-in-loop-at-2.ensures.value i)
          (c.as_slice-in-loop-at-3.ensures.value i) (bracket i))
          ∙ scope_is s is is_list _ _ _ c.args.lists.now _ k within c.in_ok-brackets.ensures
          c.in_ok-statements.ensures l c.loop-at.invariant.fors (c.loop-at.invariant.scopes is_list l));
    }

pub returns : goal.returns
returns c =
    let xs = c.args.shape.now.items.items in
    λ is_list l. subst (λ n. IsTable (scope_at is_list xs c.args.shape.now.body) n c.loop-at.scopes.items)
    (omega (arith, c.loop-at-test.false, c.loop-at.auto.at-end)) (c.loop-at.invariant.scopes is_list l)
