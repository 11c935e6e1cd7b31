use Rattle.std.proofs.Common.{◌≡◌, ◌∙◌, ◌++◌, ◌∷◌, [], add-one, ap, suc, sym}
use Rattle.std.proofs.lemmas.List.{append_assoc, append-nil}
use Rattle.std.specs.Prelude.{◌&&◌, ◌||◌, cond, nat_le, nat_lt}
use Rattle.cb_names.specs.Labels.{span}
use Rattle.cb_names.specs.Pairs.{at}
use Rattle.cb_names.specs.steps.Binding.{far, larger, scope_by}
use Rattle.cb_names.specs.steps.Namings.{declares_of, is_label_of, is_own_of, named_of, own_by}
use Rattle.cb_names.proofs.BindingLemmas.{bound_far, far_next, far_none}
use Rattle.cb_names.proofs.MacroLemmas.{those_more}
use Rattle.cb_names.proofs.bindings.Named.push_own.Goals as goal

pub loop-at-init : goal.loop-at-init
loop-at-init c =
    let n = c.args.self.now in
    record {
      seen = sym (far_none (declares_of n) (scope_by n.scopes.now) 0);
      own = sym (append-nil c.args.found.now.items);
    }

pub loop-at-preserved : goal.loop-at-preserved
loop-at-preserved c =
    let n = c.args.self.now in
    let d = declares_of n in
    let s = scope_by n.scopes.now in
    let k = c.loop-at.at in
    let h = c.loop-at.invariant in
    let far_is = c.farther-far.ensures
    ∙ ap (λ f. cond (d k && nat_le 0 (s k).first) (larger f (suc (s k).last)) f) h.seen
    ∙ sym (far_next d s 0 k) in
    let far_there = far_is ∙ ap (far d s 0) (add-one k) in
    let span_is = c.span_at.ensures ∙ ap (λ l. span (at l k)) c.as_slice.ensures.value in
    let is : c.is_own.result ≡ is_own_of n k = c.is_own.ensures
    ∙ ap (λ f. is_label_of n k || (named_of n k && nat_lt k f)) far_there
    ∙ ap (λ b. is_label_of n k || (named_of n k && b)) (sym (bound_far d s k)) in
    record {
      seen = far_is;
      own = c.in_ok-push_span_if.ensures
          ∙ (λ i. h.own i ++ cond (is i) (span_is i ∷ []) [])
          ∙ append_assoc c.args.found.now.items (own_by n k) (cond (is_own_of n k) (span (at n.shape.now.items.items k) ∷ []) [])
          ∙ ap (λ l. c.args.found.now.items ++ l) (sym (those_more (λ j. span (at n.shape.now.items.items j)) (is_own_of n) k));
    }
