use Rattle.std.proofs.Common.{◌∙◌, ◌+◌, ◌++◌, ◌∷◌, [], add-one, ap, suc, sym}
use Rattle.std.specs.Prelude.{◌&&◌, cond, nat_le, nat_lt, not}
use Rattle.cb_names.specs.Bindings.{is_bound_in, use_of}
use Rattle.cb_names.specs.steps.Binding.{far, larger, scope_by}
use Rattle.cb_names.specs.steps.Namings.{declares_of, named_of}
use Rattle.cb_names.proofs.BindingLemmas.{bound_is, far_next, far_none}
use Rattle.cb_names.proofs.LabelLemmas.{uses_more}
use Rattle.cb_names.proofs.bindings.Named.uses.Goals as goal

pub loop-at-init : goal.loop-at-init
loop-at-init c =
    let n = c.args.self.now in
    record {
      seen = sym (far_none (declares_of n) (scope_by n.scopes.now) c.args.first);
      unseen = sym (far_none (declares_of n) (scope_by n.scopes.now) (c.args.first + 1));
      uses = c.new-uses.ensures.items;
    }

pub loop-at-preserved : goal.loop-at-preserved
loop-at-preserved c =
    let n = c.args.self.now in
    let d = declares_of n in
    let s = scope_by n.scopes.now in
    let first = c.args.first in
    let k = c.loop-at.at in
    let h = c.loop-at.invariant in
    let far_is = c.farther-far.ensures
    ∙ ap (λ f. cond (d k && nat_le first (s k).first) (larger f (suc (s k).last)) f) h.seen
    ∙ sym (far_next d s first k) in
    let hidden_is = c.farther-hidden.ensures
    ∙ ap (λ f. cond (d k && nat_le (first + 1) (s k).first) (larger f (suc (s k).last)) f) h.unseen
    ∙ sym (far_next d s (first + 1) k) in
    let far_there = far_is ∙ ap (far d s first) (add-one k) in
    let hidden_there = hidden_is ∙ (λ i. far d s (add-one first i) (add-one k i)) in
    let is = c.is_use.ensures
    ∙ (λ i. named_of n k && (nat_lt k (far_there i) && not (nat_lt k (hidden_there i))))
    ∙ ap (λ b. named_of n k && b) (sym (bound_is d s first k)) in
    record {
      seen = far_is;
      unseen = hidden_is;
      uses = c.in_ok-push_if.ensures
          ∙ (λ i. h.uses i ++ cond (is i) (c.use_of.ensures i ∷ []) [])
          ∙ sym (uses_more (use_of n.shape.now.items.items d s first) (λ j. named_of n j && is_bound_in d s first j) k);
    }
