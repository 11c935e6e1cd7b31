use Rattle.std.proofs.Common.{◌≡◌, ◌∙◌, Some, ap, arith, length, suc, sym}
use Rattle.std.specs.Prelude.{cond}
use Rattle.cb_names.specs.Bindings.{inner, seen_before, sees}
use Rattle.cb_names.specs.steps.Binding.{scope_by}
use Rattle.cb_names.specs.steps.Namings.{declares_of}
use Rattle.cb_names.proofs.BindingLemmas.{seen_next, seen_none, seen_within}
use Rattle.cb_names.proofs.bindings.Named.binding.Goals as goal

pub loop-at-init : goal.loop-at-init
loop-at-init c = sym (seen_none (declares_of c.args.self.now) (scope_by c.args.self.now.scopes.now) c.args.index)

pub loop-at-preserved : goal.loop-at-preserved
loop-at-preserved c =
    let d = declares_of c.args.self.now in
    let s = scope_by c.args.self.now.scopes.now in
    c.seen_with-found.ensures
    ∙ ap (λ o. cond (sees d s c.args.index c.loop-at.at) (Some (inner s o c.loop-at.at)) o) c.loop-at.invariant
    ∙ sym (seen_next d s c.args.index c.loop-at.at)

pub returns-clause-value : goal.returns-clause-value
returns-clause-value c =
    let end : c.loop-at.at ≡ suc c.args.index = omega (arith, c.loop-at-test.false, c.loop-at.auto.at-end) in
    c.loop-at.invariant
    ∙ ap (seen_before (declares_of c.args.self.now) (scope_by c.args.self.now.scopes.now) c.args.index) end

pub returns-clause-within : goal.returns-clause-within
returns-clause-within c =
    let end : c.loop-at.at ≡ suc c.args.index = omega (arith, c.loop-at-test.false, c.loop-at.auto.at-end) in
    seen_within (declares_of c.args.self.now) (scope_by c.args.self.now.scopes.now) c.args.index (suc c.args.index)
    (length c.args.self.now.shape.now.items.items) _ (omega (arith, c.requires.within))
    (c.loop-at.invariant
    ∙ ap (seen_before (declares_of c.args.self.now) (scope_by c.args.self.now.scopes.now) c.args.index) end)
