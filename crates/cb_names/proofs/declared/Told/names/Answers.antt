use Rattle.std.proofs.Common.{◌≡◌, ◌∙◌, ◌<◌, ap, arith, false, length, subst}
use Rattle.std.specs.Prelude.{◌||◌}
use Rattle.cb_names.specs.Scoped.{is_bare, is_enumerator}
use Rattle.cb_names.specs.Tables.{IsTable}
use Rattle.cb_names.proofs.TableLemmas.{push}
use Rattle.cb_names.proofs.declared.Told.names.Goals as goal

pub loop-at-preserved : goal.loop-at-preserved
loop-at-preserved c =
    let xs = c.args.self.now.shape.now.items.items in
    let own = c.args.self.now.own in
    let b = c.args.self.now.shape.now.body in
    let k = c.loop-at.at in
    let items = c.args.self.now.shape.now.items in
    let within : k < length xs = omega (arith, c.loop-at-test.true, c.len-at-end.ensures, items.ok) in
    λ f t. push (λ i. f i || is_bare xs own b i || is_enumerator xs b i) k _ _ _ (c.loop-at.invariant f t)
    c.in_ok-push.ensures.items
    (c.declares.ensures ∙ ap (λ d. d || is_bare xs own b k || is_enumerator xs b k) (t.at k false within))

pub returns : goal.returns
returns c =
    let xs = c.args.self.now.shape.now.items.items in
    let own = c.args.self.now.own in
    let b = c.args.self.now.shape.now.body in
    let items = c.args.self.now.shape.now.items in
    let end : c.loop-at.at ≡ length xs
    = omega (arith, c.loop-at-test.false, c.loop-at.auto.at-end, c.len-at-end.ensures, items.ok) in
    λ f t. subst (λ n. IsTable (λ i. f i || is_bare xs own b i || is_enumerator xs b i) n c.loop-at.names.items) end
    (c.loop-at.invariant f t)
