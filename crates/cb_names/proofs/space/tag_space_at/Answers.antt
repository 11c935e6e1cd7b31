use Rattle.std.proofs.Common.{◌≡◌, ◌∙◌, ◌-◌, ap, arith, suc, sym}
use Rattle.std.specs.Prelude.{cond}
use Rattle.cb_names.specs.Pairs.{at}
use Rattle.cb_names.specs.SpaceAt.{tag_space_at, tag_space}
use Rattle.cb_names.proofs.space.tag_space_at.Goals as goal

pub tokens-preserved : goal.tokens-preserved
unfolding tag_space_at
tokens-preserved c =
    let xs = c.args.items.now in
    let k = c.tokens.left - 1 in
    let next : c.tokens.left ≡ suc k = omega (arith, c.tokens-test.true) in
    sym (ap (λ b. cond b (tag_space (at xs k).token.role) (tag_space_at xs k))
    (sym c.is_keyword_at.ensures ∙ c.if-is_keyword_at.false))
    ∙ ap (tag_space_at xs) (sym next) ∙ c.tokens.invariant
