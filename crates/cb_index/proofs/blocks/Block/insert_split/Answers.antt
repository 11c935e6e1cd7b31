use Rattle.std.proofs.Common.{◌∙◌, ◌-◌, ◌++◌, ◌∷◌, take, drop, arith}
use Rattle.cb_index.specs.declared.blocks.TheConstants.{HALF}
use Rattle.cb_index.proofs.BlockLemmas.{in_lower, in_upper}
use Rattle.cb_index.proofs.blocks.Block.insert_split.Goals as goal

pub returns-then-at-le-HALF-clause-both : goal.returns-then-at-le-HALF-clause-both
returns-then-at-le-HALF-clause-both t c =
    (λ i. c.insert.ensures i ++ c.split.ensures.upper i)
    ∙ (λ i. (take c.args.at (c.split.ensures.lower i) ++ c.args.one
    ∷ drop c.args.at (c.split.ensures.lower i)) ++ drop HALF c.args.self.now)
    ∙ in_lower c.args.one c.args.at HALF c.args.self.now c.if-at-le-HALF.true

pub returns-else-at-le-HALF-clause-both : goal.returns-else-at-le-HALF-clause-both
returns-else-at-le-HALF-clause-both t c =
    (λ i. c.split.ensures.lower i ++ c.insert-else-at-le-HALF.ensures i)
    ∙ (λ i. take HALF c.args.self.now ++ (take (c.args.at - HALF) (c.split.ensures.upper i)
    ++ c.args.one ∷ drop (c.args.at - HALF) (c.split.ensures.upper i)))
    ∙ in_upper c.args.one HALF c.args.at c.args.self.now (omega (arith, c.if-at-le-HALF.false))
