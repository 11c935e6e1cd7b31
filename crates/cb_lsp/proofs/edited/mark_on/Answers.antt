use Rattle.std.proofs.Common.{◌≡◌, ◌∙◌, ◌+◌, ◌≤◌, ap, arith, drop, length, subst, sym, take}
use Rattle.cb_wire.specs.Positions.{line_feeds}
use Rattle.cb_lsp.specs.steps.LineMarks.{IsLineMark}
use Rattle.cb_lsp.proofs.LineMarks.{mark-on}
use Rattle.cb_lsp.proofs.edited.mark_on.Goals as goal

pub returns : goal.returns
returns c =
    let text = c.args.text.now in
    let mark = c.args.mark in
    let rest = drop mark.place text in
    let counted : c.feeds_in.result ≡ line_feeds (take 240 rest) =
    c.feeds_in.ensures
    ∙ ap line_feeds (c.split_at-2.ensures.front ∙ ap (take 240) c.split_at.ensures.back) in
    let few : 240 ≤ length rest = omega (
      arith,
      c.if-rest-lt-BLOCK.false,
      ap length c.split_at.ensures.back,
    ) in (
      subst (λ n. IsLineMark text (mark.place + 240) (mark.feeds + n)) (sym counted)
          (mark-on text mark.place mark.feeds c.requires 240 few),
      omega arith,
    )
