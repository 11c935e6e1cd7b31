use Rattle.std.proofs.Common.{subst, ◌++◌, ◌+◌}
use Rattle.cb_tags.specs.Writing.{Puts}
use Rattle.cb_tags.proofs.Prefixes.{Puts-after, Puts-fault, PutsPrefix-more}
use Rattle.cb_wire.specs.Replies.{result_front}
use Rattle.cb_wire.specs.Texts.{frame_head}
use Rattle.cb_wire.proofs.reply.put_result_front.Goals as goal

pub returns-in_err-put_head : goal.returns-in_err-put_head
returns-in_err-put_head g c =
    subst (λ n. Puts c.args.out.now c.put_head.new.out c.from_residual.result
    (frame_head (n + c.args.length + 1) ++ result_front c.args.id)) c.parts_length.ensures.value
    (Puts-fault _ _ _ _ _ c.from_residual.ensures.1
    (PutsPrefix-more _ _ _ _ c.in_err-put_head.ensures))

pub returns : goal.returns
returns g c =
    subst (λ n. Puts c.args.out.now c.put_parts.new.out c.put_parts.result
    (frame_head (n + c.args.length + 1) ++ result_front c.args.id)) c.parts_length.ensures.value
    (Puts-after _ _ _ _ _ _ c.in_ok-put_head.ensures c.put_parts.ensures)
