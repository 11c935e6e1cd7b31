use Rattle.std.proofs.Common.{◌∙◌, inl}
use Rattle.cbrowse.proofs.Buffers.{before-buffer, behind-buffer}
use Rattle.cbrowse.proofs.execute.run.Goals as goal

pub returns : goal.returns
returns g c =
    inl (
      c.new-feed.result,
      c.execute_process.new.feed,
      c.new-out.result,
      c.execute_process.new.out,
      (
        c.new-feed.ensures.stage,
        c.new-feed.ensures.bytes
            ∙ behind-buffer g.I.Read.remaining c.in-Ok.reader c.args.input c.in-Ok.ensures.inner
            c.in-Ok.ensures.empty c.in-Ok.ensures.capacity,
      ),
      (
        c.new-out.ensures.fine.0,
        c.new-out.ensures.bytes
            ∙ before-buffer g.O.Write.contents c.in-Ok-new.writer c.args.output c.in-Ok-new.ensures.inner
            c.in-Ok-new.ensures.empty,
      ),
      c.execute_process.ensures,
    )
