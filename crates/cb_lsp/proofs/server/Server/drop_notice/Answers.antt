use Rattle.std.proofs.Common.{append-nil, subst, sym}
use Rattle.cb_tags.specs.Writing.{PutsAll, PutsPrefix}
use Rattle.cb_wire.specs.Texts.{frame}
use Rattle.cb_wire.specs.Values.{value_text}
use Rattle.cb_lsp.specs.Messages.{unread}
use Rattle.cb_lsp.proofs.Dropped.{first-fails, then-lost}
use Rattle.cb_lsp.proofs.server.Server.drop_notice.Goals as goal

pub returns-in-Ok : goal.returns-in-Ok
returns-in-Ok g c =
    let j = unread c.args.uri.now in
    then-lost c.args.self.now c.lose_all.new.self j c.args.out.now c.put_unread.new.out
    c.lose_all.new.out c.lose_all.result
    (subst (PutsAll c.args.out.now c.put_unread.new.out) (sym (append-nil (frame (value_text j))))
    c.in-Ok.ensures) c.lose_all.ensures

pub returns-in-Err : goal.returns-in-Err
returns-in-Err g c =
    let j = unread c.args.uri.now in (
      tt,
      first-fails c.args.self.now j c.args.out.now c.put_unread.new.out
          (subst (PutsPrefix c.args.out.now c.put_unread.new.out)
          (sym (append-nil (frame (value_text j)))) c.in-Err.ensures),
    )
