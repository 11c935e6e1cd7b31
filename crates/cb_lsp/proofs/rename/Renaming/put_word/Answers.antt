use Rattle.std.proofs.Common.{false, subst, sym}
use Rattle.cb_lsp.specs.Bodies.{Replies}
use Rattle.cb_wire.specs.Messages.{id_json}
use Rattle.cb_lsp.specs.Messages.{reply_unless}
use Rattle.cb_lsp.specs.NameRenames.{renamed_word}
use Rattle.cb_lsp.specs.steps.Located.{client_in}
use Rattle.cb_lsp.specs.steps.Renames.{work_in}
use Rattle.cb_lsp.proofs.Notices.{quiet}
use Rattle.cb_lsp.proofs.rename.Renaming.put_word.Goals as goal

pub returns-in-Some : goal.returns-in-Some
returns-in-Some g c =
    let finds = g.D.Disk.finds c.args.disk.now in
    let f = c.args.self.now in
    let named = c.put_named.ensures in (
      named.0,
      named.1,
      subst (λ x. Replies finds (reply_unless named.0 (id_json c.args.id) (renamed_word named.1
          (client_in f.asked.forms) (work_in f) f.asked.name.now f.asked.source.now c.args.space f.new_name.now x))
          c.args.out.now c.put_named.new.out c.put_named.result)
          (sym c.in-Some.is) named.2,
    )

pub returns-in-None : goal.returns-in-None
returns-in-None g c =
    let finds = g.D.Disk.finds c.args.disk.now in
    let f = c.args.self.now in (
      false,
      quiet,
      subst (λ x. Replies finds (reply_unless false (id_json c.args.id) (renamed_word quiet (client_in f.asked.forms)
          (work_in f) f.asked.name.now f.asked.source.now c.args.space f.new_name.now x)) c.args.out.now
          c.put_refused.new.out c.put_refused.result)
          (sym c.in-None.is) (c.put_refused.ensures, tt),
    )
