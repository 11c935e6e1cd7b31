use Rattle.std.proofs.Common.{◌∙◌, Option, false, subst, sym}
use Rattle.cb_scan.specs.declared.lex.piece.Span.{Span}
use Rattle.cb_wire.specs.Messages.{id_json}
use Rattle.cb_lsp.specs.Bodies.{Replies}
use Rattle.cb_lsp.specs.LocalRenames.{renamed_parameter}
use Rattle.cb_lsp.specs.Messages.{reply_unless}
use Rattle.cb_lsp.specs.steps.Located.{client_in}
use Rattle.cb_lsp.specs.steps.Renames.{work_in}
use Rattle.cb_lsp.proofs.Notices.{quiet}
use Rattle.cb_lsp.proofs.rename.Renaming.put_parameter.Goals as goal

pub returns-in-Some : goal.returns-in-Some
returns-in-Some g c =
    let f = c.args.self.now in
    let p = c.args.parameter.now in
    let call = c.put_parameter_from in
    let put = call.ensures in (
      put.0,
      put.1,
      subst (λ (d : Option Span). Replies (g.D.Disk.finds c.args.disk.now) (reply_unless put.0 (id_json c.args.id)
          (renamed_parameter put.1 (client_in f.asked.forms) (work_in f) f.asked.name.now f.asked.source.now
          f.new_name.now p d)) c.args.out.now call.new.out call.result)
          (sym c.in-Some.is ∙ c.definition.ensures ∙ (λ i. (c.local.ensures i).definition)) put.2,
    )

pub returns-in-None : goal.returns-in-None
returns-in-None g c =
    let f = c.args.self.now in
    let p = c.args.parameter.now in
    let call = c.put_refused in (
      false,
      quiet,
      subst (λ (d : Option Span). Replies (g.D.Disk.finds c.args.disk.now) (reply_unless false (id_json c.args.id)
          (renamed_parameter quiet (client_in f.asked.forms) (work_in f) f.asked.name.now f.asked.source.now
          f.new_name.now p d)) c.args.out.now call.new.out call.result)
          (sym c.in-None.is ∙ c.definition.ensures ∙ (λ i. (c.local.ensures i).definition))
          (call.ensures, tt),
    )
