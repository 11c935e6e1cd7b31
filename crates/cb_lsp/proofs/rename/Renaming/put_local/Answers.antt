use Rattle.std.proofs.Common.{ap, ◌∙◌, Option, Some, false, subst, sym, true}
use Rattle.cb_names.specs.FunctionNames.{FunctionNames, function_names}
use Rattle.cb_scan.specs.declared.lex.piece.Span.{Span}
use Rattle.cb_wire.specs.Messages.{id_json}
use Rattle.cb_lsp.specs.Bodies.{Replies}
use Rattle.cb_lsp.specs.LocalRenames.{renamed_local}
use Rattle.cb_lsp.specs.Messages.{reply_unless}
use Rattle.cb_lsp.specs.steps.Located.{client_in}
use Rattle.cb_lsp.specs.steps.Renames.{work_in}
use Rattle.cb_lsp.proofs.Notices.{quiet}
use Rattle.cb_lsp.proofs.rename.Renaming.put_local.Goals as goal

pub returns-in_default : goal.returns-in_default
returns-in_default g c =
    let f = c.args.self.now in
    let call = c.put_refused in (
      false,
      quiet,
      subst (λ (d : Option Span). Replies (g.D.Disk.finds c.args.disk.now) (reply_unless false (id_json c.args.id)
          (renamed_local quiet (client_in f.asked.forms) (work_in f) f.asked.name.now f.asked.source.now
          f.new_name.now c.args.own.now d (function_names f.asked.source.now c.args.place))) c.args.out.now
          call.new.out call.result)
          (sym c.in_default.is ∙ c.definition.ensures) (call.ensures, tt),
    )

pub returns-in-Ok-Some : goal.returns-in-Ok-Some
returns-in-Ok-Some g c =
    let f = c.args.self.now in
    let call = c.put_in_function in
    let put = call.ensures in (
      put.0,
      put.1,
      subst (λ (d : Option Span). Replies (g.D.Disk.finds c.args.disk.now) (reply_unless put.0 (id_json c.args.id)
          (renamed_local put.1 (client_in f.asked.forms) (work_in f) f.asked.name.now f.asked.source.now
          f.new_name.now c.args.own.now d (function_names f.asked.source.now c.args.place))) c.args.out.now
          call.new.out call.result)
          (sym c.in-Some.is ∙ c.definition.ensures)
          (subst (λ (n : Option FunctionNames). Replies (g.D.Disk.finds c.args.disk.now) (reply_unless put.0
          (id_json c.args.id) (renamed_local put.1 (client_in f.asked.forms) (work_in f) f.asked.name.now
          f.asked.source.now f.new_name.now c.args.own.now (Some c.in-Some.definition) n)) c.args.out.now
          call.new.out call.result) (sym c.in-Ok-Some.field-0-is ∙ c.in-Ok-Some.ensures
          ∙ ap (λ t. function_names t c.args.place) c.requires.code) put.2),
    )

pub returns-in-Ok-None : goal.returns-in-Ok-None
returns-in-Ok-None g c =
    let f = c.args.self.now in
    let call = c.put_refused-in-Ok-None in (
      false,
      quiet,
      subst (λ (d : Option Span). Replies (g.D.Disk.finds c.args.disk.now) (reply_unless false (id_json c.args.id)
          (renamed_local quiet (client_in f.asked.forms) (work_in f) f.asked.name.now f.asked.source.now
          f.new_name.now c.args.own.now d (function_names f.asked.source.now c.args.place))) c.args.out.now
          call.new.out call.result)
          (sym c.in-Some.is ∙ c.definition.ensures)
          (subst (λ (n : Option FunctionNames). Replies (g.D.Disk.finds c.args.disk.now) (reply_unless false
          (id_json c.args.id) (renamed_local quiet (client_in f.asked.forms) (work_in f) f.asked.name.now
          f.asked.source.now f.new_name.now c.args.own.now (Some c.in-Some.definition) n)) c.args.out.now
          call.new.out call.result) (sym c.in-Ok-None.field-0-is ∙ c.in-Ok-None.ensures
          ∙ ap (λ t. function_names t c.args.place) c.requires.code) (call.ensures, tt)),
    )

pub returns-in-Err : goal.returns-in-Err
returns-in-Err g c = (true, quiet, (c.put_refusal.ensures, tt))
