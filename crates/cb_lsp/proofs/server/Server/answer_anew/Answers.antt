use Rattle.std.proofs.Common.{◌∙◌, ap, map, sym, true, false}
use Rattle.std.specs.Prelude.{Ok}
use Rattle.cb_wire.specs.Messages.{id_json}
use Rattle.cb_lsp.specs.Messages.{Serving, answered, answered_after, asked_reply}
use Rattle.cb_lsp.specs.Models.{asked_of}
use Rattle.cb_lsp.specs.Refresh.{files_asked}
use Rattle.cb_lsp.specs.steps.Works.{only}
use Rattle.cb_lsp.proofs.Answered.{by-as, by-reply, by-same}
use Rattle.cb_lsp.proofs.Notices.{behind}
use Rattle.cb_lsp.proofs.Refreshed.{answered-at-once, answered-behind, answered-unread}
use Rattle.cb_lsp.proofs.server.Server.answer_anew.Goals as goal

pub returns-then-self : goal.returns-then-self
returns-then-self g c =
    let s = c.args.self.now in
    let id = id_json c.args.id in
    let asked = asked_of c.args.question in
    let o = c.answer.ensures.put.0 in (
      o,
      by-reply (g.D.Disk.finds c.args.disk.now) (answered o s id (Ok asked)) s c.answer.new.self
          (asked_reply o s id (Ok asked)) c.args.out.now c.answer.new.out c.answer.result
          (answered-at-once s id asked o
          (sym (ap (λ (x : Serving). x.watches) c.self.view_is) ∙ c.if-self.true))
          c.answer.ensures.same c.answer.ensures.put.1,
    )

pub returns-in-Err : goal.returns-in-Err
returns-in-Err g c =
    let s = c.args.self.now in
    let id = id_json c.args.id in
    let asked = asked_of c.args.question in (
      only true,
      by-as (g.D.Disk.finds c.args.disk.now) (answered (only true) s id (Ok asked)) s
          c.settle.new.self _ c.args.out.now c.put_refusal.new.out c.put_refusal.result
          (answered-unread s id asked
          (sym (ap (λ (x : Serving). x.watches) c.self.view_is) ∙ c.if-self.false))
          c.settle.ensures c.put_refusal.ensures,
    )

pub returns-in-Ok : goal.returns-in-Ok
returns-in-Ok g c =
    let s = c.args.self.now in
    let id = id_json c.args.id in
    let asked = asked_of c.args.question in
    let ns = map (λ name. name.items) c.as_slice.result.now in
    let o = c.answer_after.ensures.0 in
    let client = c.forms.ensures ∙ ap (λ (x : Serving). x.client) c.settle.ensures in
    let world = c.desk.ensures
    ∙ ap (λ (x : Serving). x.work.world) (c.self-2.view_is ∙ c.settle.ensures) in (
      behind false o,
      by-same (g.D.Disk.finds c.args.disk.now) (answered (behind false o) s id (Ok asked))
          (answered_after o c.settle.new.self id asked ns) c.answer_after.new.self c.args.out.now
          c.answer_after.new.out c.answer_after.result
          (ap (λ (x : Serving). answered_after o x id asked ns) c.settle.ensures
          ∙ answered-behind s id asked o ns
          (sym (ap (λ (x : Serving). x.watches) c.self.view_is) ∙ c.if-self.false)
          (c.as_slice.ensures ∙ c.in-Ok.ensures ∙ (λ i. files_asked (client i) (world i) asked)))
          c.answer_after.ensures.1,
    )
