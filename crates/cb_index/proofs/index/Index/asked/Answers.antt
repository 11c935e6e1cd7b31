use Rattle.std.proofs.Common.{◌∙◌, sym, ap, filter}
use Rattle.cb_index.specs.Held.{Indexed}
use Rattle.cb_index.specs.steps.ToCome.{is_asked}
use Rattle.cb_index.proofs.DefSearchLemmas.{all_asked}
use Rattle.cb_index.proofs.index.Index.asked.Goals as goal

pub returns-in-Every : goal.returns-in-Every
returns-in-Every c =
    let x = c.args.self.now in
    let a = c.args.archive.now in
    c.items.ensures ∙ ap (λ (x : Indexed). x.held) c.self.view_is
    ∙ sym (all_asked x.kind a x.held)
    ∙ ap (λ asked. filter (is_asked x.kind a asked) x.held) (sym c.in-Every.is)
