-- Where one byte tells all, it alone changes.
use Rattle.std.proofs.Common.{◌∙◌, sym, ap}
use Rattle.cb_scan.specs.declared.rules.wide.sight.Early.{Early}
use Rattle.cb_scan.specs.declared.rules.wide.sight.Sight.{Sight}
use Rattle.cb_scan.specs.steps.wide.Sights.{is_late, look, sight_by}
use Rattle.cb_scan.specs.steps.wide.Tokens.{token_after}
use Rattle.cb_scan.proofs.WideGlance.{glance_is}
use Rattle.cb_scan.proofs.rules.wide.sight.Watch.glance.Goals as goal

pub returns-else-is_late-clause-value : goal.returns-else-is_late-clause-value
returns-else-is_late-clause-value c =
    let s = c.self.inside.sight in
    let is = c.early_past-early.ensures in
    let late = ap is_late (sym is) ∙ sym c.is_late.ensures ∙ c.if-is_late.false in
    ap (λ (e : Early). sight_by e s) is
    ∙ glance_is c.args.text.now c.args.before s c.args.token.now c.self.inside.early late
    ∙ ap (λ (z : Sight). look z (token_after c.args.text.now c.args.before c.args.token.now))
    c.self.view_is
