-- The first token that might have been of an attribute is left out.
use Rattle.std.proofs.Common.{◌∙◌, ◌-◌, ◌<◌, ap, arith, drop, length}
use Rattle.std.proofs.lemmas.List.{length-take}
use Rattle.cb_scan.proofs.Windows.{before_left_out, held, left_out}
use Rattle.cb_scan.proofs.rules.wide.window.Window.leave_out.Goals as goal

pub returns : goal.returns
returns c =
    let w = c.self.inside in
    let some = c.requires in
    let long = ap (λ v. length v.raw) c.self.view_is in
    let less : w.raw < w.end = omega (arith, length-take (w.end - w.raw) (drop w.raw w.items)) in
    let after = c.copy_within.ensures.after in
    let bare = ap (held w.start w.raw) after
    ∙ before_left_out w.raw w.end w.items less (omega arith) w.start (omega arith)
    ∙ ap (λ v. v.bare) c.self.view_is in
    let raw = ap (held w.raw (w.end - 1)) after
    ∙ left_out w.raw w.end w.items less (omega arith)
    ∙ ap (λ v. drop 1 v.raw) c.self.view_is in
    (λ k. record { bare = bare k; raw = raw k })
