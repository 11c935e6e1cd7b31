-- Without the next token.
use Rattle.std.proofs.Common.{◌∙◌, ◌-◌, ◌<◌, ap, arith, drop, length}
use Rattle.std.proofs.lemmas.List.{length-take}
use Rattle.cb_scan.proofs.Windows.{popped}
use Rattle.cb_scan.proofs.rules.wide.window.Window.pop.Goals as goal

pub returns : goal.returns
returns c =
    let w = c.self.inside in
    let some = c.requires in
    let long = ap (λ v. length v.bare) c.self.view_is in
    let less : w.start < w.raw = omega (arith, length-take (w.raw - w.start) (drop w.start w.items)) in
    let bare = popped w.start w.raw w.items less ∙ ap (λ v. drop 1 v.bare) c.self.view_is in
    let raw = ap (λ v. v.raw) c.self.view_is in
    (λ k. record { bare = bare k; raw = raw k })
