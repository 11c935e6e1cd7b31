-- The first token that might have been of an attribute joins those that are of none.
use Rattle.std.proofs.Common.{◌∙◌, ◌-◌, ◌<◌, ◌++◌, ap, arith, drop, length, take}
use Rattle.std.proofs.lemmas.List.{length-take}
use Rattle.cb_scan.proofs.Windows.{kept, popped}
use Rattle.cb_scan.proofs.rules.wide.window.Window.keep.Goals as goal

pub returns : goal.returns
returns c =
    let w = c.self.inside in
    let some = c.requires in
    let long = ap (λ v. length v.raw) c.self.view_is in
    let less : w.raw < w.end = omega (arith, length-take (w.end - w.raw) (drop w.raw w.items)) in
    let bare = kept w.start w.raw w.end w.items (omega arith) less
    ∙ ap (λ v. v.bare ++ take 1 v.raw) c.self.view_is in
    let raw = popped w.raw w.end w.items less ∙ ap (λ v. drop 1 v.raw) c.self.view_is in
    (λ k. record { bare = bare k; raw = raw k })
