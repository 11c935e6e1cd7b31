-- No token that is of no attribute is left.
use Rattle.std.proofs.Common.{◌≡◌, ◌-◌, ap, arith, drop, take}
use Rattle.cb_scan.proofs.rules.wide.window.Window.clear.Goals as goal

pub returns : goal.returns
returns c =
    let w = c.self.inside in
    let none : w.raw - w.raw ≡ 0 = omega arith in
    let bare = ap (λ n. take n (drop w.raw w.items)) none in
    let raw = ap (λ v. v.raw) c.self.view_is in
    (λ k. record { bare = bare k; raw = raw k })
