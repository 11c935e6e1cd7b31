-- One more token.
use Rattle.std.proofs.Common.{◌≡◌, ◌∙◌, ◌+◌, ◌-◌, ◌<◌, [], ◌∷◌, ◌++◌, ap, arith, drop, length}
use Rattle.std.proofs.Math.ListN.{set}
use Rattle.std.proofs.lemmas.List.{length-drop, length-take}
use Rattle.cb_scan.proofs.Windows.{front, held, moved, pushed, set_beyond}
use Rattle.cb_scan.proofs.rules.wide.window.Window.push.Goals as goal
use Rattle.cb_scan.proofs.rules.wide.window.Window.push.Goals.{then-self-eq-ROOM, else-self-eq-ROOM}

pub returns : goal.returns
returns c =
    let i = c.self.inside in
    let item = c.args.item in
    let fits = c.requires in
    let bare_long = ap (λ v. length v.bare) c.self.view_is in
    let raw_long = ap (λ v. length v.raw) c.self.view_is in
    let room : length i.items ≡ 64 = omega arith in
    let few : i.end - i.start < 64 =
    omega (
      arith,
      length-take (i.raw - i.start) (drop i.start i.items),
      length-take (i.end - i.raw) (drop i.raw i.items),
      length-drop i.start i.items,
      length-drop i.raw i.items,
    ) in
    elim c.if-self-eq-ROOM.branch [
      | then-self-eq-ROOM w ↦
          let ys = w.copy_within.new.self in
          let len = w.copy_within.ensures.len in
          let bare = ap (λ v. held v.start v.raw (set v.items v.end item)) w.self-inside-is
          ∙ set_beyond (i.end - i.start) 0 (i.raw - i.start) ys item (omega arith) (omega arith)
          ∙ ap (held 0 (i.raw - i.start)) w.copy_within.ensures.after
          ∙ front i.start i.raw i.end i.items (omega arith) (omega arith) (omega arith)
          ∙ ap (λ v. v.bare) c.self.view_is in
          let raw = ap (λ v. held v.raw (v.end + 1) (set v.items v.end item)) w.self-inside-is
          ∙ pushed (i.raw - i.start) (i.end - i.start) ys item (omega arith) (omega arith)
          ∙ ap (λ l. l ++ (item ∷ []))
          (ap (held (i.raw - i.start) (i.end - i.start)) w.copy_within.ensures.after
          ∙ moved i.start i.raw i.end i.end i.items (omega arith) (omega arith) (omega arith)
          (omega arith)
          ∙ ap (λ v. v.raw) c.self.view_is) in
          (λ k. record { bare = bare k; raw = raw k })
      | else-self-eq-ROOM w ↦
          let other = w.if-self-eq-ROOM.false in
          let bare = ap (λ v. held v.start v.raw (set v.items v.end item)) w.self-inside-is
          ∙ set_beyond i.end i.start i.raw i.items item (omega arith) (omega arith)
          ∙ ap (λ v. v.bare) c.self.view_is in
          let raw = ap (λ v. held v.raw (v.end + 1) (set v.items v.end item)) w.self-inside-is
          ∙ pushed i.raw i.end i.items item (omega arith) (omega arith)
          ∙ ap (λ v. v.raw ++ (item ∷ [])) c.self.view_is in
          (λ k. record { bare = bare k; raw = raw k })
    ]
