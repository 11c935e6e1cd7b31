use Rattle.std.proofs.Common.{rules, ◌≡◌, ◌∙◌, ◌≤◌, ap, sym, List, false, filter, length, map}
use Rattle.std.proofs.lemmas.List.{length-map}
use Rattle.cb_tags.specs.TagLines.{Tag, tag_of}
use Rattle.cb_lsp.specs.declared.nearest.Kinds.{Kinds}
use Rattle.cb_lsp.specs.Nearest.{is_members, kinds_at, shown, shown_by, shown_of, takes}
use Rattle.cb_lsp.specs.steps.Nearby.{seen_by}
use Rattle.cb_lsp.proofs.NearestShown.{shown-few}
use Rattle.cb_lsp.proofs.nearest.Viewer.shown.Goals as goal
use Rattle.cb_lsp.proofs.nearest.Viewer.shown.Goals.{then-len-gt1+in_ok-keep, else-len-gt1}

pub returns-clause-rows : goal.returns-clause-rows
returns-clause-rows c =
    let v = c.args.self.now in
    let from = v.from.now in
    let inside = seen_by v in
    let ds = c.args.declarations in
    let kinds = c.kinds_at-kinds.result in
    let found = map tag_of c.in_ok-found.found.items in
    let taken : Kinds → List Tag = λ ks. filter (λ (t : Tag). takes ks t.kind) c.args.rows in
    let others : is_members kinds ≡ false = search rules in
    let wanted : shown_by from inside ds found
    ≡ shown from inside (kinds_at c.args.space c.args.rows) ds c.args.rows =
    ap (shown_by from inside ds) c.in_ok-found.ensures
    ∙ ap (λ b. shown_of from inside b ds (taken kinds)) (sym others)
    ∙ ap (λ ks. shown from inside ks ds c.args.rows) c.kinds_at-kinds.ensures in
    elim c.if-len-gt1.branch [
      | then-len-gt1+in_ok-keep w ↦ ap (λ f. map tag_of f.items) w.found-is ∙ w.in_ok-keep.ensures.rows ∙ wanted
      | else-len-gt1 w ↦
          let few : length found ≤ 1 = search (rules, length-map c.in_ok-found.found.items tag_of) in
          ap (λ f. map tag_of f.items) w.found-is ∙ shown-few from inside ds found few ∙ wanted
    ]
