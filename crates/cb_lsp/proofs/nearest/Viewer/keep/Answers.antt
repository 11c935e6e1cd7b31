use Rattle.std.proofs.Common.{◌≡◌, ◌∙◌, subst, map, ℕ, List}
use Rattle.std.specs.Prelude.{IfOk, IfSome}
use Rattle.cb_tags.specs.TagLines.{tag_of}
use Rattle.cb_lsp.specs.Nearest.{shown_by}
use Rattle.cb_lsp.specs.steps.Closures.{is_held}
use Rattle.cb_lsp.specs.steps.Nearby.{seen_by}
use Rattle.cb_lsp.proofs.nearest.Viewer.keep.Goals as goal

pub returns-in-Some-clause-rows : goal.returns-in-Some-clause-rows
returns-in-Some-clause-rows c =
    let v = c.args.self.now in
    let known : (name : List ℕ) → is_held c.in-Some.closure name ≡ seen_by v name =
    subst (λ o. IfSome o (λ k. (name : List ℕ) → is_held k name ≡ seen_by v name)) c.in-Some.is
    c.requires.known in
    subst (λ inside. IfOk c.keep_by_closure.result (λ x. map tag_of c.keep_by_closure.new.rows.items
    ≡ shown_by v.from.now inside c.args.declarations (map tag_of c.args.rows.now.items)))
    (λ i name. known name i) c.keep_by_closure.ensures

pub returns-clause-rows : goal.returns-clause-rows
returns-clause-rows c =
    c.in_ok-keep_by_closure.ensures
    ∙ (λ i. shown_by c.args.self.now.from.now (λ name. c.in_ok-closure.ensures name i)
    c.args.declarations (map tag_of c.args.rows.now.items))
