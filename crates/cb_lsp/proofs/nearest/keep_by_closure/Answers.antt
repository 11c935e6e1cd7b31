use Rattle.std.proofs.Common.{rules, ◌≡◌, ◌∙◌, ap, subst, sym, true, false, filter, map}
use Rattle.std.specs.Prelude.{IfOk, if◌then◌else◌}
use Rattle.std.specs.List.{list_any}
use Rattle.std.specs.Str.{bytes_eq}
use Rattle.cb_tags.specs.TagLines.{Tag, tag_of}
use Rattle.cb_lsp.specs.Nearest.{included_or_near, is_in_view, is_own, is_preferred, narrowed}
use Rattle.cb_lsp.specs.Nearest.{own_or_near}
use Rattle.cb_lsp.specs.steps.Closures.{is_held}
use Rattle.cb_lsp.proofs.nearest.keep_by_closure.Goals as goal

pub returns-then-passes_one : goal.returns-then-passes_one
returns-then-passes_one c =
    let ts = map tag_of c.args.rows.now.items in
    let from = c.args.from.now in
    let inside = is_held c.args.closure.now in
    let own = is_own from c.args.declarations in
    let here = λ (t : Tag). bytes_eq t.file from in
    let preferred = λ (t : Tag). is_preferred c.args.declarations t.kind in
    let us = narrowed preferred (narrowed (is_in_view inside) ts) in
    let left : map tag_of c.narrow-2.new.rows.items ≡ us =
    c.narrow-2.ensures ∙ ap (narrowed preferred) c.narrow.ensures in
    let some-left : list_any here (map tag_of c.narrow-2.new.rows.items) ≡ true = search rules in
    let some : list_any here us ≡ true = ap (list_any here) (sym left) ∙ some-left in
    c.keep.ensures ∙ ap (filter here) left
    ∙ ap (λ b. if b then filter here us else included_or_near from inside us) (sym some)
    ∙ ap (λ b. if b then filter own ts else own_or_near from inside us) (sym c.requires)

pub returns : goal.returns
returns c =
    let ts = map tag_of c.args.rows.now.items in
    let from = c.args.from.now in
    let inside = is_held c.args.closure.now in
    let own = is_own from c.args.declarations in
    let here = λ (t : Tag). bytes_eq t.file from in
    let preferred = λ (t : Tag). is_preferred c.args.declarations t.kind in
    let us = narrowed preferred (narrowed (is_in_view inside) ts) in
    let left : map tag_of c.narrow-2.new.rows.items ≡ us =
    c.narrow-2.ensures ∙ ap (narrowed preferred) c.narrow.ensures in
    let none-left : list_any here (map tag_of c.narrow-2.new.rows.items) ≡ false = search rules in
    let none : list_any here us ≡ false = ap (list_any here) (sym left) ∙ none-left in
    subst (λ vs. IfOk c.keep_included_or_near.result
    (λ x. map tag_of c.keep_included_or_near.new.rows.items ≡ vs))
    (ap (included_or_near from inside) left
    ∙ ap (λ b. if b then filter here us else included_or_near from inside us) (sym none)
    ∙ ap (λ b. if b then filter own ts else own_or_near from inside us) (sym c.requires))
    c.keep_included_or_near.ensures
