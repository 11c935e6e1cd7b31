use Rattle.std.proofs.Common.{◌∙◌, false, true, ap}
use Rattle.std.specs.Prelude.{sum_by}
use Rattle.std.specs.List.{flat_map}
use Rattle.cb_index.specs.Counts.{rows_in_files, unlike_in_files}
use Rattle.cb_index.specs.Rows.{facts_named, file_facts}
use Rattle.cb_index.specs.Shelved.{Shelved, files}
use Rattle.cb_index.specs.steps.Searched.{searched_at, searched_count}
use Rattle.cb_index.proofs.SearchLemmas.{counted_searched, facts_searched, new_searched}
use Rattle.cb_index.proofs.shelf.Shelf.facts.Goals as goal

pub returns-clause-rows : goal.returns-clause-rows
returns-clause-rows c =
    let s = c.self.inside in
    let kind = c.args.kind in
    let key = c.args.key.now in
    c.searched.ensures.rows
    ∙ ap (flat_map (searched_at true kind s.archive key)) c.files.ensures
    ∙ facts_searched kind s.archive key s.shown.items c.self.invariant.0.there
    ∙ ap (λ (v : Shelved). facts_named v.archive.profile kind key (files v)) c.self.view_is

pub returns-clause-new : goal.returns-clause-new
returns-clause-new c =
    let s = c.self.inside in
    let kind = c.args.kind in
    let key = c.args.key.now in
    c.searched.ensures.new
    ∙ ap (flat_map (searched_at false kind s.archive key)) c.files.ensures
    ∙ new_searched kind s.archive key s.shown.items c.self.invariant.0.there
    ∙ ap (λ (v : Shelved). unlike_in_files kind (file_facts v.archive.profile kind key) (files v))
    c.self.view_is

pub returns-clause-counted : goal.returns-clause-counted
returns-clause-counted c =
    let s = c.self.inside in
    let kind = c.args.kind in
    let key = c.args.key.now in
    c.searched.ensures.counted
    ∙ ap (sum_by (searched_count kind s.archive key)) c.files.ensures
    ∙ counted_searched kind s.archive key s.shown.items c.self.invariant.0.there
    ∙ ap (λ (v : Shelved). rows_in_files kind (file_facts v.archive.profile kind key) (files v))
    c.self.view_is
