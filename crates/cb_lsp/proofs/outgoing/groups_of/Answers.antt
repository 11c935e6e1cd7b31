use Rattle.std.proofs.Common.{◌∙◌, ◌+◌, ◌++◌, [], ◌∷◌, ap, drop, length, sym}
use Rattle.std.proofs.lemmas.List.{append-nil, map-append}
use Rattle.cb_lsp.specs.Calls.{cut_by}
use Rattle.cb_lsp.specs.Outgoing.{have_one_name}
use Rattle.cb_lsp.specs.steps.Outgoing.{callee_rows, group_in, group_rows}
use Rattle.cb_lsp.proofs.Outgoings.{groups-step}
use Rattle.cb_lsp.proofs.outgoing.groups_of.Goals as goal

pub names-preserved : goal.names-preserved
names-preserved c =
    let rows = c.args.rows.now in
    let group = c.in-Some.group in
    let made = c.names.groups.items in
    let more = groups-step rows c.split_at.result.1.now c.names.given group (group_rows made)
    (cut_by have_one_name (callee_rows rows)) c.names.invariant.within c.split_at.ensures.back
    c.in-Some.ensures c.names.invariant.made in
    record {
      within = more.0;
      made = ap (λ gs. gs ++ cut_by have_one_name (callee_rows (drop (c.names.given + length group.calls.now) rows)))
          (ap group_rows c.in_ok-push.ensures.items ∙ map-append group_in made (group ∷ []))
          ∙ more.1;
    }

pub returns : goal.returns
unfolding cut_by
returns c =
    let made = group_rows c.names.groups.items in
    sym (append-nil made)
    ∙ ap (λ rs. made ++ cut_by have_one_name (callee_rows rs))
    (sym (sym c.split_at.ensures.back ∙ c.in_default.ensures))
    ∙ c.names.invariant.made
