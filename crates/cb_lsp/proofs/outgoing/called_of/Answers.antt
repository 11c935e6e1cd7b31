use Rattle.std.proofs.Common.{◌≡◌, ◌+◌, ◌∙◌, List, ℕ, ap, arith, length, subst, sym, take}
use Rattle.std.specs.List.{flat_map}
use Rattle.std.proofs.lemmas.List.{length-map, length-take}
use Rattle.cb_lsp.specs.Outgoing.{called_as}
use Rattle.cb_lsp.specs.steps.Outgoing.{called_in, called_rows, group_in}
use Rattle.cb_lsp.proofs.Outgoings.{called-all, called-more}
use Rattle.cb_lsp.proofs.outgoing.called_of.Goals as goal

pub names-preserved : goal.names-preserved
names-preserved c =
    let w = c.args.desk.now.timeline.present in
    let made = called_rows c.names.called.items in
    let gs = c.args.groups.now in
    let i = c.names.group-index in
    let all = λ (from : List ℕ) (n : ℕ). take 1000 (flat_map (λ g. called_as w from (group_in g))
    (take n gs)) in
    record {
      called = subst (λ from. called_rows c.push_called.new.called.items ≡ all from (i + 1))
          c.names.invariant.from
          (called-more (λ g. called_as w c.names.viewer.from.now (group_in g)) gs i 1000 _ made
          (called_rows c.push_called.new.called.items) c.names-test.true
          (c.names.invariant.called ∙ ap (λ from. all from i) (sym c.names.invariant.from))
          c.in_ok-push_called.ensures.called);
      desk = c.push_called.ensures.desk ∙ c.names.invariant.desk;
      from = c.push_called.ensures.from ∙ c.names.invariant.from;
      known = c.push_called.ensures.known;
    }

pub push_called-requires : goal.push_called-requires
push_called-requires c =
    let rows = c.names.called.items in
    let all = flat_map
    (λ g. called_as c.args.desk.now.timeline.present c.args.file.now (group_in g))
    (take c.names.group-index c.args.groups.now) in
    let size : length (called_rows rows) ≡ length rows = length-map rows called_in in
    let same : length (called_rows rows) ≡ length (take 1000 all) =
    ap length c.names.invariant.called in
    record {
      room = omega (arith, size, same, length-take 1000 all);
      desk = c.names.invariant.desk;
      known = c.names.invariant.known;
    }

pub returns : goal.returns
returns c =
    c.names.invariant.called
    ∙ ap (take 1000) (called-all (called_as c.args.desk.now.timeline.present c.args.file.now) group_in
    c.args.groups.now c.names.group-index c.names-test.false)
