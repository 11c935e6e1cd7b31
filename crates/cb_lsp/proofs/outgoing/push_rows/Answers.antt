use Rattle.std.proofs.Common.{◌≡◌, [], ap, arith, length, map}
use Rattle.std.proofs.lemmas.List.{length-map, nil_from_length}
use Rattle.cb_tags.specs.TagLines.{tag_of}
use Rattle.cb_lsp.specs.steps.Outgoing.{called_in, called_rows, callee_rows}
use Rattle.cb_lsp.proofs.Outgoings.{made-all, made-most}
use Rattle.cb_lsp.proofs.outgoing.push_rows.Goals as goal

pub returns-in-empty : goal.returns-in-empty
returns-in-empty c =
    let calls = callee_rows c.args.calls.now in
    let rows = c.rows.called.items in
    let size : length (called_rows rows) ≡ length rows = length-map rows called_in in
    let none : c.rows.left.now ≡ [] =
    nil_from_length c.rows.left.now (omega (arith, c.in-empty.len_below)) in
    made-all 1000 (called_rows rows) (map (λ t. (t, calls)) (map tag_of c.rows.left.now)) _
    c.rows.invariant.all (ap (λ rs. map (λ t. (t, calls)) (map tag_of rs)) none)
    (omega (arith, size, c.rows.invariant.few))

pub returns : goal.returns
returns c =
    let calls = callee_rows c.args.calls.now in
    let rows = c.rows.called.items in
    let size : length (called_rows rows) ≡ length rows = length-map rows called_in in
    made-most 1000 (called_rows rows) (map (λ t. (t, calls)) (map tag_of c.rows.left.now)) _
    c.rows.invariant.all
    (omega (arith, size, c.rows.invariant.few, c.rows-test.false))
