use Rattle.std.proofs.Common.{◌∙◌, ap}
use Rattle.cb_names.specs.FunctionNames.{names_over}
use Rattle.cb_names.specs.Functions.{body_of}
use Rattle.cb_names.proofs.names.names_by.Goals as goal

pub returns-in-Ok : goal.returns-in-Ok
returns-in-Ok c =
    let kept = c.in_ok-kept.ensures.value in
    let body = c.body_of-body.ensures.value
    ∙ ap (λ xs. body_of xs c.args.range) (c.as_slice.ensures.value ∙ kept) in
    c.in-Ok.ensures
    ∙ (λ i. names_over (record { start = c.first_start.ensures i; end = c.args.range.end })
    (c.in_ok-names.ensures i) ((c.in_ok-shape.ensures.items ∙ kept) i)
    ((c.in_ok-shape.ensures.body ∙ body) i) c.args.goes_on)
