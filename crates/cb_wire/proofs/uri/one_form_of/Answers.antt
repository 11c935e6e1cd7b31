use Rattle.std.proofs.Common.{◌∙◌, ◌+◌, ◌++◌, ap, append_assoc, drop, sym, take}
use Rattle.cb_wire.specs.Uris.{one_form}
use Rattle.cb_wire.specs.steps.Segments.{segment_size, step_of}
use Rattle.cb_wire.proofs.Forms.{form-step}
use Rattle.cb_wire.proofs.uri.one_form_of.Goals as goal

pub segments-preserved : goal.segments-preserved
segments-preserved c =
    let form = c.segments.form.items in
    let rest = c.segments.rest.now in
    let size = c.segment_size-size.ensures.value in
    let first = step_of (take (segment_size rest) rest) in
    ap (λ t. t ++ one_form c.after_place-rest.result.now)
    (c.in_ok-append_segment.ensures ∙ ap (λ s. form ++ step_of s)
    (c.before-in-segments.ensures.value ∙ ap (λ n. take n rest) size))
    ∙ append_assoc form first (one_form c.after_place-rest.result.now)
    ∙ ap (λ r. form ++ (first ++ one_form r))
    (c.after_place-rest.ensures.value ∙ ap (λ n. drop (n + 1) rest) size)
    ∙ ap (λ l. form ++ l) (sym (form-step rest)) ∙ c.segments.invariant
