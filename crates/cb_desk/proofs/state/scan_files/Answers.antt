use Rattle.std.proofs.Common.{◌≡◌, ◌∙◌, ap, subst, sym}
use Rattle.cb_desk.specs.Desk.{bytes_in, counted, definitions_in}
use Rattle.cb_desk.specs.Models.{file_of}
use Rattle.cb_desk.proofs.Counted.{counted_none, counts_between, counts_bound, counts_least}
use Rattle.cb_desk.proofs.Counted.{counts_next, counts_stop, finds_bound, finds_next}
use Rattle.cb_desk.proofs.state.scan_files.Goals as goal

pub loop-source-preserved : goal.loop-source-preserved
loop-source-preserved c =
    let old = c.args.meter.now in
    let m = c.loop-source.meter in
    let all = bytes_in c.args.files in
    let f = file_of (c.in-Some.field-0-0, c.in-Some.source) in
    let counts =
    subst (λ fs. counted m (bytes_in fs) ≡ counted old all) c.in-Some.ensures.steps
    c.loop-source.invariant.counts in
    let least = c.loop-source.invariant.least in
    let fits = c.loop-source.invariant.fits in
    let finds =
    subst (λ fs. counted c.loop-source.found (definitions_in c.args.profile fs) ≡ counted 0
    (definitions_in c.args.profile c.args.files)) c.in-Some.ensures.steps
    c.loop-source.invariant.finds in
    record {
      counts = counts_next old m all _ f _ counts c.in_ok-more.ensures.counted;
      least = counts_least old m all _ f _ counts c.in_ok-more.ensures.counted least fits;
      fits = counts_bound old m all _ f _ counts c.in_ok-more.ensures.counted;
      finds =
          finds_next c.args.profile c.loop-source.found _ (definitions_in c.args.profile
          c.args.files) f _ _ finds
          c.in_ok-more.ensures.found c.saturating_add-found.ensures;
      few = finds_bound c.loop-source.found _ _ c.saturating_add-found.ensures;
    }

pub returns-in_err-more-clause-meter : goal.returns-in_err-more-clause-meter
returns-in_err-more-clause-meter c =
    let old = c.args.meter.now in
    let m = c.loop-source.meter in
    let all = bytes_in c.args.files in
    let f = file_of (c.in-Some.field-0-0, c.in-Some.source) in
    let counts =
    subst (λ fs. counted m (bytes_in fs) ≡ counted old all) c.in-Some.ensures.steps
    c.loop-source.invariant.counts in
    counts_between c.from_residual.result all old _ c.from_residual.ensures.0
    (counts_stop old m all _ f _ counts c.in_err-more.ensures.counted c.loop-source.invariant.least
    c.loop-source.invariant.fits)

pub returns-clause-meter : goal.returns-clause-meter
returns-clause-meter c =
    let m = c.loop-source.meter in
    sym (counted_none m c.loop-source.invariant.fits)
    ∙ ap (λ fs. counted m (bytes_in fs)) (sym c.in-None.ensures.steps.0)
    ∙ c.loop-source.invariant.counts

pub returns-clause-found : goal.returns-clause-found
returns-clause-found c =
    let n = c.loop-source.found in
    sym (counted_none n c.loop-source.invariant.few)
    ∙ ap (λ fs. counted n (definitions_in c.args.profile fs)) (sym c.in-None.ensures.steps.0)
    ∙ c.loop-source.invariant.finds
