use Rattle.std.proofs.Common.{◌∙◌, ◌+◌, ap, arith, sym}
use Rattle.std.proofs.lemmas.List.{length-drop, take_all}
use Rattle.std.specs.Prelude.{drop}
use Rattle.cb_names.specs.Functions.{before}
use Rattle.cb_names.proofs.OwnLemmas.{further}
use Rattle.cb_names.proofs.own.before_from.Goals as goal

pub returns-then-known-place-clause-value : goal.returns-then-known-place-clause-value
returns-then-known-place-clause-value c =
    let xs = c.args.items.now in
    let place = c.args.place in
    let known = c.requires.known in
    ap (λ n. c.args.count + n)
    (c.before-then-known-place.ensures.value
    ∙ ap (before place) (take_all _ (drop c.args.count xs) (omega (arith, length-drop c.args.count xs))))
    ∙ (λ i. known i + before place (drop (known i) xs))
    ∙ sym (further c.args.known place c.if-known-place.true xs)
