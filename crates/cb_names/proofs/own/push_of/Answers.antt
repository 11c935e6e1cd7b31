use Rattle.std.proofs.Common.{◌∙◌, ap, subst, sym}
use Rattle.std.specs.List.{AllByRecursion}
use Rattle.cb_names.specs.Functions.{IsItemOf, head_before}
use Rattle.cb_names.specs.HardAttributes.{without_hard}
use Rattle.cb_names.proofs.OwnLemmas.{all_extent}
use Rattle.cb_names.proofs.own.push_of.Goals as goal

pub push_in-requires-clause-within : goal.push_in-requires-clause-within
push_in-requires-clause-within c =
    let text = c.args.text.now in
    let ys = c.args.items.now in
    subst (AllByRecursion (IsItemOf text))
    (sym (c.in_ok-kept.ensures.value ∙ ap without_hard c.extent_between.ensures.value))
    (all_extent text ys (head_before ys c.args.start) c.args.end c.requires.within)
