use Rattle.std.proofs.Common.{◌∙◌, ap, map, subst, sym}
use Rattle.std.specs.List.{AllByRecursion}
use Rattle.cb_names.specs.Functions.{IsItemOf}
use Rattle.cb_names.specs.Parameters.{line_item}
use Rattle.cb_names.proofs.ParameterLemmas.{all_moved}
use Rattle.cb_names.proofs.parameter.line_items.Goals as goal

pub returns-in-Ok-clause-within : goal.returns-in-Ok-clause-within
returns-in-Ok-clause-within c =
    subst (AllByRecursion (IsItemOf c.args.source.now))
    (sym (c.in-Ok.ensures ∙ ap (map (line_item c.args.from)) c.as_slice.ensures.value))
    (all_moved c.args.source.now c.args.from _ c.in_ok-tokens.ensures.within)
