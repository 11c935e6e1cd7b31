use Rattle.std.proofs.Common.{◌∙◌, Some, ap, sym}
use Rattle.std.specs.Option.{option_map}
use Rattle.std.specs.Prelude.{find, nat_le}
use Rattle.cb_scan.specs.Profiles.{ranges_in}
use Rattle.cb_scan.specs.declared.profile.Rules.TheVariants.{Wide}
use Rattle.cb_scan.specs.declared.rules.scope.Range.{Range}
use Rattle.cb_names.specs.FunctionNames.{function_names, names_in}
use Rattle.cb_names.specs.Functions.{items}
use Rattle.cb_names.proofs.code.Code.function_names.Goals as goal

pub returns : goal.returns
returns c =
    let text = c.self.inside.source.now in
    let place = c.args.place in
    let xs = c.as_slice-2.ensures.value ∙ c.self.invariant.items in
    let rs = c.as_slice-3.ensures.value ∙ c.self.invariant.ranges in
    ap Some (c.in_ok-names.ensures ∙ (λ i. names_in (xs i) (rs i) c.in-Some.range))
    ∙ ap (option_map (names_in (items text) (ranges_in Wide text)))
    (sym c.in-Some.is ∙ c.function_among.ensures
    ∙ ap (find (λ (r : Range). nat_le place r.end))
    (c.as_slice.ensures.value ∙ c.self.invariant.ranges))
    ∙ ap (λ t. function_names t place) c.self.view_is
