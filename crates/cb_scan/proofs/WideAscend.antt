-- The ranges of the functions of the wide profile begin in order.
use Rattle.std.proofs.Common.{◌≡◌, ℕ, Bool, true, false, List, refl}
use Rattle.cb_scan.specs.Profiles.{definitions_by, all_facts, facts_with}
use Rattle.cb_scan.specs.rules.Code.{code}
use Rattle.cb_scan.specs.rules.Scope.{ranges_of}
use Rattle.cb_scan.specs.rules.wide.Bodies.{bodies}
use Rattle.cb_scan.specs.rules.wide.Kinds.{bare_tokens, functions_of}
use Rattle.cb_scan.specs.steps.Cut.{pieces}
use Rattle.cb_scan.specs.steps.wide.Gathering.{rules_with}
use Rattle.cb_scan.proofs.Rising.{code_rises}
use Rattle.cb_scan.proofs.ScopeLemmas.{Ascending, function_ranges_ascend}
use Rattle.cb_scan.proofs.WideFunctionsRise.{wide_functions_rise}

pub wide_ranges_ascend : (text : List ℕ)
    → Ascending (ranges_of text (pieces text) (functions_of text (pieces text)))
wide_ranges_ascend text =
    let ts = code text (pieces text) in
    function_ranges_ascend text ts (functions_of text (pieces text))
    (wide_functions_rise text ts (bodies (bare_tokens text ts)) (code_rises text))

-- with or without prototypes, the functions are the same
pub by_rules : (text : List ℕ) (b : Bool)
    → facts_with (definitions_by (rules_with b) text (pieces text)) (functions_of text (pieces text))
    text (pieces text) ≡ all_facts (rules_with b) text
by_rules text true = refl
by_rules text false = refl
