-- Lists that were gathered, with definitions in order, are what is wanted of the facts of these
-- definitions and functions.
use Rattle.std.proofs.Common.{◌≡◌, ◌∙◌, ◌++◌, ℕ, Bool, true, false, List, refl, ap}
use Rattle.std.specs.List.{flat_map}
use Rattle.cb_scan.specs.declared.facts.Call.{Call}
use Rattle.cb_scan.specs.declared.facts.Def.{Def}
use Rattle.cb_scan.specs.declared.facts.Include.{Include}
use Rattle.cb_scan.specs.declared.lex.token.Token.{Token}
use Rattle.cb_scan.specs.declared.rules.scope.Range.{Range}
use Rattle.cb_scan.specs.Order.{call_key, in_order}
use Rattle.cb_scan.specs.declared.profile.Wanted.{Wanted}
use Rattle.cb_scan.specs.Profiles.{facts_with, kept, wanted_of}
use Rattle.cb_scan.specs.TextFacts.{TextFacts}
use Rattle.cb_scan.specs.rules.Code.{code, directives, logical_lines}
use Rattle.cb_scan.specs.rules.Functions.{Function}
use Rattle.cb_scan.specs.rules.Macros.{macros}
use Rattle.cb_scan.specs.rules.Scope.{macro_ranges, ranges_of}
use Rattle.cb_scan.specs.rules.Uses.{calls_in, include_of, macro_calls, used}
use Rattle.cb_scan.specs.steps.Cut.{pieces}
use Rattle.cb_scan.specs.steps.Scopes.{include_place, include_with, scoped, token_place, use_of}
use Rattle.cb_scan.proofs.ScopeLemmas.{Ascending, includes_scoped, uses_scoped}

-- the facts that are made of lists
abbrev pub made_of : List Def → List Range → List Range → List Token → List Call → List Call
    → List Include → Wanted → TextFacts
made_of defs ranges macro_ranges names calls macro_calls includes w = record {
  defs = kept w.defs defs;
  uses = scoped token_place use_of ranges macro_ranges names;
  calls = kept w.calls (in_order call_key (calls ++ macro_calls));
  includes = kept w.includes (scoped include_place include_with ranges macro_ranges includes);
}

-- nothing is scoped where nothing is kept
scoped_kept : (b : Bool) (ranges macro_ranges : List Range) (names : List Token)
    → scoped token_place use_of ranges macro_ranges (kept b names)
    ≡ kept b (scoped token_place use_of ranges macro_ranges names)
scoped_kept true ranges macro_ranges names = refl
scoped_kept false ranges macro_ranges names = refl

pub facts_are : (w : Wanted) (text : List ℕ) (fs : List Function)
    → Ascending (ranges_of text (pieces text) fs)
    → {ds : List Def} (all : List Def) {ranges others : List Range} {names : List Token}
    {calls of_macros : List Call} {includes : List Include}
    → ds ≡ all → ranges ≡ ranges_of text (pieces text) fs
    → calls ≡ calls_in (code text (pieces text)) fs
    → names ≡ kept w.uses (flat_map used (logical_lines text (pieces text)))
    → others ≡ macro_ranges text (pieces text)
    → of_macros ≡ macro_calls (macros text (pieces text))
    → includes ≡ flat_map (include_of text) (directives text (pieces text))
    → made_of ds ranges others names calls of_macros includes w
    ≡ wanted_of w (facts_with all fs text (pieces text))
facts_are w text fs ascend all defs_are ranges_are calls_are names_are others_are macros_are includes_are =
    (λ i. made_of (defs_are i) (ranges_are i) (others_are i) (names_are i) (calls_are i)
    (macros_are i) (includes_are i) w)
    ∙ (λ i. record {
      defs = kept w.defs all;
      uses = (scoped_kept w.uses (ranges_of text (pieces text) fs) (macro_ranges text (pieces text))
          (flat_map used (logical_lines text (pieces text)))
          ∙ ap (kept w.uses) (uses_scoped text fs ascend)) i;
      calls = kept w.calls (in_order call_key
          (calls_in (code text (pieces text)) fs ++ macro_calls (macros text (pieces text))));
      includes = kept w.includes (includes_scoped text fs ascend i);
    })
