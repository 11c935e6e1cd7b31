-- What stays of all that is gathered, range by range, is what the wide rules find.
use Rattle.std.proofs.Common.{◌≡◌, ◌∙◌, ◌≤◌, ℕ, Bool, true, false, List, [], ◌∷◌, ◌++◌, map}
use Rattle.std.proofs.Common.{refl, sym, ap, arith, append_assoc, ⊎_elim}
use Rattle.std.specs.Prelude.{◌&&◌, ◌||◌, filter, not, if◌then◌else◌}
use Rattle.std.specs.List.{AllByRecursion}
use Rattle.std.specs.List.Sorted.{IsPermutation}
use Rattle.std.specs.Option.{is_none}
use Rattle.cb_scan.specs.declared.facts.Def.{Def}
use Rattle.cb_scan.specs.declared.lex.piece.Piece.{Piece}
use Rattle.cb_scan.specs.declared.rules.scope.Range.{Range}
use Rattle.cb_scan.specs.Definitions.{macro_def}
use Rattle.cb_scan.specs.Order.{AreOrdered, IsDefBefore, def_key, in_order}
use Rattle.cb_scan.specs.Profiles.{definitions_by, is_declaration, is_object}
use Rattle.cb_scan.specs.rules.Macros.{macro_names}
use Rattle.cb_scan.specs.rules.Scope.{ranges_of}
use Rattle.cb_scan.specs.rules.wide.Kinds.{functions_of, wide_function_def}
use Rattle.cb_scan.specs.steps.Scopes.{reached}
use Rattle.cb_scan.specs.steps.wide.Gathering.{declared_in, objects_in, rules_with}
use Rattle.cb_scan.specs.steps.wide.Gathering.{staying}
use Rattle.cb_scan.proofs.FunctionsRise.{all_implied}
use Rattle.cb_scan.proofs.InOrder.{ordered_defs}
use Rattle.cb_scan.proofs.ScopeLemmas.{Ascending, Ordered, Serves, serves_name, serves_on}
use Rattle.cb_scan.proofs.WideOrder.{found_in_order, stays}

-- a definition stays among all ranges
abbrev asked : Bool → List Range → Def → Bool
asked prototypes rs d = (prototypes || not (is_declaration d.kind)) && stays rs d

abbrev def_place : Def → ℕ
def_place d = d.name.start

-- what is left of the ranges after a place serves the places after it
staying_from : (b : Bool) (rs : List Range) (p : ℕ) (left : List Range) (ds : List Def)
    → Serves p left rs → Ordered def_place p ds → staying b left ds ≡ filter (asked b rs) ds
staying_from b rs p left [] serves order = refl
staying_from b rs p left (d ∷ ds) serves order =
    let here = reached d.name.start left in
    let rest = staying_from b rs d.name.start here ds
    (serves_on p d.name.start left rs order.0 serves) order.1 in
    λ i.
    if (b || not (is_declaration d.kind))
    && (not (is_object d.kind) || is_none (serves_name p d.name.start left rs order.0 serves i))
    then d ∷ rest i else rest i

places_rise : (p : ℕ) (ds : List Def) → AllByRecursion (λ (d : Def). p ≤ d.name.start) ds
    → AreOrdered IsDefBefore ds → Ordered def_place p ds
unfolding AreOrdered
places_rise p [] all order = tt
places_rise p (d ∷ ds) all order = (
  all.0,
  places_rise d.name.start ds
      (all_implied (IsDefBefore d) (λ (e : Def). d.name.start ≤ e.name.start)
      (λ e before. ⊎_elim (λ below. omega (arith, below)) (λ same. omega (arith, same.0)) before)
      ds order.0) order.1,
)

from_0 : (ds : List Def) → AllByRecursion (λ (d : Def). 0 ≤ d.name.start) ds
from_0 [] = tt
from_0 (d ∷ ds) = (omega arith, from_0 ds)

staying_is : (b : Bool) (rs : List Range) (ds : List Def) → Ascending rs
    → staying b rs (in_order def_key ds) ≡ filter (asked b rs) (in_order def_key ds)
staying_is b rs ds ascend =
    staying_from b rs 0 rs (in_order def_key ds)
    (record { ascends = ascend; finds = λ q h. refl })
    (places_rise 0 (in_order def_key ds) (from_0 (in_order def_key ds)) (ordered_defs ds))

-- two tests, one after the other
filter_both : (p q : Def → Bool) (ds : List Def)
    → filter (λ d. p d && q d) ds ≡ filter p (filter q ds)
filter_both p q [] = refl
filter_both p q (d ∷ ds) =
    ap (λ l. if p d && q d then d ∷ l else l) (filter_both p q ds) ∙ by_tests (p d) (q d) refl
  where
    by_tests : (a b : Bool) → p d ≡ a
        → (if a && b then d ∷ filter p (filter q ds) else filter p (filter q ds))
        ≡ filter p (if b then d ∷ filter q ds else filter q ds)
    by_tests true true is =
        sym (ap (λ c. if c then d ∷ filter p (filter q ds) else filter p (filter q ds)) is)
    by_tests true false is = refl
    by_tests false true is =
        sym (ap (λ c. if c then d ∷ filter p (filter q ds) else filter p (filter q ds)) is)
    by_tests false false is = refl

module _ (text : List ℕ) (ps : List Piece) where
  abbrev ranges : List Range
  ranges = ranges_of text ps (functions_of text ps)

  abbrev of_functions : List Def
  of_functions = map wide_function_def (functions_of text ps)

  abbrev of_macros : List Def
  of_macros = map macro_def (macro_names text ps)

  pub staying_are : (prototypes : Bool) (gathered : List Def)
      → IsPermutation gathered (declared_in text ps) → Ascending ranges
      → staying prototypes ranges
      (in_order def_key (of_functions ++ of_macros ++ gathered ++ objects_in text ps))
      ≡ definitions_by (rules_with prototypes) text ps
  staying_are prototypes gathered moved ascend =
      staying_is prototypes ranges (of_functions ++ of_macros ++ gathered ++ objects_in text ps) ascend
      ∙ ap (λ l. filter (asked prototypes ranges) (in_order def_key l)) regrouped
      ∙ by_rules prototypes
    where
      regrouped : of_functions ++ of_macros ++ gathered ++ objects_in text ps
          ≡ of_functions ++ (of_macros ++ (gathered ++ objects_in text ps))
      regrouped =
          ap (λ l. l ++ objects_in text ps) (append_assoc of_functions of_macros gathered)
          ∙ append_assoc of_functions (of_macros ++ gathered) (objects_in text ps)
          ∙ ap (λ l. of_functions ++ l) (append_assoc of_macros gathered (objects_in text ps))

      by_rules : (b : Bool) → filter (asked b ranges)
          (in_order def_key (of_functions ++ (of_macros ++ (gathered ++ objects_in text ps))))
          ≡ definitions_by (rules_with b) text ps
      by_rules true = found_in_order text ps gathered moved
      by_rules false =
          filter_both (λ d. not (is_declaration d.kind)) (stays ranges)
          (in_order def_key (of_functions ++ (of_macros ++ (gathered ++ objects_in text ps))))
          ∙ ap (filter (λ d. not (is_declaration d.kind))) (found_in_order text ps gathered moved)
