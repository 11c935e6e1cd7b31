-- The items of a text go by line, so a search for a repeat stops at an item of a line before.
use Rattle.std.proofs.Common.{◌≡◌, ◌∙◌, ◌<◌, ◌≤◌, ℕ, zero, suc, Bool, false, List, length}
use Rattle.std.proofs.Common.{[], get_or, refl, sym, ap, arith, ⊎_elim}
use Rattle.std.specs.Prelude.{◌||◌, Some, None, slice_get}
use Rattle.std.specs.Option.{option_map_or}
use Rattle.std.specs.List.{AllByRecursion}
use Rattle.std.proofs.lemmas.Bool.{cases_Bool, cases_lt}
use Rattle.std.proofs.lemmas.Option.{slice_get-get_or, slice_get_past}
use Rattle.cb_scan.specs.Lines.{line_of}
use Rattle.cb_scan.specs.Order.{AreOrdered}
use Rattle.cb_scan.specs.declared.facts.Call.{Call}
use Rattle.cb_scan.specs.declared.facts.Use.{Use}
use Rattle.cb_scan.proofs.FactLines.{calls_on_lines, uses_on_lines}
use Rattle.cb_scan.proofs.InOrder.{facts_in_order}
use Rattle.cb_scan.proofs.LinePlaces.{line_of-rises}
use Rattle.cb_index.specs.Items.{call_line, item_count, item_line, use_line}
use Rattle.cb_index.specs.Repeats.{any_below, have_one_row}
use Rattle.cb_index.specs.Scanned.{Scanned, facts_of}
use Rattle.cb_index.specs.declared.entry.FactKind.{FactKind}
use Rattle.cb_index.specs.declared.entry.FactKind.TheVariants.{Uses, Callees, Callers}
use Rattle.cb_index.specs.steps.Found.{fact_at, fact_of_call, fact_of_use}
use Rattle.cb_index.proofs.CompactLemmas.{all_at}
use Rattle.cb_index.proofs.RepeatLemmas.{one_line}
use Rattle.cb_index.proofs.RowsAscendLemmas.{nowhere, two_at}

-- none of the numbers below one passes a test
none_below : (p : ℕ → Bool) (n : ℕ) → ((i : ℕ) → i < n → p i ≡ false) → false ≡ any_below p n
unfolding any_below
none_below p zero none = refl
none_below p (suc n) none =
    none_below p n (λ i below. none i (omega (arith, below)))
    ∙ ap (λ b. b || any_below p n) (sym (none n (omega arith)))

-- the lines of items do not fall, where each is on the line at which it begins
lines_rise : {X : Type 0} (start line : X → ℕ) (text : List ℕ) (items : List X) (i j : ℕ) (d : X)
    → i < j → j < length items → AllByRecursion (λ x. line x ≡ line_of text (start x)) items
    → AreOrdered (λ x y. start x ≤ start y) items
    → option_map_or line (slice_get items i) 0 ≤ option_map_or line (slice_get items j) 0
lines_rise start line text items i j d upward below lined ordered =
    let within : i < length items = omega (arith, upward, below) in
    let on = all_at (λ x. line x ≡ line_of text (start x)) items in
    let s = ap (λ o. option_map_or line o 0) (slice_get-get_or items i d within)
    ∙ on i d within lined in
    let t = ap (λ o. option_map_or line o 0) (slice_get-get_or items j d below)
    ∙ on j d below lined in
    let up = two_at (λ x y. start x ≤ start y) items ordered i j d upward below in
    omega (arith, s, t, line_of-rises text (start (get_or items i d)) (start (get_or items j d)) up)

module _ (text : Scanned) (i j : ℕ) (upward : i < j) where
  uses_rise : j < length (facts_of text).uses
      → use_line (facts_of text) i ≤ use_line (facts_of text) j
  uses_rise below =
      lines_rise (λ (u : Use). u.name.start) (λ u. u.line) text.bytes (facts_of text).uses i j
      (record { name = nowhere; line = 0; scope = None }) upward below
      (uses_on_lines text.profile text.bytes) (facts_in_order text.profile text.bytes).uses

  calls_rise : j < length (facts_of text).calls
      → call_line (facts_of text) i ≤ call_line (facts_of text) j
  calls_rise below =
      lines_rise (λ (c : Call). c.callee.start) (λ c. c.line) text.bytes (facts_of text).calls i j
      (record { callee = nowhere; line = 0; caller = nowhere }) upward below
      (calls_on_lines text.profile text.bytes) (facts_in_order text.profile text.bytes).calls

items_rise : (sort : FactKind) (text : Scanned) (i j : ℕ) → i < j → j < item_count sort text
    → item_line sort (facts_of text) i ≤ item_line sort (facts_of text) j
items_rise Uses text i j upward below = uses_rise text i j upward below
items_rise Callees text i j upward below = calls_rise text i j upward below
items_rise Callers text i j upward below = calls_rise text i j upward below

-- an item that is not there has no line
past_line : (sort : FactKind) (text : Scanned) (i : ℕ) → item_count sort text ≤ i
    → item_line sort (facts_of text) i ≡ 0
past_line Uses text i past =
    ap (λ o. option_map_or (λ (u : Use). u.line) o 0) (slice_get_past (facts_of text).uses i past)
past_line Callees text i past =
    ap (λ o. option_map_or (λ (c : Call). c.line) o 0) (slice_get_past (facts_of text).calls i past)
past_line Callers text i past =
    ap (λ o. option_map_or (λ (c : Call). c.line) o 0) (slice_get_past (facts_of text).calls i past)

-- the line of a fact is that of its item
pub fact_line : (sort : FactKind) (text : Scanned) (i : ℕ)
    → (fact_at sort [] text i).line ≡ item_line sort (facts_of text) i
fact_line Uses text i =
    elim (slice_get (facts_of text).uses i) as (λ o. (fact_of_use [] text.bytes o).line
    ≡ option_map_or (λ (u : Use). u.line) o 0) [ None ↦ refl | Some u ↦ refl ]
fact_line Callees text i =
    elim (slice_get (facts_of text).calls i) as (λ o. (fact_of_call [] text.bytes o).line
    ≡ option_map_or (λ (c : Call). c.line) o 0) [ None ↦ refl | Some c ↦ refl ]
fact_line Callers text i =
    elim (slice_get (facts_of text).calls i) as (λ o. (fact_of_call [] text.bytes o).line
    ≡ option_map_or (λ (c : Call). c.line) o 0) [ None ↦ refl | Some c ↦ refl ]

-- no item up to one of a line before has the row of an item
pub any_stopped : (sort : FactKind) (text : Scanned) (item n before : ℕ) → n ≡ suc before → n ≤ item
    → item_line sort (facts_of text) before < item_line sort (facts_of text) item
    → false ≡ any_below (have_one_row sort text item) n
any_stopped sort text item n before is low less =
    none_below (have_one_row sort text item) n (λ i below. ⊎_elim
    (λ same. absurd (omega (
      arith,
      less,
      up_to i (omega (arith, below, is)),
      fact_line sort text i,
      fact_line sort text item,
      one_line sort text item i same,
    )))
    (λ other. other)
    (cases_Bool (have_one_row sort text item i)))
  where
    there : before < item_count sort text
    there = ⊎_elim (λ (within : item < item_count sort text). omega (arith, within, is, low))
        (λ past. absurd (omega (arith, less, past_line sort text item past)))
        (cases_lt item (item_count sort text))

    up_to : (i : ℕ) → i ≤ before
        → item_line sort (facts_of text) i ≤ item_line sort (facts_of text) before
    up_to i low = ⊎_elim (λ (under : i < before). items_rise sort text i before under there)
        (λ (same : before ≤ i).
        let one : i ≡ before = omega (arith, same, low) in
        omega (arith, ap (item_line sort (facts_of text)) one))
        (cases_lt i before)
