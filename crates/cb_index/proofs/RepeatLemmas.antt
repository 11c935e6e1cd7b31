-- Whether an item is a repeat, by a search; and names that stand at one place of the text.
use Rattle.std.proofs.Common.{◌≡◌, ◌∙◌, ℕ, suc, Bool, true, false, List, [], refl, sym, ap}
use Rattle.std.specs.Prelude.{◌&&◌, ◌||◌, nat_eq, slice_get, Option, Some, None}
use Rattle.std.specs.Option.{option_map}
use Rattle.std.specs.Str.{bytes_eq}
use Rattle.std.proofs.lemmas.Bool.{false≢true}
use Rattle.std.proofs.lemmas.Bool.Decides.{Decides-eqb}
use Rattle.std.proofs.lemmas.Slice.Eq.{bytes_eq-Decides}
use Rattle.cb_scan.specs.declared.facts.Call.{Call}
use Rattle.cb_scan.specs.declared.facts.Use.{Use}
use Rattle.cb_scan.specs.declared.lex.piece.Span.{Span}
use Rattle.cb_index.specs.Scanned.{Scanned, facts_of}
use Rattle.cb_index.specs.Bytes.{bytes_at, cut}
use Rattle.cb_index.specs.Counts.{column, function_of, same_row}
use Rattle.cb_index.specs.Items.{have_one_key}
use Rattle.cb_index.specs.Repeats.{any_below, have_one_row}
use Rattle.cb_index.specs.declared.entry.FactKind.{FactKind}
use Rattle.cb_index.specs.declared.entry.FactKind.TheVariants.{Uses, Callees, Callers}
use Rattle.cb_index.specs.steps.Found.{fact_at, fact_of_call, fact_of_use}
use Rattle.cb_index.specs.steps.FunctionSpans.{function_span, scope_of}

pub both : (a b : Bool) → (a && b) ≡ true → (a ≡ true) × (b ≡ true)
both true true is = (refl, refl)
both true false is = absurd (false≢true is)
both false b is = absurd (false≢true is)

pub and_false : (b : Bool) → (b && false) ≡ false
and_false true = refl
and_false false = refl

pub any_found : (p : ℕ → Bool) (n k : ℕ) → n ≡ suc k → p k ≡ true → true ≡ any_below p n
unfolding any_below
any_found p n k is here =
    (λ t. sym here t || any_below p k) ∙ ap (any_below p) (sym is)

pub any_passed : (p : ℕ → Bool) (n k : ℕ) → n ≡ suc k → p k ≡ false → any_below p k ≡ any_below p n
unfolding any_below
any_passed p n k is isnt =
    (λ t. sym isnt t || any_below p k) ∙ ap (any_below p) (sym is)

pub any_none : (p : ℕ → Bool) (n : ℕ) → n ≡ 0 → false ≡ any_below p n
unfolding any_below
any_none p n is = ap (any_below p) (sym is)

-- items of one row are on one line
pub one_line : (sort : FactKind) (text : Scanned) (i j : ℕ) → have_one_row sort text i j ≡ true
    → (fact_at sort [] text j).line ≡ (fact_at sort [] text i).line
one_line sort text i j is =
    let f = fact_at sort [] text j in
    let g = fact_at sort [] text i in
    let rows = both (same_row sort f g) (have_one_key sort text i j) is in
    let lines =
    both (nat_eq f.line g.line) (bytes_eq (function_of sort f) (function_of sort g)) rows.0 in
    (Decides-eqb f.line g.line).0 lines.0

-- ---- a name at one place of the text
module _ (text : Scanned) where
  abbrev shown_in : FactKind → Option Span → List ℕ
  shown_in Uses span = column (option_map (cut text.bytes) span)
  shown_in Callees span = column (option_map (cut text.bytes) span)
  shown_in Callers span = bytes_at text.bytes span

  of_use : (u : Option Use) → column (fact_of_use [] text.bytes u).scope ≡ shown_in Uses (scope_of
      u)
  of_use None = refl
  of_use (Some u) = refl

  of_callee : (c : Option Call) → column (fact_of_call [] text.bytes c).scope
      ≡ shown_in Callees (option_map (λ (d : Call). d.caller) c)
  of_callee None = refl
  of_callee (Some c) = refl

  of_caller : (c : Option Call) → (fact_of_call [] text.bytes c).name
      ≡ shown_in Callers (option_map (λ (d : Call). d.callee) c)
  of_caller None = refl
  of_caller (Some c) = refl

  shown_is : (sort : FactKind) (i : ℕ) → function_of sort (fact_at sort [] text i)
      ≡ shown_in sort (function_span sort (facts_of text) i)
  shown_is Uses i = of_use (slice_get (facts_of text).uses i)
  shown_is Callees i = of_callee (slice_get (facts_of text).calls i)
  shown_is Callers i = of_caller (slice_get (facts_of text).calls i)

  pub one_function : (sort : FactKind) (i j : ℕ)
      → function_span sort (facts_of text) i ≡ function_span sort (facts_of text) j
      → true ≡ bytes_eq (function_of sort (fact_at sort [] text j))
      (function_of sort (fact_at sort [] text i))
  one_function sort i j is =
      sym ((bytes_eq-Decides (function_of sort (fact_at sort [] text j))
      (function_of sort (fact_at sort [] text i))).1
      (shown_is sort j ∙ ap (shown_in sort) (sym is) ∙ sym (shown_is sort i)))
