-- The rows of the uses and calls that are shown.
use Rattle.std.proofs.Common.{◌≡◌, ◌∙◌, ℕ, suc, Bool, true, false, List, []}
use Rattle.std.proofs.Common.{◌∷◌, Some, None, refl, ap, length, map, drop, filter}
use Rattle.std.specs.Prelude.{cond, slice_get, Option}
use Rattle.std.specs.List.{AllByRecursion, flat_map, range_with_len}
use Rattle.std.specs.Option.{option_map}
use Rattle.std.specs.Str.{bytes_eq}
use Rattle.cb_scan.specs.declared.facts.Call.{Call}
use Rattle.cb_scan.specs.declared.facts.Use.{Use}
use Rattle.cb_scan.specs.declared.profile.Profile.{Profile}
use Rattle.cb_scan.specs.declared.lex.piece.Span.{Span}
use Rattle.cb_scan.specs.Definitions.{IsScopeWithin, IsWithin}
use Rattle.cb_scan.specs.lex.Tokens.{bytes_of}
use Rattle.cb_scan.proofs.FactsWithin.{facts_lie}
use Rattle.cb_index.specs.Scanned.{Scanned, facts_of}
use Rattle.cb_index.specs.Archived.{Archived, name_of, text_at}
use Rattle.cb_index.specs.Bytes.{bytes_at, cut}
use Rattle.cb_index.specs.Files.{File}
use Rattle.cb_index.specs.Rows.{Fact, call_in, calls_in, calls_of, facts_named, file_calls_in}
use Rattle.cb_index.specs.Rows.{file_calls_of, file_facts}
use Rattle.cb_index.specs.Rows.{file_uses_of, use_in, uses_of}
use Rattle.cb_index.specs.steps.Found.{fact_at, fact_of_call, fact_of_use}
use Rattle.cb_index.specs.steps.Searched.{items_with}
use Rattle.cb_index.specs.declared.entry.Shown.{Shown}
use Rattle.cb_index.specs.declared.entry.FactKind.{FactKind}
use Rattle.cb_index.specs.declared.entry.FactKind.TheVariants.{Uses, Callees, Callers}
use Rattle.cb_index.proofs.FirstLemmas.{has}
use Rattle.cb_index.proofs.RangeItems.{range_next}
use Rattle.cb_index.proofs.RestLemmas.{at_front, drop_next}
use Rattle.cb_index.proofs.RowLemmas.{cut_is}

-- ---- the facts of numbers
module _ {X : Type 0} (fact : ℕ → Fact) (row : X → Fact) (has : ℕ → Bool) (key_of_x : X → List ℕ)
    (key : List ℕ) where
  kept_number : (b : Bool) (n : ℕ) (ns : List ℕ) (x : X) (xs : List X) → fact n ≡ row x
      → map fact ns ≡ map row xs
      → map fact (cond b (n ∷ ns) ns) ≡ map row (cond b (x ∷ xs) xs)
  kept_number true n ns x xs here later = λ i. here i ∷ later i
  kept_number false n ns x xs here later = later

  -- the fact of a number is the row of an element, and a test of the number is that of its key
  module _ (P : X → Type 0) (all : List X)
      (each : (n : ℕ) (x : X) → slice_get all n ≡ Some x → P x
      → (fact n ≡ row x) × (has n ≡ bytes_eq key (key_of_x x))) where
    numbers_rows : (n : ℕ) (xs : List X) → drop n all ≡ xs → AllByRecursion P xs
        → map fact (filter has (range_with_len n (length xs)))
        ≡ map row (filter (λ x. bytes_eq key (key_of_x x)) xs)
    numbers_rows n [] is hold = refl
    numbers_rows n (x ∷ xs) is hold =
        let here = each n x (at_front n all ∙ ap (λ l. slice_get l 0) is) hold.0 in
        let later = filter has (range_with_len (suc n) (length xs)) in
        ap (λ l. map fact (filter has l)) (range_next n (length xs))
        ∙ ap (λ b. map fact (cond b (n ∷ later) later)) here.1
        ∙ kept_number (bytes_eq key (key_of_x x)) n later x
        (filter (λ y. bytes_eq key (key_of_x y)) xs) here.0
        (numbers_rows (suc n) xs (drop_next n all ∙ ap (drop 1) is) hold.1)

-- ---- uses
pub scope_is : (text : List ℕ) (scope : Option Span) → IsScopeWithin text scope
    → option_map (cut text) scope ≡ option_map (bytes_of text) scope
scope_is text None within = refl
scope_is text (Some span) within = ap (λ b. Some b) (cut_is text span within)

module _ (a : Archived) (s : Shown) (text : Scanned)
    (there : text_at a s.version ≡ Some text) (key : List ℕ) where
  abbrev file : File
  file = record { name = name_of a s.name; bytes = text.bytes }

  uses_searched : map (fact_at Uses (name_of a s.name) text) (items_with Uses text key)
      ≡ file_uses_of text.profile key file
  uses_searched =
      numbers_rows (fact_at Uses (name_of a s.name) text) (use_in file) (has Uses text key)
      (λ (u : Use). bytes_of text.bytes u.name) key
      (λ (u : Use). IsWithin text.bytes u.name × IsScopeWithin text.bytes u.scope)
      (facts_of text).uses
      (λ n u is within. (
        ap (fact_of_use (name_of a s.name) text.bytes) is ∙ (λ i. record (use_in file u) {
          name = cut_is text.bytes u.name within.0 i;
          scope = scope_is text.bytes u.scope within.1 i;
        }),
        ap (bytes_eq key) (ap (λ o. bytes_at text.bytes (option_map (λ (x : Use). x.name) o)) is
            ∙ cut_is text.bytes u.name within.0),
      )) 0 (facts_of text).uses refl (facts_lie text.profile text.bytes).uses

  -- ---- calls
  abbrev IsCallWithin : Call → Type 0
  IsCallWithin c = IsWithin text.bytes c.callee × IsWithin text.bytes c.caller

  call_is : (n : ℕ) (c : Call) → slice_get (facts_of text).calls n ≡ Some c → IsCallWithin c
      → fact_of_call (name_of a s.name) text.bytes (slice_get (facts_of text).calls n)
      ≡ call_in file c
  call_is n c is within =
      ap (fact_of_call (name_of a s.name) text.bytes) is ∙ (λ i. record (call_in file c) {
        name = cut_is text.bytes c.callee within.0 i;
        scope = Some (cut_is text.bytes c.caller within.1 i);
      })

  callees_searched : map (fact_at Callees (name_of a s.name) text) (items_with Callees text key)
      ≡ file_calls_of text.profile key file
  callees_searched =
      numbers_rows (fact_at Callees (name_of a s.name) text) (call_in file) (has Callees text key)
      (λ (c : Call). bytes_of text.bytes c.callee) key IsCallWithin (facts_of text).calls
      (λ n c is within. (
        call_is n c is within,
        ap (bytes_eq key) (ap (λ o. bytes_at text.bytes (option_map (λ (x : Call). x.callee) o)) is
            ∙ cut_is text.bytes c.callee within.0),
      )) 0 (facts_of text).calls refl (facts_lie text.profile text.bytes).calls

  callers_searched : map (fact_at Callers (name_of a s.name) text) (items_with Callers text key)
      ≡ file_calls_in text.profile key file
  callers_searched =
      numbers_rows (fact_at Callers (name_of a s.name) text) (call_in file) (has Callers text key)
      (λ (c : Call). bytes_of text.bytes c.caller) key IsCallWithin (facts_of text).calls
      (λ n c is within. (
        call_is n c is within,
        ap (bytes_eq key) (ap (λ o. bytes_at text.bytes (option_map (λ (x : Call). x.caller) o)) is
            ∙ cut_is text.bytes c.caller within.1),
      )) 0 (facts_of text).calls refl (facts_lie text.profile text.bytes).calls

  -- ---- by kind
  pub one_searched : (kind : FactKind)
      → map (fact_at kind (name_of a s.name) text) (items_with kind text key)
      ≡ file_facts text.profile kind key file
  one_searched Uses = uses_searched
  one_searched Callees = callees_searched
  one_searched Callers = callers_searched

-- ---- all versions
pub named_apart : (p : Profile) (kind : FactKind) (key : List ℕ) (fs : List File)
    → flat_map (file_facts p kind key) fs ≡ facts_named p kind key fs
unfolding uses_of calls_of calls_in
named_apart p Uses key fs = refl
named_apart p Callees key fs = refl
named_apart p Callers key fs = refl
