-- Flags that are set stay set, and a clear one tells that no cell has its hash.
use Rattle.std.proofs.Common.{◌≡◌, ◌∙◌, ◌<◌, ◌≢◌, ◌%◌, ℕ, Bool, true, false}
use Rattle.std.proofs.Common.{List, [], ◌∷◌, refl, sym, ap, subst, length, get_or, max}
use Rattle.std.proofs.Common.{arith, ◌⊎◌, inl, inr}
use Rattle.std.proofs.lemmas.Bool.{cases_eq}
use Rattle.std.proofs.lemmas.Bool.Decides.{Decides-eqb, nat_tests}
use Rattle.std.proofs.lemmas.List.{get_or-set_other, get_or-set_same, get_or_past, length-set}
use Rattle.std.specs.Prelude.{cond, nat_eq, nat_lt, slice_set}
use Rattle.cb_scan.proofs.FunctionsRise.{all_implied}
use Rattle.cb_index.specs.Columns.{AreColumns, AreFlagged, Columned, HasNone, column_for}
use Rattle.cb_index.specs.Columns.{column_of, flag_of, flag_place, with_flag, with_flags}
use Rattle.cb_index.specs.Scanned.{Scanned}
use Rattle.cb_index.specs.Cells.{Cell}
use Rattle.cb_index.specs.declared.entry.FactKind.{FactKind}
use Rattle.cb_index.specs.declared.entry.FactKind.TheVariants.{Uses, Callees, Callers}
use Rattle.cb_index.proofs.ColumnLemmas.{column_is}

-- ---- one flag is set
module _ (flags : List Bool) (hash : ℕ) where
  abbrev place : ℕ
  place = flag_place flags hash

  abbrev flags_set : List Bool
  flags_set = slice_set flags place true

  same_place : (k : ℕ) → flag_place flags_set k ≡ flag_place flags k
  same_place k = ap (λ n. k % max n 1) (length-set flags place true)

  kept_set : place < length flags → (k : ℕ) → flag_of flags k ≡ true → flag_of flags_set k ≡ true
  kept_set below k is =
      ap (λ n. get_or flags_set n true) (same_place k)
      ∙ either (cases_eq (flag_place flags k) place)
    where
      either : (flag_place flags k ≡ place) ⊎ (flag_place flags k ≢ place)
          → get_or flags_set (flag_place flags k) true ≡ true
      either (inl same) =
          ap (λ n. get_or flags_set n true) same ∙ get_or-set_same flags place true true below
      either (inr other) =
          get_or-set_other flags place (flag_place flags k) true true other ∙ is

  pub kept_one : (k : ℕ) → flag_of flags k ≡ true → flag_of (with_flag flags hash) k ≡ true
  kept_one k is = by_test (nat_lt place (length flags)) refl
    where
      by_test : (b : Bool) → nat_lt place (length flags) ≡ b
          → flag_of (cond b flags_set flags) k ≡ true
      by_test true below = kept_set (grind (arith, nat_tests, below)) k is
      by_test false past = is

  pub set_one : flag_of (with_flag flags hash) hash ≡ true
  set_one = by_test (nat_lt place (length flags)) refl
    where
      by_test : (b : Bool) → nat_lt place (length flags) ≡ b
          → flag_of (cond b flags_set flags) hash ≡ true
      by_test true below =
          ap (λ n. get_or flags_set n true) (same_place hash)
          ∙ get_or-set_same flags place true true (grind (arith, nat_tests, below))
      by_test false past = get_or_past flags place true (grind (arith, nat_tests, past))

-- ---- the flags of cells are set
kept_each : (cells : List Cell) (flags : List Bool) (k : ℕ) → flag_of flags k ≡ true
    → flag_of (with_flags flags cells) k ≡ true
unfolding with_flags
kept_each [] flags k is = is
kept_each (c ∷ cs) flags k is = kept_each cs (with_flag flags c.hash) k (kept_one flags c.hash k is)

pub set_each : (cells : List Cell) (flags : List Bool) → AreFlagged (with_flags flags cells) cells
unfolding with_flags
set_each [] flags = tt
set_each (c ∷ cs) flags = (
  kept_each cs (with_flag flags c.hash) c.hash (set_one flags c.hash),
  set_each cs (with_flag flags c.hash),
)

pub kept_all : (more cells : List Cell) (flags : List Bool) → AreFlagged flags cells
    → AreFlagged (with_flags flags more) cells
kept_all more cells flags are =
    all_implied (λ (c : Cell). flag_of flags c.hash ≡ true)
    (λ (c : Cell). flag_of (with_flags flags more) c.hash ≡ true)
    (λ c is. kept_each more flags c.hash is) cells are

-- ---- a clear flag
not_true : (b : Bool) → (b ≡ true → true ≡ false) → b ≡ false
not_true true never = never refl
not_true false never = refl

all_flagged : (sort : FactKind) (text : Scanned) (c : Columned) → AreColumns text c
    → AreFlagged c.signature (column_for sort c)
all_flagged Uses text c are = are.uses_flagged
all_flagged Callees text c are = are.callees_flagged
all_flagged Callers text c are = are.callers_flagged

pub none_has : (sort : FactKind) (text : Scanned) (c : Columned) (hash : ℕ) → AreColumns text c
    → flag_of c.signature hash ≡ false → HasNone hash (column_of sort text)
none_has sort text c hash are clear =
    subst (HasNone hash) (column_is sort text c are)
    (all_implied (λ (d : Cell). flag_of c.signature d.hash ≡ true)
    (λ (d : Cell). nat_eq d.hash hash ≡ false)
    (λ d set. not_true (nat_eq d.hash hash)
    (λ same. sym set ∙ ap (flag_of c.signature) ((Decides-eqb d.hash hash).0 same) ∙ clear))
    (column_for sort c) (all_flagged sort text c are))
