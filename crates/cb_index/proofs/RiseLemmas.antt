-- The items of a version that have entries ascend by number.
use Rattle.std.proofs.Common.{◌<◌, ℕ, zero, suc, Bool, true, false, List, [], ◌∷◌, Some, None, map}
use Rattle.std.proofs.Common.{filter, subst, sym, arith}
use Rattle.std.specs.Prelude.{Option, cond}
use Rattle.std.specs.List.{AllByRecursion, range_with_len}
use Rattle.cb_scan.specs.Order.{AreOrdered}
use Rattle.cb_index.specs.Scanned.{Scanned, facts_of}
use Rattle.cb_index.specs.Firsts.{listed}
use Rattle.cb_index.specs.Held.{AreRising, Listed}
use Rattle.cb_index.specs.Items.{is_first, item_count}
use Rattle.cb_index.specs.Orders.{def_prefix, defs_listed, firsts_in, numbered, tag_prefix}
use Rattle.cb_index.specs.Orders.{tags_listed}
use Rattle.cb_index.specs.declared.entry.FactKind.{FactKind}
use Rattle.cb_index.proofs.RangeItems.{range_next}

-- ---- definitions: each has an entry
above : (least number : ℕ) (ps : List ℕ) → least < number
    → AllByRecursion (λ (j : Listed). least < j.number) (numbered number ps)
above least number [] low = tt
above least number (p ∷ ps) low = (low, above least (suc number) ps (omega (arith, low)))

numbered_rise : (number : ℕ) (ps : List ℕ) → AreRising (numbered number ps)
unfolding AreOrdered
numbered_rise number [] = tt
numbered_rise number (p ∷ ps) =
    (above number (suc number) ps (omega arith), numbered_rise (suc number) ps)

pub defs_rise : (t : Option Scanned) → AreRising (defs_listed t)
unfolding AreOrdered
defs_rise None = tt
defs_rise (Some text) = numbered_rise 0 (map (def_prefix text.bytes) (facts_of text).defs)

pub tags_rise : (t : Option Scanned) → AreRising (tags_listed t)
unfolding AreOrdered
tags_rise None = tt
tags_rise (Some text) = numbered_rise 0 (map (tag_prefix text.bytes) (facts_of text).defs)

-- ---- uses and calls: the first of each key has one
module _ (sort : FactKind) (text : Scanned) (keeps : ℕ → Bool) where
  kept_above : (least n len : ℕ) → least < n
      → AllByRecursion (λ (j : Listed). least < j.number)
      (map (listed sort text) (filter keeps (range_with_len n len)))
  kept_above least n zero low = tt
  kept_above least n (suc len) low =
      subst (λ l.
      AllByRecursion (λ (j : Listed). least < j.number) (map (listed sort text) (filter keeps l)))
      (sym (range_next n len)) (step (keeps n) (kept_above least (suc n) len (omega (arith, low))))
    where
      step : (b : Bool) → AllByRecursion (λ (j : Listed). least < j.number)
          (map (listed sort text) (filter keeps (range_with_len (suc n) len)))
          → AllByRecursion (λ (j : Listed). least < j.number)
          (map (listed sort text) (cond b (n ∷ filter keeps (range_with_len (suc n) len))
          (filter keeps (range_with_len (suc n) len))))
      step true rest = (low, rest)
      step false rest = rest

  kept_rise : (n len : ℕ) → AreRising (map (listed sort text) (filter keeps (range_with_len n len)))
  unfolding AreOrdered
  kept_rise n zero = tt
  kept_rise n (suc len) =
      subst (λ l. AreRising (map (listed sort text) (filter keeps l)))
      (sym (range_next n len)) (step (keeps n) (kept_rise (suc n) len))
    where
      step : (b : Bool)
          → AreRising (map (listed sort text) (filter keeps (range_with_len (suc n) len)))
          → AreRising (map (listed sort text) (cond b (n
          ∷ filter keeps (range_with_len (suc n) len)) (filter keeps (range_with_len (suc n) len))))
      step true rest = (kept_above n (suc n) len (omega arith), rest)
      step false rest = rest

pub firsts_rise : (sort : FactKind) (t : Option Scanned) → AreRising (firsts_in sort t)
unfolding AreOrdered
firsts_rise sort None = tt
firsts_rise sort (Some text) = kept_rise sort text (is_first sort text) 0 (item_count sort text)
