-- The rows that an index of its own holds.
use Rattle.std.proofs.Common.{◌≡◌, ◌∙◌, ◌++◌, List, [], Some, Bool, false, ap, filter, nat_eq}
use Rattle.std.proofs.Common.{arith}
use Rattle.std.proofs.lemmas.List.Sums.{sum_by-append}
use Rattle.std.specs.Prelude.{not, sum_by}
use Rattle.cb_scan.specs.Order.{AreOrdered, in_order, put}
use Rattle.cb_scan.proofs.FactsWithin.{all_put}
use Rattle.cb_scan.proofs.OrderLemmas.{in_order_sum}
use Rattle.cb_index.specs.Archived.{Archived}
use Rattle.cb_index.specs.Entries.{sort_key}
use Rattle.cb_index.specs.Files.{IsThere, is_shown, shown_name, shown_under}
use Rattle.cb_index.specs.Held.{all_entries, entries_of}
use Rattle.cb_index.specs.Kinds.{keyer_of, lister_of}
use Rattle.cb_index.specs.Spreads.{HoldsRowsOf}
use Rattle.cb_index.specs.declared.entry.Posting.{Posting}
use Rattle.cb_index.specs.declared.entry.Shown.{Shown}
use Rattle.cb_index.specs.declared.entry.IndexKind.{IndexKind}
use Rattle.cb_index.proofs.AscendLemmas.{ascending_filter, ascending_put, others}
use Rattle.cb_index.proofs.EntryLemmas.{sort_exact}
use Rattle.cb_index.proofs.InOrderLemmas.{all_filter, same_order, sum_flat_put}
use Rattle.cb_index.proofs.IndexLemmas.{indexed_out}
use Rattle.cb_index.proofs.ListedLemmas.{ascending_apart}

module _ (kind : IndexKind) (a : Archived) where
  -- no rows
  pub rows_none : (es : List Posting) → es ≡ [] → HoldsRowsOf kind a [] es
  unfolding in_order AreOrdered
  rows_none es none = record { there = tt; ascending = tt; entries = none }

  module _ (shown : List Shown) (s : Shown) (es then : List Posting)
      (held : HoldsRowsOf kind a shown es) where
    -- those of one more file
    pub rows_more : then
        ≡ in_order (sort_key (keyer_of kind) a) (es ++ entries_of (lister_of kind) a s)
        → IsThere a s → is_shown a shown s ≡ false
        → HoldsRowsOf kind a (put (shown_name a) s shown) then
    rows_more more here none = record {
      there = all_put (shown_name a) (IsThere a) s shown here held.there;
      ascending = ascending_put a s shown (others a s shown none) held.ascending;
      entries = more ∙ same_order (sort_key (keyer_of kind) a) (sort_exact (keyer_of kind) a)
          (es ++ entries_of (lister_of kind) a s)
          (all_entries (lister_of kind) a (put (shown_name a) s shown))
          (λ f.
          let both = sum_by-append f es (entries_of (lister_of kind) a s) in
          let old : sum_by f es ≡ sum_by f (all_entries (lister_of kind) a shown) =
          ap (sum_by f) held.entries
          ∙ in_order_sum (sort_key (keyer_of kind) a) f (all_entries (lister_of kind) a shown) in
          let new = sum_flat_put (entries_of (lister_of kind) a) (shown_name a) f s shown in
          omega (arith, both, old, new));
    }

    -- those of the others, where one file goes
    pub rows_fewer : ((rest : List Posting)
        → es ≡ in_order (sort_key (keyer_of kind) a) (entries_of (lister_of kind) a s ++ rest)
        → then ≡ in_order (sort_key (keyer_of kind) a) rest)
        → shown_under s.name shown ≡ Some s
        → HoldsRowsOf kind a (filter (λ (t : Shown). not (nat_eq t.name s.name)) shown) then
    rows_fewer taken under =
        let other : Shown → Bool = λ t. not (nat_eq t.name s.name) in
        record {
          there = all_filter other (IsThere a) shown held.there;
          ascending = ascending_filter a other shown held.ascending;
          entries = taken (all_entries (lister_of kind) a (filter other shown))
              (indexed_out a s.name (keyer_of kind) (lister_of kind) shown s es under
              (ascending_apart a shown held.ascending) held.entries);
        }
