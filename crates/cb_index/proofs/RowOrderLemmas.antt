-- Rows in order.
use Rattle.std.proofs.Common.{◌≡◌, ◌∙◌, ℕ, true, false, List, refl, sym, ap}
use Rattle.std.proofs.lemmas.Bool.{false≢true, true≢false}
use Rattle.std.proofs.lemmas.Cmp.{nat_list_cmp_total, on_total, then_total}
use Rattle.std.specs.Prelude.{not}
use Rattle.std.specs.Cmp.{IsTotalOrder}
use Rattle.std.specs.Cmp.Lexicographic.{slice_cmp}
use Rattle.std.specs.Ordering.{is_gt, nat_cmp, ordering_reverse, ordering_then}
use Rattle.std.specs.declared.cmp.Ordering.{Ordering}
use Rattle.std.specs.declared.cmp.Ordering.TheVariants.{Less, Equal, Greater}
use Rattle.cb_scan.proofs.KeyOrder.{both_equal, same_bytes, same_number}
use Rattle.cb_index.specs.Archived.{Archived, name_of}
use Rattle.cb_index.specs.Entries.{Keyer}
use Rattle.cb_index.specs.RowOrders.{Placer, row_cmp, row_key, row_numbers}
use Rattle.cb_index.specs.declared.sorted.Row.{Row}

module _ (keyer : Keyer) (start rank : Placer) (a : Archived) where
  pub rows_total : IsTotalOrder (row_cmp keyer start rank a)
  rows_total =
      then_total (on_total (row_key keyer a) nat_list_cmp_total)
      (then_total (on_total (λ (r : Row). name_of a r.name) nat_list_cmp_total)
      (on_total (row_numbers start rank a) nat_list_cmp_total))

  -- only a row itself is equal to it
  pub row_exact : (r s : Row) → row_cmp keyer start rank a r s ≡ Equal → r ≡ s
  row_exact r s tied =
      let first = both_equal (slice_cmp nat_cmp (row_key keyer a r) (row_key keyer a s)) _ tied in
      let second = both_equal (slice_cmp nat_cmp (name_of a r.name) (name_of a s.name))
      (slice_cmp nat_cmp (row_numbers start rank a r) (row_numbers start rank a s)) first.1 in
      let from = both_equal _ _ second.1 in
      let kind = both_equal _ _ from.1 in
      let name = both_equal (nat_cmp r.name s.name) _ kind.1 in
      let version = both_equal (nat_cmp r.version s.version) _ name.1 in
      let item = both_equal (nat_cmp r.item s.item) _ version.1 in
      λ i. record {
        name = same_number r.name s.name name.0 i;
        version = same_number r.version s.version version.0 i;
        item = same_number r.item s.item item.0 i;
      }

  first_not_gt : (o p : Ordering) → not (is_gt (ordering_then o p)) ≡ true → is_gt o ≡ false
  first_not_gt Less p is = refl
  first_not_gt Equal p is = refl
  first_not_gt Greater p is = absurd (false≢true is)

  same_from : (x y : List ℕ) → is_gt (slice_cmp nat_cmp x y) ≡ false
      → is_gt (slice_cmp nat_cmp y x) ≡ false → x ≡ y
  same_from x y low high = by_order (slice_cmp nat_cmp y x) refl high
    where
      by_order : (o : Ordering) → slice_cmp nat_cmp y x ≡ o → is_gt o ≡ false → x ≡ y
      by_order Less is le =
          absurd (true≢false
          (sym (ap is_gt (nat_list_cmp_total.antisymm x y ∙ ap ordering_reverse is)) ∙ low))
      by_order Equal is le = sym (same_bytes y x is)
      by_order Greater is le = absurd (true≢false le)

  -- what stands between two rows of one key has it too
  pub rows_together : (r s t : Row) → not (is_gt (row_cmp keyer start rank a r s)) ≡ true
      → not (is_gt (row_cmp keyer start rank a s t)) ≡ true → row_key keyer a r ≡ row_key keyer a t
      → row_key keyer a s ≡ row_key keyer a r
  rows_together r s t low high same =
      let before = first_not_gt (slice_cmp nat_cmp (row_key keyer a r) (row_key keyer a s)) _ low in
      let after = first_not_gt (slice_cmp nat_cmp (row_key keyer a s) (row_key keyer a t)) _ high in
      sym (same_from (row_key keyer a r) (row_key keyer a s) before
      (ap (λ k. is_gt (slice_cmp nat_cmp (row_key keyer a s) k)) same ∙ after))
