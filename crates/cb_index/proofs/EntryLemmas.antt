-- Entries in order.
use Rattle.std.proofs.Common.{◌≡◌, ◌∙◌, sym, subst}
use Rattle.std.proofs.lemmas.Cmp.{nat_list_cmp_total, tied_itself}
use Rattle.std.specs.Cmp.Lexicographic.{slice_cmp}
use Rattle.std.specs.Ordering.{nat_cmp, ordering_then}
use Rattle.std.specs.declared.cmp.Ordering.TheVariants.{Equal}
use Rattle.cb_scan.proofs.KeyOrder.{both_equal, ended, same_number}
use Rattle.cb_index.specs.Archived.{Archived, name_of}
use Rattle.cb_index.specs.Entries.{Keyer, bytes_key, file_key, key_of, numbers, sort_key}
use Rattle.cb_index.specs.declared.entry.Posting.{Posting}

module _ (a : Archived) (e f : Posting) where
  pub file_cmp : ordering_then (slice_cmp nat_cmp (name_of a e.name) (name_of a f.name))
      (slice_cmp nat_cmp (numbers e) (numbers f))
      ≡ slice_cmp nat_cmp (file_key a e) (file_key a f)
  file_cmp = sym (ended (name_of a e.name) (name_of a f.name) (numbers e) (numbers f))

module _ (keyer : Keyer) (a : Archived) (e f : Posting) where
  pub bytes_cmp : ordering_then (slice_cmp nat_cmp (key_of keyer a e) (key_of keyer a f))
      (slice_cmp nat_cmp (file_key a e) (file_key a f))
      ≡ slice_cmp nat_cmp (bytes_key keyer a e) (bytes_key keyer a f)
  bytes_cmp = sym (ended (key_of keyer a e) (key_of keyer a f) (file_key a e) (file_key a f))

  -- no two entries are equal in order
  pub sort_exact : sort_key keyer a e ≡ sort_key keyer a f → e ≡ f
  unfolding sort_key
  sort_exact same =
      let tied : slice_cmp nat_cmp (sort_key keyer a e) (sort_key keyer a f) ≡ Equal =
      subst (λ x. slice_cmp nat_cmp (sort_key keyer a e) x ≡ Equal) same
      (tied_itself nat_list_cmp_total (sort_key keyer a e)) in
      let first =
      both_equal (nat_cmp e.prefix f.prefix)
      (slice_cmp nat_cmp (bytes_key keyer a e) (bytes_key keyer a f)) tied in
      let second = both_equal _ _ (bytes_cmp ∙ first.1) in
      let third = both_equal _ _ (file_cmp a e f ∙ second.1) in
      let name = both_equal (nat_cmp e.name f.name) _ third.1 in
      let version = both_equal (nat_cmp e.version f.version) _ name.1 in
      let number = both_equal (nat_cmp e.number f.number) _ version.1 in
      let rows = both_equal (nat_cmp e.rows f.rows) _ number.1 in
      λ i. record {
        prefix = same_number e.prefix f.prefix first.0 i;
        name = same_number e.name f.name name.0 i;
        version = same_number e.version f.version version.0 i;
        number = same_number e.number f.number number.0 i;
        rows = same_number e.rows f.rows rows.0 i;
      }
