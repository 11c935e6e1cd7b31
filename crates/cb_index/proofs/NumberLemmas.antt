-- Items by the first one that shows their name, rows by these numbers, and the rows of calls.
use Rattle.std.proofs.Common.{◌≡◌, ◌∙◌, ◌+◌, ◌<◌, ◌≤◌, ℕ, zero, suc, Bool, true, false, List, []}
use Rattle.std.proofs.Common.{Some, None, refl, sym, ap, subst, length, get_or, arith, ⊎_elim}
use Rattle.std.specs.Prelude.{cond, nat_eq, not, slice_get, Option, unwrap_or, ◌&&◌, ◌||◌}
use Rattle.std.specs.Borrow.{Bor}
use Rattle.std.specs.BTreeMap.{BTreeMap}
use Rattle.std.specs.BTreeSet.{BTreeSet}
use Rattle.std.specs.BTreeSet as sorted
use Rattle.std.specs.Cmp.Lexicographic.{slice_cmp}
use Rattle.std.specs.List.{list_any}
use Rattle.std.specs.Map.{lookup}
use Rattle.std.specs.Option.{option_map, option_or}
use Rattle.std.specs.Ordering.{is_eq, nat_cmp, ordering_then}
use Rattle.std.specs.Str.{bytes_eq}
use Rattle.std.specs.declared.cmp.Ordering.{Ordering}
use Rattle.std.specs.declared.cmp.Ordering.TheVariants.{Less, Equal, Greater}
use Rattle.std.proofs.lemmas.Bool.{cases_lt}
use Rattle.std.proofs.lemmas.Bool.Decides.{Decides-eqb}
use Rattle.std.proofs.lemmas.Cmp.{nat_cmp_total, nat_list_cmp_total, tied_itself}
use Rattle.std.proofs.lemmas.Option.{slice_get-get_or}
use Rattle.std.proofs.lemmas.Slice.Eq.{bytes_eq-Decides}
use Rattle.cb_scan.specs.declared.facts.Call.{Call}
use Rattle.cb_scan.proofs.KeyOrder.{both_equal, same_bytes, same_number}
use Rattle.cb_index.specs.Bytes.{bytes_at, cut}
use Rattle.cb_index.specs.Counts.{same_row}
use Rattle.cb_index.specs.Items.{item_key, item_line}
use Rattle.cb_index.specs.Repeats.{any_below, have_one_row, is_repeat}
use Rattle.cb_index.specs.Scanned.{Scanned, facts_of}
use Rattle.cb_index.specs.declared.entry.FactKind.{FactKind}
use Rattle.cb_index.specs.declared.entry.FactKind.TheVariants.{Callees, Callers}
use Rattle.cb_index.specs.steps.Found.{fact_at, fact_of_call}
use Rattle.cb_index.specs.steps.Numbering.{AreRows, Knows, Row, by_parts, first_below, first_shown}
use Rattle.cb_index.specs.steps.Numbering.{function_at, has_row, known_as, number_of, shows, some_if}
use Rattle.cb_index.proofs.ItemLines.{fact_line}
use Rattle.cb_index.proofs.RepeatLemmas.{both}
use Rattle.cb_index.proofs.RowsAscendLemmas.{nowhere}

-- ---- truth values and orderings
one_truth : (a b : Bool) → (a ≡ true → b ≡ true) → (b ≡ true → a ≡ true) → a ≡ b
one_truth true b there back = sym (there refl)
one_truth false true there back = back refl
one_truth false false there back = refl

is_equal : (o : Ordering) → is_eq o ≡ true → o ≡ Equal
is_equal Less is = absurd cc
is_equal Equal is = refl
is_equal Greater is = absurd cc

tied : (xs ys : List ℕ) → xs ≡ ys → slice_cmp nat_cmp xs ys ≡ Equal
tied xs ys is =
    subst (λ zs. slice_cmp nat_cmp xs zs ≡ Equal) is (tied_itself nat_list_cmp_total xs)

tied_numbers : (m n : ℕ) → m ≡ n → nat_cmp m n ≡ Equal
tied_numbers m n is = subst (λ k. nat_cmp m k ≡ Equal) is (tied_itself nat_cmp_total m)

not_not : (b : Bool) → not (not b) ≡ b
not_not true = refl
not_not false = refl

cond_or : (b c : Bool) → cond b true c ≡ (b || c)
cond_or true c = refl
cond_or false c = refl

pub any_same : (p q : ℕ → Bool) (n : ℕ) → ((k : ℕ) → k < n → p k ≡ q k) → any_below p n ≡ any_below q n
unfolding any_below
any_same p q zero same = refl
any_same p q (suc n) same =
    (λ i. same n (omega arith) i || any_same p q n (λ k low. same k (omega (arith, low))) i)

-- ---- the first number that passes a test
none_new : (o : Option ℕ) → o ≡ option_or o None
none_new None = refl
none_new (Some k) = refl

known_new : (o : Option ℕ) (n : ℕ) → option_or o (Some n) ≡ Some (unwrap_or o n)
known_new None n = refl
known_new (Some k) n = refl

module _ (p : ℕ → Bool) where
  first_hit : (n : ℕ) → p n ≡ true → first_below p (suc n) ≡ Some (unwrap_or (first_below p n) n)
  unfolding first_below
  first_hit n is =
      ap (λ b. option_or (first_below p n) (some_if b n)) is ∙ known_new (first_below p n) n

  first_kept : (n m k : ℕ) → n ≤ m → first_below p n ≡ Some k → first_below p m ≡ Some k
  unfolding first_below
  first_kept n zero k low is =
      let none : n ≡ 0 = omega (arith, low) in
      sym (ap (first_below p) none) ∙ is
  first_kept n (suc m) k low is = ⊎_elim
      (λ (under : n < suc m).
      ap (λ o. option_or o (some_if (p m) m)) (first_kept n m k (omega (arith, under)) is))
      (λ (past : suc m ≤ n).
      let same : n ≡ suc m = omega (arith, past, low) in
      sym (ap (first_below p) same) ∙ is)
      (cases_lt n (suc m))

  first_passes : (n k : ℕ) → first_below p n ≡ Some k → p k ≡ true
  unfolding first_below
  first_passes zero k is = absurd cc
  first_passes (suc n) k is =
      by_test (first_below p n) (p n) (λ was. first_passes n k was) refl refl is
    where
      by_test : (o : Option ℕ) (b : Bool) → (first_below p n ≡ Some k → p k ≡ true)
          → first_below p n ≡ o → p n ≡ b → option_or o (some_if b n) ≡ Some k → p k ≡ true
      by_test (Some j) b before was test is = before (was ∙ is)
      by_test None true before was test is =
          subst (λ j. p j ≡ true) (ap (λ o. unwrap_or o n) is) test
      by_test None false before was test is = absurd cc

-- ---- what is known under names
known_one : (known : BTreeMap (Bor (List ℕ)) ℕ) (p q : Bor (List ℕ)) → p.now ≡ q.now
    → known_as known p ≡ known_as known q
known_one known p q is =
    ap (λ bytes. lookup (λ (k : Bor (List ℕ)). is_eq (slice_cmp nat_cmp bytes k.now)) known.entries) is

pub known_stays : (known : BTreeMap (Bor (List ℕ)) ℕ) (name q : Bor (List ℕ)) (first n : ℕ)
    → known_as known name ≡ Some first
    → known_as known q
    ≡ option_or (known_as known q) (some_if (is_eq (slice_cmp nat_cmp name.now q.now)) n)
known_stays known name q first n is = by_test (is_eq (slice_cmp nat_cmp name.now q.now)) refl
  where
    by_test : (b : Bool) → is_eq (slice_cmp nat_cmp name.now q.now) ≡ b
        → known_as known q ≡ option_or (known_as known q) (some_if b n)
    by_test true test =
        let was : Some first ≡ known_as known q =
        sym is ∙ known_one known name q (same_bytes name.now q.now (is_equal _ test)) in
        subst (λ o. o ≡ option_or o (Some n)) was refl
    by_test false test = none_new (known_as known q)

pub known_put : (old new : BTreeMap (Bor (List ℕ)) ℕ) (name q : Bor (List ℕ)) (n : ℕ)
    → known_as old name ≡ None
    → known_as new q
    ≡ cond (is_eq (slice_cmp nat_cmp name.now q.now)) (Some n) (known_as old q)
    → known_as new q
    ≡ option_or (known_as old q) (some_if (is_eq (slice_cmp nat_cmp name.now q.now)) n)
known_put old new name q n none put = put ∙ by_test (is_eq (slice_cmp nat_cmp name.now q.now)) refl
  where
    by_test : (b : Bool) → is_eq (slice_cmp nat_cmp name.now q.now) ≡ b
        → cond b (Some n) (known_as old q) ≡ option_or (known_as old q) (some_if b n)
    by_test true test =
        let was : None ≡ known_as old q =
        sym none ∙ known_one old name q (same_bytes name.now q.now (is_equal _ test)) in
        ap (λ o. option_or o (Some n)) was
    by_test false test = none_new (known_as old q)

-- ---- the numbers of items
module _ (sort : FactKind) (text : Scanned) where
  abbrev name : ℕ → List ℕ
  name = function_at sort text

  shown : (k : ℕ) (q : List ℕ) → name k ≡ q → shows sort text q k ≡ true
  shown k q is = ap is_eq (tied (name k) q is)

  is_shown : (k : ℕ) (q : List ℕ) → shows sort text q k ≡ true → name k ≡ q
  is_shown k q is = same_bytes (name k) q (is_equal (slice_cmp nat_cmp (name k) q) is)

  number_is : (n : ℕ) → first_shown sort text (name n) (suc n) ≡ Some (number_of sort text n)
  unfolding number_of
  number_is n = first_hit (shows sort text (name n)) n (shown n (name n) refl)

  -- an item has the number of one before it that shows its name
  pub number_before : (n k : ℕ) → k < n → name k ≡ name n
      → first_shown sort text (name n) n ≡ Some (number_of sort text k)
  number_before n k low is =
      subst (λ q. first_shown sort text q n ≡ Some (number_of sort text k)) is
      (first_kept (shows sort text (name k)) (suc k) n (number_of sort text k) low (number_is k))

  number_tells : (m n : ℕ) → number_of sort text m ≡ number_of sort text n → name m ≡ name n
  number_tells m n is =
      let at : (k : ℕ) → name (number_of sort text k) ≡ name k =
      λ k. is_shown (number_of sort text k) (name k)
      (first_passes (shows sort text (name k)) (suc k) (number_of sort text k) (number_is k)) in
      sym (at m) ∙ ap name is ∙ at n

  number_same : (m n : ℕ) → name m ≡ name n → number_of sort text m ≡ number_of sort text n
  number_same m n is =
      let up = suc m + suc n in
      let one = first_kept (shows sort text (name m)) (suc m) up (number_of sort text m) (omega arith)
      (number_is m) in
      let other = first_kept (shows sort text (name n)) (suc n) up (number_of sort text n)
      (omega arith) (number_is n) in
      ap (λ o. unwrap_or o 0) (sym one ∙ ap (λ q. first_shown sort text q up) is ∙ other)

  -- a name that is known stays known
  pub knows_more : (n first : ℕ) (known : BTreeMap (Bor (List ℕ)) ℕ) → Knows sort text known n
      → first_shown sort text (name n) n ≡ Some first → Knows sort text known (n + 1)
  unfolding first_below
  knows_more n first known knows is =
      let up : suc n ≡ n + 1 = omega arith in
      subst (Knows sort text known) up (λ q. knows q ∙ by_test q (shows sort text q.now n) refl)
    where
      by_test : (q : Bor (List ℕ)) (b : Bool) → shows sort text q.now n ≡ b
          → first_shown sort text q.now n ≡ first_shown sort text q.now (suc n)
      by_test q true test =
          let was = subst (λ r. first_shown sort text r n ≡ Some first) (is_shown n q.now test) is in
          was ∙ sym (first_kept (shows sort text q.now) n (suc n) first (omega arith) was)
      by_test q false test =
          none_new (first_shown sort text q.now n)
          ∙ ap (λ b. option_or (first_shown sort text q.now n) (some_if b n)) (sym test)

  -- one that is new becomes known
  pub knows_new : (n : ℕ) (old new : BTreeMap (Bor (List ℕ)) ℕ) (own : Bor (List ℕ))
      → Knows sort text old n → own.now ≡ name n
      → ((q : Bor (List ℕ)) → known_as new q
      ≡ option_or (known_as old q) (some_if (is_eq (slice_cmp nat_cmp own.now q.now)) n))
      → Knows sort text new (n + 1)
  unfolding first_below
  knows_new n old new own knows is put =
      let up : suc n ≡ n + 1 = omega arith in
      subst (Knows sort text new) up (λ q. put q
      ∙ (λ i. option_or (knows q i) (some_if (is_eq (slice_cmp nat_cmp (is i) q.now)) n)))

  pub knows_none : (known : BTreeMap (Bor (List ℕ)) ℕ) → known.entries ≡ []
      → Knows sort text known 0
  unfolding first_below
  knows_none known is q =
      ap (lookup (λ (k : Bor (List ℕ)). is_eq (slice_cmp nat_cmp q.now k.now))) is

  pub number_found : (n k : ℕ) → first_shown sort text (name n) n ≡ Some k
      → k ≡ number_of sort text n
  unfolding number_of
  number_found n k is = sym (ap (λ o. unwrap_or o n) is)

  pub number_known : (n k : ℕ) (known : BTreeMap (Bor (List ℕ)) ℕ) (own : Bor (List ℕ))
      → Knows sort text known n → own.now ≡ name n → k ≡ unwrap_or (known_as known own) n
      → k ≡ number_of sort text n
  unfolding number_of
  number_known n k known own knows named is =
      is ∙ ap (λ o. unwrap_or o n) (knows own ∙ ap (λ q. first_shown sort text q n) named)

  -- ---- rows
  abbrev line : ℕ → ℕ
  line = item_line sort (facts_of text)

  pub row_is : (n k : ℕ) (r : Row) → r.0 ≡ line n → r.1 ≡ number_of sort text n
      → r.2.now ≡ item_key sort text n → has_row sort text r k ≡ have_one_row sort text n k
  row_is n k r line_is number_is key_is =
      one_truth (has_row sort text r k) (have_one_row sort text n k)
      (λ is.
      let all = both_equal (ordering_then lines numbers) keys (is_equal _ is) in
      let first = both_equal lines numbers all.0 in
      let on : (fact_at sort [] text k).line ≡ (fact_at sort [] text n).line =
      fact_line sort text k ∙ same_number (line k) r.0 first.0 ∙ line_is
      ∙ sym (fact_line sort text n) in
      let named : name k ≡ name n =
      number_tells k n (same_number (number_of sort text k) r.1 first.1 ∙ number_is) in
      let keyed : item_key sort text n ≡ item_key sort text k =
      sym (same_bytes (item_key sort text k) r.2.now all.1 ∙ key_is) in
      λ i. ((Decides-eqb (fact_at sort [] text k).line (fact_at sort [] text n).line).1 on i
      && (bytes_eq-Decides (name k) (name n)).1 named i)
      && (bytes_eq-Decides (item_key sort text n) (item_key sort text k)).1 keyed i)
      (λ is.
      let all =
      both
      (nat_eq (fact_at sort [] text k).line (fact_at sort [] text n).line
      && bytes_eq (name k) (name n))
      (bytes_eq (item_key sort text n) (item_key sort text k)) is in
      let first = both (nat_eq (fact_at sort [] text k).line (fact_at sort [] text n).line)
      (bytes_eq (name k) (name n)) all.0 in
      let on : line k ≡ r.0 =
      sym (fact_line sort text k)
      ∙ (Decides-eqb (fact_at sort [] text k).line (fact_at sort [] text n).line).0 first.0
      ∙ fact_line sort text n ∙ sym line_is in
      let named : number_of sort text k ≡ r.1 =
      number_same k n ((bytes_eq-Decides (name k) (name n)).0 first.1) ∙ sym number_is in
      let keyed : item_key sort text k ≡ r.2.now =
      sym ((bytes_eq-Decides (item_key sort text n) (item_key sort text k)).0 all.1)
      ∙ sym key_is in
      λ i. is_eq (ordering_then
      (ordering_then (tied_numbers (line k) r.0 on i)
      (tied_numbers (number_of sort text k) r.1 named i))
      (tied (item_key sort text k) r.2.now keyed i)))
    where
      lines : Ordering
      lines = nat_cmp (line k) r.0

      numbers : Ordering
      numbers = nat_cmp (number_of sort text k) r.1

      keys : Ordering
      keys = slice_cmp nat_cmp (item_key sort text k) r.2.now

  -- what an item has as its row
  abbrev pub IsRowOf : Row → ℕ → Type 0
  IsRowOf r n =
      (r.0 ≡ line n) × (r.1 ≡ number_of sort text n) × (r.2.now ≡ item_key sort text n)

  pub is_again : (n : ℕ) (r : Row) (rows : BTreeSet Row) (new : Bool) → IsRowOf r n
      → AreRows sort text rows n → new ≡ not (sorted.contains by_parts rows r)
      → not new ≡ is_repeat sort text n
  is_again n r rows new of are is =
      ap not is ∙ not_not (sorted.contains by_parts rows r) ∙ are r
      ∙ any_same (has_row sort text r) (have_one_row sort text n) n
      (λ k low. row_is n k r of.0 of.1 of.2)

  pub rows_more : (n : ℕ) (r : Row) (old new : BTreeSet Row) → IsRowOf r n
      → AreRows sort text old n
      → ((q : Row) → sorted.contains by_parts new q
      ≡ cond (is_eq (by_parts r q)) true (sorted.contains by_parts old q))
      → AreRows sort text new (n + 1)
  unfolding any_below
  rows_more n r old new of are put =
      let up : suc n ≡ n + 1 = omega arith in
      subst (AreRows sort text new) up (λ q. put q
      ∙ cond_or (is_eq (by_parts r q)) (sorted.contains by_parts old q)
      ∙ (λ i. is_eq (ordering_then
      (ordering_then (nat_cmp (of.0 i) q.0) (nat_cmp (of.1 i) q.1))
      (slice_cmp nat_cmp (of.2 i) q.2.now)) || are q i))

  pub rows_none : (rows : BTreeSet Row) → rows.keys ≡ [] → AreRows sort text rows 0
  unfolding any_below
  rows_none rows is r = ap (list_any (λ k. is_eq (by_parts r k))) is

-- ---- calls have one row under both of their names
swapped : (l a b : Bool) → ((l && a) && b) ≡ ((l && b) && a)
swapped false a b = refl
swapped true true true = refl
swapped true true false = refl
swapped true false true = refl
swapped true false false = refl

either_way : (xs ys : List ℕ) → bytes_eq xs ys ≡ bytes_eq ys xs
either_way xs ys =
    one_truth (bytes_eq xs ys) (bytes_eq ys xs)
    (λ is. (bytes_eq-Decides ys xs).1 (sym ((bytes_eq-Decides xs ys).0 is)))
    (λ is. (bytes_eq-Decides xs ys).1 (sym ((bytes_eq-Decides ys xs).0 is)))

module _ (text : Scanned) where
  abbrev calls : List Call
  calls = (facts_of text).calls

  no_call : Call
  no_call = record { callee = nowhere; line = 0; caller = nowhere }

  one_call : (n k : ℕ) → n < length calls → k < length calls
      → have_one_row Callers text n k ≡ have_one_row Callees text n k
  one_call n k n_low k_low =
      (λ i. callers_row (n_at i) (k_at i))
      ∙ swapped (nat_eq d.line c.line) (bytes_eq (cut text.bytes d.callee) (cut text.bytes c.callee))
      (bytes_eq (cut text.bytes c.caller) (cut text.bytes d.caller))
      ∙ (λ i. (nat_eq d.line c.line
      && either_way (cut text.bytes c.caller) (cut text.bytes d.caller) i)
      && either_way (cut text.bytes d.callee) (cut text.bytes c.callee) i)
      ∙ (λ i. callees_row (sym n_at i) (sym k_at i))
    where
      c : Call
      c = get_or calls n no_call

      d : Call
      d = get_or calls k no_call

      n_at : slice_get calls n ≡ Some c
      n_at = slice_get-get_or calls n no_call n_low

      k_at : slice_get calls k ≡ Some d
      k_at = slice_get-get_or calls k no_call k_low

      callers_row : Option Call → Option Call → Bool
      callers_row o p =
          same_row Callers (fact_of_call [] text.bytes p) (fact_of_call [] text.bytes o)
          && bytes_eq (bytes_at text.bytes (option_map (λ (e : Call). e.caller) o))
          (bytes_at text.bytes (option_map (λ (e : Call). e.caller) p))

      callees_row : Option Call → Option Call → Bool
      callees_row o p =
          same_row Callees (fact_of_call [] text.bytes p) (fact_of_call [] text.bytes o)
          && bytes_eq (bytes_at text.bytes (option_map (λ (e : Call). e.callee) o))
          (bytes_at text.bytes (option_map (λ (e : Call). e.callee) p))

  pub one_repeat : (n : ℕ) → n < length calls → is_repeat Callees text n ≡ is_repeat Callers text n
  one_repeat n low =
      any_same (have_one_row Callees text n) (have_one_row Callers text n) n
      (λ k under. sym (one_call n k low (omega (arith, under, low))))
