-- The rows of the definitions that are shown.
use Rattle.std.proofs.Common.{◌≡◌, ◌∙◌, ℕ, suc, Bool, true, false, List, [], ◌∷◌, ◌++◌, Some, None}
use Rattle.std.proofs.Common.{refl, sym, ap, subst, length, map, drop, filter, min}
use Rattle.std.proofs.lemmas.Bool.{false≢true}
use Rattle.std.proofs.lemmas.Bool.Decides.{Decides-eqb}
use Rattle.std.proofs.lemmas.Cmp.{nat_cmp_total, nat_list_cmp_total, tied_itself}
use Rattle.std.proofs.lemmas.List.{map-append}
use Rattle.std.proofs.lemmas.List.Elements.{filter-append}
use Rattle.std.proofs.lemmas.Slice.Eq.{bytes_eq-Decides}
use Rattle.std.proofs.Math.Nat.{min-eq_left}
use Rattle.std.specs.Prelude.{cond, nat_eq, not, slice_get, slice_range, sum_by, Option, ◌&&◌}
use Rattle.std.specs.Cmp.Lexicographic.{slice_cmp}
use Rattle.std.specs.List.{AllByRecursion, flat_map}
use Rattle.std.specs.Option.{MatchOption, option_map}
use Rattle.std.specs.Ordering.{is_gt, nat_cmp, ordering_then}
use Rattle.std.specs.Str.{bytes_eq}
use Rattle.std.specs.declared.cmp.Ordering.{Ordering}
use Rattle.std.specs.declared.cmp.Ordering.TheVariants.{Less, Equal, Greater}
use Rattle.cb_scan.specs.declared.facts.Def.{Def}
use Rattle.cb_scan.specs.declared.facts.Tag as facts
use Rattle.cb_scan.specs.declared.lex.piece.Span.{Span}
use Rattle.cb_scan.specs.Definitions.{IsTagWithin, IsWithin}
use Rattle.cb_scan.specs.Keys.{key_prefix}
use Rattle.cb_scan.specs.lex.Tokens.{bytes_of}
use Rattle.cb_scan.specs.Order.{AreOrdered, goes_first, in_order}
use Rattle.cb_scan.proofs.FactsWithin.{all_in_order, facts_lie}
use Rattle.cb_scan.proofs.KeyOrder.{then_assoc}
use Rattle.cb_scan.proofs.OrderLemmas.{in_order_sum}
use Rattle.cb_tags.specs.TagLines.{Tag}
use Rattle.cb_tags.specs.TagNames.{tag_name}
use Rattle.cb_index.specs.Scanned.{Scanned, facts_of}
use Rattle.cb_index.specs.Archived.{Archived, AreBytes, name_of, text_at, text_of}
use Rattle.cb_index.specs.Bytes.{bytes_at, cut}
use Rattle.cb_index.specs.Entries.{Keyer, file_key, has_key, has_key_from, key_of, sort_key}
use Rattle.cb_index.specs.Files.{AreAscending, File, IsThere, file_of, files_of}
use Rattle.cb_index.specs.Held.{AreRising, Lister, all_entries, entries_of, entry_of}
use Rattle.cb_index.specs.Orders.{def_key, def_prefix, defs_listed, numbered, tag_front, tag_key}
use Rattle.cb_index.specs.Orders.{tag_prefix, tags_listed}
use Rattle.cb_index.specs.Rows.{file_tags, file_tags_named, tag_in, tags_by_name, tags_by_tag_name}
use Rattle.cb_index.specs.Rows.{is_named_from, scope_in, tags_from_name, tags_named}
use Rattle.cb_index.specs.Shelved.{IsIndexOf, with_facts}
use Rattle.cb_index.specs.steps.Found.{scope_cut, tag_at, tag_in_text, tag_of_def}
use Rattle.cb_index.specs.steps.Left.{entries_in, file_or_end}
use Rattle.cb_index.specs.declared.entry.Posting.{Posting}
use Rattle.cb_index.specs.declared.entry.Shown.{Shown}
use Rattle.cb_index.proofs.EntryLemmas.{bytes_cmp, sort_exact}
use Rattle.cb_index.proofs.InOrderLemmas.{filter_kept, in_order_agree, map_in_order, same_order}
use Rattle.cb_index.proofs.IndexLemmas.{ComesFirst, all_ordered}
use Rattle.cb_index.proofs.PrefixLemmas.{GoesFirst, HasPrefix, defs_told, entry_told}
use Rattle.cb_index.proofs.PrefixLemmas.{key_compared, key_decides}
use Rattle.cb_index.proofs.PrefixLemmas.{names_told, prefixes_first, tag_front_first}
use Rattle.cb_index.proofs.PrefixLemmas.{tag_names_told, whole_first}
use Rattle.cb_index.proofs.RestLemmas.{at_front, drop_next}
use Rattle.cb_index.proofs.RiseLemmas.{defs_rise, tags_rise}
use Rattle.cb_index.proofs.TextLemmas.{text_there}

-- ---- an index is in order
pub again : (keyer : Keyer) (lister : Lister) (a : Archived) (shown : List Shown)
    (es : List Posting)
    → IsIndexOf keyer lister a shown es → es ≡ in_order (sort_key keyer a) es
again keyer lister a shown es is =
    is ∙ same_order (sort_key keyer a) (sort_exact keyer a) (all_entries lister a shown) es
    (λ f. sym (in_order_sum (sort_key keyer a) f (all_entries lister a shown))
    ∙ sym (ap (sum_by f) is))

-- ---- the bytes of a span that lies in the text
pub cut_is : (text : List ℕ) (span : Span) → IsWithin text span → cut text span ≡ bytes_of text span
cut_is text span within =
    let end : min span.end (length text) ≡ span.end = min-eq_left within.1 in
    let start : min span.start (min span.end (length text)) ≡ span.start =
    ap (min span.start) end ∙ min-eq_left within.0 in
    λ i. slice_range text (start i) (end i)

-- ---- entries of one key
module _ {X : Type 0} (R Q : X → X → Type 0) (P : X → Type 0)
    (imply : (x y : X) → P x → P y → R x y → Q x y) where
  all_both : (x : X) → P x → (ys : List X) → AllByRecursion P ys → AllByRecursion (R x) ys
      → AllByRecursion (Q x) ys
  all_both x px [] p r = tt
  all_both x px (y ∷ ys) p r = (imply x y px p.0 r.0, all_both x px ys p.1 r.1)

  pub ordered_with : (xs : List X) → AllByRecursion P xs → AreOrdered R xs → AreOrdered Q xs
  unfolding AreOrdered
  ordered_with [] p r = tt
  ordered_with (x ∷ xs) p r = (all_both x p.0 xs p.1 r.0, ordered_with xs p.1 r.1)

all_any : {X : Type 0} (xs : List X) → AllByRecursion (λ (_ : X). Unit {0}) xs
all_any [] = tt
all_any (x ∷ xs) = (tt, all_any xs)

split_and : (b c : Bool) → (b && c) ≡ true → (b ≡ true) × (c ≡ true)
split_and true c is = (refl, is)
split_and false c is = absurd (false≢true is)

module _ (keyer : Keyer) (a : Archived) where
  pub ordered_cmp : (e f : Posting) → slice_cmp nat_cmp (sort_key keyer a e) (sort_key keyer a f)
      ≡ ordering_then (nat_cmp e.prefix f.prefix)
      (ordering_then (slice_cmp nat_cmp (key_of keyer a e) (key_of keyer a f))
      (slice_cmp nat_cmp (file_key a e) (file_key a f)))
  unfolding sort_key
  ordered_cmp e f = ap (ordering_then (nat_cmp e.prefix f.prefix)) (sym (bytes_cmp keyer a e f))

  -- entries of one key go by file and number
  pub one_key : (prefix : ℕ) (key : List ℕ) (e f : Posting) → ComesFirst a e f
      → has_key keyer a prefix key e ≡ true
      → has_key keyer a prefix key f ≡ true → goes_first (sort_key keyer a) e f ≡ true
  one_key prefix key e f first has_e has_f =
      let in_e = split_and (nat_eq prefix e.prefix) (bytes_eq key (key_of keyer a e)) has_e in
      let in_f = split_and (nat_eq prefix f.prefix) (bytes_eq key (key_of keyer a f)) has_f in
      let prefixes : e.prefix ≡ f.prefix =
      sym ((Decides-eqb prefix e.prefix).0 in_e.0) ∙ (Decides-eqb prefix f.prefix).0 in_f.0 in
      let keys : key_of keyer a e ≡ key_of keyer a f =
      sym ((bytes_eq-Decides key (key_of keyer a e)).0 in_e.1)
      ∙ (bytes_eq-Decides key (key_of keyer a f)).0 in_f.1 in
      let prefix_tied : nat_cmp e.prefix f.prefix ≡ Equal =
      subst (λ n. nat_cmp e.prefix n ≡ Equal) prefixes (tied_itself nat_cmp_total e.prefix) in
      let key_tied : slice_cmp nat_cmp (key_of keyer a e) (key_of keyer a f) ≡ Equal =
      subst (λ k. slice_cmp nat_cmp (key_of keyer a e) k ≡ Equal) keys
      (tied_itself nat_list_cmp_total (key_of keyer a e)) in
      ap (λ o. not (is_gt o)) (ordered_cmp e f
      ∙ (λ i. ordering_then (prefix_tied i)
      (ordering_then (key_tied i) (slice_cmp nat_cmp (file_key a e) (file_key a f)))) ∙ first)

  -- entries that have the prefixes of their keys go by key
  by_key : (front : List ℕ → List ℕ) → GoesFirst front → (e f : Posting) → HasPrefix front keyer a e
      → HasPrefix front keyer a f
      → ComesFirst a e f → goes_first (sort_key keyer a) e f ≡ goes_first (key_of keyer a) e f
  by_key front front_first e f of_e of_f first =
      let keys = slice_cmp nat_cmp (key_of keyer a e) (key_of keyer a f) in
      let files = slice_cmp nat_cmp (file_key a e) (file_key a f) in
      ap (λ o. not (is_gt o))
      (ordered_cmp e f ∙ sym (then_assoc (nat_cmp e.prefix f.prefix) keys files)
      ∙ (λ i. ordering_then (ordering_then (nat_cmp (of_e.0 i) (of_f.0 i)) keys) files)
      ∙ ap (λ o. ordering_then o files)
      (prefixes_first front front_first (key_of keyer a e) (key_of keyer a f) of_e.1 of_f.1))
      ∙ settled keys files (ap (λ o. not (is_gt o)) first)
    where
      settled : (o p : Ordering) → not (is_gt p) ≡ true
          → not (is_gt (ordering_then o p)) ≡ not (is_gt o)
      settled Less p is = refl
      settled Equal p is = is
      settled Greater p is = refl

  module _ (lister : Lister) (rising : (t : Option Scanned) → AreRising (lister t))
      (shown : List Shown) (up : AreAscending a shown) where
    -- the entries of a key in an index are those of the versions, one after the other
    pub kept_key : (prefix : ℕ) (key : List ℕ) (es : List Posting)
        → IsIndexOf keyer lister a shown es
        → filter (has_key keyer a prefix key) es
        ≡ filter (has_key keyer a prefix key) (all_entries lister a shown)
    kept_key prefix key es is =
        ap (filter (has_key keyer a prefix key)) is
        ∙ filter_kept (sort_key keyer a) (has_key keyer a prefix key) (all_entries lister a shown)
        (ordered_with (ComesFirst a)
        (λ e f. has_key keyer a prefix key e ≡ true → has_key keyer a prefix key f ≡ true
        → goes_first (sort_key keyer a) e f ≡ true)
        (λ (_ : Posting). Unit {0}) (λ e f _ _ first. one_key prefix key e f first)
        (all_entries lister a shown) (all_any (all_entries lister a shown))
        (all_ordered a lister rising shown up))

    -- an index of entries that have the prefixes of their keys goes by key
    pub kept_order : (front : List ℕ → List ℕ) → GoesFirst front
        → AllByRecursion (HasPrefix front keyer a) (all_entries lister a shown)
        → (es : List Posting) → IsIndexOf keyer lister a shown es
        → es ≡ in_order (key_of keyer a) (all_entries lister a shown)
    kept_order front front_first told es is =
        is ∙ in_order_agree (sort_key keyer a) (key_of keyer a) (all_entries lister a shown)
        (ordered_with (ComesFirst a)
        (λ e f. goes_first (sort_key keyer a) e f ≡ goes_first (key_of keyer a) e f)
        (HasPrefix front keyer a) (by_key front front_first) (all_entries lister a shown) told
        (all_ordered a lister rising shown up))

-- ---- the tags of definitions
-- the name of a tag is the key of its entry
found_name : (file text : List ℕ) (d : Option Def)
    → bytes_at text (option_map (λ (x : Def). x.name) d) ≡ (tag_of_def file text d).name
found_name file text None = refl
found_name file text (Some d) = refl

key_name : (file : List ℕ) (number : ℕ) (text : Option Scanned)
    → def_key text file number ≡ (tag_in_text file number text).name
key_name file number None = refl
key_name file number (Some text) = found_name file text.bytes (slice_get (facts_of text).defs
    number)

found_file : (file text : List ℕ) (d : Option Def) → file ≡ (tag_of_def file text d).file
found_file file text None = refl
found_file file text (Some d) = refl

key_file : (file : List ℕ) (number : ℕ) (text : Option Scanned)
    → file ≡ (tag_in_text file number text).file
key_file file number None = refl
key_file file number (Some text) = found_file file text.bytes (slice_get (facts_of text).defs
    number)

pub key_is_name : (a : Archived) (e : Posting) → key_of def_key a e ≡ (tag_at a e).name
key_is_name a e = key_name (name_of a e.name) e.number (text_at a e.version)

pub key_is_tag_name : (a : Archived) (e : Posting)
    → key_of tag_key a e ≡ tag_name (tag_at a e).name (tag_at a e).file
key_is_tag_name a e =
    λ i. tag_name (key_name (name_of a e.name) e.number (text_at a e.version) i)
    (key_file (name_of a e.name) e.number (text_at a e.version) i)

all_of : {X : Type 0} (P : X → Type 0) → ((x : X) → P x) → (xs : List X) → AllByRecursion P xs
all_of P holds [] = tt
all_of P holds (x ∷ xs) = (holds x, all_of P holds xs)

-- a part that is kept or not, on both sides
module _ {X Y Z : Type 0} (f : X → Z) (g : Y → Z) where
  pub kept_or_not : (b : Bool) (x : X) (xs : List X) (y : Y) (ys : List Y) → f x ≡ g y
      → map f xs ≡ map g ys
      → map f (cond b (x ∷ xs) xs) ≡ map g (cond b (y ∷ ys) ys)
  kept_or_not true x xs y ys here later = λ i. here i ∷ later i
  kept_or_not false x xs y ys here later = later

module _ (a : Archived) (s : Shown) (text : Scanned)
    (there : text_at a s.version ≡ Some text) where
  abbrev file : File
  file = record { name = name_of a s.name; bytes = text.bytes }

  abbrev entry : ℕ → ℕ → Posting
  entry prefix n =
      record { prefix = prefix; name = s.name; version = s.version; number = n; rows = 1 }

  scope_is : (t : Option facts.Tag)
      → MatchOption t (Unit {0}) (λ (x : facts.Tag). IsWithin text.bytes x.name)
      → option_map (scope_cut text.bytes) t ≡ option_map (scope_in file) t
  scope_is None within = refl
  scope_is (Some t) within = λ i. Some (record {
    kind = t.kind;
    name = cut_is text.bytes t.name
        within i;
  })

  module _ (prefix n : ℕ) (d : Def) (rest : List Def) (is : drop n (facts_of text).defs ≡ d ∷ rest)
      (within : IsWithin text.bytes d.name) where
    found_def : slice_get (facts_of text).defs n ≡ Some d
    found_def = at_front n (facts_of text).defs ∙ ap (λ l. slice_get l 0) is

    tag_is : IsTagWithin text.bytes d → tag_at a (entry prefix n) ≡ tag_in file d
    tag_is tagged =
        ap (tag_in_text (name_of a s.name) n) there
        ∙ ap (tag_of_def (name_of a s.name) text.bytes) found_def
        ∙ (λ i. record (tag_in file d) {
          name = cut_is text.bytes d.name within i;
          scope = scope_is
              d.tag tagged i;
        })

    key_is : key_of def_key a (entry prefix n) ≡ bytes_of text.bytes d.name
    key_is =
        ap (λ o. def_key o (name_of a s.name) n) there
        ∙ ap (λ o. bytes_at text.bytes (option_map (λ (x : Def). x.name) o)) found_def
        ∙ cut_is text.bytes d.name within

  tags_from : (prefixed : Def → ℕ) (n : ℕ) (defs : List Def) → drop n (facts_of text).defs ≡ defs
      → AllByRecursion (λ (d : Def). IsWithin text.bytes d.name) defs → AllByRecursion (IsTagWithin
      text.bytes) defs
      → map (tag_at a) (map (entry_of s) (numbered n (map prefixed defs))) ≡ map (tag_in file) defs
  tags_from prefixed n [] is within tagged = refl
  tags_from prefixed n (d ∷ defs) is within tagged =
      λ i. tag_is (prefixed d) n d defs is within.0 tagged.0 i
      ∷ tags_from prefixed (suc n) defs
      (drop_next n (facts_of text).defs ∙ ap (drop 1) is) within.1 tagged.1 i

  tags_named_from : (name : List ℕ) (n : ℕ) (defs : List Def) → drop n (facts_of text).defs ≡ defs
      → AllByRecursion (λ (d : Def). IsWithin text.bytes d.name) defs → AllByRecursion (IsTagWithin
      text.bytes) defs
      → map (tag_at a) (filter (has_key def_key a (key_prefix name) name)
      (map (entry_of s) (numbered n (map (def_prefix text.bytes) defs))))
      ≡ map (tag_in file) (filter (λ (d : Def). bytes_eq name (bytes_of text.bytes d.name)) defs)
  tags_named_from name n [] is within tagged = refl
  tags_named_from name n (d ∷ defs) is within tagged =
      let later =
      tags_named_from name (suc n) defs
      (drop_next n (facts_of text).defs ∙ ap (drop 1) is) within.1 tagged.1 in
      let here = entry (def_prefix text.bytes d) n in
      let kept =
      filter (has_key def_key a (key_prefix name) name)
      (map (entry_of s) (numbered (suc n) (map (def_prefix text.bytes) defs))) in
      ap (λ b. map (tag_at a) (cond b (here ∷ kept) kept))
      (key_decides (λ key. key) def_key a name here
      (entry_told (λ key. key) def_key def_prefix names_told a s text there n d defs is)
      ∙ ap (bytes_eq name) (key_is (def_prefix text.bytes d) n d defs is within.0))
      ∙ kept_or_not (tag_at a) (tag_in file) (bytes_eq name (bytes_of text.bytes d.name)) here kept
      d
      (filter (λ (x : Def). bytes_eq name (bytes_of text.bytes x.name)) defs)
      (tag_is (def_prefix text.bytes d) n d defs is within.0 tagged.0) later

-- those that are kept before and after
module _ {X Y : Type 0} (f : X → Y) (p : X → Bool) (q : Y → Bool) (P : X → Type 0)
    (same : (x : X) → P x → p x ≡ q (f x)) where
  kept_alike : (xs : List X) → AllByRecursion P xs → map f (filter p xs) ≡ filter q (map f xs)
  kept_alike [] all = refl
  kept_alike (x ∷ xs) all =
      ap (λ b. map f (cond b (x ∷ filter p xs) (filter p xs))) (same x all.0)
      ∙ by_test (q (f x)) (kept_alike xs all.1)
    where
      by_test : (b : Bool) → map f (filter p xs) ≡ filter q (map f xs)
          → map f (cond b (x ∷ filter p xs) (filter p xs))
          ≡ cond b (f x ∷ filter q (map f xs)) (filter q (map f xs))
      by_test true later = ap (λ l. f x ∷ l) later
      by_test false later = later

module _ (a : Archived) where
  all_tags : (lister : Lister) (prefixed : List ℕ → Def → ℕ)
      → ((text : Scanned)
      → lister (Some text) ≡ numbered 0 (map (prefixed text.bytes) (facts_of text).defs))
      → (shown : List Shown) → AllByRecursion (IsThere a) shown
      → map (tag_at a) (all_entries lister a shown) ≡ flat_map (file_tags a.profile) (files_of a
      shown)
  all_tags lister prefixed some [] all = refl
  all_tags lister prefixed some (s ∷ shown) all =
      let text = text_of a s.version in
      let there : text_at a s.version ≡ Some text =
      text_there a s.version all.0.1 in
      map-append (tag_at a) (entries_of lister a s) (all_entries lister a shown)
      ∙ (λ i. (ap (λ o. map (tag_at a) (map (entry_of s) (lister o))) there
      ∙ ap (λ ps. map (tag_at a) (map (entry_of s) ps)) (some text)
      ∙ tags_from a s text there (prefixed text.bytes) 0 (facts_of text).defs refl (facts_lie
      text.profile text.bytes).defs (facts_lie text.profile text.bytes).tags)
      i
      ++ all_tags lister prefixed some shown all.1 i)

  all_tags_named : (name : List ℕ) (shown : List Shown) → AllByRecursion (IsThere a) shown
      → map (tag_at a)
      (filter (has_key def_key a (key_prefix name) name) (all_entries defs_listed a shown))
      ≡ flat_map (file_tags_named a.profile name) (files_of a shown)
  all_tags_named name [] all = refl
  all_tags_named name (s ∷ shown) all =
      let text = text_of a s.version in
      let there : text_at a s.version ≡ Some text =
      text_there a s.version all.0.1 in
      let has = has_key def_key a (key_prefix name) name in
      ap (map (tag_at a))
      (filter-append has (entries_of defs_listed a s) (all_entries defs_listed a shown))
      ∙ map-append (tag_at a) (filter has (entries_of defs_listed a s))
      (filter has (all_entries defs_listed a shown))
      ∙ (λ i. (ap (λ o. map (tag_at a) (filter has (map (entry_of s) (defs_listed o)))) there
      ∙ tags_named_from a s text there name 0 (facts_of text).defs refl (facts_lie text.profile
      text.bytes).defs (facts_lie text.profile text.bytes).tags) i
      ++ all_tags_named name shown all.1 i)

  module _ (shown : List Shown) (all : AllByRecursion (IsThere a) shown) (up : AreAscending a shown)
      (es : List Posting) where
    module _ (bytes : AllByRecursion AreBytes a.texts) where
      pub rows_by_name : IsIndexOf def_key defs_listed a shown es
          → map (tag_at a) es ≡ tags_by_name a.profile (files_of a shown)
      unfolding tags_by_name
      rows_by_name is =
          ap (map (tag_at a)) (kept_order def_key a defs_listed defs_rise shown up
          (λ key. key) whole_first (defs_told a bytes shown) es is)
          ∙ map_in_order (key_of def_key a) (λ (t : Tag). t.name) (tag_at a)
          (all_entries defs_listed a shown)
          (all_of (λ e. key_of def_key a e ≡ (tag_at a e).name) (key_is_name a)
          (all_entries defs_listed a shown))
          ∙ ap (in_order (λ (t : Tag). t.name))
          (all_tags defs_listed def_prefix (λ text. refl) shown all)

      pub rows_from_name : (name : List ℕ) → AreBytes name
          → IsIndexOf def_key defs_listed a shown es
          → map (tag_at a) (filter (has_key_from def_key a (key_prefix name) name) es)
          ≡ tags_from_name a.profile name (files_of a shown)
      unfolding tags_from_name
      rows_from_name name in_name is =
          kept_alike (tag_at a) (has_key_from def_key a (key_prefix name) name)
          (is_named_from name) (HasPrefix (λ key. key) def_key a)
          (λ e told. ap (λ o. not (is_gt o))
          (key_compared (λ key. key) whole_first def_key a name in_name e told
          ∙ ap (slice_cmp nat_cmp name) (key_is_name a e))) es
          (subst (AllByRecursion (HasPrefix (λ key. key) def_key a)) (sym is)
          (all_in_order (sort_key def_key a) (HasPrefix (λ key. key) def_key a)
          (all_entries defs_listed a shown) (defs_told a bytes shown)))
          ∙ ap (filter (is_named_from name)) (rows_by_name is)

      pub rows_by_tag_name : IsIndexOf tag_key tags_listed a shown es
          → map (tag_at a) es ≡ tags_by_tag_name a.profile (files_of a shown)
      unfolding tags_by_tag_name
      rows_by_tag_name is =
          ap (map (tag_at a)) (kept_order tag_key a tags_listed tags_rise shown up tag_front
          tag_front_first (tag_names_told a bytes shown) es is)
          ∙ map_in_order (key_of tag_key a) (λ (t : Tag). tag_name t.name t.file) (tag_at a)
          (all_entries tags_listed a shown)
          (all_of (λ e. key_of tag_key a e ≡ tag_name (tag_at a e).name (tag_at a e).file)
          (key_is_tag_name a) (all_entries tags_listed a shown))
          ∙ ap (in_order (λ (t : Tag). tag_name t.name t.file))
          (all_tags tags_listed tag_prefix (λ text. refl) shown all)

    pub rows_named : (name : List ℕ) → IsIndexOf def_key defs_listed a shown es
        → map (tag_at a) (filter (has_key def_key a (key_prefix name) name) es)
        ≡ tags_named a.profile name (files_of a shown)
    unfolding tags_named
    rows_named name is =
        ap (map (tag_at a)) (kept_key def_key a defs_listed defs_rise shown up
        (key_prefix name) name es is) ∙ all_tags_named name shown all

-- ---- the files that are shown
pub entries_are : (a : Archived) (shown : List Shown) → AllByRecursion (IsThere a) shown
    → entries_in a shown ≡ map (with_facts a.profile) (files_of a shown)
entries_are a [] all = refl
entries_are a (s ∷ shown) all =
    ap (λ o. file_or_end (name_of a s.name) o (entries_in a shown))
    (text_there a s.version all.0.1)
    ∙ ap (λ l. with_facts a.profile (file_of a s) ∷ l) (entries_are a shown all.1)
