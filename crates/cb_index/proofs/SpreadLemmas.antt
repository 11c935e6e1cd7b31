-- The rows that entries are spread out into.
use Rattle.std.proofs.Common.{◌≡◌, ◌∙◌, ℕ, suc, Bool, true, false, List, [], ◌∷◌, ◌++◌, Some, None}
use Rattle.std.proofs.Common.{refl, sym, ap, length, map, drop, filter, arith}
use Rattle.std.proofs.lemmas.List.Concat.{flat_map-append}
use Rattle.std.proofs.lemmas.List.Elements.{filter-append, filter_agree}
use Rattle.std.specs.Prelude.{cond, nat_eq, Option, ◌&&◌}
use Rattle.std.specs.List.{AllByRecursion, flat_map, range_with_len}
use Rattle.std.specs.Str.{bytes_eq}
use Rattle.cb_scan.specs.declared.facts.Def.{Def}
use Rattle.cb_scan.specs.Keys.{key_prefix}
use Rattle.cb_index.specs.Scanned.{Scanned, facts_of}
use Rattle.cb_index.specs.Archived.{Archived, name_of, text_at, text_of}
use Rattle.cb_index.specs.Entries.{Keyer, has_key}
use Rattle.cb_index.specs.Files.{IsThere, count_for, def_count}
use Rattle.cb_index.specs.Firsts.{firsts}
use Rattle.cb_index.specs.Held.{AreRising, Lister, all_entries, entries_of, entry_of}
use Rattle.cb_index.specs.Items.{item_count, item_key}
use Rattle.cb_index.specs.Orders.{def_key, def_prefix, defs_listed, firsts_in, item_keyer, numbered}
use Rattle.cb_index.specs.Orders.{tag_front, tag_key, tag_key_prefix, tag_prefix, tags_listed}
use Rattle.cb_index.specs.RowOrders.{Counter, row_under, rows_with}
use Rattle.cb_index.specs.Spreads.{SpreadsBy, SpreadsInto}
use Rattle.cb_index.specs.steps.Spread.{items_in_text, rows_at, rows_in}
use Rattle.cb_index.specs.declared.entry.Posting.{Posting}
use Rattle.cb_index.specs.declared.entry.Shown.{Shown}
use Rattle.cb_index.specs.declared.entry.FactKind.{FactKind}
use Rattle.cb_index.specs.declared.entry.FactKind.TheVariants.{Uses, Callees, Callers}
use Rattle.cb_index.specs.declared.entry.IndexKind.{IndexKind}
use Rattle.cb_index.specs.declared.entry.IndexKind.TheVariants.{DefsByName, DefsByTagName, Facts}
use Rattle.cb_index.proofs.FirstLemmas.{firsts_give, has, prefix_and_key}
use Rattle.cb_index.proofs.PrefixLemmas.{IsTold, entry_told, key_decides, names_told, tags_told}
use Rattle.cb_index.proofs.RangeItems.{range_next}
use Rattle.cb_index.proofs.RestLemmas.{drop_next}
use Rattle.cb_index.proofs.RiseLemmas.{defs_rise, firsts_rise, tags_rise}
use Rattle.cb_index.proofs.RowLemmas.{kept_key}
use Rattle.cb_index.proofs.TextLemmas.{text_there}

-- ---- one version
module _ (a : Archived) (s : Shown) (text : Scanned)
    (there : text_at a s.version ≡ Some text) (key : List ℕ) where
  -- where an entry is the first item of a key
  first_rows : (sort : FactKind) (keyer : Keyer)
      → ((item : ℕ) → keyer (Some text) (name_of a s.name) item ≡ item_key sort text item)
      → rows_in (Some sort) a
      (filter (has_key keyer a (key_prefix key) key) (map (entry_of s) (firsts sort text)))
      ≡ map (row_under s) (filter (has sort text key) (range_with_len 0 (item_count sort text)))
  first_rows sort keyer keys_are =
      firsts_give sort text key (row_under s) (rows_at (Some sort) a)
      (has_key keyer a (key_prefix key) key) s
      (λ item. ap (λ t. map (row_under s) (items_in_text sort item t)) there)
      (λ item.
      ap (λ k. nat_eq (key_prefix key) (key_prefix (item_key sort text item)) && bytes_eq key k)
      (ap (λ t. keyer t (name_of a s.name) item) there ∙ keys_are item)
      ∙ prefix_and_key key (item_key sort text item))
      0 (item_count sort text) (omega arith) (λ before below. absurd (omega (arith, below)))

  -- where an entry is a definition
  module _ (front : List ℕ → List ℕ) (keyer : Keyer) (prefixed : List ℕ → Def → ℕ)
      (told : IsTold front keyer prefixed) where
    abbrev has_front : Posting → Bool
    has_front e = has_key keyer a (key_prefix (front key)) key e

    def_rows : (n : ℕ) (ds : List Def) → drop n (facts_of text).defs ≡ ds
        → rows_in None a (filter has_front (map (entry_of s) (numbered n (map (prefixed text.bytes)
        ds))))
        ≡ map (row_under s) (filter
        ((λ item. bytes_eq key (keyer (text_at a s.version) (name_of a s.name) item)))
        (range_with_len n (length ds)))
    def_rows n [] is = refl
    def_rows n (d ∷ ds) is =
        let has : ℕ → Bool = λ item.
        bytes_eq key (keyer (text_at a s.version) (name_of a s.name) item) in
        let e : Posting = record {
          prefix = prefixed text.bytes d;
          name = s.name;
          version = s.version;
          number = n;
          rows = 1;
        } in
        let es = filter has_front (map (entry_of s) (numbered (suc n) (map (prefixed text.bytes)
        ds))) in
        ap (λ b. rows_in None a (cond b (e ∷ es) es))
        (key_decides front keyer a key e
        (entry_told front keyer prefixed told a s text there n d ds is))
        ∙ step (has n) e es n (filter has (range_with_len (suc n) (length ds))) refl
        (def_rows (suc n) ds (drop_next n (facts_of text).defs ∙ ap (drop 1) is))
        ∙ sym (ap (λ l. map (row_under s) (filter has l)) (range_next n (length ds)))
      where
        step : (b : Bool) (e : Posting) (es : List Posting) (n : ℕ) (items : List ℕ)
            → rows_at None a e ≡ row_under s n ∷ [] → rows_in None a es ≡ map (row_under s) items
            → rows_in None a (cond b (e ∷ es) es) ≡ map (row_under s) (cond b (n ∷ items) items)
        step true e es n items here later = λ i. here i ++ later i
        step false e es n items here later = later

  -- the rows of a version whose text is known
  known : (sort : FactKind) (keyer : Keyer) (count : Counter)
      → ((item : ℕ) → keyer (Some text) (name_of a s.name) item ≡ item_key sort text item)
      → count (Some text) ≡ item_count sort text
      → map (row_under s) (filter (has sort text key) (range_with_len 0 (item_count sort text)))
      ≡ rows_with keyer count a key s
  known sort keyer count keys_are count_is =
      ap (λ n. map (row_under s) (filter (has sort text key) (range_with_len 0 n))) (sym count_is)
      ∙ ap (map (row_under s)) (filter_agree (has sort text key)
      (λ item. bytes_eq key (keyer (Some text) (name_of a s.name) item))
      (λ item. ap (bytes_eq key) (sym (keys_are item))) (range_with_len 0 (count (Some text))))
      ∙ ap (λ t. map (row_under s) (filter (λ item. bytes_eq key (keyer t (name_of a s.name) item))
      (range_with_len 0 (count t)))) (sym there)

  fact_version : (kind : FactKind)
      → rows_in (Some kind) a
      (filter (has_key (item_keyer kind) a (key_prefix key) key) (entries_of (firsts_in kind) a s))
      ≡ rows_with (item_keyer kind) (count_for (Facts kind)) a key s
  fact_version kind =
      ap (λ o. rows_in (Some kind) a (filter (has_key (item_keyer kind) a (key_prefix key) key)
      (map (entry_of s) (firsts_in kind o)))) there
      ∙ first_rows kind (item_keyer kind) (λ item. refl)
      ∙ known kind (item_keyer kind) (count_for (Facts kind)) (λ item. refl) (counts kind)
    where
      counts : (kind : FactKind) → count_for (Facts kind) (Some text) ≡ item_count kind text
      counts Uses = refl
      counts Callees = refl
      counts Callers = refl

  def_version : (front : List ℕ → List ℕ) (keyer : Keyer) (prefixed : List ℕ → Def → ℕ)
      → IsTold front keyer prefixed
      → (lister : Lister)
      → lister (Some text) ≡ numbered 0 (map (prefixed text.bytes) (facts_of text).defs)
      → rows_in None a
      (filter (has_key keyer a (key_prefix (front key)) key) (entries_of lister a s))
      ≡ rows_with keyer def_count a key s
  def_version front keyer prefixed told lister some =
      ap (λ o. rows_in None a
      (filter (has_key keyer a (key_prefix (front key)) key) (map (entry_of s) (lister o)))) there
      ∙ ap (λ ps. rows_in None a
      (filter (has_key keyer a (key_prefix (front key)) key) (map (entry_of s) ps))) some
      ∙ def_rows front keyer prefixed told 0 (facts_of text).defs refl
      ∙ ap (λ t. map (row_under s)
      (filter ((λ item. bytes_eq key (keyer (text_at a s.version) (name_of a s.name) item)))
      (range_with_len 0 (def_count t)))) (sym there)

-- ---- all versions
module _ (sort : Option FactKind) (keyer : Keyer) (lister : Lister)
    (rising : (t : Option Scanned) → AreRising (lister t)) (prefix : List ℕ → ℕ) (count : Counter)
    (one : (a : Archived) (s : Shown) (text : Scanned) → text_at a s.version ≡ Some text
    → (key : List ℕ)
    → rows_in sort a (filter (has_key keyer a (prefix key) key) (entries_of lister a s))
    ≡ rows_with keyer count a key s) where
  all_rows : (a : Archived) (key : List ℕ) (shown : List Shown) → AllByRecursion (IsThere a) shown
      → rows_in sort a (filter (has_key keyer a (prefix key) key) (all_entries lister a shown))
      ≡ flat_map (rows_with keyer count a key) shown
  all_rows a key [] all = refl
  all_rows a key (s ∷ shown) all =
      let has = has_key keyer a (prefix key) key in
      ap (rows_in sort a) (filter-append has (entries_of lister a s) (all_entries lister a shown))
      ∙ flat_map-append (rows_at sort a) (filter has (entries_of lister a s))
      (filter has (all_entries lister a shown))
      ∙ (λ i. one a s (text_of a s.version) (text_there a s.version all.0.1)
      key i ++ all_rows a key shown all.1 i)

  pub index_rows : SpreadsBy keyer lister prefix sort count
  index_rows a shown key es all up is =
      ap (rows_in sort a) (kept_key keyer a lister rising shown up (prefix key) key es is)
      ∙ all_rows a key shown all

pub spread : (kind : IndexKind) → SpreadsInto kind
spread DefsByName =
    index_rows None def_key defs_listed defs_rise key_prefix def_count
    (λ a s text there key.
    def_version a s text there key (λ k. k) def_key def_prefix names_told defs_listed refl)
spread DefsByTagName =
    index_rows None tag_key tags_listed tags_rise tag_key_prefix def_count
    (λ a s text there key.
    def_version a s text there key tag_front tag_key tag_prefix tags_told tags_listed refl)
spread (Facts kind) =
    index_rows (Some kind) (item_keyer kind) (firsts_in kind) (firsts_rise kind) key_prefix
    (count_for (Facts kind))
    (λ a s text there key. fact_version a s text there key kind)
