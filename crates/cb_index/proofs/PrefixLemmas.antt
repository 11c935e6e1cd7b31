-- The prefixes of definitions, and the keys that they are made of.
use Rattle.std.proofs.Common.{◌≡◌, ◌∙◌, ◌-◌, ◌<◌, ℕ, zero, suc, Bool, true, false, List, [], ◌∷◌}
use Rattle.std.proofs.Common.{◌++◌, Some, None, refl, sym, ap, subst, map, drop, length, min, arith}
use Rattle.std.proofs.lemmas.Bool.{true≢false}
use Rattle.std.proofs.lemmas.Bool.Decides.{Decides-eqb}
use Rattle.std.proofs.lemmas.Slice.Eq.{bytes_eq-Decides}
use Rattle.std.specs.Prelude.{cond, nat_eq, slice_get, codes, Option, ◌&&◌}
use Rattle.std.specs.Cmp.Lexicographic.{slice_cmp}
use Rattle.std.specs.List.{AllByRecursion}
use Rattle.std.specs.Option.{option_map}
use Rattle.std.specs.Ordering.{nat_cmp, ordering_then}
use Rattle.std.specs.Str.{bytes_eq}
use Rattle.std.specs.declared.cmp.Ordering.{Ordering}
use Rattle.std.specs.declared.cmp.Ordering.TheVariants.{Less, Equal, Greater}
use Rattle.cb_scan.specs.declared.facts.Def.{Def}
use Rattle.cb_scan.specs.declared.lex.piece.Span.{Span}
use Rattle.cb_scan.specs.Keys.{key_prefix}
use Rattle.cb_scan.proofs.KeyOrder.{prefix_first, same_number, then_assoc}
use Rattle.cb_scan.proofs.WithinLemmas.{all-append, all-drop, all-take}
use Rattle.cb_tags.specs.TagNames.{base_name, tag_name, without_c}
use Rattle.cb_index.specs.Scanned.{Scanned, facts_of}
use Rattle.cb_index.specs.Archived.{Archived, AreBytes, name_of, scanned_in, text_at}
use Rattle.cb_index.specs.Bytes.{bytes_at, cut}
use Rattle.cb_index.specs.Entries.{Keyer, has_key, key_cmp, key_of}
use Rattle.cb_index.specs.Held.{Lister, all_entries, entries_of, entry_of}
use Rattle.cb_index.specs.Orders.{def_key, def_prefix, defs_listed, numbered, tag_front, tag_key}
use Rattle.cb_index.specs.Orders.{tag_prefix, tags_listed}
use Rattle.cb_index.specs.declared.entry.Posting.{Posting}
use Rattle.cb_index.specs.declared.entry.Shown.{Shown}
use Rattle.cb_index.proofs.RestLemmas.{at_front, drop_next}

-- ---- bytes of a text
module _ (a : Archived) where
  bytes_there : (n : ℕ) (texts : List (List ℕ)) (text : Scanned)
      → option_map (scanned_in a) (slice_get texts n) ≡ Some text
      → AllByRecursion AreBytes texts → AreBytes text.bytes
  bytes_there n [] text is all = cc
  bytes_there zero (t ∷ texts) text is all =
      let same : scanned_in a t ≡ text = cc in subst (λ (x : Scanned). AreBytes x.bytes) same all.0
  bytes_there (suc n) (t ∷ texts) text is all = bytes_there n texts text is all.1

cut_bytes : (text : List ℕ) (span : Span) → AreBytes text → AreBytes (cut text span)
cut_bytes text span bytes =
    let end = min span.end (length text) in
    let start = min span.start end in
    all-take (λ b. b < 256) (end - start) (drop start text)
    (all-drop (λ b. b < 256) start text bytes)

span_bytes : (text : List ℕ) (span : Option Span) → AreBytes text → AreBytes (bytes_at text span)
span_bytes text None bytes = tt
span_bytes text (Some span) bytes = cut_bytes text span bytes

-- ---- what a prefix is made of settles no comparison otherwise than the keys do
abbrev pub GoesFirst : (List ℕ → List ℕ) → Type 0
GoesFirst front = (a b : List ℕ)
    → ordering_then (slice_cmp nat_cmp (front a) (front b)) (slice_cmp nat_cmp a b)
    ≡ slice_cmp nat_cmp a b

then_same : (o : Ordering) → ordering_then o o ≡ o
then_same Less = refl
then_same Equal = refl
then_same Greater = refl

-- an order that is not equal decides
decided : (o p q : Ordering) → ¬ (o ≡ Equal)
    → ordering_then (ordering_then o p) (ordering_then o q) ≡ ordering_then o q
decided Less p q untied = refl
decided Equal p q untied = absurd (untied refl)
decided Greater p q untied = refl

-- the key as a whole
pub whole_first : GoesFirst (λ key. key)
whole_first a b = then_same (slice_cmp nat_cmp a b)

-- the key, or its first byte where that is `M`
other_byte : (x y : ℕ) → nat_eq x 77 ≡ true → nat_eq y 77 ≡ false → ¬ (nat_cmp x y ≡ Equal)
other_byte x y is isnt tied =
    true≢false (sym is ∙ ap (λ n. nat_eq n 77) (same_number x y tied) ∙ isnt)

other_byte_too : (x y : ℕ) → nat_eq x 77 ≡ false → nat_eq y 77 ≡ true → ¬ (nat_cmp x y ≡ Equal)
other_byte_too x y isnt is tied =
    true≢false (sym is ∙ sym (ap (λ n. nat_eq n 77) (same_number x y tied)) ∙ isnt)

empty_first : (b : Bool) (y : ℕ) (ys : List ℕ)
    → slice_cmp nat_cmp [] (cond b (codes "M") (y ∷ ys)) ≡ Less
empty_first true y ys = refl
empty_first false y ys = refl

empty_last : (b : Bool) (x : ℕ) (xs : List ℕ)
    → slice_cmp nat_cmp (cond b (codes "M") (x ∷ xs)) [] ≡ Greater
empty_last true x xs = refl
empty_last false x xs = refl

first_bytes : (x y : ℕ) (xs ys : List ℕ) (b c : Bool) → nat_eq x 77 ≡ b → nat_eq y 77 ≡ c
    → ordering_then (slice_cmp nat_cmp (cond b (codes "M") (x ∷ xs)) (cond c (codes "M") (y ∷ ys)))
    (slice_cmp nat_cmp (x ∷ xs) (y ∷ ys)) ≡ slice_cmp nat_cmp (x ∷ xs) (y ∷ ys)
first_bytes x y xs ys true true is_x is_y = refl
first_bytes x y xs ys true false is_x is_y =
    subst (λ n. ordering_then (slice_cmp nat_cmp (n ∷ []) (y ∷ ys))
    (slice_cmp nat_cmp (x ∷ xs) (y ∷ ys)) ≡ slice_cmp nat_cmp (x ∷ xs) (y ∷ ys))
    ((Decides-eqb x 77).0 is_x)
    (decided (nat_cmp x y) (slice_cmp nat_cmp [] ys) (slice_cmp nat_cmp xs ys)
    (other_byte x y is_x is_y))
first_bytes x y xs ys false true is_x is_y =
    subst (λ n. ordering_then (slice_cmp nat_cmp (x ∷ xs) (n ∷ []))
    (slice_cmp nat_cmp (x ∷ xs) (y ∷ ys)) ≡ slice_cmp nat_cmp (x ∷ xs) (y ∷ ys))
    ((Decides-eqb y 77).0 is_y)
    (decided (nat_cmp x y) (slice_cmp nat_cmp xs []) (slice_cmp nat_cmp xs ys)
    (other_byte_too x y is_x is_y))
first_bytes x y xs ys false false is_x is_y = then_same (slice_cmp nat_cmp (x ∷ xs) (y ∷ ys))

pub tag_front_first : GoesFirst tag_front
unfolding tag_front
tag_front_first [] [] = refl
tag_front_first [] (y ∷ ys) = ap (λ o. ordering_then o Less) (empty_first (nat_eq y 77) y ys)
tag_front_first (x ∷ xs) [] = ap (λ o. ordering_then o Greater) (empty_last (nat_eq x 77) x xs)
tag_front_first (x ∷ xs) (y ∷ ys) = first_bytes x y xs ys (nat_eq x 77) (nat_eq y 77) refl refl

-- neither do prefixes
pub prefixes_first : (front : List ℕ → List ℕ) → GoesFirst front → (a b : List ℕ)
    → AreBytes (front a) → AreBytes (front b)
    → ordering_then (nat_cmp (key_prefix (front a)) (key_prefix (front b))) (slice_cmp nat_cmp a b)
    ≡ slice_cmp nat_cmp a b
prefixes_first front first a b in_a in_b =
    let prefixes = nat_cmp (key_prefix (front a)) (key_prefix (front b)) in
    let fronts = slice_cmp nat_cmp (front a) (front b) in
    ap (ordering_then prefixes) (sym (first a b))
    ∙ sym (then_assoc prefixes fronts (slice_cmp nat_cmp a b))
    ∙ ap (λ o. ordering_then o (slice_cmp nat_cmp a b)) (prefix_first (front a) (front b) in_a in_b)
    ∙ first a b

-- ---- the front of a tag name is that of its definition's name in any file
pub any_file : (name f g : List ℕ) → tag_front (tag_name name f) ≡ tag_front (tag_name name g)
unfolding tag_front tag_name
any_file name f g = by_name (bytes_eq name (codes "main"))
  where
    by_name : (b : Bool) → tag_front (cond b (codes "M" ++ without_c (base_name f)) name)
        ≡ tag_front (cond b (codes "M" ++ without_c (base_name g)) name)
    by_name true = refl
    by_name false = refl

pub front_of_main : (name : List ℕ) → bytes_eq name (codes "main") ≡ true
    → tag_front (tag_name name []) ≡ codes "M"
unfolding tag_front tag_name
front_of_main name is = ap (λ b. tag_front (cond b (codes "M" ++ without_c (base_name [])) name)) is

pub front_of_other : (name : List ℕ) → bytes_eq name (codes "main") ≡ false
    → tag_front (tag_name name []) ≡ tag_front name
unfolding tag_name
front_of_other name isnt =
    ap (λ b. tag_front (cond b (codes "M" ++ without_c (base_name [])) name)) isnt

pub own_name : (name file : List ℕ) → bytes_eq name (codes "main") ≡ false
    → name ≡ tag_name name file
unfolding tag_name
own_name name file isnt =
    sym (ap (λ b. cond b (codes "M" ++ without_c (base_name file)) name) isnt)

front_bytes : (name : List ℕ) → AreBytes name → AreBytes (tag_front name)
unfolding tag_front
front_bytes [] bytes = tt
front_bytes (b ∷ bs) bytes =
    elim (nat_eq b 77) as (λ c. AreBytes (cond c (codes "M") (b ∷ bs)))
    [ true ↦ (omega arith, tt) | false ↦ bytes ]

tag_bytes : (name file : List ℕ) → AreBytes name → AreBytes (tag_front (tag_name name file))
unfolding tag_front tag_name
tag_bytes name file bytes =
    elim (bytes_eq name (codes "main")) as
    (λ c. AreBytes (tag_front (cond c (codes "M" ++ without_c (base_name file)) name)))
    [ true ↦ (omega arith, tt) | false ↦ front_bytes name bytes ]

-- ---- entries that have the prefixes of their keys
abbrev pub HasPrefix : (List ℕ → List ℕ) → Keyer → Archived → Posting → Type 0
HasPrefix front keyer a e =
    (e.prefix ≡ key_prefix (front (key_of keyer a e))) × AreBytes (front (key_of keyer a e))

-- such an entry has a key where the keys are equal
pub key_decides : (front : List ℕ → List ℕ) (keyer : Keyer) (a : Archived)
    (key : List ℕ) (e : Posting)
    → e.prefix ≡ key_prefix (front (key_of keyer a e))
    → has_key keyer a (key_prefix (front key)) key e ≡ bytes_eq key (key_of keyer a e)
key_decides front keyer a key e told = by_key (bytes_eq key (key_of keyer a e)) refl
  where
    by_key : (b : Bool) → bytes_eq key (key_of keyer a e) ≡ b
        → (nat_eq (key_prefix (front key)) e.prefix && b) ≡ b
    by_key true is =
        let same : key ≡ key_of keyer a e = (bytes_eq-Decides key (key_of keyer a e)).0 is in
        ap (λ b. b && true) ((Decides-eqb (key_prefix (front key)) e.prefix).1
        (ap (λ k. key_prefix (front k)) same ∙ sym told))
    by_key false is =
        elim (nat_eq (key_prefix (front key)) e.prefix) as (λ b. (b && false) ≡ false)
        [ true ↦ refl | false ↦ refl ]

-- a key is compared with that of such an entry as without prefixes
pub key_compared : (front : List ℕ → List ℕ) → GoesFirst front → (keyer : Keyer) (a : Archived)
    (key : List ℕ) → AreBytes (front key) → (e : Posting) → HasPrefix front keyer a e
    → key_cmp keyer a (key_prefix (front key)) key e ≡ slice_cmp nat_cmp key (key_of keyer a e)
key_compared front first keyer a key bytes e told =
    (λ i. ordering_then (nat_cmp (key_prefix (front key)) (told.0 i))
    (slice_cmp nat_cmp key (key_of keyer a e)))
    ∙ prefixes_first front first key (key_of keyer a e) bytes told.1

-- ---- an order in which an entry is a definition
pub record IsTold (front : List ℕ → List ℕ) (keyer : Keyer)
    (prefixed : List ℕ → Def → ℕ) : Type 0 where
  pub prefix : (text : Scanned) (file : List ℕ) (n : ℕ) (d : Def) → slice_get (facts_of text).defs n
      ≡ Some d
      → prefixed text.bytes d ≡ key_prefix (front (keyer (Some text) file n))
  pub bytes : (text : Scanned) (file : List ℕ) (n : ℕ) → AreBytes text.bytes
      → AreBytes (front (keyer (Some text) file n))

name_is : (text : Scanned) (file : List ℕ) (n : ℕ) (d : Def) → slice_get (facts_of text).defs n ≡
    Some d
    → cut text.bytes d.name ≡ def_key (Some text) file n
name_is text file n d is = sym (ap (λ o. bytes_at text.bytes (option_map (λ (x : Def). x.name) o))
    is)

pub names_told : IsTold (λ key. key) def_key def_prefix
unfolding def_prefix
names_told = record {
  prefix = λ text file n d is. ap key_prefix (name_is text file n d is);
  bytes = λ text file n bytes.
      span_bytes text.bytes (option_map (λ (x : Def). x.name) (slice_get (facts_of text).defs n))
      bytes;
}

pub tags_told : IsTold tag_front tag_key tag_prefix
unfolding tag_prefix
tags_told = record {
  prefix = λ text file n d is.
      ap (λ name. key_prefix (tag_front (tag_name name []))) (name_is text file n d is)
      ∙ ap key_prefix (any_file (def_key (Some text) file n) [] file);
  bytes = λ text file n bytes. tag_bytes (def_key (Some text) file n) file
      (span_bytes text.bytes (option_map (λ (x : Def). x.name) (slice_get (facts_of text).defs n))
      bytes);
}

module _ (front : List ℕ → List ℕ) (keyer : Keyer) (prefixed : List ℕ → Def → ℕ)
    (told : IsTold front keyer prefixed) where
  module _ (a : Archived) (s : Shown) (text : Scanned)
      (there : text_at a s.version ≡ Some text) where
    -- the prefix of a definition is that of its key
    pub entry_told : (n : ℕ) (d : Def) (rest : List Def) → drop n (facts_of text).defs ≡ d ∷ rest
        → prefixed text.bytes d
        ≡ key_prefix (front (keyer (text_at a s.version) (name_of a s.name) n))
    entry_told n d rest is =
        told.prefix text (name_of a s.name) n d
        (at_front n (facts_of text).defs ∙ ap (λ l. slice_get l 0) is)
        ∙ sym (ap (λ o. key_prefix (front (keyer o (name_of a s.name) n))) there)

    told_from : AreBytes text.bytes → (n : ℕ) (defs : List Def) → drop n (facts_of text).defs ≡ defs
        → AllByRecursion (HasPrefix front keyer a)
        (map (entry_of s) (numbered n (map (prefixed text.bytes) defs)))
    told_from bytes n [] is = tt
    told_from bytes n (d ∷ defs) is = (
      (
        entry_told n d defs is,
        subst (λ o. AreBytes (front (keyer o (name_of a s.name) n))) (sym there)
            (told.bytes text (name_of a s.name) n bytes),
      ),
      told_from bytes (suc n) defs (drop_next n (facts_of text).defs ∙ ap (drop 1) is),
    )

  module _ (lister : Lister) (none : lister None ≡ []) (some : (text : Scanned)
      → lister (Some text) ≡ numbered 0 (map (prefixed text.bytes) (facts_of text).defs))
      (a : Archived) (bytes : AllByRecursion AreBytes a.texts) where
    told_of : (s : Shown) (o : Option Scanned) → text_at a s.version ≡ o
        → AllByRecursion (HasPrefix front keyer a) (map (entry_of s) (lister o))
    told_of s None there =
        subst (λ ps. AllByRecursion (HasPrefix front keyer a) (map (entry_of s) ps)) (sym none) tt
    told_of s (Some text) there =
        subst (λ ps. AllByRecursion (HasPrefix front keyer a) (map (entry_of s) ps))
        (sym (some text))
        (told_from a s text there (bytes_there a s.version a.texts text there bytes) 0
        (facts_of text).defs refl)

    pub all_told : (shown : List Shown)
        → AllByRecursion (HasPrefix front keyer a) (all_entries lister a shown)
    all_told [] = tt
    all_told (s ∷ shown) =
        all-append (HasPrefix front keyer a) (entries_of lister a s) (all_entries lister a shown)
        (told_of s (text_at a s.version) refl) (all_told shown)

-- ---- the two orders
module _ (a : Archived) (bytes : AllByRecursion AreBytes a.texts) (shown : List Shown) where
  pub defs_told : AllByRecursion (HasPrefix (λ key. key) def_key a)
      (all_entries defs_listed a shown)
  defs_told =
      all_told (λ key. key) def_key def_prefix names_told defs_listed refl
      (λ text. refl) a bytes shown

  pub tag_names_told : AllByRecursion (HasPrefix tag_front tag_key a)
      (all_entries tags_listed a shown)
  tag_names_told =
      all_told tag_front tag_key tag_prefix tags_told tags_listed refl (λ text. refl) a bytes shown
