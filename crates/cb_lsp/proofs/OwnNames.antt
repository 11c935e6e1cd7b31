-- The names of a function in a set of slices.
use Rattle.std.proofs.Common.{◌≡◌, ◌++◌, ◌||◌, ℕ, List, [], ◌∷◌, Ordering, Less, Equal, Greater, ap}
use Rattle.std.proofs.Common.{filter, map, not, refl}
use Rattle.std.proofs.lemmas.List.Elements.{filter_agree}
use Rattle.std.proofs.lemmas.Map.Text.{is_eq-slice_cmp}
use Rattle.std.specs.Borrow.{Bor}
use Rattle.std.specs.BTreeSet.{BTreeSet, insert_key}
use Rattle.std.specs.Cmp.Lexicographic.{slice_cmp}
use Rattle.std.specs.List.{list_any}
use Rattle.std.specs.Ordering.{is_eq, match_ordering, nat_cmp}
use Rattle.std.specs.Str.{bytes_eq}
use Rattle.cb_tags.specs.TagLines.{Tag}
use Rattle.cb_lsp.specs.Completions.{local_item, session_item, with_other_names}
use Rattle.cb_lsp.specs.steps.Closures.{has_name}
use Rattle.cb_lsp.specs.steps.Completions.{names_in}
use Rattle.cb_lsp.proofs.Listed.{map-map}

abbrev pub name_of : Bor (List ℕ) → List ℕ
name_of name = name.now

abbrev pub by_bytes : (a b : Bor (List ℕ)) → Ordering
by_bytes a b = slice_cmp nat_cmp a.now b.now

-- a slice that is put among others puts its name among theirs
pub name-inserted : (ks : List (Bor (List ℕ))) (k : Bor (List ℕ))
    → map name_of (insert_key by_bytes ks k)
    ≡ insert_key (slice_cmp nat_cmp) (map name_of ks) k.now
name-inserted [] k = refl
name-inserted (x ∷ xs) k = by-order (by_bytes k x) (name-inserted xs k)
  where
    by-order : (o : Ordering)
        → map name_of (insert_key by_bytes xs k)
        ≡ insert_key (slice_cmp nat_cmp) (map name_of xs) k.now
        → map name_of (match_ordering o (k ∷ x ∷ xs) (x ∷ xs) (x ∷ insert_key by_bytes xs k))
        ≡ match_ordering o (k.now ∷ x.now ∷ map name_of xs) (x.now ∷ map name_of xs)
        (x.now ∷ insert_key (slice_cmp nat_cmp) (map name_of xs) k.now)
    by-order Less later = refl
    by-order Equal later = refl
    by-order Greater later = ap (λ l. x.now ∷ l) later

-- a set has a name that is one of its names
has-key : (name : List ℕ) (ks : List (Bor (List ℕ)))
    → list_any (λ (k : Bor (List ℕ)). is_eq (slice_cmp nat_cmp name k.now)) ks
    ≡ list_any (bytes_eq name) (map name_of ks)
has-key name [] = refl
has-key name (k ∷ ks) = (λ i. is_eq-slice_cmp name k.now i || has-key name ks i)

pub has-its-names : (own : BTreeSet (Bor (List ℕ))) (name : List ℕ)
    → has_name own name ≡ list_any (bytes_eq name) (names_in own)
has-its-names own name = has-key name own.keys

-- what completes a word, by the set of the names of the function
pub completing-by : (own : BTreeSet (Bor (List ℕ))) (ts : List Tag)
    → map (λ (name : Bor (List ℕ)). local_item name.now) own.keys
    ++ map session_item (filter (λ (t : Tag). not (has_name own t.name)) ts)
    ≡ map local_item (names_in own) ++ map session_item (with_other_names (names_in own) ts)
completing-by own ts =
    (λ i. map-map local_item name_of own.keys i ++ map session_item
    (filter_agree (λ (t : Tag). not (has_name own t.name))
    (λ (t : Tag). not (list_any (bytes_eq t.name) (names_in own)))
    (λ t. ap not (has-its-names own t.name)) ts i))
