-- A version has no more entries than facts.
use Rattle.std.proofs.Common.{◌≡◌, ◌≤◌, ℕ, suc, List, [], ◌∷◌, Some, None, ap, refl, filter, length}
use Rattle.std.proofs.Common.{map, not, arith}
use Rattle.std.proofs.lemmas.List.{length-map}
use Rattle.std.proofs.lemmas.List.Filters.{length-filter_both}
use Rattle.std.proofs.lemmas.List.FromFn.{length-range_with_len}
use Rattle.std.specs.Prelude.{Option}
use Rattle.std.specs.List.{range_with_len}
use Rattle.cb_index.specs.Scanned.{Scanned, facts_of}
use Rattle.cb_index.specs.Files.{count_for, def_count}
use Rattle.cb_index.specs.Kinds.{lister_of}
use Rattle.cb_index.specs.Firsts.{firsts, listed}
use Rattle.cb_index.specs.Items.{is_first, item_count}
use Rattle.cb_index.specs.Orders.{def_prefix, defs_listed, numbered, tag_prefix, tags_listed}
use Rattle.cb_index.specs.declared.entry.FactKind.{FactKind}
use Rattle.cb_index.specs.declared.entry.FactKind.TheVariants.{Uses, Callees, Callers}
use Rattle.cb_index.specs.declared.entry.IndexKind.{IndexKind}
use Rattle.cb_index.specs.declared.entry.IndexKind.TheVariants.{DefsByName, DefsByTagName, Facts}

length-numbered : (number : ℕ) (ps : List ℕ) → length (numbered number ps) ≡ length ps
length-numbered number [] = refl
length-numbered number (p ∷ ps) = ap suc (length-numbered (suc number) ps)

fewer_defs : (t : Option Scanned) → length (defs_listed t) ≤ def_count t
fewer_defs None = omega arith
fewer_defs (Some text) =
    let same = length-map (facts_of text).defs (def_prefix text.bytes) in
    let all = length-numbered 0 (map (def_prefix text.bytes) (facts_of text).defs) in
    omega (arith, same, all)

fewer_tags : (t : Option Scanned) → length (tags_listed t) ≤ def_count t
fewer_tags None = omega arith
fewer_tags (Some text) =
    let same = length-map (facts_of text).defs (tag_prefix text.bytes) in
    let all = length-numbered 0 (map (tag_prefix text.bytes) (facts_of text).defs) in
    omega (arith, same, all)

few_firsts : (sort : FactKind) (text : Scanned) → length (firsts sort text) ≤ item_count sort text
few_firsts sort text =
    let all = range_with_len 0 (item_count sort text) in
    let same = length-map (filter (is_first sort text) all) (listed sort text) in
    let split =
    length-filter_both (is_first sort text) (λ i. not (is_first sort text i)) (λ i. refl) all in
    omega (arith, same, split, length-range_with_len 0 (item_count sort text))

-- by kind
pub fewer_of : (kind : IndexKind) (t : Option Scanned)
    → length (lister_of kind t) ≤ count_for kind t
fewer_of DefsByName t = fewer_defs t
fewer_of DefsByTagName t = fewer_tags t
fewer_of (Facts Uses) None = omega arith
fewer_of (Facts Uses) (Some text) = few_firsts Uses text
fewer_of (Facts Callees) None = omega arith
fewer_of (Facts Callees) (Some text) = few_firsts Callees text
fewer_of (Facts Callers) None = omega arith
fewer_of (Facts Callers) (Some text) = few_firsts Callers text
