-- What is held back, one more token being read.
use Rattle.std.proofs.Common.{◌≡◌, ◌∙◌, ◌+◌, ◌<◌, ◌≤◌, true, false, List, [], ◌∷◌, ◌++◌}
use Rattle.std.proofs.Common.{refl, sym, arith, drop, length, append_assoc}
use Rattle.std.proofs.lemmas.List.{length-append}
use Rattle.std.specs.Prelude.{◌==◌, if◌then◌else◌}
use Rattle.std.specs.List.{AllByRecursion}
use Rattle.cb_scan.specs.declared.rules.functions.Before.{Before}
use Rattle.cb_scan.specs.declared.rules.wide.attribute.Attribute.{Attribute}
use Rattle.cb_scan.specs.declared.rules.wide.reader.Reader.{Reader}
use Rattle.cb_scan.specs.declared.rules.wide.reader.TheConstants.{FULL}
use Rattle.cb_scan.specs.declared.rules.wide.sight.Sight.{Sight}
use Rattle.cb_scan.specs.declared.rules.wide.token.WideToken.{WideToken}
use Rattle.cb_scan.specs.steps.wide.Attributes.{kept_from, leaves_out, next_attribute}
use Rattle.cb_scan.specs.steps.wide.Reading.{emptied, held, settled, with_bare, with_raw}
use Rattle.cb_scan.proofs.WideRuns.{leaves_by_three, next_by_three}
use Rattle.cb_scan.proofs.WideSegments.{IsInner}
use Rattle.cb_scan.proofs.WideTaken.{left_of}
use Rattle.cb_scan.proofs.WithinLemmas.{all-append}

-- ---- one more token that may be of an attribute

-- the reader with these fields
abbrev pub reader_of : Before → Attribute → Sight → List WideToken → List WideToken → Reader
reader_of before a sight raw bare =
    record {
      before = before;
      attribute = a;
      sight = sight;
      window = record { bare = bare; raw = raw };
    }

-- what is held back then is no more than it may be, and nothing is lost
pub record IsHeld (bare : List WideToken) (a : Attribute) (raw items : List WideToken) (h : Reader)
    : Type 0 where
  pub few_raw : length h.window.raw ≤ 2
  pub few_bare : length h.window.bare ≤ FULL
  pub raw_inner : AllByRecursion IsInner h.window.raw
  pub bare_inner : AllByRecursion IsInner h.window.bare
  pub kept : h.window.bare ++ kept_from h.attribute (h.window.raw ++ items)
      ≡ bare ++ kept_from a (raw ++ items)

module _ (before : Before) (sight : Sight) (a : Attribute) (bare : List WideToken) (x : WideToken)
    (items : List WideToken) (inner : IsInner x) (few : length bare < FULL)
    (bare_inner : AllByRecursion IsInner bare) where
  pub held_is : (raw : List WideToken) → length raw ≤ 2 → AllByRecursion IsInner raw
      → IsHeld bare a (raw ++ x ∷ []) items (held (reader_of before a sight raw bare) x)
  unfolding kept_from
  held_is [] le all = record {
    few_raw = omega arith;
    few_bare = omega arith;
    raw_inner = (inner, tt);
    bare_inner = bare_inner;
    kept = refl;
  }
  held_is (y ∷ []) le all = record {
    few_raw = omega arith;
    few_bare = omega arith;
    raw_inner = (all.0, (inner, tt));
    bare_inner = bare_inner;
    kept = refl;
  }
  held_is (y ∷ z ∷ []) le all =
      let raw = y ∷ z ∷ x ∷ [] in
      let n = next_attribute a raw in
      let rest = kept_from n (z ∷ x ∷ items) in
      let longer : length (bare ++ y ∷ []) ≡ length bare + 1 = length-append bare (y ∷ []) in
      record {
        few_raw = omega arith;
        few_bare = elim (leaves_out a raw) as
            (λ b. length (if b then bare else bare ++ y ∷ []) ≤ FULL)
            [ true ↦ omega arith | false ↦ omega arith ];
        raw_inner = (all.1.0, (inner, tt));
        bare_inner = elim (leaves_out a raw) as
            (λ b. AllByRecursion IsInner (if b then bare else bare ++ y ∷ [])) [
              | true ↦ bare_inner
              | false ↦ all-append IsInner bare (y ∷ []) bare_inner (all.0, tt)
            ];
        kept =
            elim (leaves_out a raw) as (λ b. (if b then bare else bare ++ y ∷ []) ++ rest
            ≡ bare ++ (if b then rest else y ∷ rest))
            [ true ↦ refl | false ↦ append_assoc bare (y ∷ []) rest ]
            ∙ (λ i. bare ++ (if sym (leaves_by_three a y z x [] items) i
            then kept_from (sym (next_by_three a y z x [] items) i) (z ∷ x ∷ items)
            else y ∷ kept_from (sym (next_by_three a y z x [] items) i) (z ∷ x ∷ items)));
      }
  held_is (y ∷ z ∷ u ∷ s) le all = absurd (omega arith)

pub held_before : (r : Reader) (x : WideToken) → (held r x).before ≡ r.before
held_before r x = elim (length (with_raw r x).window.raw == 3) as
    (λ b. (if b then settled (with_raw r x) else with_raw r x).before ≡ r.before)
    [ true ↦ refl | false ↦ refl ]

pub emptied_is : (r : Reader) → emptied r ≡ with_bare r (left_of r.window.bare)
emptied_is r = elim (length r.window.bare == FULL) as
    (λ b. (if b then with_bare r (drop 1 r.window.bare) else r)
    ≡ with_bare r (if b then drop 1 r.window.bare else r.window.bare)) [ true ↦ refl | false ↦ refl ]
