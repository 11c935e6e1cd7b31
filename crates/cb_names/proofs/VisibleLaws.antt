-- The names of what is visible are those that are bound.
use Rattle.std.proofs.Common.{◌≡◌, ◌∙◌, ◌∷◌, [], ℕ, zero, suc, Bool, true, false, List, Some, add-one, ap, refl, sym}
use Rattle.std.proofs.lemmas.List.Folds.{list_any-append}
use Rattle.std.specs.Prelude.{◌&&◌, ◌||◌, cond, nat_le}
use Rattle.std.specs.List.{list_any}
use Rattle.std.specs.Option.{option_map_or}
use Rattle.std.specs.Str.{bytes_eq}
use Rattle.cb_scan.specs.declared.lex.piece.Span.{Span}
use Rattle.cb_scan.specs.lex.Tokens.{bytes_of}
use Rattle.cb_names.specs.Bindings.{declares_name, scope_of, seen_before}
use Rattle.cb_names.specs.Labels.{span}
use Rattle.cb_names.specs.Pairs.{at}
use Rattle.cb_names.specs.Scoped.{declares}
use Rattle.cb_names.specs.Spaces.{is_ordinary}
use Rattle.cb_names.specs.Tables.{those_where}
use Rattle.cb_names.specs.Visible.{has_spelled, is_seen, is_visible, visible_in}
use Rattle.cb_names.specs.declared.word.Item.{Item}
use Rattle.cb_names.proofs.MacroLemmas.{those_more}

or_none : (b : Bool) → (b || false) ≡ b
or_none true = refl
or_none false = refl

or_true : (b : Bool) → (b || true) ≡ true
or_true true = refl
or_true false = refl

-- one more, which is found among others or not, is ordinary, has the name, declares and goes on
one_more : (found o e d l : Bool)
    → (found || ((o && (d && l)) && e)) ≡ cond (((o && e) && d) && l) true found
one_more found false e d l = or_none found
one_more found true false true true = or_none found
one_more found true false true false = or_none found
one_more found true false false l = or_none found
one_more found true true false l = or_none found
one_more found true true true false = or_none found
one_more found true true true true = or_true found

module _ (text : List ℕ) (xs : List Item) (m b k : ℕ) (name : List ℕ) where
  abbrev has : Span → Bool
  has s = bytes_eq (bytes_of text s) name

  of_one : (is : Bool) (s : Span) → list_any has (cond is (s ∷ []) []) ≡ (is && has s)
  of_one true s = or_none (has s)
  of_one false s = refl

  abbrev seen : ℕ → Bool
  seen n =
      option_map_or (λ _. true)
      (seen_before (declares_name text xs m b name) (scope_of xs m b) k n) false

  seen_next : (is : Bool) (n d : ℕ)
      → option_map_or (λ _. true) (cond is (Some d)
      (seen_before (declares_name text xs m b name) (scope_of xs m b) k n)) false
      ≡ cond is true (seen n)
  seen_next true n d = refl
  seen_next false n d = refl

  abbrev visible : ℕ → List Span
  visible n = those_where (λ d. span (at xs d)) (is_visible xs m b k) n

  each_seen : (n : ℕ) → list_any has (visible n) ≡ seen n
  unfolding seen_before
  each_seen zero = refl
  each_seen (suc n) =
      ap (λ j. list_any has (visible j)) (sym (add-one n))
      ∙ ap (list_any has) (those_more (λ d. span (at xs d)) (is_visible xs m b k) n)
      ∙ list_any-append has (visible n) (cond (is_visible xs m b k n) (span (at xs n) ∷ []) [])
      ∙ (λ i. each_seen n i || of_one (is_visible xs m b k n) (span (at xs n)) i)
      ∙ one_more (seen n) (is_ordinary xs b n) (has (span (at xs n))) (declares xs m b n)
      (nat_le k (scope_of xs m b n).last)
      ∙ sym (seen_next _ n _)

  pub visible_bound : has_spelled text (visible_in xs m b k) name ≡ is_seen text xs m b name k
  visible_bound = each_seen k
