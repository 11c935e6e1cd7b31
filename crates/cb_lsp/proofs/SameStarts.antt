-- Where tokens begin that are listed, a step at a time.
use Rattle.std.proofs.Common.{◌≡◌, ◌∙◌, ◌+◌, ◌<◌, ◌||◌, ℕ, List, [], ◌∷◌, ◌++◌, Bool, true, false, ap, sym, refl}
use Rattle.std.proofs.Common.{filter, length, map, take}
use Rattle.std.proofs.lemmas.Grind.{flat_map-append}
use Rattle.std.proofs.lemmas.List.{append-nil, map-append, take_more}
use Rattle.std.proofs.lemmas.List.Elements.{filter-append}
use Rattle.std.proofs.lemmas.List.Folds.{list_any-append}
use Rattle.std.specs.Prelude.{cond, slice_index_or}
use Rattle.std.specs.List.{flat_map, list_any}
use Rattle.cb_names.specs.declared.spaced.SpacedName.{SpacedName}
use Rattle.cb_scan.specs.declared.lex.piece.Span.{Span}
use Rattle.cb_lsp.specs.Same.{is_listed, listed_names, starts_at}
use Rattle.cb_lsp.specs.declared.same.Sort.{Sort}
use Rattle.cb_lsp.specs.declared.same.Starts.{Starts}
use Rattle.cb_lsp.specs.steps.Same.{Adds, AreStarts, has_start}

or_both : (a b c : Bool) → ((a || b) || c) ≡ (a || (b || c))
or_both true b c = refl
or_both false b c = refl

or_none : (a : Bool) → a ≡ (a || false)
or_none true = refl
or_none false = refl

-- a token of some begins at a place
abbrev pub begin_there : List Span → ℕ → Bool
begin_there ss place = list_any (starts_at place) ss

pub adds_none : (s : Starts) → Adds (begin_there []) s s
adds_none s place = or_none (has_start s place)

pub adds_one : (s : Span) (x y : Starts) → Adds (λ p. starts_at p s) x y → Adds (begin_there (s ∷ [])) x y
adds_one s x y adds place = adds place ∙ ap (λ b. has_start x place || b) (or_none (starts_at place s))

-- two steps are one
pub adds_more : (us vs ws : List Span) (x y z : Starts) → ws ≡ us ++ vs → Adds (begin_there us) x y
    → Adds (begin_there vs) y z → Adds (begin_there ws) x z
adds_more us vs ws x y z is first second place =
    second place
    ∙ ap (λ b. b || begin_there vs place) (first place)
    ∙ or_both (has_start x place) (begin_there us place) (begin_there vs place)
    ∙ ap (λ b. has_start x place || b) (sym (list_any-append (starts_at place) us vs))
    ∙ ap (λ l. has_start x place || begin_there l place) (sym is)

-- the same tokens under another name
pub adds_as : (us vs : List Span) (x y : Starts) → us ≡ vs → Adds (begin_there us) x y
    → Adds (begin_there vs) x y
adds_as us vs x y is adds place =
    adds place ∙ ap (λ l. has_start x place || begin_there l place) is

-- those that are added where none are known
pub only_those : (us : List Span) (x y : Starts) → AreStarts [] x → Adds (begin_there us) x y
    → AreStarts us y
only_those us x y none adds place = adds place ∙ ap (λ b. b || begin_there us place) (none place)

-- one token more
pub names_more : (sort : Sort) (ns : List SpacedName) (i : ℕ) (d : SpacedName) → i < length ns
    → listed_names sort (take (i + 1) ns)
    ≡ listed_names sort (take i ns) ++ listed_names sort (slice_index_or ns i d ∷ [])
names_more sort ns i d less =
    let name = λ (s : SpacedName). s.name in
    ap (listed_names sort) (take_more ns i d less)
    ∙ ap (map name) (filter-append (is_listed sort) (take i ns) (slice_index_or ns i d ∷ []))
    ∙ map-append name (filter (is_listed sort) (take i ns)) (filter (is_listed sort) (slice_index_or ns i d ∷ []))

-- one definition more
pub flat_more : {X A : Type 0} (f : X → List A) (xs : List X) (i : ℕ) (d : X) → i < length xs
    → flat_map f (take (i + 1) xs) ≡ flat_map f (take i xs) ++ f (slice_index_or xs i d)
flat_more f xs i d less =
    ap (flat_map f) (take_more xs i d less)
    ∙ flat_map-append f (take i xs) (slice_index_or xs i d ∷ [])
    ∙ ap (λ l. flat_map f (take i xs) ++ l) (append-nil (f (slice_index_or xs i d)))

-- one element more is looked at
pub filter_more : {X : Type 0} (p : X → Bool) (xs : List X) (i : ℕ) (d : X) → i < length xs
    → filter p (take (i + 1) xs)
    ≡ filter p (take i xs) ++ cond (p (slice_index_or xs i d)) (slice_index_or xs i d ∷ []) []
filter_more p xs i d less =
    ap (filter p) (take_more xs i d less) ∙ filter-append p (take i xs) (slice_index_or xs i d ∷ [])
