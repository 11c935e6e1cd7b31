-- The uses that are no names of definitions are read beside these, as both go by file and place.
use Rattle.std.proofs.Common.{◌≡◌, ◌∙◌, ◌||◌, ◌&&◌, ◌==◌, cond, sym, ap, ap₂}
use Rattle.std.proofs.Common.{refl, ℕ, Bool, true, false, List, [], ◌∷◌, filter, nat_lt}
use Rattle.std.proofs.Common.{if◌then◌else◌, inl, inr, Less, Equal, arith}
use Rattle.std.proofs.lemmas.Bool.{false≢true, true≢false}
use Rattle.std.proofs.lemmas.Cmp.{nat_list_cmp_total, tied_itself}
use Rattle.std.specs.Cmp.Lexicographic.{slice_cmp}
use Rattle.std.specs.List.{AllByRecursion}
use Rattle.std.specs.Ordering.{nat_cmp, ordering_reverse}
use Rattle.std.specs.Str.{bytes_eq}
use Rattle.cb_desk.proofs.PlaceLemmas.{name-same, same-name}
use Rattle.cb_desk.proofs.Valid.{all-both, all-filter}
use Rattle.cb_index.specs.FactOrder.{ComesBefore}
use Rattle.cb_index.specs.Rows.{Fact}
use Rattle.cb_scan.specs.Order.{AreOrdered}
use Rattle.cb_tags.specs.TagLines.{Tag}
use Rattle.cb_lsp.specs.References.{is_declaration, is_name_of, references, uses_reached}
use Rattle.cb_lsp.specs.References.{without_declarations}
use Rattle.cb_lsp.specs.Meaning.{reaches}
use Rattle.cb_lsp.specs.steps.References.{AreByPlace, IsPlacedBefore, UsesAreByPlace, begins_at}
use Rattle.cb_lsp.specs.steps.References.{from_place, goes_first, is_before, undeclared}
use Rattle.cb_lsp.proofs.FromPlaces.{from-ordered, passed-none}
use Rattle.cb_lsp.proofs.Reaches.{kept}

-- ---- one definition and one use

-- where a use is the name of a definition
record IsNamed (u : Fact) (t : Tag) : Type 0 where
  file : t.file ≡ u.file
  place : t.place ≡ u.place

named : (u : Fact) (t : Tag) → is_name_of u t ≡ true → IsNamed u t
named u t e =
    (elim (bytes_eq t.file u.file) as
    (λ b. bytes_eq t.file u.file ≡ b → (b && t.place == u.place) ≡ true → IsNamed u t) [
      | true ↦ λ f g. record { file = same-name t.file u.file f; place = grind (arith, g) }
      | false ↦ λ f g. absurd (false≢true g)
    ]) refl e

tied : (x y : List ℕ) → x ≡ y → slice_cmp nat_cmp x y ≡ Equal
tied x y e = ap (λ n. slice_cmp nat_cmp n y) e ∙ tied_itself nat_list_cmp_total y

-- a definition in a file before is before all places of a file
before-of-less : (u : Fact) (t : Tag) → slice_cmp nat_cmp t.file u.file ≡ Less
    → is_before u.file u.place t ≡ true
before-of-less u t less = ap (λ o. goes_first o (nat_lt t.place u.place)) less

-- in one file it is before a place if it begins before
before-of-same : (u : Fact) (t : Tag) → t.file ≡ u.file
    → is_before u.file u.place t ≡ nat_lt t.place u.place
before-of-same u t e =
    ap (λ o. goes_first o (nat_lt t.place u.place)) (tied t.file u.file e)

is-named : (u : Fact) (t : Tag) → t.file ≡ u.file → t.place ≡ u.place → is_name_of u t ≡ true
is-named u t f p =
    ap (λ b. b && t.place == u.place)
    (ap (λ n. bytes_eq n u.file) f ∙ name-same u.file) ∙ grind (arith, p)

untrue : (b : Bool) → (b ≡ true → ⊥) → b ≡ false
untrue true never = absurd (never refl)
untrue false never = refl

-- ---- a definition that is passed is none of a later use

passed-now : (u v : Fact) → ComesBefore u v → (t : Tag) → is_before u.file u.place t ≡ true
    → IsNamed v t → ⊥
passed-now u v (inl less) t before at =
    true≢false (sym before ∙ ap (λ o. goes_first o (nat_lt t.place u.place))
    (ap (λ n. slice_cmp nat_cmp n u.file) at.file
    ∙ nat_list_cmp_total.antisymm v.file u.file ∙ ap ordering_reverse less))
passed-now u v (inr same) t before at =
    let less : nat_lt t.place u.place ≡ true =
    sym (before-of-same u t (at.file ∙ sym same.0)) ∙ before in
    grind (arith, less, same.1, at.place)

passed : (u v : Fact) → ComesBefore u v → (t : Tag) → is_before u.file u.place t ≡ true
    → is_name_of v t ≡ false
passed u v later t before =
    untrue (is_name_of v t) (λ e. passed-now u v later t before (named v t e))

-- ---- the first definition that is not passed

later-none : (u : Fact) (t : Tag) → is_before u.file u.place t ≡ false
    → is_name_of u t ≡ false → (s : Tag) → IsPlacedBefore t s → IsNamed u s → ⊥
later-none u t ahead other s (inl less) at =
    true≢false (sym (before-of-less u t (ap (slice_cmp nat_cmp t.file) (sym at.file) ∙ less))
    ∙ ahead)
later-none u t ahead other s (inr same) at =
    let file : t.file ≡ u.file = same.0 ∙ at.file in
    let not-less : nat_lt t.place u.place ≡ false = sym (before-of-same u t file) ∙ ahead in
    true≢false (sym (is-named u t file (grind (arith, not-less, same.1, at.place))) ∙ other)

none-later : (u : Fact) (t : Tag) → is_before u.file u.place t ≡ false
    → is_name_of u t ≡ false → (ts : List Tag) → AllByRecursion (IsPlacedBefore t) ts
    → is_declaration ts u ≡ false
none-later u t ahead other [] all = refl
none-later u t ahead other (s ∷ ts) all =
    ap₂ (λ a b. a || b)
    (untrue (is_name_of u s) (λ e. later-none u t ahead other s all.0 (named u s e)))
    (none-later u t ahead other ts all.1)

at-first : (u : Fact) (ts : List Tag) → AreByPlace ts
    → begins_at u (from_place u.file u.place ts)
    ≡ is_declaration (from_place u.file u.place ts) u
unfolding from_place AreOrdered
at-first u [] order = refl
at-first u (t ∷ ts) order =
    (elim (is_before u.file u.place t) as (λ b. is_before u.file u.place t ≡ b
    → begins_at u (if b then from_place u.file u.place ts else t ∷ ts)
    ≡ is_declaration (if b then from_place u.file u.place ts else t ∷ ts) u) [
      | true ↦ λ e. at-first u ts order.1
      | false ↦ λ e.
          (elim (is_name_of u t) as (λ b. is_name_of u t ≡ b
          → b ≡ (b || is_declaration ts u)) [
            | true ↦ λ f. refl
            | false ↦ λ f. sym (none-later u t e f ts order.0)
          ]) refl
    ]) refl

-- ---- all uses

abbrev AreKnown : (all ts : List Tag) → List Fact → Type 0
AreKnown all ts us =
    AllByRecursion (λ (u : Fact). is_declaration ts u ≡ is_declaration all u) us

still : (u v : Fact) (ts : List Tag) → ComesBefore u v
    → is_declaration (from_place u.file u.place ts) v ≡ is_declaration ts v
still u v ts later = passed-none (is_name_of v) u.file u.place (passed u v later) ts

undeclared-known : (all ts : List Tag) (us : List Fact) → AreByPlace ts → UsesAreByPlace us
    → AreKnown all ts us → undeclared ts us ≡ without_declarations all us
unfolding undeclared AreOrdered
undeclared-known all ts [] order uses know = refl
undeclared-known all ts (u ∷ us) order uses know =
    let left : List Tag = from_place u.file u.place ts in
    let here : begins_at u left ≡ is_declaration all u =
    at-first u ts order
    ∙ passed-none (is_name_of u) u.file u.place
    (passed u u (inr (refl, grind arith))) ts
    ∙ know.0 in
    let rest : undeclared left us ≡ without_declarations all us =
    undeclared-known all left us (from-ordered IsPlacedBefore u.file u.place ts order) uses.1
    (all-both (ComesBefore u) (λ (v : Fact). is_declaration ts v ≡ is_declaration all v)
    (λ (v : Fact). is_declaration left v ≡ is_declaration all v) us
    (λ v later know. still u v ts later ∙ know) uses.0 know.1) in
    (λ i. if here i then rest i else u ∷ rest i)
    ∙ kept u (is_declaration all u) (without_declarations all us)

all-known : (ts : List Tag) (us : List Fact) → AreKnown ts ts us
all-known ts [] = tt
all-known ts (u ∷ us) = (refl, all-known ts us)

-- ---- those in the reach

pub ordered-filter : (R : Fact → Fact → Type 0) (p : Fact → Bool) (us : List Fact)
    → AreOrdered R us → AreOrdered R (filter p us)
unfolding AreOrdered
ordered-filter R p [] o = tt
ordered-filter R p (u ∷ us) o =
    elim (p u) as (λ b. AreOrdered R (cond b (u ∷ filter p us) (filter p us))) [
      | true ↦ (all-filter (R u) p us o.0, ordered-filter R p us o.1)
      | false ↦ ordered-filter R p us o.1
    ]

-- with the names of definitions or without
pub wanted-is : (ts : List Tag) (from : List ℕ) (us : List Fact) (declarations : Bool)
    → AreByPlace ts → UsesAreByPlace us
    → (if declarations then uses_reached ts from us else undeclared ts (uses_reached ts from us))
    ≡ references ts from declarations us
wanted-is ts from us true order uses = refl
wanted-is ts from us false order uses =
    undeclared-known ts ts (uses_reached ts from us) order
    (ordered-filter ComesBefore (λ (u : Fact). reaches ts from u.file) us uses)
    (all-known ts (uses_reached ts from us))

-- where no use is left
pub wanted-end : (declarations : Bool) (ts : List Tag) (us : List Fact) → us ≡ []
    → (if declarations then us else undeclared ts us) ≡ []
unfolding undeclared
wanted-end true ts us e = e
wanted-end false ts us e = ap (undeclared ts) e
