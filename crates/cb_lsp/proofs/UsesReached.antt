-- The uses in the reach of a name are read beside its definitions, as both go by file.
use Rattle.std.proofs.Common.{◌≡◌, ◌∙◌, ◌&&◌, not, sym, ap, refl, ℕ, Bool, true, false, List, []}
use Rattle.std.proofs.Common.{◌∷◌, filter, if◌then◌else◌, inl, inr, Less}
use Rattle.std.proofs.lemmas.Map.Text.{is_eq-slice_cmp}
use Rattle.std.specs.Cmp.Lexicographic.{slice_cmp}
use Rattle.std.specs.List.{AllByRecursion}
use Rattle.std.specs.Ordering.{is_eq, nat_cmp}
use Rattle.std.specs.Str.{bytes_eq}
use Rattle.cb_desk.proofs.PlaceLemmas.{same-name}
use Rattle.cb_desk.proofs.Valid.{all-both}
use Rattle.cb_index.specs.FactOrder.{ComesBefore}
use Rattle.cb_index.specs.Rows.{Fact}
use Rattle.cb_scan.specs.Order.{AreOrdered}
use Rattle.cb_tags.specs.TagLines.{Tag}
use Rattle.cb_lsp.specs.Meaning.{has_private, is_private, is_private_in}
use Rattle.cb_lsp.specs.References.{uses_reached}
use Rattle.cb_lsp.specs.steps.Meanings.{AreByFile, IsUpTo, begins_private}
use Rattle.cb_lsp.specs.steps.References.{AreByPlace, UsesAreByPlace, from_file, from_place}
use Rattle.cb_lsp.specs.steps.References.{is_before, is_hidden, shared_uses}
use Rattle.cb_lsp.proofs.FromPlaces.{before-file, by-file, from-ordered, from-up, ordered-along}
use Rattle.cb_lsp.proofs.FromPlaces.{passed-none, up-of-less, up-to-itself}
use Rattle.cb_lsp.proofs.Reaches.{apart, begins, kept}

-- ---- uses by file

abbrev pub AreUsesByFile : List Fact → Type 0
AreUsesByFile us = AreOrdered (λ (u v : Fact). IsUpTo u.file v.file) us

one-by-file : (u v : Fact) → ComesBefore u v → IsUpTo u.file v.file
one-by-file u v (inl less) = up-of-less u.file v.file less
one-by-file u v (inr same) = up-to-itself u.file v.file same.0

pub uses-by-file : (us : List Fact) → UsesAreByPlace us → AreUsesByFile us
uses-by-file = ordered-along ComesBefore (λ (u v : Fact). IsUpTo u.file v.file) one-by-file

-- ---- the definitions of files before one are none of a file from there on

never : (p : Bool) → (p && false) ≡ false
never true = refl
never false = refl

passed : (file v : List ℕ) → IsUpTo file v → (t : Tag) → is_before file 0 t ≡ true
    → is_private_in v t ≡ false
passed file v up t before =
    let less : slice_cmp nat_cmp t.file file ≡ Less = before-file file t before in
    ap (λ b. is_private t && b)
    (apart t.file file v (up-of-less t.file file less) up
    (sym (is_eq-slice_cmp t.file file) ∙ ap is_eq less))
    ∙ never (is_private t)

has-still : (file v : List ℕ) (ts : List Tag) → IsUpTo file v
    → has_private v (from_place file 0 ts) ≡ has_private v ts
has-still file v ts up = passed-none (is_private_in v) file 0 (passed file v up) ts

-- ---- what is known of the file of a use

here-known : (all ts : List Tag) (last : List ℕ) (hidden : Bool) (file : List ℕ)
    → hidden ≡ has_private last all → AreByFile ts
    → has_private file ts ≡ has_private file all
    → is_hidden last hidden file ts ≡ has_private file all
here-known all ts last hidden file is order know =
    (elim (bytes_eq last file) as (λ b. bytes_eq last file ≡ b
    → (if b then hidden else begins_private file (from_place file 0 ts))
    ≡ has_private file all) [
      | true ↦ λ e. is ∙ ap (λ n. has_private n all) (same-name last file e)
      | false ↦ λ e.
          begins file (from_place file 0 ts) (from-up file ts order)
          (from-ordered (λ (s t : Tag). IsUpTo s.file t.file) file 0 ts order)
          ∙ has-still file file ts (up-to-itself file file refl) ∙ know
    ]) refl

still-ordered : (last file : List ℕ) (ts : List Tag) → AreByFile ts
    → AreByFile (from_file last file ts)
still-ordered last file ts order =
    elim (bytes_eq last file) as (λ b. AreByFile (if b then ts else from_place file 0 ts)) [
      | true ↦ order
      | false ↦ from-ordered (λ (s t : Tag). IsUpTo s.file t.file) file 0 ts order
    ]

still-known : (all ts : List Tag) (last file v : List ℕ) → IsUpTo file v
    → has_private v ts ≡ has_private v all
    → has_private v (from_file last file ts) ≡ has_private v all
still-known all ts last file v up know =
    elim (bytes_eq last file) as
    (λ b. has_private v (if b then ts else from_place file 0 ts) ≡ has_private v all) [
      | true ↦ know
      | false ↦ has-still file v ts up ∙ know
    ]

-- ---- all uses

abbrev AreKnown : (all ts : List Tag) → List Fact → Type 0
AreKnown all ts us =
    AllByRecursion (λ (u : Fact). has_private u.file ts ≡ has_private u.file all) us

shared-known : (all ts : List Tag) (last : List ℕ) (hidden : Bool) (us : List Fact)
    → hidden ≡ has_private last all → AreByFile ts → AreUsesByFile us → AreKnown all ts us
    → shared_uses last hidden ts us ≡ filter (λ (u : Fact). not (has_private u.file all)) us
unfolding shared_uses AreOrdered
shared-known all ts last hidden [] is order uses know = refl
shared-known all ts last hidden (u ∷ us) is order uses know =
    let here : is_hidden last hidden u.file ts ≡ has_private u.file all =
    here-known all ts last hidden u.file is order know.0 in
    let rest : shared_uses u.file (is_hidden last hidden u.file ts) (from_file last u.file ts) us
    ≡ filter (λ (v : Fact). not (has_private v.file all)) us =
    shared-known all (from_file last u.file ts) u.file (is_hidden last hidden u.file ts) us here
    (still-ordered last u.file ts order) uses.1
    (all-both (λ (v : Fact). IsUpTo u.file v.file)
    (λ (v : Fact). has_private v.file ts ≡ has_private v.file all)
    (λ (v : Fact). has_private v.file (from_file last u.file ts) ≡ has_private v.file all) us
    (λ v. still-known all ts last u.file v.file) uses.0 know.1) in
    (λ i. if here i then rest i else u ∷ rest i)
    ∙ kept u (has_private u.file all)
    (filter (λ (v : Fact). not (has_private v.file all)) us)

all-known : (ts : List Tag) (us : List Fact) → AreKnown ts ts us
all-known ts [] = tt
all-known ts (u ∷ us) = (refl, all-known ts us)

-- uses in the reach, where it is known whether the file that asks has a private definition
pub reached-is : (ts : List Tag) (from : List ℕ) (us : List Fact) (own : Bool)
    → own ≡ has_private from ts → AreByPlace ts → UsesAreByPlace us
    → (if own then filter (λ (u : Fact). bytes_eq u.file from) us
    else shared_uses from own ts us) ≡ uses_reached ts from us
reached-is ts from us own is order uses =
    (elim own as (λ b. b ≡ has_private from ts
    → (if b then filter (λ (u : Fact). bytes_eq u.file from) us
    else shared_uses from b ts us) ≡ uses_reached ts from us) [
      | true ↦ λ e. ap (λ b. filter (λ (u : Fact).
          if b then bytes_eq u.file from else not (has_private u.file ts)) us) e
      | false ↦ λ e.
          shared-known ts ts from false us e (by-file ts order) (uses-by-file us uses)
          (all-known ts us)
          ∙ ap (λ b. filter (λ (u : Fact).
          if b then bytes_eq u.file from else not (has_private u.file ts)) us) e
    ]) is

-- where no use is left
pub reached-end : (own : Bool) (from last : List ℕ) (hidden : Bool) (ts : List Tag)
    (us : List Fact) → us ≡ []
    → (if own then filter (λ (u : Fact). bytes_eq u.file from) us
    else shared_uses last hidden ts us) ≡ []
unfolding shared_uses
reached-end true from last hidden ts us e = ap (filter (λ (u : Fact). bytes_eq u.file from)) e
reached-end false from last hidden ts us e = ap (shared_uses last hidden ts) e
