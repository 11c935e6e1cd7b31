-- The uses of a name in a file end before the next ones begin. The type of tokens is private to
-- `cb_scan`: a `_` stands for it.
use Rattle.std.proofs.Common.{◌≡◌, ◌∙◌, ◌≤◌, ◌<◌, ◌+◌, ◌-◌, ℕ, Bool, true, false, List, [], ◌∷◌}
use Rattle.std.proofs.Common.{Option, filter, map, length, drop, ap, sym, refl, arith, cond}
use Rattle.std.proofs.Common.{Less}
use Rattle.std.proofs.lemmas.Bool.{true≢false}
use Rattle.std.proofs.lemmas.List.{length-take}
use Rattle.std.proofs.lemmas.Map.Text.{is_eq-slice_cmp}
use Rattle.std.specs.Cmp.Lexicographic.{slice_cmp}
use Rattle.std.specs.List.{AllByRecursion, flat_map}
use Rattle.std.specs.List.Sorted.{IsStrictlySortedBy}
use Rattle.std.specs.Ordering.{is_eq, nat_cmp}
use Rattle.std.specs.Str.{bytes_eq}
use Rattle.cb_desk.proofs.PlaceLemmas.{name-same}
use Rattle.cb_desk.specs.World.{File, IsAscending}
use Rattle.cb_index.proofs.IndexLemmas.{ordered-append}
use Rattle.cb_index.specs.Rows.{Fact, file_uses_of, use_in, uses_of}
use Rattle.cb_scan.proofs.FunctionsRise.{all_implied}
use Rattle.cb_scan.proofs.Rising.{From, Rising, used_rise}
use Rattle.cb_scan.proofs.WithinLemmas.{all-append}
use Rattle.cb_scan.specs.Order.{AreOrdered}
use Rattle.cb_scan.specs.Profiles.{facts_in, functions_by, kept}
use Rattle.cb_scan.specs.declared.facts.Use.{Use}
use Rattle.cb_scan.specs.declared.lex.piece.Span.{Span}
use Rattle.cb_scan.specs.declared.profile.Profile.{Profile}
use Rattle.cb_scan.specs.lex.Tokens.{bytes_of}
use Rattle.cb_scan.specs.rules.Code.{logical_lines}
use Rattle.cb_scan.specs.rules.Scope.{scope_among}
use Rattle.cb_scan.specs.rules.Uses.{use_of, used}
use Rattle.cb_scan.specs.steps.Cut.{pieces}

-- a use ends before another one begins
abbrev EndsBefore : Use → Use → Type 0
EndsBefore u v = (u.name.start < u.name.end) × (u.name.end ≤ v.name.start)

-- the same of uses in one file
abbrev pub AreApart : Fact → Fact → Type 0
AreApart u v = u.file ≡ v.file → u.place + length u.name ≤ v.place

-- ---- in a text

module _ (scope : ℕ → Option Span) where
  ends-before : (t : _) (ts : List _) → (use_of scope t).name.start < (use_of scope t).name.end
      → AllByRecursion (From (use_of scope t).name.end) ts
      → AllByRecursion (EndsBefore (use_of scope t)) (map (use_of scope) ts)
  ends-before t [] some from = tt
  ends-before t (u ∷ us) some from = ((some, from.0), ends-before t us some from.1)

  ordered-uses : (ts : List _) → Rising ts → AreOrdered EndsBefore (map (use_of scope) ts)
  unfolding AreOrdered
  ordered-uses [] rises = tt
  ordered-uses (t ∷ ts) rises = (ends-before t ts rises.0 rises.1, ordered-uses ts rises.2)

ordered-kept : (b : Bool) (us : List Use) → AreOrdered EndsBefore us
    → AreOrdered EndsBefore (kept b us)
unfolding AreOrdered
ordered-kept true us order = order
ordered-kept false us order = tt

text-uses : (p : Profile) (text : List ℕ) → AreOrdered EndsBefore (facts_in p text).uses
text-uses p text =
    ordered-kept p.wanted.uses _
    (ordered-uses (scope_among text (pieces text) (functions_by p.rules text (pieces text)))
    (flat_map used (logical_lines text (pieces text))) (used_rise text))

-- ---- in a file

module _ (f : File) (key : List ℕ) where
  test : Use → Bool
  test u = bytes_eq key (bytes_of f.bytes u.name)

  apart : (u v : Use) → EndsBefore u v → AreApart (use_in f u) (use_in f v)
  apart u v before same =
      omega (
        arith,
        before.0,
        before.1,
        length-take (u.name.end - u.name.start) (drop u.name.start f.bytes),
      )

  made-before : (u : Use) (vs : List Use) → AllByRecursion (EndsBefore u) vs
      → AllByRecursion (AreApart (use_in f u)) (map (use_in f) (filter test vs))
  made-before u [] all = tt
  made-before u (v ∷ vs) all =
      elim (test v) as (λ b. AllByRecursion (AreApart (use_in f u))
      (map (use_in f) (cond b (v ∷ filter test vs) (filter test vs)))) [
        | true ↦ (apart u v all.0, made-before u vs all.1)
        | false ↦ made-before u vs all.1
      ]

  made-apart : (us : List Use) → AreOrdered EndsBefore us
      → AreOrdered AreApart (map (use_in f) (filter test us))
  unfolding AreOrdered
  made-apart [] order = tt
  made-apart (u ∷ us) order =
      elim (test u) as (λ b. AreOrdered AreApart
      (map (use_in f) (cond b (u ∷ filter test us) (filter test us)))) [
        | true ↦ (made-before u us order.0, made-apart us order.1)
        | false ↦ made-apart us order.1
      ]

  file-apart : (p : Profile) → AreOrdered AreApart (file_uses_of p key f)
  unfolding test
  file-apart p = made-apart (facts_in p f.bytes).uses (text-uses p f.bytes)

  made-own : (us : List Use) → AllByRecursion (λ (g : Fact). g.file ≡ f.name) (map (use_in f) us)
  made-own [] = tt
  made-own (u ∷ us) = (refl, made-own us)

  file-own : (p : Profile)
      → AllByRecursion (λ (g : Fact). g.file ≡ f.name) (file_uses_of p key f)
  file-own p = made-own _

-- ---- in all files

other-file : (x y : List ℕ) → slice_cmp nat_cmp x y ≡ Less → x ≡ y → ⊥
other-file x y less same =
    true≢false (sym (name-same x) ∙ ap (bytes_eq x) same ∙ sym (is_eq-slice_cmp x y)
    ∙ ap is_eq less)

module _ (p : Profile) (key : List ℕ) where
  later-files : (u : Fact) (f : File) → u.file ≡ f.name → (fs : List File)
      → AllByRecursion (λ (g : File). slice_cmp nat_cmp f.name g.name ≡ Less) fs
      → AllByRecursion (AreApart u) (flat_map (file_uses_of p key) fs)
  later-files u f here [] up = tt
  later-files u f here (g ∷ gs) up =
      all-append (AreApart u) (file_uses_of p key g) (flat_map (file_uses_of p key) gs)
      (all_implied (λ (v : Fact). v.file ≡ g.name) (AreApart u)
      (λ v there same. absurd (other-file f.name g.name up.0 (sym here ∙ same ∙ there)))
      (file_uses_of p key g) (file-own g key p))
      (later-files u f here gs up.1)

  pub uses-apart : (fs : List File) → IsAscending fs → AreOrdered AreApart (uses_of p key fs)
  unfolding AreOrdered IsStrictlySortedBy uses_of
  uses-apart [] up = tt
  uses-apart (f ∷ fs) up =
      ordered-append AreApart (file_uses_of p key f) (flat_map (file_uses_of p key) fs)
      (file-apart f key p) (uses-apart fs up.1)
      (all_implied (λ (u : Fact). u.file ≡ f.name)
      (λ u. AllByRecursion (AreApart u) (flat_map (file_uses_of p key) fs))
      (λ u here. later-files u f here fs up.0) (file_uses_of p key f) (file-own f key p))
