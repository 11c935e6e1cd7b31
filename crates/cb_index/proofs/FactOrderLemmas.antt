-- Uses and calls come by file name and place.
use Rattle.std.proofs.Common.{◌≡◌, ◌∙◌, ◌≤◌, ℕ, Bool, true, false, List, [], ◌∷◌, refl, map, filter}
use Rattle.std.proofs.Common.{inl, inr}
use Rattle.std.specs.Prelude.{cond}
use Rattle.std.specs.Cmp.Lexicographic.{slice_cmp}
use Rattle.std.specs.List.{AllByRecursion, flat_map}
use Rattle.std.specs.List.Sorted.{IsStrictlySortedBy}
use Rattle.std.specs.Ordering.{nat_cmp}
use Rattle.std.specs.Str.{bytes_eq}
use Rattle.std.specs.declared.cmp.Ordering.TheVariants.{Less}
use Rattle.cb_scan.specs.Order.{AreOrdered}
use Rattle.cb_scan.specs.Profiles.{facts_in}
use Rattle.cb_scan.specs.declared.facts.Call.{Call}
use Rattle.cb_scan.specs.declared.facts.Use.{Use}
use Rattle.cb_scan.specs.declared.profile.Profile.{Profile}
use Rattle.cb_scan.specs.lex.Tokens.{bytes_of}
use Rattle.cb_scan.proofs.FunctionsRise.{all_implied}
use Rattle.cb_scan.proofs.InOrder.{facts_in_order}
use Rattle.cb_scan.proofs.WithinLemmas.{all-append}
use Rattle.cb_index.specs.FactOrder.{ComesBefore, NamesAscend}
use Rattle.cb_index.specs.Files.{File}
use Rattle.cb_index.specs.Rows.{Fact, call_in, calls_in, calls_of, facts_named, file_uses_of}
use Rattle.cb_index.specs.Rows.{use_in, uses_of}
use Rattle.cb_index.specs.declared.entry.FactKind.{FactKind}
use Rattle.cb_index.specs.declared.entry.FactKind.TheVariants.{Uses, Callees, Callers}
use Rattle.cb_index.proofs.IndexLemmas.{ordered-append}

-- what is made of the elements that pass a test is ordered as they are
module _ {X : Type 0} (R : X → X → Type 0) (make : X → Fact)
    (before : (x y : X) → R x y → ComesBefore (make x) (make y)) (test : X → Bool) where
  made_before : (x : X) (ys : List X) → AllByRecursion (R x) ys
      → AllByRecursion (ComesBefore (make x)) (map make (filter test ys))
  made_before x [] all = tt
  made_before x (y ∷ ys) all =
      elim (test y) as (λ b. AllByRecursion (ComesBefore (make x))
      (map make (cond b (y ∷ filter test ys) (filter test ys)))) [
        | true ↦ (before x y all.0, made_before x ys all.1)
        | false ↦ made_before x ys all.1
      ]

  made_ordered : (xs : List X) → AreOrdered R xs
      → AreOrdered ComesBefore (map make (filter test xs))
  unfolding AreOrdered
  made_ordered [] o = tt
  made_ordered (x ∷ xs) o =
      elim (test x) as (λ b. AreOrdered ComesBefore
      (map make (cond b (x ∷ filter test xs) (filter test xs)))) [
        | true ↦ (made_before x xs o.0, made_ordered xs o.1)
        | false ↦ made_ordered xs o.1
      ]

-- whatever is made is in a file
module _ {X : Type 0} (make : X → Fact) (name : List ℕ) (own : (x : X) → (make x).file ≡ name) where
  made_own : (xs : List X) → AllByRecursion (λ (g : Fact). g.file ≡ name) (map make xs)
  made_own [] = tt
  made_own (x ∷ xs) = (own x, made_own xs)

-- the facts of files are in order where those of each are
module _ (facts : File → List Fact)
    (own : (f : File) → AllByRecursion (λ (g : Fact). g.file ≡ f.name) (facts f))
    (ordered : (f : File) → AreOrdered ComesBefore (facts f)) where
  later_facts : (g : Fact) (f : File) → g.file ≡ f.name → (fs : List File)
      → AllByRecursion (λ (h : File). slice_cmp nat_cmp f.name h.name ≡ Less) fs
      → AllByRecursion (ComesBefore g) (flat_map facts fs)
  later_facts g f of [] up = tt
  later_facts g f of (h ∷ fs) up =
      all-append (ComesBefore g) (facts h) (flat_map facts fs)
      (all_implied (λ (k : Fact). k.file ≡ h.name) (ComesBefore g)
      (λ k here. inl ((λ i. slice_cmp nat_cmp (of i) (here i)) ∙ up.0)) (facts h) (own h))
      (later_facts g f of fs up.1)

  files_ordered : (fs : List File) → NamesAscend fs → AreOrdered ComesBefore (flat_map facts fs)
  unfolding AreOrdered IsStrictlySortedBy
  files_ordered [] up = tt
  files_ordered (f ∷ fs) up =
      ordered-append ComesBefore (facts f) (flat_map facts fs) (ordered f)
      (files_ordered fs up.1)
      (all_implied (λ (g : Fact). g.file ≡ f.name)
      (λ g. AllByRecursion (ComesBefore g) (flat_map facts fs))
      (λ g of. later_facts g f of fs up.0) (facts f) (own f))

-- the calls whose called name, or whose caller, passes a test
module _ (p : Profile) (test : File → Call → Bool) where
  calls_ordered : (fs : List File) → NamesAscend fs → AreOrdered ComesBefore
      (flat_map (λ (f : File). map (call_in f) (filter (test f) (facts_in p f.bytes).calls)) fs)
  calls_ordered =
      files_ordered
      (λ (f : File). map (call_in f) (filter (test f) (facts_in p f.bytes).calls))
      (λ f. made_own (call_in f) f.name (λ c. refl) (filter (test f) (facts_in p f.bytes).calls))
      (λ f. made_ordered (λ (c d : Call). c.callee.start ≤ d.callee.start) (call_in f)
      (λ c d le. inr (refl, le)) (test f) (facts_in p f.bytes).calls
      (facts_in_order p f.bytes).calls)

pub by_place : (p : Profile) (kind : FactKind) (key : List ℕ) (fs : List File) → NamesAscend fs
    → AreOrdered ComesBefore (facts_named p kind key fs)
unfolding uses_of calls_of calls_in
by_place p Uses key fs up =
    files_ordered (file_uses_of p key)
    (λ f. made_own (use_in f) f.name (λ u. refl)
    (filter (λ (u : Use). bytes_eq key (bytes_of f.bytes u.name)) (facts_in p f.bytes).uses))
    (λ f. made_ordered (λ (u v : Use). u.name.start ≤ v.name.start) (use_in f)
    (λ u v le. inr (refl, le)) (λ (u : Use). bytes_eq key (bytes_of f.bytes u.name))
    (facts_in p f.bytes).uses (facts_in_order p f.bytes).uses)
    fs up
by_place p Callees key fs up =
    calls_ordered p (λ (f : File) (c : Call). bytes_eq key (bytes_of f.bytes c.callee)) fs up
by_place p Callers key fs up =
    calls_ordered p (λ (f : File) (c : Call). bytes_eq key (bytes_of f.bytes c.caller)) fs up
