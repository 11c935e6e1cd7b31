-- Counts up to the greatest number.
use Rattle.std.proofs.Common.{◌≡◌, ◌∙◌, ◌≤◌, ◌+◌, ◌-◌, ◌^◌, ℕ, List, ◌∷◌, length, refl, sym, ap}
use Rattle.std.proofs.Common.{subst, arith, Ok, Err, ⊎_elim}
use Rattle.std.proofs.Math.Nat.{le-min, min-eq_left, min-eq_right, min-le_left, min-le_right}
use Rattle.std.proofs.lemmas.Bool.{cases_Bool, true≢false}
use Rattle.std.proofs.lemmas.Bool.Decides.{nat_tests}
use Rattle.std.specs.Prelude.{min, nat_le, IsErr, Result}
use Rattle.cb_desk.specs.declared.change.Refusal.{Refusal}
use Rattle.cb_desk.specs.declared.change.Refusal.TheVariants.{UnknownCommand, LineTooLong}
use Rattle.cb_desk.specs.declared.change.Refusal.TheVariants.{BadCount, InputEnded, BadName}
use Rattle.cb_desk.specs.declared.change.Refusal.TheVariants.{NoSuchFile, FileExists, BadText}
use Rattle.cb_desk.specs.declared.change.Refusal.TheVariants.{TooLarge, TooManyFiles, NoPattern}
use Rattle.cb_desk.specs.declared.change.Refusal.TheVariants.{NoSuchDefinition, NoSuchLine}
use Rattle.cb_desk.specs.declared.change.Refusal.TheVariants.{NothingWanted, NothingMarked}
use Rattle.cb_desk.specs.declared.change.Refusal.TheVariants.{StackEmpty, NothingToUndo}
use Rattle.cb_desk.specs.declared.change.Refusal.TheVariants.{NothingToRedo, HistoryFull}
use Rattle.cb_desk.specs.declared.change.Refusal.TheVariants.{OutOfMemory, NoSuchField}
use Rattle.cb_scan.specs.declared.profile.Profile.{Profile}
use Rattle.cb_scan.specs.Profiles.{facts_in}
use Rattle.cb_desk.specs.Desk.{Counts, CountsUpTo, IsBetween, bytes_in, counted, definitions_in}
use Rattle.cb_desk.specs.World.{File}

module _ (limit : ℕ) where
  capped_twice : (m a b : ℕ) → min (min (m + a) limit + b) limit ≡ min (m + (a + b)) limit
  capped_twice m a b =
      ⊎_elim (λ is. below (grind (arith, nat_tests, is)))
      (λ isnt. above (grind (arith, nat_tests, isnt))) (cases_Bool (nat_le (m + a) limit))
    where
      below : m + a ≤ limit → min (min (m + a) limit + b) limit ≡ min (m + (a + b)) limit
      below fits =
          let e : m + a + b ≡ m + (a + b) = omega arith in
          ap (λ x. min (x + b) limit) (min-eq_left fits) ∙ ap (λ x. min x limit) e

      above : limit ≤ m + a → min (min (m + a) limit + b) limit ≡ min (m + (a + b)) limit
      above over =
          let more : limit ≤ m + (a + b) = omega (arith, over) in
          let past : limit ≤ limit + b = omega arith in
          ap (λ x. min (x + b) limit) (min-eq_right over) ∙ min-eq_right past
          ∙ sym (min-eq_right more)

  capped_none : (m : ℕ) → m ≤ limit → min (m + 0) limit ≡ m
  capped_none m fits =
      let same : m + 0 ≡ m = omega arith in ap (λ n. min n limit) same ∙ min-eq_left fits

  capped_more : (m a b : ℕ) → a ≤ b → min (m + a) limit ≤ min (m + b) limit
  capped_more m a b fewer =
      let first = min-le_left (m + a) limit in
      le-min (omega (arith, first, fewer)) (min-le_right (m + a) limit)

  capped_rises : (m a : ℕ) → m ≤ limit → m ≤ min (m + a) limit
  capped_rises m a fits = le-min (omega arith) fits

pub counted_twice : (m a b : ℕ) → counted (counted m a) b ≡ counted m (a + b)
counted_twice m a b = capped_twice (2 ^ 64 - 1) m a b

pub counted_bound : (m a : ℕ) → counted m a ≤ 2 ^ 64 - 1
counted_bound m a = min-le_right (m + a) (2 ^ 64 - 1)

pub counted_rises : (m a : ℕ) → m ≤ 2 ^ 64 - 1 → m ≤ counted m a
counted_rises m a fits = capped_rises (2 ^ 64 - 1) m a fits

-- a call counted so many bytes, whether memory refused something after that or not
pub counts_any : {A E : Type 0} → (r : Result A E) (more old new : ℕ) → old ≤ 2 ^ 64 - 1
    → new ≡ counted old more → CountsUpTo more old new r
counts_any (Ok x) more old new fits is = is
counts_any (Err e) more old new fits is = record {
  least = subst (λ n. old ≤ n) (sym is) (counted_rises old more fits);
  most = subst (λ n. n ≤ counted old more) (sym is) (omega arith);
}

-- a call that memory refused counted no more than so many bytes
pub counts_between : {A E : Type 0} → (r : Result A E) (more old new : ℕ) → IsErr r
    → IsBetween old more new → CountsUpTo more old new r
counts_between (Ok x) more old new refused between = absurd (true≢false (sym refused))
counts_between (Err e) more old new refused between = between

pub counted_none : (m : ℕ) → m ≤ 2 ^ 64 - 1 → counted m 0 ≡ m
counted_none m fits = capped_none (2 ^ 64 - 1) m fits

counted_more : (m a b : ℕ) → a ≤ b → counted m a ≤ counted m b
counted_more m a b fewer = capped_more (2 ^ 64 - 1) m a b fewer

-- ---- files one after another: one was scanned, and the rest is to come
later : (a b c : ℕ) → a ≤ b → b ≤ c → a ≤ c
later a b c first then = omega (arith, first, then)

module _ (old m all new : ℕ) (f : File) (rest : List File)
    (counts : counted m (bytes_in (f ∷ rest)) ≡ counted old all)
    (is : new ≡ counted m (length f.bytes)) where
  pub counts_next : counted new (bytes_in rest) ≡ counted old all
  counts_next =
      ap (λ n. counted n (bytes_in rest)) is ∙ counted_twice m (length f.bytes) (bytes_in rest)
      ∙ counts

  -- or memory was refused
  pub counts_stop : old ≤ m → m ≤ 2 ^ 64 - 1 → IsBetween old all new
  counts_stop least fits = record {
    least =
        subst (λ n. old ≤ n) (sym is)
        (later old m (counted m (length f.bytes)) least (counted_rises m (length f.bytes) fits));
    most = subst (λ n. n ≤ counted old all) (sym is)
        (subst (λ n. counted m (length f.bytes) ≤ n) counts
        (counted_more m (length f.bytes) (length f.bytes + bytes_in rest) (omega arith)));
  }

  pub counts_least : old ≤ m → m ≤ 2 ^ 64 - 1 → old ≤ new
  counts_least least fits = (counts_stop least fits).least

  pub counts_bound : new ≤ 2 ^ 64 - 1
  counts_bound = subst (λ n. n ≤ 2 ^ 64 - 1) (sym is) (counted_bound m (length f.bytes))

-- the definitions of one were counted, and those of the rest are to come
pub finds_next : (by : Profile) (n then all : ℕ) (f : File) (rest : List File) (some : ℕ)
    → counted n (definitions_in by (f ∷ rest)) ≡ counted 0 all
    → some ≡ length (facts_in by f.bytes).defs → then ≡ counted n some
    → counted then (definitions_in by rest) ≡ counted 0 all
finds_next by n then all f rest some finds is now =
    ap (λ k. counted k (definitions_in by rest)) (now ∙ ap (counted n) is)
    ∙ counted_twice n (length (facts_in by f.bytes).defs) (definitions_in by rest) ∙ finds

pub finds_bound : (n then some : ℕ) → then ≡ counted n some → then ≤ 2 ^ 64 - 1
finds_bound n then some is = subst (λ k. k ≤ 2 ^ 64 - 1) (sym is) (counted_bound n some)

-- ---- calls

-- memory is refused to a call that has counted so many bytes, or no more than these
pub refused_between : (more old new : ℕ) (r : Result (Unit {0}) Refusal) → r ≡ Err OutOfMemory
    → IsBetween old more new → Counts more old new r
refused_between more old new r is between = subst (Counts more old new) (sym is) between

pub refused_after : (more old new : ℕ) (r : Result (Unit {0}) Refusal) → r ≡ Err OutOfMemory
    → old ≤ 2 ^ 64 - 1 → new ≡ counted old more → Counts more old new r
refused_after more old new r is fits counted =
    refused_between more old new r is
    (counts_any {A = Unit {0}} {E = Unit {0}} (Err tt) more old new fits counted)

-- a refused call counts nothing
module _ (m : ℕ) (fits : m ≤ 2 ^ 64 - 1) where
  pub refused_counts : (more : ℕ) (r : Refusal) → Counts {A = Unit {0}} more m m (Err r)
  refused_counts more UnknownCommand = refl
  refused_counts more LineTooLong = refl
  refused_counts more BadCount = refl
  refused_counts more InputEnded = refl
  refused_counts more BadName = refl
  refused_counts more NoSuchFile = refl
  refused_counts more FileExists = refl
  refused_counts more BadText = refl
  refused_counts more TooLarge = refl
  refused_counts more TooManyFiles = refl
  refused_counts more NoPattern = refl
  refused_counts more NoSuchDefinition = refl
  refused_counts more NoSuchLine = refl
  refused_counts more NothingWanted = refl
  refused_counts more NothingMarked = refl
  refused_counts more StackEmpty = refl
  refused_counts more NothingToUndo = refl
  refused_counts more NothingToRedo = refl
  refused_counts more HistoryFull = refl
  refused_counts more OutOfMemory = record { least = omega arith; most = counted_rises m more fits }
  refused_counts more NoSuchField = refl
