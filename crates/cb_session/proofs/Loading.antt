-- Loads one after another.
use Rattle.std.proofs.Common.{◌≡◌, ◌≤◌, ◌+◌, ◌-◌, ◌^◌, ℕ, Bool, true, false, List, [], ◌∷◌, length}
use Rattle.std.proofs.Common.{Result, Ok, Err, IsOk, refl, ap, ◌∙◌, arith, sym, subst}
use Rattle.cb_desk.specs.declared.change.Refusal.{Refusal}
use Rattle.cb_desk.specs.declared.change.Refusal.TheVariants.{OutOfMemory}
use Rattle.cb_desk.specs.World.{File, WorldBounds}
use Rattle.cb_desk.specs.Step.{load, step}
use Rattle.cb_desk.specs.Timeline.{Timeline, Changes, judged, changed, new_timeline}
use Rattle.cb_desk.specs.Desk.{Counts, DeskState, bytes_in, counted}
use Rattle.cb_desk.proofs.Counted.{counted_bound, counted_none, counted_twice}
use Rattle.cb_session.specs.Operands.{RefusedOperand, Loads, LoadsAll, all_loaded, first_loaded}
use Rattle.cb_session.specs.Operands.{first_refused, memory_refused}
use Rattle.cb_session.specs.States.{State, state_of}
use Rattle.cb_desk.proofs.Moves.{advanced-Ok}
use Rattle.cb_scan.specs.declared.profile.Profile.{Profile}

-- a load that was made is as it was meant
accepted : (t u : Timeline) (name bytes : List ℕ) (x : Unit {0})
    → Changes (load name bytes) t u (Ok x) → changed t (load name bytes) ≡ Ok u
accepted t u name bytes x p =
    let P : Bool → Result Timeline Refusal → Type 0 = λ out_of_memory meant.
    judged out_of_memory (load name bytes) meant ≡ Ok u → meant ≡ Ok u in
    let none : (meant : Result Timeline Refusal) → P true meant = λ meant.
    elim meant as (λ m. P true m) [ Ok v ↦ λ e. cc | Err r ↦ λ e. e ] in
    (elim p.0 as (λ b. P b (changed t (load name bytes)))
    [ true ↦ none (changed t (load name bytes)) | false ↦ λ e. e ]) p.1

-- an accepted change joins the past
grown_by : (t u : Timeline) (name bytes : List ℕ) → changed t (load name bytes) ≡ Ok u
    → length u.past ≡ length t.past + 1
unfolding changed
grown_by t u name bytes made =
    let found = advanced-Ok t u (step t.present (load name bytes)) made in
    let grown : length u.past ≡ length (t.present ∷ t.past) = ap (λ v. length v.past) found.2.is in
    omega (arith, grown)

pub past_grows : (place : ℕ) (t u : Timeline) (name bytes : List ℕ) (x : Unit {0})
    → place ≡ length t.past → Changes (load name bytes) t u (Ok x) → place + 1 ≡ length u.past
past_grows place t u name bytes x is h =
    let grown = grown_by t u name bytes (accepted t u name bytes x h) in
    omega (arith, grown, is)

-- a load that is refused ends the loads
refused : (place : ℕ) (t u : Timeline) (f : File) (fs : List File) (r : Refusal)
    → Changes (load f.name f.bytes) t u (Err r)
    → Loads place t (f ∷ fs) (Err (record { place = place; why = r }))
refused place t u f fs r p =
    let meant = changed t (load f.name f.bytes) in
    let Q : Type 0 = Loads place t (f ∷ fs) (Err (record { place = place; why = r })) in
    let P : Bool → Result Timeline Refusal → Type 0 = λ out_of_memory m.
    meant ≡ m → judged out_of_memory (load f.name f.bytes) m ≡ Err r → Q in
    let none : (m : Result Timeline Refusal) → P true m = λ m. elim m as (λ n. P true n) [
      | Ok v ↦ λ is e.
          let why : OutOfMemory ≡ r = cc in
          subst (λ w. Loads place t (f ∷ fs) (Err (record { place = place; why = w }))) why
          (memory_refused (subst IsOk (sym is) refl))
      | Err q ↦ λ is e. first_refused (is ∙ e)
    ] in
    let found : (b : Bool) → P b meant = λ b.
    elim b as (λ c. P c meant) [ true ↦ none meant | false ↦ λ is e. first_refused e ] in
    found p.0 refl p.1.0

-- loads that go on from a place, with those that were done
abbrev pub Goes : ℕ → Timeline → Timeline → List File → List File → Type 0
Goes place start t all left =
    (end : Result Timeline RefusedOperand) → Loads place t left end → Loads 0 start all end

module _ (place : ℕ) (start t u : Timeline) (all left rest : List File) (f : File)
    (name : List ℕ) where
  pub goes_on : (x : Unit {0}) → Goes place start t all left → left ≡ f ∷ rest → name ≡ f.name
      → Changes (load name f.bytes) t u (Ok x) → Goes (place + 1) start u all rest
  goes_on x goes first named done end more =
      let made : changed t (load f.name f.bytes) ≡ Ok u =
      subst (λ n. changed t (load n f.bytes) ≡ Ok u) named (accepted t u name f.bytes x done) in
      goes end (subst (λ fs. Loads place t fs end) (sym first) (first_loaded made more))

  pub stops : (r : Refusal) → Goes place start t all left → left ≡ f ∷ rest → name ≡ f.name
      → Changes (load name f.bytes) t u (Err r)
      → Loads 0 start all (Err (record { place = place; why = r }))
  stops r goes first named done =
      let changes : Changes (load f.name f.bytes) t u (Err r) =
      subst (λ n. Changes (load n f.bytes) t u (Err r)) named done in
      goes (Err (record { place = place; why = r }))
      (subst (λ fs. Loads place t fs (Err (record { place = place; why = r }))) (sym first)
      (refused place t u f rest r changes))

ends : (place : ℕ) (start t : Timeline) (all left : List File) → Goes place start t all left
    → length left ≡ 0 → Loads 0 start all (Ok t)
ends place start t all [] goes none = goes (Ok t) all_loaded
ends place start t all (f ∷ fs) goes none = absurd (omega (arith, none))

-- each load joins the past
pub past_of_all : (place : ℕ) (t u : Timeline) (fs : List File)
    (end : Result Timeline RefusedOperand) → end ≡ Ok u → Loads place t fs end
    → length u.past ≡ length t.past + length fs
past_of_all place t u [] end is all_loaded =
    let same : t ≡ u = cc in
    let long = ap (λ (v : Timeline). length v.past) same in
    omega (arith, long)
past_of_all place t u (f ∷ fs) end is (first_loaded {u = v} made rest) =
    let grown = grown_by t v f.name f.bytes made in
    let later = past_of_all (place + 1) v u fs end is rest in
    omega (arith, grown, later)
past_of_all place t u (f ∷ fs) end is (first_refused why) = cc
past_of_all place t u (f ∷ fs) end is (memory_refused would) = cc

-- ---- what the loads scan

-- a load that was made has scanned its text
pub scans_next : (m n : ℕ) (all left : List File) (f : File) (rest : List File) (x : Unit {0})
    → left ≡ f ∷ rest
    → counted m (bytes_in left) ≡ counted 0 (bytes_in all)
    → Counts {A = Unit {0}} (length f.bytes) m n (Ok x)
    → counted n (bytes_in rest) ≡ counted 0 (bytes_in all)
scans_next m n all left f rest x first so_far is =
    ap (λ k. counted k (bytes_in rest)) is ∙ counted_twice m (length f.bytes) (bytes_in rest)
    ∙ ap (λ fs. counted m (bytes_in fs)) (sym first) ∙ so_far

pub scans_bound : (m n : ℕ) (f : File) (x : Unit {0})
    → Counts {A = Unit {0}} (length f.bytes) m n (Ok x) → n ≤ 2 ^ 64 - 1
scans_bound m n f x is = subst (λ k. k ≤ 2 ^ 64 - 1) (sym is) (counted_bound m (length f.bytes))

-- ---- how often a file is shown

-- a load that was made has shown its file
pub shows_next : (place m n : ℕ) → m ≡ counted 0 place → n ≡ counted m 1
    → n ≡ counted 0 (place + 1)
shows_next place m n so_far one = one ∙ ap (λ k. counted k 1) so_far ∙ counted_twice 0 place 1

-- ---- all loads are made
no_files : (fs : List File) → length fs ≡ 0 → fs ≡ []
no_files [] none = refl
no_files (f ∷ fs) none = absurd (omega (arith, none))

pub all_loaded_start : (p : Profile) (b : WorldBounds) (d : DeskState) (s : State) (place : ℕ)
    (all left : List File) → s ≡ state_of d
    → Goes place (new_timeline p b) d.timeline all left → length left ≡ 0
    → place ≡ length d.timeline.past
    → counted d.meter (bytes_in left) ≡ counted 0 (bytes_in all)
    → d.meter ≤ 2 ^ 64 - 1 → d.turns ≡ counted 0 place → LoadsAll p b all (Ok s)
all_loaded_start p b d s place all left is goes none placed scanned fits shown =
    let loads : Loads 0 (new_timeline p b) all (Ok d.timeline) =
    ends place (new_timeline p b) d.timeline all left goes none in
    let many : length d.timeline.past ≡ 0 + length all =
    past_of_all 0 (new_timeline p b) d.timeline all (Ok d.timeline) refl loads in
    let count : place ≡ length all = omega (arith, many, placed) in
    subst (λ t. LoadsAll p b all (Ok t)) (sym is) (
      loads,
      sym (counted_none d.meter fits)
          ∙ ap (λ fs. counted d.meter (bytes_in fs)) (sym (no_files left none)) ∙ scanned,
      shown ∙ ap (counted 0) count,
    )
