-- The one form of a path.
use Rattle.std.proofs.Common.{◌≡◌, ◌∙◌, ◌==◌, ◌&&◌, ◌++◌, ℕ, Bool, true, false, cond, List, []}
use Rattle.std.proofs.Common.{◌∷◌, refl, sym, ap, subst, ⊎_elim, append-nil, arith, suc}
use Rattle.std.proofs.Common.{drop, length, take, ◌+◌}
use Rattle.std.specs.Prelude.{filter}
use Rattle.std.specs.Prelude.{All}
use Rattle.std.specs.List.{flat_map, join_with_byte, onto_first}
use Rattle.std.proofs.lemmas.Bool.{cases_Bool, false≢true, cond-true, cond-false, eqb-true}
use Rattle.std.proofs.lemmas.Grind.{flat_map-append}
use Rattle.std.proofs.lemmas.List.Elements.{All-head, All-tail}
use Rattle.std.proofs.lemmas.List.Sums.{AllPass-from_list_all}
use Rattle.std.proofs.lemmas.List.Splits.{join_with_byte-slice_split}
use Rattle.cb_wire.specs.Uris.{has_one_form, leads_on, one_form, segments, slash}
use Rattle.cb_wire.specs.steps.Segments.{segment_size, step_of}

-- ---- tests

pub both : (a b : Bool) → (a && b) ≡ true → (a ≡ true) × (b ≡ true)
both true b all = (refl, all)
both false b all = absurd (false≢true all)

-- ---- segments

abbrev is_slash : ℕ → Bool
is_slash b = b == slash

first-again : (x : ℕ) (parts others : List (List ℕ)) → (part : List ℕ)
    → onto_first x ((part ∷ parts) ++ others) ≡ onto_first x (part ∷ parts) ++ others
first-again x parts others part = refl

-- a text has a first segment
record HasFirst (text : List ℕ) : Type 0 where
  first : List ℕ
  others : List (List ℕ)
  is : segments text ≡ first ∷ others

has-first : (text : List ℕ) → HasFirst text
has-first [] = record { first = []; others = []; is = refl }
has-first (b ∷ bs) = let more = has-first bs in
    ⊎_elim
    (λ t. record { first = []; others = segments bs; is = cond-true _ _ _ t })
    (λ f. record {
      first = b ∷ more.first;
      others = more.others;
      is = cond-false _ _ _ f ∙ ap (onto_first b) more.is;
    })
    (cases_Bool (is_slash b))

segments-slash : (a b : List ℕ) → segments (a ++ 47 ∷ b) ≡ segments a ++ segments b
segments-slash [] b = refl
segments-slash (x ∷ xs) b = let first = has-first xs in
    ⊎_elim
    (λ t.
    cond-true _ _ _ t ∙ ap (λ l. [] ∷ l) (segments-slash xs b)
    ∙ ap (λ l. l ++ segments b) (sym (cond-true _ _ _ t)))
    (λ f.
    cond-false _ _ _ f ∙ ap (onto_first x) (segments-slash xs b ∙ ap (λ l. l ++ segments b) first.is)
    ∙ ap (λ l. onto_first x l ++ segments b) (sym first.is)
    ∙ ap (λ l. l ++ segments b) (sym (cond-false _ _ _ f)))
    (cases_Bool (is_slash x))

-- ---- forms

-- the one form, segment by segment
pub form-steps : (ss : List (List ℕ))
    → flat_map step_of ss ≡ flat_map (λ segment. slash ∷ segment) (filter leads_on ss)
form-steps [] = refl
form-steps (s ∷ ss) =
    elim (leads_on s) as (λ b. cond b (slash ∷ s) [] ++ flat_map step_of ss
    ≡ flat_map (λ segment. slash ∷ segment) (cond b (s ∷ filter leads_on ss) (filter leads_on ss))) [
      | true ↦ ap (λ l. (slash ∷ s) ++ l) (form-steps ss)
      | false ↦ form-steps ss
    ]

pub form-slash : (a b : List ℕ) → one_form (a ++ 47 ∷ b) ≡ one_form a ++ one_form b
form-slash a b =
    sym (form-steps (segments (a ++ 47 ∷ b))) ∙ ap (flat_map step_of) (segments-slash a b)
    ∙ flat_map-append step_of (segments a) (segments b)
    ∙ ap (λ l. l ++ flat_map step_of (segments b)) (form-steps (segments a))
    ∙ ap (λ l. one_form a ++ l) (form-steps (segments b))

-- segments that lead on, each after a slash
all-lead : (s : List ℕ) (ss : List (List ℕ)) → All (λ x. leads_on x ≡ true) (s ∷ ss)
    → flat_map step_of (s ∷ ss) ≡ slash ∷ join_with_byte slash (s ∷ ss)
all-lead s [] on = rw (All-head (λ x. leads_on x ≡ true) s [] on) (ap (λ l. slash ∷ l) (append-nil s))
all-lead s (t ∷ ts) on =
    rw (All-head (λ x. leads_on x ≡ true) s (t ∷ ts) on)
    (ap (λ l. slash ∷ (s ++ l)) (all-lead t ts (All-tail (λ x. leads_on x ≡ true) s (t ∷ ts) on)))

pub form-again : (rest : List ℕ) → All (λ x. leads_on x ≡ true) (segments rest)
    → one_form (47 ∷ rest) ≡ 47 ∷ rest
form-again rest on = let first = has-first rest in
    form-slash [] rest ∙ sym (form-steps (segments rest)) ∙ ap (flat_map step_of) first.is
    ∙ all-lead first.first first.others (subst (All (λ x. leads_on x ≡ true)) first.is on)
    ∙ ap (λ l. 47 ∷ join_with_byte slash l) (sym first.is)
    ∙ ap (λ l. 47 ∷ l) (join_with_byte-slice_split slash rest)

-- the first segment, and what the others add
record FirstSegment (path : List ℕ) : Type 0 where
  others : List (List ℕ)
  is : segments path ≡ take (segment_size path) path ∷ others
  rest : flat_map step_of others ≡ flat_map step_of (segments (drop (segment_size path + 1) path))

first-segment : (path : List ℕ) → FirstSegment path
first-segment [] = record { others = []; is = refl; rest = refl }
first-segment (b ∷ bs) = let more = first-segment bs in
    (elim (is_slash b) as (λ t. is_slash b ≡ t → FirstSegment (b ∷ bs)) [
      | true ↦ λ h. record { others = segments bs; is = rw h refl; rest = rw h refl }
      | false ↦ λ h.
          let n = segment_size bs in
          let size : segment_size (b ∷ bs) ≡ suc n = rw h (omega arith) in
          let next : segment_size (b ∷ bs) + 1 ≡ suc (n + 1) = omega (arith, size) in
          record {
            others = more.others;
            is = cond-false _ _ _ h ∙ ap (onto_first b) more.is
                ∙ ap (λ k. take k (b ∷ bs) ∷ more.others) (sym size);
            rest = more.rest
                ∙ ap (λ k. flat_map step_of (segments (drop k (b ∷ bs)))) (sym next);
          }
    ]) refl

pub form-step : (path : List ℕ)
    → one_form path ≡ step_of (take (segment_size path) path)
    ++ one_form (drop (segment_size path + 1) path)
form-step path = let first = first-segment path in
    sym (form-steps (segments path)) ∙ ap (flat_map step_of) first.is
    ∙ ap (λ l. step_of (take (segment_size path) path) ++ l)
    (first.rest ∙ form-steps (segments (drop (segment_size path + 1) path)))

pub form-nil : (path : List ℕ) → length path ≡ 0 → one_form path ≡ []
form-nil [] p = refl
form-nil (b ∷ bs) p = absurd (omega arith)

pub form-seen : (path : List ℕ) → has_one_form path ≡ true → one_form path ≡ path
form-seen [] is = cc
form-seen (b ∷ rest) is =
    let same : 47 ∷ rest ≡ b ∷ rest = ap (λ c. c ∷ rest) (sym (eqb-true b 47 (both (b == slash) _ is).0)) in
    subst (λ path. one_form path ≡ path) same
    (form-again rest (AllPass-from_list_all leads_on (segments rest) (both (b == slash) _ is).1))
