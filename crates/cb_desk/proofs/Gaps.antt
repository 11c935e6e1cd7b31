-- The matches of a pattern cut a text into gaps, in one way alone.
use Rattle.std.proofs.Common.{◌≡◌, ◌≢◌, ◌∙◌, sym, ap, refl, subst, ℕ, zero, suc, ◌+◌, ◌-◌, ◌<◌, ◌≤◌}
use Rattle.std.proofs.Common.{List, [], ◌∷◌, ◌++◌, length, take, drop, slice_index, arith, ⊎_elim}
use Rattle.std.proofs.Common.{append_assoc, append-nil, length-append, length-drop, length-take-le}
use Rattle.std.proofs.Common.{take-append-drop, drop-drop, get_or-take, get_or-drop}
use Rattle.std.specs.List.{flat_map}
use Rattle.std.proofs.Math.Seq.{take-add}
use Rattle.std.proofs.lemmas.Bool.{cases_Bool, cases_eq, cond-true, cond-false, false≢true}
use Rattle.std.proofs.lemmas.List.{get_or-append_right, take_at, drop_at}
use Rattle.bstr.specs.Text.{split_at, part}
use Rattle.bstr.proofs.lemmas.MatchListLemmas.{split_at-next, split_at-end}
use Rattle.memchr.specs.Find.{OccursAt, occurs_at, Nowhere, matches_from, matches, match_len}
use Rattle.memchr.proofs.lemmas.MatchLemmas.{OccursAt-part, OccursAt-split, OccursAt-true}
use Rattle.memchr.proofs.lemmas.MatchLemmas.{occurs_at-true, matches_from-skip, matches-none}
use Rattle.memchr.proofs.lemmas.MatchLemmas.{matches-first}
use Rattle.bstr.specs.Owned.{joined}
use Rattle.cb_desk.specs.Replacement.{AreGaps, IsCutInto, gaps_of, HasOneCut}

-- two parts and more
pub joined-next : (b p q : List ℕ) (ps : List (List ℕ))
    → joined b (p ∷ q ∷ ps) ≡ p ++ (b ++ joined b (q ∷ ps))
joined-next b p q ps = ap (λ xs. p ++ xs) (append_assoc b q (flat_map (λ it. b ++ it) ps))

pub joined-one : (b p : List ℕ) → joined b (p ∷ []) ≡ p
joined-one b p = simp append-nil

-- a pattern that is in the end of a text is in the text
pub occurs-later : (t p : List ℕ) (last k : ℕ) → 0 < length p → OccursAt (drop last t) p k
    → OccursAt t p (last + k)
occurs-later t p last k some occurs =
    let fits = occurs.fits in
    let left = length-drop last t in
    record {
      fits = omega arith;
      reads = λ j l. ap (slice_index t) (let e : last + k + j ≡ last + (k + j) = omega arith in e)
          ∙ sym (get_or-drop last t (k + j) 0) ∙ occurs.reads j l;
    }

-- and one in the text is in the end from some place on
pub occurs-sooner : (t p : List ℕ) (last k : ℕ) → OccursAt t p (last + k)
    → OccursAt (drop last t) p k
occurs-sooner t p last k occurs =
    let fits = occurs.fits in
    record {
      fits = omega (arith, length-drop last t);
      reads = λ j l.
          get_or-drop last t (k + j) 0
          ∙ ap (slice_index t) (let e : last + (k + j) ≡ last + k + j = omega arith in e)
          ∙ occurs.reads j l;
    }

-- one that is in the first bytes is in the text
pub occurs-first : (t p : List ℕ) (n k : ℕ) → n ≤ length t → OccursAt (take n t) p k
    → OccursAt t p k
occurs-first t p n k le occurs =
    let fits = occurs.fits in
    let long = length-take-le n t le in
    record {
      fits = omega arith;
      reads = λ j l. sym (get_or-take n t (k + j) 0 (omega arith)) ∙ occurs.reads j l;
    }

-- and one in the text that ends within the first bytes is in them
pub occurs-within : (t p : List ℕ) (n k : ℕ) → n ≤ length t → k + length p ≤ n → OccursAt t p k
    → OccursAt (take n t) p k
occurs-within t p n k le fits occurs =
    let long = length-take-le n t le in
    record {
      fits = omega arith;
      reads = λ j l. get_or-take n t (k + j) 0 (omega arith) ∙ occurs.reads j l;
    }

-- the pattern behind a text
occurs-behind : (g p : List ℕ) → OccursAt (g ++ p) p (length g)
occurs-behind g p = record {
  fits = omega (arith, length-append g p);
  reads = λ j l. get_or-append_right g p (length g) (length g + j) 0 refl (omega arith)
      ∙ ap (slice_index p) (let e : length g + j - length g ≡ j = omega arith in e);
}

module _ (t p : List ℕ) (some : 0 < length p) where
  -- what is left of the text from a place on is cut into these gaps
  record Cut (last : ℕ) (gs : List (List ℕ)) : Type 0 where
    whole : joined p gs ≡ drop last t
    apart : AreGaps p gs

  cut-end : (last : ℕ) → last ≤ length t → Nowhere (OccursAt t p) last (length t + 1)
      → Cut last (drop last t ∷ [])
  unfolding AreGaps
  cut-end last le none = record {
    whole = joined-one p (drop last t);
    apart = λ k low high occurs.
        none (last + k) (omega arith) (omega (arith, length-drop last t))
        (occurs-later t p last k some occurs);
  }

  -- the gap before a match, with the match
  part-with : (last i : ℕ) → last ≤ i → OccursAt t p i
      → part last i t ++ p ≡ take (i - last + length p) (drop last t)
  part-with last i le occurs =
      let there : drop (i - last) (drop last t) ≡ drop i t =
      drop-drop (i - last) last t
      ∙ ap (λ n. drop n t) (let e : last + (i - last) ≡ i = omega arith in e) in
      sym (take-add (i - last) (length p) (drop last t)
      ∙ ap (λ xs. part last i t ++ xs) (ap (take (length p)) there ∙ OccursAt-part t p i occurs))

  cut-next : (last i : ℕ) (h : List ℕ) (gs : List (List ℕ)) → last ≤ i → OccursAt t p i
      → Nowhere (OccursAt t p) last i → Cut (i + length p) (h ∷ gs)
      → Cut last (part last i t ∷ h ∷ gs)
  unfolding AreGaps
  cut-next last i h gs le occurs none later =
      let g = part last i t in
      let fits = occurs.fits in
      let left = length-drop last t in
      let long : length g ≡ i - last = length-take-le (i - last) (drop last t) (omega arith) in
      let there : drop (i - last) (drop last t) ≡ drop i t =
      drop-drop (i - last) last t
      ∙ ap (λ n. drop n t) (let e : last + (i - last) ≡ i = omega arith in e) in
      record {
        whole =
            joined-next p g h gs ∙ ap (λ xs. g ++ (p ++ xs)) later.whole
            ∙ ap (λ xs. g ++ xs) (sym (OccursAt-split t p i occurs) ∙ sym there)
            ∙ take-append-drop (i - last) (drop last t);
        apart = (
          (
            record {
              low = omega arith;
              high = omega (arith, length-append g p);
              before = λ k low high here.
                  let inside : OccursAt (drop last t) p k =
                  occurs-first (drop last t) p (i - last + length p) k (omega arith)
                  (subst (λ xs. OccursAt xs p k) (part-with last i le occurs) here) in
                  none (last + k) (omega arith) (omega arith) (occurs-later t p last k some inside);
            },
            occurs-behind g p,
          ),
          later.apart,
        );
      }

  -- a cut has a first gap
  pub first-gap : (last : ℕ) (ks : List ℕ) (P : List (List ℕ) → Type 0)
      → ((h : List ℕ) (gs : List (List ℕ)) → split_at t (length p) last ks ≡ h ∷ gs → P (h ∷ gs))
      → P (split_at t (length p) last ks)
  unfolding split_at
  first-gap last [] P given = given (drop last t) [] refl
  first-gap last (k ∷ ks) P given =
      given (part last k t) (split_at t (length p) (k + length p) ks) refl

  -- the matches from a place on, before which nothing was found
  cut-from : (fuel n last i : ℕ) → n ≤ fuel → i + n ≡ length t + 1 → last ≤ i → last ≤ length t
      → Nowhere (OccursAt t p) last i
      → Cut last (split_at t (length p) last (matches_from t p 0 i n))
  unfolding matches_from
  cut-from fuel zero last i le fit low within none =
      subst (Cut last) (sym (split_at-end t (length p) last))
      (cut-end last within (λ k a b. none k a (omega arith)))
  cut-from zero (suc n) last i le fit low within none = absurd (omega arith)
  cut-from (suc fuel) (suc n) last i le fit low within none =
      ⊎_elim
      (λ yes.
      let occurs = OccursAt-true t p i yes in
      let fits = occurs.fits in
      let m = length p in
      let wide : match_len p - 1 ≡ m - 1 = omega arith in
      let rest = matches_from t p 0 (i + m) (n - (m - 1)) in
      let same : matches_from t p 0 i (suc n) ≡ i ∷ rest =
      cond-true _ _ _ yes ∙ ap (λ l. i ∷ l) (matches_from-skip t p (match_len p - 1) (i + 1) n
      ∙ ap (λ s. matches_from t p 0 (i + 1 + s) (n - s)) wide
      ∙ ap (λ s. matches_from t p 0 s (n - (m - 1)))
      (let e : i + 1 + (m - 1) ≡ i + m = omega arith in e)) in
      let later =
      cut-from fuel (n - (m - 1)) (i + m) (i + m) (omega arith) (omega arith) (omega arith)
      (omega arith) (λ k a b. absurd (omega arith)) in
      subst (Cut last) (sym (ap (split_at t m last) same ∙ split_at-next t m last i rest))
      (first-gap (i + m) rest (λ gs. Cut (i + m) gs → Cut last (part last i t ∷ gs))
      (λ h gs is given. cut-next last i h gs low occurs none given) later))
      (λ no.
      let other : ¬ OccursAt t p i = λ occurs. false≢true (sym no ∙ occurs_at-true t p i occurs) in
      subst (λ ks. Cut last (split_at t (length p) last ks)) (sym (cond-false (occurs_at t p i)
      (i ∷ matches_from t p (match_len p - 1) (i + 1) n) (matches_from t p 0 (i + 1) n) no))
      (cut-from fuel n last (i + 1) (omega arith) (omega arith) (omega arith) within
      (λ k a b occurs. ⊎_elim (λ here. other (subst (OccursAt t p) here occurs))
      (λ before. none k a (omega arith) occurs) (cases_eq k i))))
      (cases_Bool (occurs_at t p i))

pub some-length : (p : List ℕ) → p ≢ [] → 0 < length p
some-length [] other = absurd (other refl)
some-length (b ∷ bs) other = omega arith

pub has-cut : (p t : List ℕ) → p ≢ [] → IsCutInto p t (gaps_of p t)
has-cut p t other =
    let some = some-length p other in
    let cut =
    cut-from t p some (length t + 1) (length t + 1 - 0) 0 0 (omega arith) (omega arith)
    (omega arith) (omega arith) (λ k a b. absurd (omega arith)) in
    record { whole = sym cut.whole; apart = cut.apart }

-- ---- a cut is the cut

module _ (p : List ℕ) (some : 0 < length p) where
  -- the text that is left after `pre` is cut into these gaps
  only-from : (t pre : List ℕ) (gs : List (List ℕ)) → AreGaps p gs → t ≡ pre ++ joined p gs
      → gs ≡ split_at t (length p) (length pre) (matches t p (length pre))
  unfolding AreGaps
  only-from t pre [] apart is = absurd apart
  only-from t pre (g ∷ []) none is =
      let i = length pre in
      let rest : drop i t ≡ g =
      ap (drop i) is ∙ drop_at pre (joined p (g ∷ [])) i refl ∙ joined-one p g in
      let long : length t ≡ i + length g =
      ap length is ∙ length-append pre (joined p (g ∷ []))
      ∙ ap (λ xs. i + length xs) (joined-one p g) in
      let nothing : matches t p i ≡ [] = matches-none t p i (λ k a b occurs.
      let place : k ≡ i + (k - i) = omega arith in
      none (k - i) (omega arith) (omega arith) (subst (λ xs. OccursAt xs p (k - i)) rest
      (occurs-sooner t p i (k - i) (subst (OccursAt t p) place occurs)))) in
      sym (ap (split_at t (length p) i) nothing ∙ split_at-end t (length p) i
      ∙ ap (λ xs. xs ∷ []) rest)
  only-from t pre (g ∷ h ∷ gs) apart is =
      let i = length pre in
      let m = length p in
      let n = length g in
      let more = joined p (h ∷ gs) in
      let first = apart.0.0 in
      let rest : drop i t ≡ g ++ (p ++ more) =
      ap (drop i) is ∙ drop_at pre (joined p (g ∷ h ∷ gs)) i refl ∙ joined-next p g h gs in
      let with : drop i t ≡ (g ++ p) ++ more = rest ∙ sym (append_assoc g p more) in
      let long : length (drop i t) ≡ n + m + length more =
      ap length with ∙ length-append (g ++ p) more
      ∙ ap (λ k. k + length more) (length-append g p) in
      let left = length-drop i t in
      let head : take (n + m) (drop i t) ≡ g ++ p =
      ap (take (n + m)) with ∙ take_at (g ++ p) more (n + m) (length-append g p) in
      let occurs : OccursAt t p (i + n) =
      occurs-later t p i n some (occurs-first (drop i t) p (n + m) n (omega arith)
      (subst (λ xs. OccursAt xs p n) (sym head) apart.0.1)) in
      let leads : matches t p i ≡ (i + n) ∷ matches t p (i + n + match_len p) =
      matches-first t p i (i + n) (record {
        low = omega arith;
        high = omega arith;
        before = λ k a b here.
            let place : k ≡ i + (k - i) = omega arith in
            let inside = occurs-sooner t p i (k - i) (subst (OccursAt t p) place here) in
            first.before (k - i) (omega arith) (omega arith) (subst (λ xs. OccursAt xs p (k - i))
            head (occurs-within (drop i t) p (n + m) (k - i) (omega arith) (omega arith) inside));
      }) occurs in
      let wide : i + n + match_len p ≡ i + n + m = omega arith in
      let gap : part i (i + n) t ≡ g =
      ap (λ k. take k (drop i t)) (let e : i + n - i ≡ n = omega arith in e) ∙ ap (take n) rest
      ∙ take_at g (p ++ more) n refl in
      let front : length ((pre ++ g) ++ p) ≡ i + n + m =
      length-append (pre ++ g) p ∙ ap (λ k. k + m) (length-append pre g) in
      let again : t ≡ ((pre ++ g) ++ p) ++ more =
      is ∙ ap (λ xs. pre ++ xs) (joined-next p g h gs) ∙ sym (append_assoc pre g (p ++ more))
      ∙ sym (append_assoc (pre ++ g) p more) in
      let later = only-from t ((pre ++ g) ++ p) (h ∷ gs) apart.1 again in
      ap (λ xs. g ∷ xs) (later ∙ ap (λ k. split_at t m k (matches t p k)) front)
      ∙ sym (ap (split_at t m i) (leads ∙ ap (λ k. (i + n) ∷ matches t p k) wide)
      ∙ split_at-next t m i (i + n) (matches t p (i + n + m))
      ∙ ap (λ xs. xs ∷ split_at t m (i + n + m) (matches t p (i + n + m))) gap)

pub only-cut : (p t : List ℕ) (gs : List (List ℕ)) → p ≢ [] → IsCutInto p t gs → gs ≡ gaps_of p t
only-cut p t gs other cut = only-from p (some-length p other) t [] gs cut.apart cut.whole

pub one_cut : HasOneCut
one_cut = record { cut = λ p t other. has-cut p t other; only = only-cut }
