use Rattle.std.proofs.Common.{◌≡◌, ◌∙◌, ◌+◌, ◌<◌, ◌≤◌, ◌++◌, ◌∷◌, [], ℕ, suc, List, Option, None, ⊎_elim}
use Rattle.std.proofs.Common.{sym, ap, subst, add-one, arith, length}
use Rattle.std.proofs.lemmas.Bool.Decides.{eqb_tells}
use Rattle.std.proofs.lemmas.List.{get_or-append_right, get_or_append_left, length-append}
use Rattle.std.specs.Prelude.{◌-◌, slice_index_or}
use Rattle.cb_names.specs.Pairs.{closed_at}
use Rattle.cb_names.specs.Statements.{ends_statement, starts}
use Rattle.cb_names.specs.steps.Pairing.{answer}
use Rattle.cb_names.specs.steps.Starting.{Tells, case_after, closed_by, ends_by, most, starts_by}
use Rattle.cb_names.proofs.StatementLemmas.{after_few, closed_same, ends_is, starts_is, tells_next}
use Rattle.cb_names.proofs.PairingLemmas.{closed_less}
use Rattle.cb_names.proofs.TableLemmas.{push}
use Rattle.cb_names.proofs.statements.Starting.add.Goals as goal

-- what holds of each answer holds with one more
all_more : (P : ℕ → Option ℕ → Type 0) (k : ℕ) (xs ys : List (Option ℕ)) (y : Option ℕ) → length xs ≡ k
    → ys ≡ xs ++ y ∷ [] → P k y → ((i : ℕ) → i < k → P i (slice_index_or xs i None))
    → (i : ℕ) → i < k + 1 → P i (slice_index_or ys i None)
all_more P k xs ys y len is here before i less =
    subst (λ l. P i (slice_index_or l i None)) (sym is)
    (⊎_elim
    (λ same. let is_k : i ≡ k = same.1 in
    let zero_is : i - k ≡ 0 = omega (arith, is_k) in
    subst (P i) (sym (get_or-append_right xs (y ∷ []) k i None len (omega (arith, is_k))
    ∙ ap (λ n. slice_index_or (y ∷ []) n None) zero_is)) (subst (λ n. P n y) (sym is_k) here))
    (λ other. let under : i < k = omega (arith, less, other.1) in
    subst (P i) (sym (get_or_append_left xs (y ∷ []) None i (omega (arith, under, len)))) (before i under))
    (eqb_tells i k))

pub returns : goal.returns
returns c =
    let s = c.args.shape.now in
    let xs = s.items.items in
    let b = s.body in
    let k = c.args.at in
    let h = c.requires.holds in
    let is = c.requires.shape in
    let within = c.requires.within in
    let items = c.as_slice-items.ensures.value in
    let kinds = c.as_slice-kinds.ensures.value in
    let around = c.answer-around.ensures ∙ ap (λ t. answer t k) c.as_slice.ensures.value ∙ is.around.at k None within in
    let pair = c.answer-pair.ensures ∙ ap (λ t. answer t k) c.as_slice-2.ensures.value ∙ is.partner.at k None within in
    let closed = c.closed_by-closed.ensures ∙ (λ i. closed_by (items i) k (pair i)) in
    let count = c.case_after-count.ensures
    ∙ (λ i. case_after (items i) (c.as_slice-4.ensures.value i) k (closed i) c.args.self.now.count) in
    let more = count ∙ closed_same xs k c.args.self.now.counts.items c.args.self.now.count in
    record {
      starts = push (starts xs b) k _ _ _ h.starts c.in_ok-push.ensures.items
          (c.starts_by-starts.ensures
          ∙ (λ i. starts_by (items i) (kinds i) (c.as_slice-3.ensures.value i) (around i) c.args.self.now.ends k)
          ∙ starts_is s is k _ _ within h.starts h.ends);
      len = ap length c.in_ok-push-2.ensures.items ∙ length-append c.args.self.now.counts.items _ ∙ ap (λ n. n + 1) h.len;
      counts = all_more (Tells xs) k _ _ _ h.len c.in_ok-push-2.ensures.items h.count h.counts;
      few = all_more (λ i p. most p ≤ i) k _ _ _ h.len c.in_ok-push-2.ensures.items h.small h.few;
      count = subst (λ n. Tells xs n c.case_after-count.result) (sym (add-one k))
          (subst (Tells xs (suc k)) (sym more)
          (tells_next xs k c.args.self.now.counts.items c.args.self.now.count h.count h.counts));
      small = subst (λ p. most p ≤ k + 1) (sym more)
          (after_few xs k c.args.self.now.counts.items (closed_at xs k) c.args.self.now.count h.small
          (λ j j_is. omega (arith, h.few j (closed_less xs k j j_is), closed_less xs k j j_is)));
      ends = λ j j_is. c.ends_by-ends.ensures
          ∙ (λ i. ends_by (items i) (kinds i) (pair i) c.args.self.now.count k)
          ∙ ends_is s is k c.args.self.now.count within h.count
          ∙ ap (ends_statement xs b) (omega (arith, j_is, add-one k));
    }
