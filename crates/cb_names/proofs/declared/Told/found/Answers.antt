use Rattle.std.proofs.Common.{◌≡◌, ◌∙◌, ◌+◌, ◌<◌, ap, arith, false, length, replicate, subst, sym}
use Rattle.std.specs.Prelude.{slice_index_or}
use Rattle.cb_names.specs.Declarators.{Finding, both}
use Rattle.cb_names.specs.Scoped.{contains, found_at, found_before}
use Rattle.cb_names.specs.Tables.{IsTable}
use Rattle.cb_names.specs.steps.Telling.{set_all}
use Rattle.cb_names.proofs.DeclaredLemmas.{found_next, more_set, none_found, unset}
use Rattle.cb_names.proofs.declared.Told.found.Goals as goal

pub loop-at-init : goal.loop-at-init
loop-at-init c =
    let items = c.args.self.now.shape.now.items in
    let xs = items.items in
    let own = c.args.self.now.own in
    let b = c.args.self.now.shape.now.body in
    let first : c.len.result ≡ length xs = omega (arith, c.len.ensures, items.ok) in
    let second : c.len-2.result ≡ length xs = omega (arith, c.len-2.ensures, items.ok) in
    record {
      names = unset (contains (found_before xs own b 0).names) (length xs) _
          (c.in_ok-names.ensures ∙ ap (λ n. replicate n false) first)
          (λ i. ap (λ (f : Finding). contains f.names i) (none_found xs own b));
      lists = unset (contains (found_before xs own b 0).lists) (length xs) _
          (c.in_ok-lists.ensures ∙ ap (λ n. replicate n false) second)
          (λ i. ap (λ (f : Finding). contains f.lists i) (none_found xs own b));
    }

pub loop-at-preserved : goal.loop-at-preserved
loop-at-preserved c =
    let items = c.args.self.now.shape.now.items in
    let xs = items.items in
    let own = c.args.self.now.own in
    let b = c.args.self.now.shape.now.body in
    let k = c.loop-at.at in
    let h = c.loop-at.invariant in
    let before = found_before xs own b k in
    let within : k < length xs = omega (arith, c.loop-at-test.true, c.len-at-end.ensures, items.ok) in
    let is_list = c.flag-is_list.ensures ∙ ap (λ l. slice_index_or l k false) c.as_slice.ensures.value ∙ h.lists.at k false within in
    let more = c.in_ok-push_found.ensures
    ∙ (λ i. both (c.new-found.ensures i) (found_at xs own b (is_list i) k)) in
    let all = found_next xs own b k in
    record {
      names = subst (IsTable (contains (found_before xs own b (k + 1)).names) (length xs))
          (sym (c.set_all.ensures
          ∙ ap (set_all c.loop-at.names.items) (c.names.ensures ∙ ap (λ (f : Finding). f.names) more)))
          (more_set before.names _ _ (length xs) c.loop-at.names.items h.names (ap (λ (f : Finding). f.names) all));
      lists = subst (IsTable (contains (found_before xs own b (k + 1)).lists) (length xs))
          (sym (c.set_all-in-loop-at.ensures
          ∙ ap (set_all c.loop-at.lists.items) (c.lists.ensures ∙ ap (λ (f : Finding). f.lists) more)))
          (more_set before.lists _ _ (length xs) c.loop-at.lists.items h.lists (ap (λ (f : Finding). f.lists) all));
    }
