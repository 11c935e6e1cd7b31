use Rattle.std.proofs.Common.{◌≡◌, ◌∙◌, ◌+◌, ◌<◌, ◌∷◌, ◌++◌, [], true, false, ap, sym, length}
use Rattle.std.proofs.Common.{map, vec_capacity, vec_len, arith}
use Rattle.std.specs.Prelude.{cond}
use Rattle.std.proofs.lemmas.List.{append_assoc}
use Rattle.cb_scan.specs.Keys.{key_prefix}
use Rattle.cb_index.specs.Firsts.{listed}
use Rattle.cb_index.specs.Held.{entry_of}
use Rattle.cb_index.specs.Items.{is_first, item_count}
use Rattle.cb_index.specs.declared.entry.Posting.{Posting}
use Rattle.cb_index.proofs.ItemLemmas.{firsts_found, firsts_from, firsts_passed}
use Rattle.cb_index.proofs.order.append_firsts.Goals as goal
use Rattle.cb_index.proofs.order.append_firsts.Goals.{then-is_first, else-is_first}

pub loop-item-preserved : goal.loop-item-preserved
loop-item-preserved c =
    let sort = c.args.kind in
    let text = c.args.version.now in
    let shown = c.args.shown in
    let k = c.loop-item.item in
    let old = c.loop-item.entries in
    let new = c.if-is_first.entries in
    let later = firsts_from sort text (k + 1) in
    let below : k < item_count sort text = omega arith in
    elim c.if-is_first.branch [
      | then-is_first w ↦
          let first : is_first sort text k ≡ true = sym c.is_first.ensures ∙ w.if-is_first.true in
          let found = firsts_found sort text k below first in
          let more = ap length found in
          let room : vec_len old < vec_capacity old = omega (arith, more) in
          let pushed = w.push.ensures.succeeds room in
          let entry : Posting = record {
            prefix = w.key_prefix.result;
            name = shown.name;
            version = shown.version;
            number = k;
            rows = w.row_count.result;
          } in
          let entry_is : entry ≡ entry_of shown (listed sort text k) = λ i. record {
            prefix = (w.key_prefix.ensures ∙ ap key_prefix w.item_key.ensures) i;
            name = shown.name;
            version = shown.version;
            number = k;
            rows = w.row_count.ensures i;
          } in
          let items : new.items ≡ old.items ++ entry ∷ [] =
          ap (λ v. v.items) w.entries-is ∙ w.push.ensures.items
          ∙ ap (λ b. cond b (old.items ++ entry ∷ []) old.items) pushed in
          let count : vec_len new ≡ vec_len old + 1 =
          ap vec_len w.entries-is ∙ w.push.ensures.len
          ∙ ap (λ b. cond b (vec_len old + 1) (vec_len old)) pushed in
          let grown = ap vec_capacity w.entries-is in
          record {
            entries = ap (λ es. es ++ map (entry_of shown) later) items
                ∙ append_assoc old.items (entry ∷ []) (map (entry_of shown) later)
                ∙ ap (λ e. old.items ++ e ∷ map (entry_of shown) later) entry_is
                ∙ ap (λ l. old.items ++ map (entry_of shown) l) (sym found)
                ∙ c.loop-item.invariant.entries;
            room = omega (arith, more, count, grown);
            grown = omega (arith, grown);
          }
      | else-is_first w ↦
          let other : is_first sort text k ≡ false = sym c.is_first.ensures ∙ w.if-is_first.false in
          let passed = firsts_passed sort text k below other in
          let same = ap length passed in
          let count = ap vec_len w.entries-is in
          let room = ap vec_capacity w.entries-is in
          record {
            entries = ap (λ v. v.items ++ map (entry_of shown) later) w.entries-is
                ∙ ap (λ l. old.items ++ map (entry_of shown) l) (sym passed)
                ∙ c.loop-item.invariant.entries;
            room = omega (arith, same, count, room);
            grown = omega (arith, room);
          }
    ]
