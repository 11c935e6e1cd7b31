use Rattle.std.proofs.Common.{◌≡◌, ◌∙◌, ◌+◌, ◌-◌, ◌<◌, Bool, add-one, ap, arith, false, length, refl, suc, sym, take, true}
use Rattle.std.specs.Prelude.{cond, drop, not}
use Rattle.cb_names.specs.Declarators.{both, found_in_part, found_in_parts, is_stray_part, nothing, part_len}
use Rattle.cb_names.proofs.DeclaratorLemmas.{both_assoc, both_nothing, parts_empty, parts_last, parts_next, parts_stray}
use Rattle.cb_names.proofs.declarators.push_parts.Goals as goal

not_true : (b : Bool) → not b ≡ false → b ≡ true
not_true true is = refl
not_true false is = sym is

not_false : (b : Bool) → not b ≡ true → b ≡ false
not_false true is = sym is
not_false false is = refl

pub returns-then-not-branch : goal.returns-then-not-branch
returns-then-not-branch c =
    let xs = c.args.shape.now.items.items in
    let rest = c.parts.rest.now in
    let len = c.outer_len-len.result in
    let first = c.parts.is_first in
    let less : c.parts.step < suc (length c.args.places.now) = omega (arith, c.parts-test.true) in
    let len_is = c.outer_len-len.ensures.value ∙ ap (λ l. part_len l rest) c.as_slice.ensures.value in
    let stray = not_true (is_stray_part xs (take len rest))
    (sym c.in_ok-push_unless_stray.ensures.stray ∙ c.if-not-branch.true) in
    c.in_ok-push_unless_stray.ensures.found
    ∙ ap (λ b. both c.parts.found (cond b nothing (found_in_part xs c.args.of_list first (take len rest)))) stray
    ∙ ap (both c.parts.found) (sym (parts_stray xs c.args.of_list _ c.parts.step first rest len less len_is stray))
    ∙ c.parts.invariant.found

pub returns-then-len-rest : goal.returns-then-len-rest
returns-then-len-rest c =
    let xs = c.args.shape.now.items.items in
    let rest = c.parts.rest.now in
    let len = c.outer_len-len.result in
    let first = c.parts.is_first in
    let less : c.parts.step < suc (length c.args.places.now) = omega (arith, c.parts-test.true) in
    let len_is = c.outer_len-len.ensures.value ∙ ap (λ l. part_len l rest) c.as_slice.ensures.value in
    let plain = not_false (is_stray_part xs (take len rest))
    (sym c.in_ok-push_unless_stray.ensures.stray ∙ c.if-not-branch.false) in
    c.in_ok-push_unless_stray.ensures.found
    ∙ ap (λ b. both c.parts.found (cond b nothing (found_in_part xs c.args.of_list first (take len rest)))) plain
    ∙ ap (both c.parts.found) (sym (parts_last xs c.args.of_list _ c.parts.step first rest len less len_is plain c.if-len-rest.true))
    ∙ c.parts.invariant.found

pub parts-init : goal.parts-init
parts-init c =
    let n = suc (length c.args.places.now) in
    let all : n - 0 ≡ n = omega arith in
    record {
      found = ap (λ f. both c.args.found.now (found_in_parts c.args.shape.now.items.items c.args.of_list f true c.args.places.now)) all;
      few = omega arith;
    }

pub parts-preserved : goal.parts-preserved
parts-preserved c =
    let xs = c.args.shape.now.items.items in
    let rest = c.parts.rest.now in
    let len = c.outer_len-len.result in
    let first = c.parts.is_first in
    let n = suc (length c.args.places.now) in
    let less : c.parts.step < n = omega (arith, c.parts-test.true) in
    let under : len < length rest = omega (arith, c.if-len-rest.false) in
    let len_is = c.outer_len-len.ensures.value ∙ ap (λ l. part_len l rest) c.as_slice.ensures.value in
    let plain = not_false (is_stray_part xs (take len rest))
    (sym c.in_ok-push_unless_stray.ensures.stray ∙ c.if-not-branch.false) in
    let part = found_in_part xs c.args.of_list first (take len rest) in
    let more = found_in_parts xs c.args.of_list (n - (c.parts.step + 1)) false in
    let new = c.in_ok-push_unless_stray.ensures.found ∙ ap (λ b. both c.parts.found (cond b nothing part)) plain in
    let left = c.behind-rest.ensures.value ∙ ap (λ m. drop m rest) (add-one len) in
    record {
      found = (λ i. both (new i) (more (left i)))
          ∙ both_assoc c.parts.found part (more (drop (suc len) rest))
          ∙ ap (both c.parts.found) (sym (parts_next xs c.args.of_list n c.parts.step first rest len less len_is plain under))
          ∙ c.parts.invariant.found;
      few = omega (arith, c.behind-rest.ensures.within, c.parts.invariant.few);
    }

pub returns : goal.returns
returns c =
    let none : suc (length c.args.places.now) - c.parts.step ≡ 0 = omega (arith, c.parts-test.false) in
    sym (ap (both c.parts.found) (parts_empty c.args.shape.now.items.items c.args.of_list _ c.parts.is_first c.parts.rest.now none)
    ∙ both_nothing c.parts.found)
    ∙ c.parts.invariant.found
