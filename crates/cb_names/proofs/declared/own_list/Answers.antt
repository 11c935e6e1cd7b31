use Rattle.std.proofs.Common.{◌≡◌, ◌∙◌, ◌+◌, add-one, ap, arith, suc, sym}
use Rattle.std.proofs.lemmas.Bool.{ne_eqb}
use Rattle.std.specs.Prelude.{◌==◌, cond}
use Rattle.cb_names.specs.Pairs.{sign}
use Rattle.cb_names.specs.Scoped.{if_list}
use Rattle.cb_names.proofs.declared.own_list.Goals as goal

pub returns-then-sign-eq41 : goal.returns-then-sign-eq41
returns-then-sign-eq41 c =
    let xs = c.args.shape.now.items.items in
    let m = c.args.name in
    let two : m + 2 ≡ suc (suc m) = omega arith in
    let is : sign xs (suc m) ≡ 41 = sym (c.sign.ensures
    ∙ (λ i. sign (c.as_slice.ensures.value i) (add-one m i))) ∙ c.if-sign-eq41.true in
    c.if_list.ensures ∙ ap (if_list xs) two
    ∙ sym (ap (λ n. cond (n == 41) (if_list xs (suc (suc m))) (if_list xs (suc m))) is)

pub returns-else-sign-eq41 : goal.returns-else-sign-eq41
returns-else-sign-eq41 c =
    let xs = c.args.shape.now.items.items in
    let m = c.args.name in
    let isnt = ne_eqb (sign xs (suc m)) 41 (λ e. c.if-sign-eq41.false (c.sign.ensures
    ∙ (λ i. sign (c.as_slice.ensures.value i) (add-one m i)) ∙ e)) in
    c.if_list-else-sign-eq41.ensures ∙ ap (if_list xs) (add-one m)
    ∙ sym (ap (λ b. cond b (if_list xs (suc (suc m))) (if_list xs (suc m))) isnt)
