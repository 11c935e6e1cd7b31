use Rattle.std.proofs.Common.{◌∙◌, ◌+◌, add-one, ap, suc, sym}
use Rattle.std.proofs.lemmas.Bool.{ne_eqb}
use Rattle.std.specs.Prelude.{◌&&◌, cond, not}
use Rattle.cb_names.specs.Braces.{follows_keyword}
use Rattle.cb_names.specs.Pairs.{is_at, sign}
use Rattle.cb_names.specs.Spaces.{names_at}
use Rattle.cb_names.proofs.spaces.is_tag.Goals as goal

pub returns-then-after_keyword : goal.returns-then-after_keyword
returns-then-after_keyword c =
    let xs = c.args.items.now in
    let k = c.args.index in
    let first = ne_eqb (sign xs (suc k)) 123
    (λ e. c.if-sign-eq123.false (c.sign.ensures ∙ ap (sign xs) (add-one k) ∙ e)) in
    let after = sym c.after_keyword.ensures ∙ c.if-after_keyword.true in
    ap not (c.opens_body.ensures ∙ (λ i. is_at 123 xs (add-one k i + names_at xs (add-one k i))))
    ∙ sym (λ i. cond (first i) (follows_keyword xs k) (after i && not (is_at 123 xs (suc k + names_at xs (suc k)))))
