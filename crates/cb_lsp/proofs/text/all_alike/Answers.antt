use Rattle.std.proofs.Common.{◌≡◌, ◌∙◌, ◌+◌, ◌&&◌, suc, take, ap, arith, sym}
use Rattle.std.specs.Str.{str_eq_ignore_ascii_case}
use Rattle.cb_lsp.proofs.Likes.{alike-more}
use Rattle.cb_lsp.proofs.text.all_alike.Goals as goal

pub bytes-preserved : goal.bytes-preserved
bytes-preserved c =
    let i = c.bytes.i in
    let text = c.args.text.now in
    let part = c.args.part.now in
    let next : suc i ≡ i + 1 = omega arith in
    ap (λ t. t && c.is_alike-alike.result) c.bytes.invariant
    ∙ ap (λ t. str_eq_ignore_ascii_case (take i text) (take i part) && t) c.is_alike-alike.ensures
    ∙ sym (alike-more i text part (omega (arith, c.bytes-test.true, c.requires))
    (omega (arith, c.bytes-test.true)))
    ∙ ap (λ n. str_eq_ignore_ascii_case (take n text) (take n part)) next
