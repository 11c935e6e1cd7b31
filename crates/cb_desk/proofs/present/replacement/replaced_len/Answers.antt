use Rattle.std.proofs.Common.{◌∙◌, ap, map, length, arith}
use Rattle.std.specs.List.{flat_map}
use Rattle.cb_desk.specs.Replacement.{replaced_text, replaced_if_marked}
use Rattle.cb_desk.proofs.MarkedLines.{first-part, bytes-of}
use Rattle.cb_desk.proofs.present.replacement.replaced_len.Goals as goal

pub loop-line-init : goal.loop-line-init
unfolding replaced_text
loop-line-init c =
    let lines =
    c.into_iter-line-iterator.ensures.into_iter_gives ∙ c.new-line-items.ensures.value in
    let marks = map (λ m. m.line) c.args.marks.now in
    let text = ap length (ap first-part lines ∙ bytes-of marks c.args.source.now) in
    let same =
    ap (λ ls. length (flat_map (replaced_if_marked c.args.old.now c.args.new.now) ls)) lines in
    let small = c.new-line-items.ensures.small in
    record { sum = omega arith; bytes = omega arith; small = omega arith }
