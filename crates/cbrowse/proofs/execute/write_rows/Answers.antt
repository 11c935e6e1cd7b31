use Rattle.std.proofs.Common.{◌≡◌, ◌∙◌, [], ap, append-nil, subst}
use Rattle.std.specs.List.{flat_map}
use Rattle.cb_desk.specs.Answer.{answer}
use Rattle.cb_desk.specs.Desk.{DeskState}
use Rattle.cb_session.specs.Output.{row_line}
use Rattle.cb_tags.specs.Writing.{PutsAll, PutsPrefix}
use Rattle.cb_tags.proofs.Prefixes.{PutsPrefix-after, PutsPrefix-none}
use Rattle.cbrowse.proofs.execute.write_rows.Goals as goal

pub returns-in-Err-flush : goal.returns-in-Err-flush
returns-in-Err-flush g c =
    let text =
    flat_map row_line (answer c.args.desk.now.timeline.present c.args.field c.args.pattern.now) in
    let rows_are : c.rows.result
    ≡ answer c.args.desk.now.timeline.present c.args.field c.args.pattern.now =
    c.rows.ensures ∙ ap (λ (d : DeskState). answer d.timeline.present c.args.field c.args.pattern.now)
    c.settle.ensures in
    let put : PutsAll c.args.out.now c.put_answer.new.out text =
    subst (λ rows. PutsAll c.args.out.now c.put_answer.new.out (flat_map row_line rows)) rows_are
    c.in-Ok.ensures.0 in
    let prefix : PutsPrefix c.args.out.now c.flush.new.self text =
    subst (PutsPrefix c.args.out.now c.flush.new.self) (append-nil text)
    (PutsPrefix-after c.args.out.now c.put_answer.new.out c.flush.new.self text [] put
    (PutsPrefix-none c.put_answer.new.out c.flush.new.self
    [] c.in-Err-flush.ensures.0 c.in-Err-flush.ensures.1 c.in-Err-flush.ensures.2)) in
    (prefix.0, prefix.2)
