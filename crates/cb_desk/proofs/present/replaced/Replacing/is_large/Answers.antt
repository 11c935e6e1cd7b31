use Rattle.std.proofs.Common.{rules, ◌≡◌, ◌∙◌, ap, length, map, nat_lt}
use Rattle.cb_index.specs.Archived.{name_of}
use Rattle.cb_desk.specs.declared.places.FileLine.{FileLine}
use Rattle.cb_desk.specs.Marks.{marked_lines}
use Rattle.cb_desk.specs.Replacement.{replaced_text}
use Rattle.cb_desk.specs.steps.Replaced.{places_in}
use Rattle.cb_desk.proofs.present.replaced.Replacing.is_large.Goals as goal

pub returns : goal.returns
returns c =
    let a = c.args.self.archive.now in
    let ns = marked_lines (name_of a c.args.file.name) (places_in a c.args.self.marks.now) in
    let lines : map (λ (m : FileLine). m.line) c.marks_of-marks.result.now ≡ ns =
    search rules in
    ap (nat_lt c.args.self.most) (c.replaced_len.ensures
    ∙ (λ i. length
    (replaced_text c.args.self.old.now c.args.self.new.now (lines i) (c.source-source.ensures i))))
