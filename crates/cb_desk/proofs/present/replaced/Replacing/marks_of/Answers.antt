use Rattle.std.proofs.Common.{◌≡◌, ◌∙◌, ap, sym, List, map, take, subst, nat_cmp}
use Rattle.std.specs.List.{prefix_len}
use Rattle.std.specs.List.Sorted.{IsStrictlySortedBy}
use Rattle.cb_desk.specs.declared.places.FileLine.{FileLine}
use Rattle.cb_desk.specs.steps.Replaced.{places_in}
use Rattle.cb_desk.proofs.MarksFound.{is_here, lines_found, lines_rise}
use Rattle.cb_desk.proofs.present.replaced.Replacing.marks_of.Goals as goal

pub returns-clause-lines : goal.returns-clause-lines
returns-clause-lines c =
    let a = c.args.self.archive.now in
    let name = c.args.name.now in
    let rest = c.split_at.result.1.now in
    let mine : c.split_at-2.result.0.now ≡ take (prefix_len (is_here a name) rest) rest =
    c.split_at-2.ensures.front ∙ ap (λ n. take n rest) c.count_in-count.ensures.value in
    let parted = c.start_of-start.ensures.parted in
    ap (map (λ (m : FileLine). m.line)) (mine ∙ ap
    (λ (l : List FileLine). take (prefix_len (is_here a name) l) l) c.split_at.ensures.back)
    ∙ lines_found a name c.args.self.marks.now c.args.self.ascending c.start_of-start.result
    c.start_of-start.ensures.within parted.0 parted.1

pub returns-clause-ascending : goal.returns-clause-ascending
returns-clause-ascending c =
    subst (IsStrictlySortedBy nat_cmp) (sym (returns-clause-lines c))
    (lines_rise c.args.self.archive.now c.args.name.now
    (places_in c.args.self.archive.now c.args.self.marks.now) c.args.self.ascending)
