use Rattle.std.proofs.Common.{rules, ◌≡◌, ◌∙◌, ap, sym, subst, true, [], ◌∷◌, ◌||◌}
use Rattle.std.specs.List.{AllByRecursion, list_any}
use Rattle.cb_index.specs.Files.{IsThere}
use Rattle.cb_index.specs.steps.ShownIn.{shown_in}
use Rattle.cb_index.proofs.InOrderLemmas.{all_filter}
use Rattle.cb_desk.specs.Marks.{is_too_large}
use Rattle.cb_desk.specs.steps.Replaced.{file_then, files_then, has_mark}
use Rattle.cb_desk.proofs.FilesReplaced.{large_changed}
use Rattle.cb_desk.proofs.present.replaced.Replacing.has_large.Goals as goal

pub loop-file-init : goal.loop-file-init
loop-file-init c =
    let a = c.args.self.archive.now in
    let marks = c.args.self.marks.now in
    let given = c.into_iter-file-iterator.ensures.into_iter_gives ∙ c.new-file-items.ensures in
    record {
      same = ap (λ ss. list_any (is_too_large c.args.self.most)
          (files_then a marks c.args.self.old.now c.args.self.new.now ss)) (sym given);
      there = subst (AllByRecursion (IsThere a)) (sym given)
          (all_filter (has_mark a marks) (IsThere a) (shown_in c.args.shown) c.requires.there);
    }

pub returns-then-is_large : goal.returns-then-is_large
returns-then-is_large c =
    let a = c.args.self.archive.now in
    let marks = c.args.self.marks.now in
    let old = c.args.self.old.now in
    let new = c.args.self.new.now in
    let split : c.loop-file.file-iterator ≡ c.in-Some.file ∷ c.next.new.self = search rules in
    let large : is_too_large c.args.self.most (file_then a marks old new c.in-Some.file) ≡ true =
    search rules in
    sym (ap (λ ss. list_any (is_too_large c.args.self.most) (files_then a marks old new ss)) split
    ∙ ap (λ b. b || list_any (is_too_large c.args.self.most)
    (files_then a marks old new c.next.new.self)) large)
    ∙ sym c.loop-file.invariant.same
    ∙ large_changed a marks old new c.args.self.most (shown_in c.args.shown) c.requires.small

pub returns : goal.returns
returns c =
    let a = c.args.self.archive.now in
    let marks = c.args.self.marks.now in
    let old = c.args.self.old.now in
    let new = c.args.self.new.now in
    let none : c.loop-file.file-iterator ≡ [] = search rules in
    sym (ap (λ ss. list_any (is_too_large c.args.self.most) (files_then a marks old new ss)) none)
    ∙ sym c.loop-file.invariant.same
    ∙ large_changed a marks old new c.args.self.most (shown_in c.args.shown) c.requires.small
