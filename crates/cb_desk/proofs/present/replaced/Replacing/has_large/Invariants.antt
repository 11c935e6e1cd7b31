use Rattle.std.proofs.Common.{◌≡◌}
use Rattle.std.specs.List.{AllByRecursion, list_any}
use Rattle.cb_index.specs.Files.{IsThere}
use Rattle.cb_index.specs.steps.ShownIn.{shown_in}
use Rattle.cb_desk.specs.Marks.{is_too_large}
use Rattle.cb_desk.specs.steps.Replaced.{files_changed, files_then}
use Rattle.cb_desk.proofs.present.replaced.Replacing.has_large.Given as goal

abbrev pub invariant-loop-file : goal.invariant-loop-file
invariant-loop-file l = record {
  same : list_any (is_too_large l.self.most)
      (files_changed l.self.archive.now l.self.marks.now l.self.old.now l.self.new.now
      (shown_in l.shown))
      ≡ list_any (is_too_large l.self.most) (files_then l.self.archive.now l.self.marks.now
      l.self.old.now
      l.self.new.now l.file-iterator);
  there : AllByRecursion (IsThere l.self.archive.now) l.file-iterator;
}
