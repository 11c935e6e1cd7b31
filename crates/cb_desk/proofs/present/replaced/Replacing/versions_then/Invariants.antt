use Rattle.std.proofs.Common.{◌≡◌, ◌≤◌, ◌-◌, ◌^◌, ◌++◌, length}
use Rattle.std.specs.List.{AllByRecursion}
use Rattle.cb_index.specs.Files.{IsThere}
use Rattle.cb_desk.specs.Desk.{bytes_in, counted}
use Rattle.cb_desk.specs.steps.Replaced.{files_then, texts_of}
use Rattle.cb_desk.proofs.present.replaced.Replacing.versions_then.Given as goal

abbrev pub invariant-loop-file : goal.invariant-loop-file
invariant-loop-file l = record {
  profile : l.made.profile ≡ l.self.archive.now.profile;
  versions : l.made.texts ++ texts_of
      (files_then l.self.archive.now l.self.marks.now l.self.old.now l.self.new.now l.rest)
      ≡ texts_of (files_then l.self.archive.now l.self.marks.now l.self.old.now
      l.self.new.now l.files);
  meter : counted l.meter (bytes_in
      (files_then l.self.archive.now l.self.marks.now l.self.old.now l.self.new.now l.rest))
      ≡ counted l.initial.meter (bytes_in
      (files_then l.self.archive.now l.self.marks.now l.self.old.now l.self.new.now l.files));
  raised : l.initial.meter ≤ l.meter;
  bounded : l.meter ≤ 2 ^ 64 - 1;
  there : AllByRecursion (IsThere l.self.archive.now) l.rest;
}

abbrev pub decreases-loop-file : goal.decreases-loop-file
decreases-loop-file l = length l.rest
