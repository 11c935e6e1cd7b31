use Rattle.std.proofs.Common.{rules, ◌≡◌, ◌∙◌, ◌≤◌, ap, sym, refl, subst, arith, [], ◌∷◌, ◌++◌}
use Rattle.std.proofs.Common.{length, append_assoc}
use Rattle.std.specs.List.{AllByRecursion}
use Rattle.cb_index.specs.Files.{IsThere}
use Rattle.cb_desk.specs.Desk.{bytes_in, counted}
use Rattle.cb_desk.specs.steps.Replaced.{file_then, files_then, texts_of}
use Rattle.cb_desk.proofs.Counted.{counted_bound, counted_rises, counted_twice}
use Rattle.cb_desk.proofs.present.replaced.Replacing.versions_then.Goals as goal

pub loop-file-init : goal.loop-file-init
loop-file-init c =
    let a = c.args.self.archive.now in
    let marks = c.args.self.marks.now in
    let old = c.args.self.old.now in
    let new = c.args.self.new.now in
    let read = c.read-counted.ensures in
    let few = c.read-counted.type_inv in
    record {
      profile = c.none-made.ensures.profile ∙ c.profile.ensures;
      versions =
          ap (λ l. l ++ texts_of (files_then a marks old new c.args.files.now))
          c.none-made.ensures.texts;
      meter = refl;
      raised = omega arith;
      bounded = omega (arith, read, few);
      there = c.requires;
    }

pub loop-file-preserved : goal.loop-file-preserved
loop-file-preserved c =
    let a = c.args.self.archive.now in
    let marks = c.args.self.marks.now in
    let old = c.args.self.old.now in
    let new = c.args.self.new.now in
    let file = c.in-Some.file.now in
    let more = c.in-Some.more.now in
    let text = (file_then a marks old new file).bytes in
    let later = files_then a marks old new more in
    let split : c.loop-file.rest.now ≡ file ∷ more = search rules in
    let raised = c.loop-file.invariant.raised in
    let meter : c.version_then.new.meter ≡ counted c.loop-file.meter (length text) =
    c.in_ok-version_then.ensures.meter in
    let bound = counted_bound c.loop-file.meter (length text) in
    let rises = counted_rises c.loop-file.meter (length text) c.loop-file.invariant.bounded in
    record {
      profile = c.in_ok-push.ensures.profile ∙ c.loop-file.invariant.profile;
      versions = ap (λ l. l ++ texts_of later) c.in_ok-push.ensures.texts
          ∙ append_assoc c.loop-file.made.texts (c.in_ok-version_then.field-0.bytes ∷ [])
          (texts_of later)
          ∙ ap (λ t. c.loop-file.made.texts ++ t ∷ texts_of later)
          c.in_ok-version_then.ensures.value
          ∙ ap (λ ss. c.loop-file.made.texts ++ texts_of (files_then a marks old new ss))
          (sym split)
          ∙ c.loop-file.invariant.versions;
      meter =
          ap (λ m. counted m (bytes_in later)) meter
          ∙ counted_twice c.loop-file.meter (length text) (bytes_in later)
          ∙ ap (λ ss. counted c.loop-file.meter (bytes_in (files_then a marks old new ss)))
          (sym split) ∙ c.loop-file.invariant.meter;
      raised = subst (λ m. c.args.meter.now ≤ m) (sym meter) (omega (arith, raised, rises));
      bounded = subst (λ m. m ≤ 18446744073709551615) (sym meter) bound;
      there = (subst (AllByRecursion (IsThere a)) split c.loop-file.invariant.there).1;
    }
