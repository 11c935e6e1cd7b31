use Rattle.std.proofs.Common.{◌∙◌, ◌+◌, sym, ap, drop, filter, arith}
use Rattle.std.specs.Prelude.{not}
use Rattle.cb_index.specs.Names.{is_among, names_of}
use Rattle.cb_index.specs.declared.entry.Shown.{Shown}
use Rattle.cb_index.proofs.KeptLemmas.{filter_done, filter_file, keeps_trans}
use Rattle.cb_index.proofs.shelf.Shelf.hide_all.Goals as goal

pub loop-file-preserved : goal.loop-file-preserved
loop-file-preserved c =
    let none : Shown = record { name = 0; version = 0 } in
    let i = c.loop-file.file-index in
    let files = c.args.files.now in
    record {
      shown =
          ap (filter (λ (s : Shown). not (is_among (names_of (drop (i + 1) files)) s.name)))
          c.hide.ensures.shown
          ∙ filter_file files i none c.loop-file-test.true c.loop-file.self.shown
          ∙ c.loop-file.invariant.shown;
      archive = c.hide.ensures.archive ∙ c.loop-file.invariant.archive;
      turns = omega (arith, c.hide.ensures.turns, c.loop-file.invariant.turns);
      room =
          keeps_trans c.args.self.now c.loop-file.self c.hide.new.self c.loop-file.invariant.room
          c.hide.ensures.room;
    }

pub returns-after-loop-file-clause-shown : goal.returns-after-loop-file-clause-shown
returns-after-loop-file-clause-shown c =
    sym (filter_done c.args.files.now c.loop-file.file-index (omega (arith, c.loop-file-test.false))
    c.loop-file.self.shown)
    ∙ c.loop-file.invariant.shown
