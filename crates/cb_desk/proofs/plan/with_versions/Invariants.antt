use Rattle.std.proofs.Common.{◌≡◌, ◌+◌, ◌++◌, ◌≤◌, length, drop, take}
use Rattle.cb_index.specs.Files.{call_count, def_count, total, use_count}
use Rattle.cb_desk.specs.steps.Room.{with_texts}
use Rattle.cb_desk.proofs.plan.with_versions.Given as goal

abbrev pub invariant-loop-s : goal.invariant-loop-s
invariant-loop-s l =
    let texts = with_texts l.archive.profile (take l.kept l.archive.texts ++ l.news.texts) in
    record {
      defs : l.totals.defs + total def_count texts (drop l.s-index l.shown)
          ≡ l.fn.before.defs + total def_count texts l.shown;
      uses : l.totals.uses + total use_count texts (drop l.s-index l.shown)
          ≡ l.fn.before.uses + total use_count texts l.shown;
      calls : l.totals.calls + total call_count texts (drop l.s-index l.shown)
          ≡ l.fn.before.calls + total call_count texts l.shown;
      kept : l.kept ≤ length l.archive.texts;
      profile : l.news.profile ≡ l.archive.profile;
    }
