use Rattle.std.proofs.Common.{◌≡◌, drop}
use Rattle.std.specs.List.{list_any}
use Rattle.cb_index.specs.Files.{is_shown}
use Rattle.cb_index.specs.steps.ShownIn.{shown_in}
use Rattle.cb_index.proofs.shown.has_any_name.Given as goal

abbrev pub invariant-loop-one : goal.invariant-loop-one
invariant-loop-one l =
    list_any (is_shown l.archive (shown_in l.shown)) (drop l.one-index l.news)
    ≡ list_any (is_shown l.archive (shown_in l.shown)) l.news
