-- What is left decides.
use Rattle.std.proofs.Common.{◌≡◌, length}
use Rattle.std.specs.List.{list_any}
use Rattle.cb_tags.specs.TagLines.{Tag}
use Rattle.cb_macros.specs.Meeting.{is_macro, is_macro_kind}
use Rattle.cb_macros.proofs.search.is_macro.Given as goal

abbrev pub invariant-rows : goal.invariant-rows
invariant-rows l = list_any (λ (t : Tag). is_macro_kind t.kind) l.left ≡ is_macro l.desk.timeline.present l.name

abbrev pub decreases-rows : goal.decreases-rows
decreases-rows l = length l.left
