use Rattle.std.proofs.Common.{rules, ◌≡◌, ◌≤◌, ◌^◌}
use Rattle.std.specs.Prelude.{None}
use Rattle.std.proofs.lemmas.List.{length-map}
use Rattle.cb_index.specs.Shelved.{AreTotals}
use Rattle.cb_desk.specs.steps.Room.{AreCounted, archive_with, fact_count, facts_with}
use Rattle.cb_desk.proofs.RoomLemmas.{none_given, not_countable, room_asked}
use Rattle.cb_desk.proofs.present.Present.room_for.Goals as goal

pub returns : goal.returns
returns c =
    let k = c.args.self.now in
    let p = c.args.plan.now in
    let are : AreTotals k.archive k.now.shown c.totals-now.result = search rules in
    let more : AreCounted (archive_with k p) p.turn.shows c.totals-now.result c.in_ok-all.all =
    search rules in
    room_asked k p _ c.totals-now.result c.requires.there are (search (rules, length-map))
    (search (rules, length-map)) (search (rules, length-map))
    more.defs more.uses more.calls

pub returns-in_err-all : goal.returns-in_err-all
returns-in_err-all c =
    let k = c.args.self.now in
    let p = c.args.plan.now in
    let are : AreTotals k.archive k.now.shown c.totals-now.result = search rules in
    let many : 2 ^ 64 ≤ facts_with c.totals-now.result (fact_count (archive_with k p) p.turn.shows)
    =
    search rules in
    let none : c.from_residual.result ≡ None = search rules in
    none_given _ _ c.from_residual.result none
    (not_countable k p c.totals-now.result c.requires.there are many)
