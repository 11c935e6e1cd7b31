use Rattle.std.proofs.Common.{◌≡◌, ◌∙◌, ◌+◌, Ok, Err, Result, ap, drop, refl, rules, subst}
use Rattle.json.specs.Json.{item, no_items}
use Rattle.json.specs.Value.{items_view, value_view}
use Rattle.cb_tags.specs.declared.sink.WriteFault.{WriteFault}
use Rattle.cb_lsp.specs.FileEvents.{comes_again, event_if, last_events}
use Rattle.cb_lsp.specs.Messages.{all_happened, happened, happened_in}
use Rattle.cb_lsp.specs.Params.{items_in}
use Rattle.cb_lsp.proofs.Answered.{by-nothing}
use Rattle.cb_lsp.proofs.Events.{all-first, in-list, last-drop, last-end, none-left, rest-of}
use Rattle.cb_lsp.proofs.InTurn.{DoneSo, done-ends, done-fails, done-more, done-none}
use Rattle.cb_lsp.proofs.Notices.{quiet}
use Rattle.cb_lsp.proofs.server.Server.take_files.Goals as goal

pub events-init : goal.events-init
events-init g c =
    done-none all_happened (g.D.Disk.finds c.args.disk.now) c.args.self.now c.args.out.now
    (last_events (items_view c.in-Some.events.now))

pub events-preserved : goal.events-preserved
events-preserved g c =
    let vs = c.in-Some.events.now in
    let finds = g.D.Disk.finds c.args.disk.now in
    let told = c.take_unless.ensures in
    let event = value_view c.index-events-i.result in
    let again = c.comes_again.result in
    let so_far = subst (DoneSo all_happened finds c.args.self.now c.events.self c.args.out.now
    c.events.out (last_events (items_view vs))) (last-drop vs c.events.i c.index-events-i.result again
    c.events-test.true c.index-events-i.is
    (c.comes_again.ensures ∙ ap (λ more. comes_again event (items_view more))
    (rest-of vs (c.events.i + 1))))
    c.events.invariant in
    done-more item happened all_happened all-first finds c.args.self.now c.events.self
    c.take_unless.new.self c.args.out.now c.events.out c.take_unless.new.out
    (last_events (items_view vs)) (last_events (items_view (drop (c.events.i + 1) vs)))
    (event_if again event) told.0 told.1 told.2 so_far c.take_unless.result _
    c.in_ok-take_unless.was told.3

pub returns-in_err-take_unless : goal.returns-in_err-take_unless
returns-in_err-take_unless g c =
    let vs = c.in-Some.events.now in
    let finds = g.D.Disk.finds c.args.disk.now in
    let told = c.take_unless.ensures in
    let event = value_view c.index-events-i.result in
    let again = c.comes_again.result in
    let so_far = subst (DoneSo all_happened finds c.args.self.now c.events.self c.args.out.now
    c.events.out (last_events (items_view vs))) (last-drop vs c.events.i c.index-events-i.result again
    c.events-test.true c.index-events-i.is
    (c.comes_again.ensures ∙ ap (λ more. comes_again event (items_view more))
    (rest-of vs (c.events.i + 1))))
    c.events.invariant in
    let err : c.from_residual.result ≡ Err c.in_err-take_unless.field-0.0 = search rules in
    in-list finds _ _ _ _ (items_view vs) _ _ (c.in-Some.ensures ∙ ap items_in c.member.ensures)
    (done-fails item happened all_happened all-first finds c.args.self.now c.events.self
    c.take_unless.new.self c.args.out.now c.events.out c.take_unless.new.out
    (last_events (items_view vs)) (last_events (items_view (drop (c.events.i + 1) vs)))
    (event_if again event) told.0 told.1 told.2 so_far c.take_unless.result c.from_residual.result
    c.in_err-take_unless.field-0.0 c.in_err-take_unless.was err told.3)

pub returns : goal.returns
returns g c =
    let vs = c.in-Some.events.now in
    let finds = g.D.Disk.finds c.args.disk.now in
    let now = c.events.self in
    let w = c.events.out in
    let done : Result (Unit {0}) WriteFault = Ok tt in
    in-list finds c.args.self.now now c.args.out.now w (items_view vs) _ done
    (c.in-Some.ensures ∙ ap items_in c.member.ensures)
    (done-ends all_happened finds c.args.self.now now now c.args.out.now w w
    (last_events (items_view vs)) (last_events (items_view (drop c.events.i vs))) no_items quiet done
    (last-end vs c.events.i c.events-test.false) c.events.invariant
    (by-nothing finds (all_happened quiet now no_items) now now w (none-left quiet now) refl))

pub returns-in_default : goal.returns-in_default
returns-in_default g c =
    let none = c.in_default.ensures ∙ ap items_in c.member.ensures in (
      quiet,
      by-nothing (g.D.Disk.finds c.args.disk.now) _ c.args.self.now _ c.args.out.now
          (ap (happened_in quiet c.args.self.now) none) refl,
    )
