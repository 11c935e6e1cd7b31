use Rattle.std.proofs.Common.{rules, ◌≡◌, ◌∙◌, true, false}
use Rattle.std.specs.List.{list_any}
use Rattle.std.proofs.lemmas.Fn.{filter_same}
use Rattle.cb_desk.specs.Places.{same_place}
use Rattle.cb_desk.specs.World.{place_key}
use Rattle.cb_desk.specs.steps.Records.{place_in}
use Rattle.cb_desk.proofs.PlaceOrder.{insert-put}
use Rattle.cb_desk.proofs.present.places.toggled.Goals as goal

pub returns-then-has_mark : goal.returns-then-has_mark
returns-then-has_mark c =
    let a = c.args.archive.now in
    let marked : list_any (λ m. same_place (place_in a c.args.place) (place_in a m))
    c.args.marks.now ≡ true = search rules in
    rw (marked, ← c.in_ok-made.ensures.items)
    (filter_same _ _ _ (λ x b f' k. search rules) _ _ c.retain.ensures.filtered)

pub returns : goal.returns
returns c =
    let a = c.args.archive.now in
    let unmarked : list_any (λ m. same_place (place_in a c.args.place) (place_in a m))
    c.args.marks.now ≡ false = search rules in
    rw unmarked
    (c.in_ok-insert.ensures.items ∙ rw (c.in_ok-made.ensures.items, c.index_for.ensures.value)
    (insert-put (λ m. place_key (place_in a m)) c.args.place c.args.marks.now))
