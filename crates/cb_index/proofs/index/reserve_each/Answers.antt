use Rattle.std.proofs.Common.{rules, ◌≡◌, ◌+◌, suc, slice_set, subst, arith}
use Rattle.cb_index.specs.Held.{Indexed}
use Rattle.cb_index.specs.Shelved.{HasRoom}
use Rattle.cb_index.specs.steps.Moves.{StaysSame}
use Rattle.cb_index.proofs.EachLemmas.{Upto, become_less, become_right, upto_done, upto_less}
use Rattle.cb_index.proofs.EachLemmas.{upto_next, upto_rest}
use Rattle.cb_index.proofs.KeptLemmas.{stays_same}
use Rattle.cb_index.proofs.index.reserve_each.Goals as goal

pub loop-index-preserved : goal.loop-index-preserved
loop-index-preserved c =
    let i = c.loop-index.index-index in
    let way : Indexed → Indexed → Type 0 = λ x y. StaysSame x y × HasRoom c.args.room.now y in
    let step : suc i ≡ i + 1 = omega arith in
    subst (λ n. Upto way n c.args.indexes.now (slice_set c.loop-index.indexes i c.reserve.new.self))
    step
    (upto_next way i c.args.indexes.now c.loop-index.indexes c.reserve.new.self c.index-item.result
    (omega (arith, c.loop-index-test.true, c.loop-index.auto.indexes))
    c.loop-index.invariant (search rules))

pub returns-in_err-reserve-clause-same : goal.returns-in_err-reserve-clause-same
returns-in_err-reserve-clause-same c =
    let i = c.loop-index.index-index in
    let way : Indexed → Indexed → Type 0 = λ x y. StaysSame x y × HasRoom c.args.room.now y in
    upto_rest StaysSame stays_same (suc i) c.args.indexes.now
    (slice_set c.loop-index.indexes i c.reserve.new.self)
    (upto_next StaysSame i c.args.indexes.now c.loop-index.indexes c.reserve.new.self
    c.index-item.result (omega (arith, c.loop-index-test.true, c.loop-index.auto.indexes))
    (upto_less way StaysSame (λ x y both. both.0) i c.args.indexes.now c.loop-index.indexes
    c.loop-index.invariant) (search rules))

pub returns-clause-room : goal.returns-clause-room
returns-clause-room c =
    let way : Indexed → Indexed → Type 0 = λ x y. StaysSame x y × HasRoom c.args.room.now y in
    become_right way (HasRoom c.args.room.now) (λ x y both. both.1) c.args.indexes.now
    c.loop-index.indexes
    (upto_done way c.loop-index.index-index c.args.indexes.now c.loop-index.indexes
    (omega (arith, c.loop-index-test.false, c.loop-index.auto.indexes)) c.loop-index.invariant)

pub returns-clause-same : goal.returns-clause-same
returns-clause-same c =
    let way : Indexed → Indexed → Type 0 = λ x y. StaysSame x y × HasRoom c.args.room.now y in
    become_less way StaysSame (λ x y both. both.0) c.args.indexes.now c.loop-index.indexes
    (upto_done way c.loop-index.index-index c.args.indexes.now c.loop-index.indexes
    (omega (arith, c.loop-index-test.false, c.loop-index.auto.indexes)) c.loop-index.invariant)
