use Rattle.std.proofs.Common.{◌≡◌, ◌∷◌, [], arith, subst}
use Rattle.cb_tags.specs.Readers.{HasRead}
use Rattle.cb_tags.proofs.Follows.{HasRead-byte}
use Rattle.cb_session.proofs.Streams.{Seen, Seen-more, ReadsLine-line_feed, ReadsLine-end}
use Rattle.cb_session.proofs.Streams.{ReadsLine-none, first_overlong, Follows-line_feed}
use Rattle.cb_session.proofs.Streams.{Follows-line_end, Follows-line_failed, Follows-no_line}
use Rattle.cb_session.proofs.Streams.{Follows-overlong}
use Rattle.cb_session.proofs.Unread.{Unread-line}
use Rattle.cb_session.proofs.input.Intake.read_line.Goals as goal

pub returns-in-None-clause-line : goal.returns-in-None-clause-line
returns-in-None-clause-line g c = λ bytes e. let k = rw c.in-None.is at c.in_ok-byte.ensures in
    ReadsLine-none c.args.limits.now.line bytes c.bytes.self.line.items _ _ c.byte.new.self
    c.bytes.read c.bytes.invariant k.2 k.3 c.if-read-eq0.true e

pub returns-in-None-2-clause-line : goal.returns-in-None-2-clause-line
returns-in-None-2-clause-line g c = λ bytes e. let k = rw c.in-None-2.is at c.in_ok-byte.ensures in
    rw c.line_of_length.ensures
    (ReadsLine-end c.args.limits.now.line bytes c.bytes.self.line.items _ _ c.byte.new.self
    c.bytes.read c.bytes.invariant k.2 k.3 c.if-read-eq0.false (omega arith) e)

pub returns-in-Some-eq10-clause-line : goal.returns-in-Some-eq10-clause-line
returns-in-Some-eq10-clause-line g c = λ bytes e.
    let k = rw c.in-Some-eq10.is at c.in_ok-byte.ensures in
    let taken =
    subst (λ b. HasRead c.bytes.feed c.byte.new.self (b ∷ [])) c.in-Some-eq10.field-0-test
    (HasRead-byte c.bytes.feed c.byte.new.self c.in-Some-eq10.field-0 k) in
    rw c.line_of_length-in-Some-eq10.ensures
    (ReadsLine-line_feed c.args.limits.now.line bytes c.bytes.self.line.items _ _ c.byte.new.self
    c.bytes.read c.bytes.invariant taken (omega arith) e)

pub bytes-preserved : goal.bytes-preserved
bytes-preserved g c = let k = rw c.in-Some.is at c.in_ok-byte.ensures in
    Seen-more _ _ _ c.bytes.self.line.items c.keep.new.self.line.items c.bytes.read c.in-Some.byte
    c.bytes.invariant (HasRead-byte c.bytes.feed c.byte.new.self c.in-Some.byte k)
    c.in-Some.byte-test.1 c.keep.ensures.kept c.keep.ensures.left

pub returns-in-None-3-clause-line : goal.returns-in-None-3-clause-line
returns-in-None-3-clause-line g c = λ bytes e.
    let k = rw c.in-None-3.is at c.in_ok-byte-2.ensures in
    let all : c.bytes.read ≡ c.args.limits.now.line = omega arith in
    let seen =
    subst (λ n. Seen c.args.feed.now c.bytes.feed c.bytes.self.line.items n)
    all c.bytes.invariant in
    rw c.line_of_length-in-None-3.ensures
    (ReadsLine-end c.args.limits.now.line bytes c.bytes.self.line.items _ _ c.byte-2.new.self
    c.args.limits.now.line seen k.2 k.3 (omega (arith, c.args.limits.now.enough)) (omega arith) e)

pub returns-in-Some-eq10-2-clause-line : goal.returns-in-Some-eq10-2-clause-line
returns-in-Some-eq10-2-clause-line g c = λ bytes e.
    let k = rw c.in-Some-eq10-2.is at c.in_ok-byte-2.ensures in
    let taken =
    subst (λ b. HasRead c.bytes.feed c.byte-2.new.self (b ∷ [])) c.in-Some-eq10-2.field-0-test
    (HasRead-byte c.bytes.feed c.byte-2.new.self c.in-Some-eq10-2.field-0 k) in
    let all : c.bytes.read ≡ c.args.limits.now.line = omega arith in
    let seen =
    subst (λ n. Seen c.args.feed.now c.bytes.feed c.bytes.self.line.items n)
    all c.bytes.invariant in
    rw c.line_of_length-in-Some-eq10-2.ensures
    (ReadsLine-line_feed c.args.limits.now.line bytes c.bytes.self.line.items _ _ c.byte-2.new.self
    c.args.limits.now.line seen taken (omega arith) e)

pub returns-in-Some-2-clause-line : goal.returns-in-Some-2-clause-line
returns-in-Some-2-clause-line g c = λ bytes e.
    let k = rw c.in-Some-2.is at c.in_ok-byte-2.ensures in
    let all : c.bytes.read ≡ c.args.limits.now.line = omega arith in
    let seen =
    subst (λ n. Seen c.args.feed.now c.bytes.feed c.bytes.self.line.items n)
    all c.bytes.invariant in
    first_overlong c.args.limits.now.line bytes c.bytes.self.line.items _ _ _ c.in-Some-2.field-0
    seen (HasRead-byte c.bytes.feed c.byte-2.new.self c.in-Some-2.field-0 k)
    c.in-Some-2.field-0-test.1 e

pub returns-in-None-clause-every_input : goal.returns-in-None-clause-every_input
returns-in-None-clause-every_input g c = let k = rw c.in-None.is at c.in_ok-byte.ensures in
    Follows-no_line c.args.limits.now.line c.bytes.self.line.items c.args.feed.now c.bytes.feed
    c.byte.new.self c.bytes.read c.bytes.invariant k c.if-read-eq0.true

pub returns-in-None-2-clause-every_input : goal.returns-in-None-2-clause-every_input
returns-in-None-2-clause-every_input g c = let k = rw c.in-None-2.is at c.in_ok-byte.ensures in
    rw c.line_of_length.ensures
    (Follows-line_end c.args.limits.now.line c.bytes.self.line.items c.args.feed.now c.bytes.feed
    c.byte.new.self c.bytes.read c.bytes.invariant k c.if-read-eq0.false (omega arith))

pub returns-in-Some-eq10-clause-every_input : goal.returns-in-Some-eq10-clause-every_input
returns-in-Some-eq10-clause-every_input g c =
    let k = rw c.in-Some-eq10.is at c.in_ok-byte.ensures in
    let taken =
    subst (λ b. HasRead c.bytes.feed c.byte.new.self (b ∷ [])) c.in-Some-eq10.field-0-test
    (HasRead-byte c.bytes.feed c.byte.new.self c.in-Some-eq10.field-0 k) in
    rw c.line_of_length-in-Some-eq10.ensures
    (Follows-line_feed c.args.limits.now.line c.bytes.self.line.items c.args.feed.now c.bytes.feed
    c.byte.new.self c.bytes.read c.bytes.invariant taken (omega arith))

pub returns-in-None-3-clause-every_input : goal.returns-in-None-3-clause-every_input
returns-in-None-3-clause-every_input g c = let k = rw c.in-None-3.is at c.in_ok-byte-2.ensures in
    let all : c.bytes.read ≡ c.args.limits.now.line = omega arith in
    let seen =
    subst (λ n. Seen c.args.feed.now c.bytes.feed c.bytes.self.line.items n)
    all c.bytes.invariant in
    rw c.line_of_length-in-None-3.ensures
    (Follows-line_end c.args.limits.now.line c.bytes.self.line.items c.args.feed.now c.bytes.feed
    c.byte-2.new.self c.args.limits.now.line seen k (omega (arith, c.args.limits.now.enough))
    (omega arith))

pub returns-in-Some-eq10-2-clause-every_input : goal.returns-in-Some-eq10-2-clause-every_input
returns-in-Some-eq10-2-clause-every_input g c =
    let k = rw c.in-Some-eq10-2.is at c.in_ok-byte-2.ensures in
    let taken =
    subst (λ b. HasRead c.bytes.feed c.byte-2.new.self (b ∷ [])) c.in-Some-eq10-2.field-0-test
    (HasRead-byte c.bytes.feed c.byte-2.new.self c.in-Some-eq10-2.field-0 k) in
    let all : c.bytes.read ≡ c.args.limits.now.line = omega arith in
    let seen =
    subst (λ n. Seen c.args.feed.now c.bytes.feed c.bytes.self.line.items n)
    all c.bytes.invariant in
    rw c.line_of_length-in-Some-eq10-2.ensures
    (Follows-line_feed c.args.limits.now.line c.bytes.self.line.items c.args.feed.now c.bytes.feed
    c.byte-2.new.self c.args.limits.now.line seen taken (omega arith))

pub returns-in-Some-2-clause-every_input : goal.returns-in-Some-2-clause-every_input
returns-in-Some-2-clause-every_input g c = let k = rw c.in-Some-2.is at c.in_ok-byte-2.ensures in
    let all : c.bytes.read ≡ c.args.limits.now.line = omega arith in
    let seen =
    subst (λ n. Seen c.args.feed.now c.bytes.feed c.bytes.self.line.items n)
    all c.bytes.invariant in
    Follows-overlong c.args.limits.now.line c.bytes.self.line.items c.args.feed.now c.bytes.feed
    c.byte-2.new.self c.in-Some-2.field-0 seen
    (HasRead-byte c.bytes.feed c.byte-2.new.self c.in-Some-2.field-0 k) c.in-Some-2.field-0-test.1

pub returns-in_err-byte-2-clause-every_input : goal.returns-in_err-byte-2-clause-every_input
returns-in_err-byte-2-clause-every_input g c =
    Follows-line_failed c.args.limits.now.line c.bytes.self.line.items c.args.feed.now c.bytes.feed
    c.byte-2.new.self c.bytes.read c.in_err-byte-2.field-0.0 c.from_residual-in_err-byte-2.result
    c.bytes.invariant
    c.in_err-byte-2.ensures c.from_residual-in_err-byte-2.ensures.1

pub returns-in_err-byte-clause-unread : goal.returns-in_err-byte-clause-unread
returns-in_err-byte-clause-unread g c =
    Unread-line c.args.limits.now.line c.bytes.self.line.items c.args.feed.now c.bytes.feed
    c.byte.new.self c.bytes.read c.in_err-byte.field-0.0 c.from_residual.result c.bytes.invariant
    c.in_err-byte.ensures

pub returns-in_err-byte-2-clause-unread : goal.returns-in_err-byte-2-clause-unread
returns-in_err-byte-2-clause-unread g c =
    Unread-line c.args.limits.now.line c.bytes.self.line.items c.args.feed.now c.bytes.feed
    c.byte-2.new.self c.bytes.read c.in_err-byte-2.field-0.0 c.from_residual-in_err-byte-2.result
    c.bytes.invariant
    c.in_err-byte-2.ensures
