use Rattle.std.proofs.Common.{arith, sym, subst, List, ℕ, Ok, ◌∙◌, ◌+◌}
use Rattle.cb_tags.specs.Readers.{WhateverFollows}
use Rattle.cb_wire.specs.declared.head.HeadRead.TheVariants.{Bad, Whole}
use Rattle.cb_wire.specs.steps.ReadHeads.{ReadsHead}
use Rattle.cb_wire.proofs.ReadHeads.{Kept, Kept-byte, Open-ends, head-broken, head-ended, head-long}
use Rattle.cb_wire.proofs.ReadHeads.{head-whole}
use Rattle.cb_wire.proofs.head.read_head.Goals as goal

pub returns-in-None-2-clause-follows : goal.returns-in-None-2-clause-follows
returns-in-None-2-clause-follows g c =
    let k = rw c.in-None-2.is at c.in_ok-byte.ensures in
    head-ended c.args.feed.now c.bytes.feed c.byte.new.self c.bytes.line c.bytes.head.items
    c.bytes.read c.bytes.invariant.kept k c.if-read-eq0.false c.bytes-test.true

pub returns-in-End-clause-follows : goal.returns-in-End-clause-follows
returns-in-End-clause-follows g c =
    let k = rw c.in-Some.is at c.in_ok-byte.ensures in
    subst (λ (l : List ℕ). WhateverFollows c.args.feed.now c.byte.new.self
    (λ bytes left. ReadsHead bytes left l (Ok Whole))) (sym c.push_reserved.ensures.items)
    (head-whole c.args.feed.now c.bytes.feed c.byte.new.self c.bytes.line c.bytes.head.items
    c.bytes.read c.in-Some.byte c.bytes.invariant.kept c.bytes-test.true k
    (sym c.next.ensures ∙ c.in-End.is))

pub returns-in-Bad-clause-follows : goal.returns-in-Bad-clause-follows
returns-in-Bad-clause-follows g c =
    let k = rw c.in-Some.is at c.in_ok-byte.ensures in
    subst (λ (l : List ℕ). WhateverFollows c.args.feed.now c.byte.new.self
    (λ bytes left. ReadsHead bytes left l (Ok Bad))) (sym c.push_reserved.ensures.items)
    (head-broken c.args.feed.now c.bytes.feed c.byte.new.self c.bytes.line c.bytes.head.items
    c.bytes.read c.in-Some.byte c.bytes.invariant.kept c.bytes-test.true k
    (sym c.next.ensures ∙ c.in-Bad.is))

pub bytes-preserved : goal.bytes-preserved
bytes-preserved g c =
    let k = rw c.in-Some.is at c.in_ok-byte.ensures in
    record {
      kept =
          subst (λ l. Kept c.args.feed.now c.byte.new.self c.in-On.more l (c.bytes.read + 1))
          (sym c.push_reserved.ensures.items)
          (Kept-byte c.args.feed.now c.bytes.feed c.byte.new.self c.bytes.line c.bytes.head.items
          c.bytes.read c.in-Some.byte c.bytes.invariant.kept c.bytes-test.true k c.in-On.more
          (sym c.next.ensures ∙ c.in-On.is));
      ends = λ some. Open-ends c.bytes.feed c.byte.new.self c.in-Some.byte k;
      room = omega (arith, c.bytes.invariant.room, c.push_reserved.ensures.capacity);
    }

pub returns-clause-follows : goal.returns-clause-follows
returns-clause-follows g c =
    head-long c.args.feed.now c.bytes.feed c.bytes.line c.bytes.head.items c.bytes.read
    c.bytes.invariant.kept (omega arith)

pub returns-clause-ends : goal.returns-clause-ends
returns-clause-ends g c = c.bytes.invariant.ends (omega arith)
