use Rattle.std.proofs.Common.{rules, ◌∙◌, ◌≡◌, ◌<◌, ◌+◌, suc, length, take, set, arith, subst, slice_index_or}
use Rattle.std.specs.List.{AllByRecursion}
use Rattle.cb_index.specs.Kinds.{keyer_of}
use Rattle.cb_index.specs.steps.Quick.{IsDeep, with_prefix}
use Rattle.cb_index.proofs.SortLemmas.{one_more, same_but_words}
use Rattle.cb_index.proofs.sort.deepen.Goals as goal

pub loop-entry-preserved : goal.loop-entry-preserved
loop-entry-preserved c =
    let es = c.loop-entry.entries in
    let i = c.loop-entry.entry-index in
    let e = slice_index_or es i (record { prefix = 0; name = 0; version = 0; number = 0; rows = 0 }) in
    let word = c.in-Some.word in
    let below : i < length es = omega (arith, c.loop-entry-test.true, c.loop-entry.auto.entries) in
    let deep = IsDeep (keyer_of c.args.kind) c.args.archive.now c.args.front.now in
    let next : suc i ≡ i + 1 = omega arith in
    rw c.with_prefix.ensures (record {
      same = λ p. same_but_words p word es i e below (search rules) ∙ c.loop-entry.invariant.same p;
      deep = subst (λ n. AllByRecursion deep (take n (set es i (with_prefix word e)))) next
          (one_more deep es i (with_prefix word e) below c.loop-entry.invariant.deep c.in-Some.ensures);
    })
