use Rattle.std.proofs.Common.{◌≡◌, ℕ, List, length, arith}
use Rattle.std.proofs.lemmas.Iterator.Consumers.{count_from_yields_List, YieldsList-from_first}
use Rattle.memchr.specs.Find.{matches}
use Rattle.cb_desk.proofs.ReplacedLines.{LineSized, line-sized, new-bound}
use Rattle.cb_desk.proofs.present.replacement.replaced_line_len.Goals as goal

-- the bytes of the line before and after
of-line : (c : goal.After-count-count)
    → LineSized c.args.old.now c.args.new.now c.args.line.now c.count-count.result
of-line c =
    let counted : c.count-count.result ≡ length (matches c.shown.result.now c.args.old.now 0) =
    count_from_yields_List c.find_iter.result c.count-count.result c.count-count.ensures.ran
    (YieldsList-from_first (λ (x : ℕ). x) (λ (l : List ℕ). l) _ c.find_iter.ensures.value) in
    line-sized c.args.old.now c.args.new.now c.args.line.now c.shown.result.now c.count-count.result
    c.requires.some c.shown.ensures.value c.shown.ensures.within counted

pub overflow_mul-result-2 : goal.overflow_mul-result-2
overflow_mul-result-2 c = let s = of-line c in let a = s.taken in omega arith

pub overflow_sub-result : goal.overflow_sub-result
overflow_sub-result c = let s = of-line c in let a = s.taken in omega arith

pub returns-clause-value : goal.returns-clause-value
returns-clause-value c = let s = of-line c in let a = s.put in omega arith

pub returns-clause-within : goal.returns-clause-within
returns-clause-within c =
    let s = of-line c in
    let few = s.few in
    let put = s.put in
    let more = new-bound c.count-count.result c.args.new.now c.requires.small in
    omega arith
