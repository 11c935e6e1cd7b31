use Rattle.std.proofs.Common.{◌≤◌, length, get_or, arith}
use Rattle.cb_session.proofs.Words.{digit_at, number_fits, number_more, number_small}
use Rattle.cb_session.proofs.line.number.Goals as goal

pub overflow_mul-number : goal.overflow_mul-number
overflow_mul-number c =
    let short : length c.args.digits.now ≤ 9 = c.requires.short in
    omega (
      arith,
      number_fits c.loop-byte.byte-index c.loop-byte.number 48 (omega arith)
          (omega arith) c.loop-byte.invariant.small,
    )

pub overflow_add-number : goal.overflow_add-number
overflow_add-number c =
    let short : length c.args.digits.now ≤ 9 = c.requires.short in
    let d =
    digit_at c.args.digits.now c.loop-byte.byte-index c.requires.digits c.loop-byte-test.true in
    let high : get_or c.args.digits.now c.loop-byte.byte-index 0 ≤ 57 = d.1 in
    omega (
      arith,
      number_fits c.loop-byte.byte-index c.loop-byte.number
          (get_or c.args.digits.now c.loop-byte.byte-index 0)
          (omega arith) high c.loop-byte.invariant.small,
    )

pub loop-byte-preserved : goal.loop-byte-preserved
loop-byte-preserved c =
    let d =
    digit_at c.args.digits.now c.loop-byte.byte-index c.requires.digits c.loop-byte-test.true in
    record {
      value =
          number_more c.args.digits.now c.loop-byte.byte-index c.loop-byte.number
          c.loop-byte-test.true d.0 d.1 c.loop-byte.invariant.value;
      small =
          number_small c.loop-byte.byte-index c.loop-byte.number _ d.1 c.loop-byte.invariant.small;
    }
