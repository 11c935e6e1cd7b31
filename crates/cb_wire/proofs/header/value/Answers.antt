use Rattle.std.proofs.Common.{◌≤◌, length, get_or, arith}
use Rattle.cb_wire.proofs.Digits.{digit_at, number_fits, number_more, number_small}
use Rattle.cb_wire.proofs.header.value.Goals as goal

pub overflow_mul-value : goal.overflow_mul-value
overflow_mul-value c =
    let short : length c.args.digits.now ≤ 9 = c.requires.short in
    omega (
      arith,
      number_fits c.loop-byte.byte-index c.loop-byte.value 48 (omega arith)
          (omega arith) c.loop-byte.invariant.small,
    )

pub overflow_add-value : goal.overflow_add-value
overflow_add-value c =
    let short : length c.args.digits.now ≤ 9 = c.requires.short in
    let d =
    digit_at c.args.digits.now c.loop-byte.byte-index c.requires.digits c.loop-byte-test.true in
    let high : get_or c.args.digits.now c.loop-byte.byte-index 0 ≤ 57 = d.1 in
    omega (
      arith,
      number_fits c.loop-byte.byte-index c.loop-byte.value
          (get_or c.args.digits.now c.loop-byte.byte-index 0)
          (omega arith) high c.loop-byte.invariant.small,
    )

pub loop-byte-preserved : goal.loop-byte-preserved
loop-byte-preserved c =
    let d =
    digit_at c.args.digits.now c.loop-byte.byte-index c.requires.digits c.loop-byte-test.true in
    record {
      value =
          number_more c.args.digits.now c.loop-byte.byte-index c.loop-byte.value
          c.loop-byte-test.true d.0 d.1 c.loop-byte.invariant.value;
      small =
          number_small c.loop-byte.byte-index c.loop-byte.value _ d.1 c.loop-byte.invariant.small;
    }
