use Rattle.std.proofs.Common.{◌∙◌, arith, ap, length, length-append, subst, sym}
use Rattle.std.specs.Bool.{MatchBool}
use Rattle.std.specs.Str.{IsAscii, IsNotAscii}
use Rattle.json.specs.Print.{escape}
use Rattle.cb_wire.specs.Texts.{readable}
use Rattle.cb_wire.proofs.Readable.{ascii-reads, escape-step, readable-nil}
use Rattle.cb_wire.proofs.part.source_length.Goals as goal

pub sequences-preserved : goal.sequences-preserved
sequences-preserved c =
    let s = c.sequence-size in
    let left = c.sequences.rest.now in
    let step =
    escape-step left c.split_at.result.1.now s.result.0.now s.result.1 c.sequences-test.true
    s.ensures.text s.ensures.size c.split_at.ensures.back in
    record {
      value =
          omega (
            arith,
            c.sequences.invariant.value,
            ap length step,
            length-append (escape s.result.0.now) (escape (readable c.split_at.result.1.now)),
            c.json_length-total.ensures.value,
          );
      few =
          omega (
            arith,
            c.sequences.invariant.few,
            c.json_length-total.ensures.few,
            s.ensures.few,
            s.ensures.within,
            c.split_at.ensures.back_len,
          );
    }

pub returns-clause-value : goal.returns-clause-value
returns-clause-value c =
    let left = c.sequences.rest.now in
    omega (
      arith,
      c.sequences.invariant.value,
      ap (λ l. length (escape l)) (readable-nil left (omega (arith, c.sequences-test.false))),
    )

pub returns-then-is_ascii-clause-value : goal.returns-then-is_ascii-clause-value
returns-then-is_ascii-clause-value c =
    let low : IsAscii c.args.bytes.now =
    subst (λ b. MatchBool b (IsAscii c.args.bytes.now) (IsNotAscii c.args.bytes.now))
    c.if-is_ascii.true c.is_ascii.ensures.cases in
    c.json_length.ensures.value
    ∙ ap (λ t. length (escape t)) (sym (ascii-reads c.args.bytes.now low))
