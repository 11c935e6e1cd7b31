use Rattle.std.proofs.Common.{arith, refl, subst, sym}
use Rattle.std.specs.Bool.{MatchBool}
use Rattle.std.specs.Str.{IsAscii, IsNotAscii}
use Rattle.json.specs.Print.{escape}
use Rattle.cb_tags.specs.Writing.{Puts}
use Rattle.cb_tags.proofs.Prefixes.{Puts-fault}
use Rattle.cb_wire.proofs.Readable.{ascii-reads, escape-step, written-all, written-fault}
use Rattle.cb_wire.proofs.Readable.{written-more, written-none}
use Rattle.cb_wire.proofs.part.put_source.Goals as goal

pub returns-in_err-put_json : goal.returns-in_err-put_json
returns-in_err-put_json g c =
    let s = c.sequence-size in
    let left = c.sequences.rest.now in
    Puts-fault _ _ _ _ _ c.from_residual.ensures.1
    (written-fault c.args.out.now c.sequences.out c.put_json-in-sequences.new.out left _ c.args.bytes.now
    s.result.0.now c.sequences.invariant
    (escape-step left _ s.result.0.now s.result.1 c.sequences-test.true s.ensures.text
    s.ensures.size refl) c.in_err-put_json.ensures)

pub sequences-init : goal.sequences-init
sequences-init g c = written-none c.args.out.now c.args.bytes.now

pub sequences-preserved : goal.sequences-preserved
sequences-preserved g c =
    let s = c.sequence-size in
    let left = c.sequences.rest.now in
    written-more c.args.out.now c.sequences.out c.put_json-in-sequences.new.out left c.split_at.result.1.now
    c.args.bytes.now s.result.0.now c.sequences.invariant
    (escape-step left c.split_at.result.1.now s.result.0.now s.result.1 c.sequences-test.true
    s.ensures.text s.ensures.size c.split_at.ensures.back) c.in_ok-put_json.ensures

pub returns : goal.returns
returns g c =
    written-all c.args.out.now c.sequences.out c.sequences.rest.now c.args.bytes.now
    (omega (arith, c.sequences-test.false)) c.sequences.invariant

pub returns-then-is_ascii : goal.returns-then-is_ascii
returns-then-is_ascii g c =
    let low : IsAscii c.args.bytes.now =
    subst (λ b. MatchBool b (IsAscii c.args.bytes.now) (IsNotAscii c.args.bytes.now))
    c.if-is_ascii.true c.is_ascii.ensures.cases in
    subst (λ t. Puts c.args.out.now c.put_json.new.out c.put_json.result (escape t))
    (sym (ascii-reads c.args.bytes.now low)) c.put_json.ensures
