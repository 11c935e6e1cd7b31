use Rattle.std.proofs.Common.{◌≡◌, ◌∙◌, [], refl, sym, subst, length, arith}
use Rattle.cb_tags.specs.Addresses.{escape}
use Rattle.cb_tags.proofs.Escapes.{Owes, Owes-own, Owes-escaped, Owes-stopped, Owes-done}
use Rattle.cb_tags.proofs.Prefixes.{Puts-fault, PutsAll-none}
use Rattle.cb_tags.proofs.address.put_escaped.Goals as goal
use Rattle.cb_tags.proofs.address.put_escaped.Goals.{then-is_escaped+in_ok-put_texts}
use Rattle.cb_tags.proofs.address.put_escaped.Goals.{else-is_escaped}

pub returns-in_err-put_texts : goal.returns-in_err-put_texts
returns-in_err-put_texts g c =
    Puts-fault _ _ _ _ _ c.from_residual.ensures.1
    (Owes-stopped _ _ _ _ c.loop-i.start c.loop-i.i _ c.loop-i-test.true
    (sym c.is_escaped.ensures
    ∙ c.if-is_escaped.true) c.loop-i.invariant.written c.in_err-put_texts.ensures)

pub loop-i-init : goal.loop-i-init
unfolding escape
loop-i-init g c = record { within = omega arith; written = ([], PutsAll-none c.args.out.now, refl) }

pub loop-i-preserved : goal.loop-i-preserved
loop-i-preserved g c =
    let l = c.loop-i in
    elim c.if-is_escaped.branch [
      | then-is_escaped+in_ok-put_texts w ↦
          rw (w.out-is, w.start-is) record {
            within = omega arith;
            written = Owes-escaped _ _ _ _ l.start l.i _ l.invariant.within c.loop-i-test.true
                (sym c.is_escaped.ensures
                ∙ w.if-is_escaped.true) l.invariant.written w.in_ok-put_texts.ensures;
          }
      | else-is_escaped w ↦
          rw (w.out-is, w.start-is) record {
            within = omega (arith, l.invariant.within);
            written = Owes-own _ _ _ l.start l.i _ l.invariant.within c.loop-i-test.true
                (sym c.is_escaped.ensures ∙ w.if-is_escaped.false) l.invariant.written;
          }
    ]

pub returns : goal.returns
returns g c =
    let l = c.loop-i in
    let e : l.i ≡ length c.args.text.now = omega (arith, l.auto.i-end, c.loop-i-test.false) in
    Owes-done _ _ _ _ _ l.start (subst
    (λ i. Owes c.args.out.now l.out c.args.text.now l.start i) e l.invariant.written)
    c.put_text.ensures
