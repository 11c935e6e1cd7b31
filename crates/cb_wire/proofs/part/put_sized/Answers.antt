use Rattle.std.proofs.Common.{◌∙◌, subst, sym}
use Rattle.cb_tags.specs.Writing.{Puts}
use Rattle.cb_tags.proofs.Prefixes.{Puts-fault, PutsAll-none, PutsAll-element, PutsPrefix-element}
use Rattle.json.specs.Print.{escape_byte}
use Rattle.cb_wire.proofs.Unescaped.{same-json}
use Rattle.cb_wire.proofs.part.put_sized.Goals as goal

pub returns-in_err-put_byte : goal.returns-in_err-put_byte
returns-in_err-put_byte g c =
    Puts-fault _ _ _ _ _ c.from_residual.ensures.1
    (PutsPrefix-element escape_byte _ _ _ _ c.loop-byte.byte-index _ c.loop-byte-test.true
    c.loop-byte.invariant c.in_err-put_byte.ensures)

pub loop-byte-init : goal.loop-byte-init
loop-byte-init g c = PutsAll-none c.args.out.now

pub loop-byte-preserved : goal.loop-byte-preserved
loop-byte-preserved g c =
    PutsAll-element escape_byte _ _ _ _ c.loop-byte.byte-index _ c.loop-byte-test.true
    c.loop-byte.invariant c.in_ok-put_byte.ensures

pub returns-then-size-text : goal.returns-then-size-text
returns-then-size-text g c =
    subst (Puts c.args.out.now c.put_text.new.out c.put_text.result)
    (sym (same-json c.args.text.now (sym c.requires ∙ c.if-size-text.true))) c.put_text.ensures
