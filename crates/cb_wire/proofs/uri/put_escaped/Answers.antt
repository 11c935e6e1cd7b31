use Rattle.std.proofs.Common.{◌∙◌, subst, sym}
use Rattle.cb_tags.specs.Writing.{Puts}
use Rattle.cb_tags.proofs.Prefixes.{Puts-fault, PutsAll-none, PutsAll-element, PutsPrefix-element}
use Rattle.cb_wire.specs.Uris.{escape_byte}
use Rattle.cb_wire.proofs.Unescaped.{same-path}
use Rattle.cb_wire.proofs.uri.put_escaped.Goals as goal

pub returns-in_err-put_escaped_byte : goal.returns-in_err-put_escaped_byte
returns-in_err-put_escaped_byte g c =
    Puts-fault _ _ _ _ _ c.from_residual.ensures.1
    (PutsPrefix-element escape_byte _ _ _ _ c.loop-byte.byte-index _ c.loop-byte-test.true
    c.loop-byte.invariant c.in_err-put_escaped_byte.ensures)

pub loop-byte-init : goal.loop-byte-init
loop-byte-init g c = PutsAll-none c.args.out.now

pub loop-byte-preserved : goal.loop-byte-preserved
loop-byte-preserved g c =
    PutsAll-element escape_byte _ _ _ _ c.loop-byte.byte-index _ c.loop-byte-test.true
    c.loop-byte.invariant c.in_ok-put_escaped_byte.ensures

pub returns-then-escapes-eq0 : goal.returns-then-escapes-eq0
returns-then-escapes-eq0 g c =
    subst (Puts c.args.out.now c.put_text.new.out c.put_text.result)
    (sym (same-path c.args.path.now (sym c.escapes.ensures.value ∙ c.if-escapes-eq0.true)))
    c.put_text.ensures
