use Rattle.std.proofs.Common.{take}
use Rattle.std.specs.List.{flat_map}
use Rattle.cb_tags.specs.Writing.{PutsAll}
use Rattle.cb_tags.proofs.text.put_texts.Given as goal

abbrev pub invariant-loop-text : goal.invariant-loop-text
invariant-loop-text g l =
    PutsAll l.fn.out l.out (flat_map (λ text. text.now) (take l.text-index l.texts))
