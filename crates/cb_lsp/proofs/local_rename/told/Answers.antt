use Rattle.std.proofs.Common.{◌∙◌, ap, take}
use Rattle.std.proofs.lemmas.List.{take_min}
use Rattle.cb_wire.specs.declared.list.TheConstants.{MOST_ELEMENTS}
use Rattle.cb_lsp.proofs.local_rename.told.Goals as goal

pub returns : goal.returns
returns c = ap (λ n. take n c.args.uses.now) c.min.ensures ∙ take_min MOST_ELEMENTS c.args.uses.now
