use Rattle.bstr.proofs.lemmas.PieceLemmas.{piece-bounds}
use Rattle.cb_wire.proofs.part.sequence.Goals as goal

pub split_at-requires : goal.split_at-requires
split_at-requires c = rw c.decode.ensures.size (piece-bounds c.args.bytes.now c.requires).2

pub returns-in-Some-default-clause-within : goal.returns-in-Some-default-clause-within
returns-in-Some-default-clause-within c =
    let bounds = piece-bounds c.args.bytes.now c.requires in
    rw c.decode.ensures.size (bounds.0, bounds.2)
