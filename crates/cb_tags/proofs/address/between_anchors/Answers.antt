use Rattle.std.proofs.Common.{[], ◌∷◌, Some}
use Rattle.std.proofs.lemmas.Bool.Decides.{Decides-eqb}
use Rattle.std.proofs.lemmas.Slice.Eq.{strip_prefix_is, strip_suffix_is}
use Rattle.cb_tags.proofs.Anchors.{between}
use Rattle.cb_tags.proofs.address.between_anchors.Goals as goal

pub returns : goal.returns
returns c =
    let front = strip_prefix_is Decides-eqb c.args.bytes.now (47 ∷ 94 ∷ [])
    (Some c.in_ok-strip_prefix.field-0) c.in_ok-strip_prefix.ensures.cases in
    between _ c.in_ok-strip_prefix.field-0.now c.strip_suffix.result front
    (strip_suffix_is Decides-eqb c.in_ok-strip_prefix.field-0.now
    (36 ∷ 47 ∷ []) c.strip_suffix.result c.strip_suffix.ensures.cases)
