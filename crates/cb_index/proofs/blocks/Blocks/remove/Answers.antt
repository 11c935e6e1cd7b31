use Rattle.std.proofs.Common.{◌∙◌, ◌<◌, ◌++◌, [], suc, sym, ap, subst, length, take, drop, get_or}
use Rattle.std.proofs.lemmas.Bool.Decides.{Decides-eqb}
use Rattle.cb_index.specs.Blocks.{Parted, before, joined}
use Rattle.cb_index.proofs.BlockLemmas.{emptied_changed, nil_of, taken_changed}
use Rattle.cb_index.proofs.blocks.Blocks.remove.Goals as goal

pub returns-then-emptied-clause-taken : goal.returns-then-emptied-clause-taken
returns-then-emptied-clause-taken t c =
    let k = c.args.place.block in
    let j = c.args.place.at in
    ap joined c.remove-block.ensures.items
    ∙ emptied_changed c.self.inside.used.items k j
    (subst (λ (p : Parted _). k < length p.used) (sym c.self.view_is) c.requires.block)
    c.index_mut-block.result.now c.index_mut-block.ensures.value c.remove.new.self
    (subst (λ (p : Parted _). j < length (get_or p.used k [])) (sym c.self.view_is) c.requires.at)
    c.remove.ensures
    (sym c.items.ensures.value
    ∙ nil_of c.items.result.now ((Decides-eqb (length c.items.result.now) 0).0
    (sym c.is_empty-emptied.ensures ∙ c.if-emptied.true)))
    ∙ ap (λ (p : Parted _). take (before p.used k j) (joined p.used)
    ++ drop (suc (before p.used k j)) (joined p.used)) c.self.view_is

pub returns-else-emptied-clause-taken : goal.returns-else-emptied-clause-taken
returns-else-emptied-clause-taken t c =
    let k = c.args.place.block in
    let j = c.args.place.at in
    taken_changed c.self.inside.used.items k j
    (subst (λ (p : Parted _). k < length p.used) (sym c.self.view_is) c.requires.block)
    c.index_mut-block.result.now c.index_mut-block.ensures.value c.remove.new.self
    (subst (λ (p : Parted _). j < length (get_or p.used k [])) (sym c.self.view_is) c.requires.at)
    c.remove.ensures
    ∙ ap (λ (p : Parted _). take (before p.used k j) (joined p.used)
    ++ drop (suc (before p.used k j)) (joined p.used)) c.self.view_is
