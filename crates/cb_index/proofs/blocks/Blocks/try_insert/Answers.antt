use Rattle.std.proofs.Common.{rules, ◌∙◌, ◌<◌, ◌++◌, ◌∷◌, sym, ap, subst, length, take, drop}
use Rattle.cb_index.specs.Blocks.{IsPlace, Parted, before, joined}
use Rattle.cb_index.proofs.BlockLemmas.{put_changed}
use Rattle.cb_index.proofs.blocks.Blocks.try_insert.Goals as goal

pub returns-clause-put : goal.returns-clause-put
returns-clause-put t c = λ is.
    let k = c.args.place.block in
    let j = c.args.place.at in
    let low : k < length c.self.inside.used.items = search rules in
    put_changed c.self.inside.used.items k j low
    c.index_mut-block.result.now c.index_mut-block.ensures.value c.args.one c.insert.new.self
    (subst (λ (p : Parted _). IsPlace p.used k j) (sym c.self.view_is) c.requires).1
    c.insert.ensures
    ∙ ap (λ (p : Parted _). take (before p.used k j) (joined p.used) ++ c.args.one
    ∷ drop (before p.used k j) (joined p.used)) c.self.view_is
