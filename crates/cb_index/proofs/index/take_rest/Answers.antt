use Rattle.std.proofs.Common.{rules, ◌≡◌, ◌∙◌, [], ◌∷◌, ◌++◌, ap}
use Rattle.cb_scan.specs.Order.{in_order}
use Rattle.cb_index.specs.Entries.{sort_key}
use Rattle.cb_index.proofs.EntryLemmas.{sort_exact}
use Rattle.cb_index.proofs.PutLemmas.{take_next}
use Rattle.cb_index.specs.Kinds.{keyer_of}
use Rattle.cb_index.proofs.index.take_rest.Goals as goal

pub take_one-requires : goal.take_one-requires
take_one-requires c =
    let keyer = keyer_of c.args.kind in
    let a = c.args.archive.now in
    let key = sort_key keyer a in
    let gone = c.pop.new.self.items in
    let items : c.loop-one.gone.items ≡ gone ++ c.in-Some.one ∷ [] = search rules in (
      gone ++ c.requires.0,
      c.loop-one.invariant.left c.requires.0 c.requires.1
          ∙ ap (λ l. in_order key (l ++ c.requires.0)) items
          ∙ take_next key (sort_exact keyer a) gone c.requires.0 c.in-Some.one,
    )

pub loop-one-preserved : goal.loop-one-preserved
loop-one-preserved c =
    let keyer = keyer_of c.args.kind in
    let a = c.args.archive.now in
    let key = sort_key keyer a in
    let gone = c.pop.new.self.items in
    let items : c.loop-one.gone.items ≡ gone ++ c.in-Some.one ∷ [] = search rules in
    record {
      left = λ rest is. c.take_one.ensures.taken (gone ++ rest)
          (c.loop-one.invariant.left rest is ∙ ap (λ l. in_order key (l ++ rest)) items
          ∙ take_next key (sort_exact keyer a) gone rest c.in-Some.one);
      count = c.take_one.ensures.count ∙ c.loop-one.invariant.count;
      room = c.pop.ensures.capacity ∙ c.loop-one.invariant.room;
    }
