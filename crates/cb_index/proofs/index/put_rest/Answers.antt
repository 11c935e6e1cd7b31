use Rattle.std.proofs.Common.{rules, ◌≡◌, ◌≤◌, ◌∙◌, [], ◌∷◌, ◌++◌, sym, ap, subst, length}
use Rattle.std.proofs.Common.{vec_capacity, arith}
use Rattle.std.proofs.lemmas.List.{length-append}
use Rattle.cb_scan.specs.Order.{in_order}
use Rattle.cb_index.specs.Blocks.{joined}
use Rattle.cb_index.specs.Entries.{sort_key}
use Rattle.cb_index.proofs.EntryLemmas.{sort_exact}
use Rattle.cb_index.proofs.PutLemmas.{again_in_order, order_turned, parts_length}
use Rattle.cb_index.proofs.PutLemmas.{put_next}
use Rattle.cb_index.specs.Kinds.{keyer_of}
use Rattle.cb_index.proofs.index.put_rest.Goals as goal

pub loop-one-preserved : goal.loop-one-preserved
loop-one-preserved c =
    let keyer = keyer_of c.args.kind in
    let a = c.args.archive.now in
    let key = sort_key keyer a in
    let held = joined c.loop-one.blocks.used in
    let news = c.pop.new.self.items in
    let one = c.in-Some.one in
    let items : c.loop-one.news.items ≡ news ++ one ∷ [] = search rules in
    let put = c.try_put.ensures.put (search rules) in
    let size = parts_length key (joined c.try_put.new.blocks.used) held (one ∷ []) put in
    let left = ap length items in
    let parts = length-append news (one ∷ []) in
    record {
      order =
          again_in_order key (sort_exact keyer a) (joined c.try_put.new.blocks.used)
          (held ++ one ∷ []) put;
      same =
          put_next key (sort_exact keyer a) held news
          (joined c.args.blocks.now.used ++ c.args.news.now.items)
          (joined c.try_put.new.blocks.used) one
          (ap (λ l. in_order key (held ++ l)) (sym items) ∙ c.loop-one.invariant.same) put;
      fits = (
        omega (arith, size, left, parts, c.loop-one.invariant.fits.0, c.pop.ensures.capacity),
        omega (arith, size, left, parts, c.loop-one.invariant.fits.1, c.try_put.ensures.count),
      );
      count = c.try_put.ensures.count ∙ c.loop-one.invariant.count;
      room =
          subst (λ n. vec_capacity c.args.news.now ≤ n) (sym c.pop.ensures.capacity)
          c.loop-one.invariant.room;
    }

pub lift-requires : goal.lift-requires
lift-requires c =
    let news : length c.push_reserved.new.self.items ≡ length c.loop-one.news.items = search rules in
    let held = ap (λ bs. length (joined bs)) (c.try_put.ensures.stays (search rules)) in
    let fits = c.loop-one.invariant.fits in
    omega (arith, news, held, fits.0, c.push_reserved.ensures.capacity, c.pop.ensures.capacity)

-- they are in order together with what was held
pub returns-then-not-try_put-clause-entries : goal.returns-then-not-try_put-clause-entries
returns-then-not-try_put-clause-entries c =
    let keyer = keyer_of c.args.kind in
    let a = c.args.archive.now in
    let key = sort_key keyer a in
    let news : c.push_reserved.new.self.items ≡ c.loop-one.news.items = search rules in
    let held = ap joined (c.try_put.ensures.stays (search rules)) in
    c.deal.ensures.items ∙ c.as_slice.ensures.value ∙ c.sort.ensures.items
    ∙ ap (in_order key) c.lift.ensures.items
    ∙ order_turned key (sort_exact keyer a) c.push_reserved.new.self.items
    (joined c.try_put.new.blocks.used)
    ∙ (λ i. in_order key (held i ++ news i)) ∙ c.loop-one.invariant.same
