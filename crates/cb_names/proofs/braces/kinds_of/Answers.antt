use Rattle.std.proofs.Common.{◌∙◌, refl}
use Rattle.cb_names.specs.Braces.{follows_keyword, kind_at}
use Rattle.cb_names.proofs.BraceLemmas.{keyword_more}
use Rattle.cb_names.proofs.TableLemmas.{none, push}
use Rattle.cb_names.proofs.braces.kinds_of.Goals as goal

pub loop-at-init : goal.loop-at-init
unfolding follows_keyword
loop-at-init c = record {
  kinds = none (kind_at c.args.items.now c.args.body) _ c.new-kinds.ensures.items;
  keyword = refl;
}

pub loop-at-preserved : goal.loop-at-preserved
loop-at-preserved c = record {
  kinds = push (kind_at c.args.items.now c.args.body) c.loop-at.at _ _ _ c.loop-at.invariant.kinds
      c.in_ok-push.ensures.items c.kind_at.ensures;
  keyword = c.keyword_after-keyword.ensures
      ∙ keyword_more c.args.items.now c.args.body c.loop-at.at _ c.loop-at.invariant.keyword;
}
