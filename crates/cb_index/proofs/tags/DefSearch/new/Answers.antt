use Rattle.cb_index.specs.steps.ShownIn.{shown_in}
use Rattle.cb_index.proofs.DefSearchLemmas.{goes_on}
use Rattle.cb_index.proofs.tags.DefSearch.new.Goals as goal

pub invariant_of-result : goal.invariant_of-result
invariant_of-result c = record {
  goes_on =
      goes_on c.args.by_tag_name c.args.archive.now c.args.asked (shown_in c.args.shown)
      c.requires.ascending;
  few = c.requires.few;
}
