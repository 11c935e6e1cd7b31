use Rattle.std.proofs.Common.{◌∙◌, ◌++◌, ap, arith, sym}
use Rattle.std.specs.Prelude.{slice_index_or}
use Rattle.cb_names.specs.OwnNames.{own_of}
use Rattle.cb_names.proofs.OwnLemmas.{flat_more, none_before}
use Rattle.cb_names.proofs.own.own_in.Goals as goal

pub loop-i-init : goal.loop-i-init
loop-i-init c = record {
  known = sym (none_before c.args.items.now);
  within = omega arith;
  found = c.new-found.ensures.items;
}

pub loop-i-preserved : goal.loop-i-preserved
loop-i-preserved c =
    let f = own_of c.args.text.now c.args.items.now c.args.name.now in
    let rs = c.args.ranges.now in
    let i = c.loop-i.i in
    record {
      known = c.before_from-count.ensures.value;
      within = c.before_from-count.ensures.within;
      found = c.in_ok-push_of.ensures
          ∙ ap (λ l. l ++ f (slice_index_or rs i (record { name = record { start = 0; end = 0 }; end = 0 })))
          c.loop-i.invariant.found
          ∙ sym (flat_more f rs i _ c.loop-i-test.true);
    }
