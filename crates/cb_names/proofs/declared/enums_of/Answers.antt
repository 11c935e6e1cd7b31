use Rattle.std.proofs.Common.{◌∙◌, add-one, ap, refl, sym}
use Rattle.std.specs.Prelude.{◌&&◌, ◌||◌}
use Rattle.cb_names.specs.Braces.{is_name_at}
use Rattle.cb_names.specs.Pairs.{at}
use Rattle.cb_names.specs.Scoped.{follows_enum, is_enum}
use Rattle.cb_names.proofs.TableLemmas.{none, push}
use Rattle.cb_names.proofs.declared.enums_of.Goals as goal

pub loop-at-init : goal.loop-at-init
unfolding follows_enum
loop-at-init c = record {
  enums = none (follows_enum c.args.items.now) _ c.in_ok-enums.ensures.items;
  follows = refl;
}

pub loop-at-preserved : goal.loop-at-preserved
unfolding follows_enum
loop-at-preserved c =
    let xs = c.args.items.now in
    let k = c.loop-at.at in
    record {
      enums = push (follows_enum xs) k _ _ _ c.loop-at.invariant.enums c.in_ok-push.ensures.items c.loop-at.invariant.follows;
      follows = c.enum_after-follows.ensures
          ∙ ap (λ b. is_enum (at xs k).token.role || (is_name_at xs k && b)) c.loop-at.invariant.follows
          ∙ sym (ap (follows_enum xs) (add-one k));
    }
