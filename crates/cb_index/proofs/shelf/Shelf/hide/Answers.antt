use Rattle.std.proofs.Common.{◌≡◌, ◌∙◌, Bool, nat_eq, refl, sym, ap, subst, filter, length, arith}
use Rattle.std.proofs.lemmas.List.Filters.{length-filter_both}
use Rattle.std.specs.Prelude.{not}
use Rattle.cb_index.specs.Files.{call_count, def_count, use_count}
use Rattle.cb_index.specs.Shelved.{AreKept, AreTotals, Shelved}
use Rattle.cb_index.specs.declared.entry.Shown.{Shown}
use Rattle.cb_index.specs.steps.Moves.{LetsGo}
use Rattle.cb_index.proofs.CoverLemmas.{under_itself, under_named}
use Rattle.cb_index.proofs.IndexLemmas.{is_other, none_under}
use Rattle.cb_index.proofs.KeptLemmas.{kept_taken, rooms_stay}
use Rattle.cb_index.proofs.TotalLemmas.{total_over, totals_out}
use Rattle.cb_index.proofs.shelf.Shelf.hide.Goals as goal

-- what is shown under the name is in each index
pub take_from_each-requires : goal.take_from_each-requires
take_from_each-requires c =
    let x = c.self.inside in (
      x.shown.items,
      c.self.invariant.0.each,
      under_itself x.archive c.args.name x.shown.items c.in-Some.one
          (sym c.take_under.ensures.value ∙ c.in-Some.is),
    )

-- its facts are among those that are counted
pub without-self-inside-requires : goal.without-self-inside-requires
without-self-inside-requires c =
    let a = c.self.inside.archive in
    let under = sym c.take_under.ensures.value ∙ c.in-Some.is in
    let are = c.self.invariant.1 in
    record {
      defs =
          total_over def_count a c.args.name c.self.inside.shown.items c.in-Some.one _ under
          c.self.invariant.0.ascending are.defs;
      uses =
          total_over use_count a c.args.name c.self.inside.shown.items c.in-Some.one _ under
          c.self.invariant.0.ascending are.uses;
      calls =
          total_over call_count a c.args.name c.self.inside.shown.items c.in-Some.one _ under
          c.self.invariant.0.ascending are.calls;
    }

-- the indexes are those of what is still shown
pub invariant_of-self-2 : goal.invariant_of-self-2
invariant_of-self-2 c =
    let x = c.self.inside in
    let a = x.archive in
    let shown = x.shown.items in
    let under = sym c.take_under.ensures.value ∙ c.in-Some.is in
    let named = under_named a c.args.name shown c.in-Some.one under in
    let itself = under_itself a c.args.name shown c.in-Some.one under in
    let left = c.take_under.ensures.files in
    let less = c.without-self-inside.ensures in
    let within = c.self.invariant.2 in
    let other : Shown → Bool = λ s. not (nat_eq s.name c.args.name) in
    let fewer = length-filter_both other (λ s. not (other s)) (λ s. refl) shown in
    let count = ap length left in (
      kept_taken a shown c.take_under.new.self.items x.indexes c.take_from_each.new.indexes
          c.args.name c.in-Some.one left named itself
          c.take_from_each.ensures c.self.invariant.0,
      totals_out a c.args.name shown c.take_under.new.self.items c.in-Some.one x.totals
          c.without-self-inside.result under
          c.self.invariant.0.ascending left less.defs less.uses less.calls c.self.invariant.1,
      record {
        entries = omega (arith, within.entries, fewer, count);
        defs = omega (arith, less.defs, within.defs);
        uses = omega (arith, less.uses, within.uses);
        calls = omega (arith, less.calls, within.calls);
        listed = omega (arith, within.listed, c.take_under.ensures.room);
        each =
            rooms_stay (LetsGo a c.in-Some.one) (λ x y way. way.itself) x.room x.indexes
            c.take_from_each.new.indexes c.take_from_each.ensures within.each;
      },
    )

pub returns-clause-shown : goal.returns-clause-shown
returns-clause-shown c =
    let stays = is_other c.self.inside.archive c.args.name in
    c.take_under.ensures.files ∙ ap (λ (s : Shelved). filter stays s.shown) c.self.view_is

-- nothing was shown under the name
pub invariant_of-self : goal.invariant_of-self
invariant_of-self c =
    let x = c.self.inside in
    let under = sym c.take_under.ensures.value ∙ c.in-None.is in
    let same : c.take_under.new.self.items ≡ x.shown.items =
    c.take_under.ensures.files ∙ none_under x.archive c.args.name x.shown.items under in
    let within = c.self.invariant.2 in (
      subst (λ l. AreKept x.archive l x.indexes) (sym same) c.self.invariant.0,
      subst (λ l. AreTotals x.archive l x.totals) (sym same) c.self.invariant.1,
      record {
        entries = let count = ap length same in omega (arith, within.entries, count);
        defs = within.defs;
        uses = within.uses;
        calls = within.calls;
        listed = omega (arith, within.listed, c.take_under.ensures.room);
        each = within.each;
      },
    )

pub returns-in-None-clause-shown : goal.returns-in-None-clause-shown
returns-in-None-clause-shown c =
    c.take_under.ensures.files ∙ ap
    (λ (s : Shelved). filter (is_other c.self.inside.archive c.args.name) s.shown) c.self.view_is
