use Rattle.std.proofs.Common.{◌∙◌, Bool, ap, filter, length, arith}
use Rattle.std.proofs.lemmas.List.Sums.{count_by-le-length, length-filter}
use Rattle.std.specs.Prelude.{not}
use Rattle.cb_index.specs.Files.{call_count, def_count, total, use_count}
use Rattle.cb_index.specs.Names.{is_among, names_of}
use Rattle.cb_index.specs.Shelved.{Shelved}
use Rattle.cb_index.specs.declared.entry.Shown.{Shown}
use Rattle.cb_index.specs.steps.Moves.{LetsGoAll}
use Rattle.cb_index.proofs.KeptLemmas.{kept_hidden, rooms_stay}
use Rattle.cb_index.proofs.TotalLemmas.{total_left}
use Rattle.cb_index.proofs.shelf.Shelf.pass_over.Goals as goal

-- what is still shown has no more facts
pub of_fewer-self-inside-requires : goal.of_fewer-self-inside-requires
of_fewer-self-inside-requires c =
    let a = c.self.inside.archive in
    let stays : Shown → Bool = λ s. not (is_among (names_of c.args.files.now) s.name) in
    let is = c.files.ensures ∙ c.take_names.ensures.items in
    let are = c.self.invariant.1 in
    record {
      defs = total_left def_count a stays c.self.inside.shown.items _ _ is are.defs;
      uses = total_left use_count a stays c.self.inside.shown.items _ _ is are.uses;
      calls = total_left call_count a stays c.self.inside.shown.items _ _ is are.calls;
    }

-- the indexes are those of what is still shown
pub invariant_of-self : goal.invariant_of-self
invariant_of-self c =
    let x = c.self.inside in
    let a = x.archive in
    let shown = x.shown.items in
    let names = names_of c.args.files.now in
    let stays : Shown → Bool = λ s. not (is_among names s.name) in
    let left = c.take_names.ensures.items in
    let are = c.self.invariant.1 in
    let within = c.self.invariant.2 in
    let now = c.of_fewer-self-inside.ensures in
    let is = c.files.ensures ∙ left in
    let defs = total_left def_count a stays shown _ _ is are.defs in
    let uses = total_left use_count a stays shown _ _ is are.uses in
    let calls = total_left call_count a stays shown _ _ is are.calls in
    let counted = length-filter stays shown in
    let fewer = count_by-le-length stays shown in
    let count = ap length left in (
      kept_hidden a shown c.take_names.new.self.items x.indexes c.take_names_from_each.new.indexes
          names left c.take_names_from_each.ensures c.self.invariant.0,
      record {
        defs = now.defs ∙ ap (total def_count a) c.files.ensures;
        uses = now.uses ∙ ap (total use_count a) c.files.ensures;
        calls = now.calls ∙ ap (total call_count a) c.files.ensures;
      },
      record {
        entries = omega (arith, within.entries, counted, fewer, count);
        defs = omega (arith, now.defs, defs, within.defs);
        uses = omega (arith, now.uses, uses, within.uses);
        calls = omega (arith, now.calls, calls, within.calls);
        listed = omega (arith, within.listed, c.take_names.ensures.room);
        each =
            rooms_stay (LetsGoAll names) (λ x y way. way.itself) x.room x.indexes
            c.take_names_from_each.new.indexes c.take_names_from_each.ensures within.each;
      },
    )

pub returns-clause-shown : goal.returns-clause-shown
returns-clause-shown c =
    let stays : Shown → Bool = λ s. not (is_among (names_of c.args.files.now) s.name) in
    c.take_names.ensures.items ∙ ap (λ (s : Shelved). filter stays s.shown) c.self.view_is
