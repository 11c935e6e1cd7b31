use Rattle.std.proofs.Common.{◌≡◌, ◌∙◌, ◌++◌, true, false, None, length, sym, ap, subst, arith}
use Rattle.std.specs.List.{AllByRecursion}
use Rattle.std.specs.Option.{option_to_list}
use Rattle.cb_scan.specs.declared.rules.directives.Stage.TheVariants.{Start}
use Rattle.cb_scan.specs.lex.Tokens.{is_significant}
use Rattle.cb_scan.specs.Profiles.{kept}
use Rattle.cb_scan.specs.steps.Cut.{pieces}
use Rattle.cb_scan.specs.steps.Directives.{code_out, include_out, is_code, macro_call_out}
use Rattle.cb_scan.specs.steps.Directives.{macro_out, no_range, nothing, range_finish, use_out}
use Rattle.cb_scan.specs.steps.Directives.{walk}
use Rattle.cb_scan.specs.steps.Lined.{Within}
use Rattle.cb_scan.specs.steps.Functions.{called, calls_from, closed, defs_from, found, ranges_from}
use Rattle.cb_scan.specs.declared.rules.structures.Naming.TheVariants.{Nothing}
use Rattle.cb_scan.specs.steps.Structures.{structure_found, structures_from}
use Rattle.cb_scan.specs.steps.Typedefs.{typedef_defs_from, typedefs_out}
use Rattle.cb_scan.proofs.CodeLines.{uses_are}
use Rattle.cb_scan.proofs.IncludeLines.{includes_are}
use Rattle.cb_scan.proofs.MacroLines.{macro_calls_are, macro_ranges_are, macros_are}
use Rattle.cb_scan.proofs.GatherLemmas.{appended, calls_found, code_off, code_on, kept_on, walk_on, functions_found}
use Rattle.cb_scan.proofs.GatherLemmas.{ranges_found, structures_found, typedefs_found}
use Rattle.cb_scan.proofs.scanner.standard.gather.Goals as goal

-- nothing is gathered yet, and all is still to come
pub loop-lined-init : goal.loop-lined-init
loop-lined-init c =
    let text = c.args.text.now in
    let source = c.into_iter-lined-iterator.ensures.into_iter_gives ∙ c.lined_pieces-lined-items.ensures.value in
    let bounds = c.lined_pieces-lined-items.ensures in
    let code = c.new-code.ensures in
    let lines = c.new-lines.ensures in
    let machine = c.start.ensures in
    record {
      functions_found = (λ i. code.functions i ++ defs_from (machine i) (walk code_out nothing text Start (source i)))
          ∙ functions_found text;
      ranges_found = (λ i. code.ranges i
          ++ ranges_from (length text) (machine i) (walk code_out nothing text Start (source i))) ∙ ranges_found text;
      calls_found = (λ i. code.calls i ++ calls_from (machine i) (walk code_out nothing text Start (source i)))
          ∙ calls_found text;
      typedefs_found = (λ i. code.typedefs i
          ++ typedef_defs_from (machine i) None (code.pending i) (walk code_out nothing text Start (source i)))
          ∙ typedefs_found text;
      structures_found = (λ i. code.structures i
          ++ structures_from Nothing (walk code_out nothing text Start (source i))) ∙ structures_found text;
      names_found = (λ i. lines.names i
          ++ kept c.args.uses (walk use_out nothing text Start (source i)))
          ∙ ap (kept c.args.uses) (uses_are text (pieces text));
      macros_found = (λ i. lines.macros i ++ walk macro_out nothing text Start (source i))
          ∙ macros_are text (pieces text);
      macro_ranges_found = (λ i. lines.ranges i ++ walk no_range range_finish text Start (source i))
          ∙ macro_ranges_are text (pieces text);
      macro_calls_found = (λ i. lines.calls i ++ walk macro_call_out nothing text Start (source i))
          ∙ macro_calls_are text (pieces text);
      includes_found = (λ i. lines.includes i ++ walk (include_out text) nothing text Start (source i))
          ∙ includes_are text (pieces text);
      within = subst (AllByRecursion (Within text))
          (sym c.into_iter-lined-iterator.ensures.into_iter_gives) bounds.within;
      room = omega (
        arith,
        bounds.len,
        ap length c.into_iter-lined-iterator.ensures.into_iter_gives,
        ap (λ m. m.depth) machine,
      );
      nested = omega (arith, bounds.len, ap length c.into_iter-lined-iterator.ensures.into_iter_gives);
    }

pub loop-lined-preserved-in-Continue-branch-2 : goal.loop-lined-preserved-in-Continue-branch-2
loop-lined-preserved-in-Continue-branch-2 c =
    let text = c.args.text.now in
    let so_far = c.loop-lined.invariant in
    let all_is = c.in-Some.ensures.steps in
    let is : is_significant c.in-Some.lined.piece.class ≡ true =
    sym c.is_significant.ensures ∙ c.if-is_significant.true in
    let token_is = c.token_of-token.ensures in
    let line_is = c.in_ok-add.ensures.line in
    let code_is : is_code c.add.new.line ≡ true = sym c.is_code.ensures ∙ c.if-is_code.true in
    let code = c.in_ok-add-2.ensures in
    let lines = c.in_ok-add.ensures in
    let on = code_on text c.loop-lined.line c.add.new.line c.token_of-token.result c.in-Some.lined
    c.loop-lined.lined-iterator c.next.new.self all_is is token_is line_is code_is in
    let rest = walk code_out nothing text c.add.new.line c.next.new.self in
    let m = c.loop-lined.state.machine in
    let t = c.token_of-token.result in
    record {
      functions_found = appended _ _ _ _ _ _ code.functions
          (ap (defs_from m) on ∙ ap (λ k. option_to_list (found m t) ++ defs_from k rest) (sym code.machine))
          so_far.functions_found;
      ranges_found = appended _ _ _ _ _ _ code.ranges
          (ap (ranges_from (length text) m) on
          ∙ ap (λ k. option_to_list (closed m t) ++ ranges_from (length text) k rest) (sym code.machine))
          so_far.ranges_found;
      calls_found = appended _ _ _ _ _ _ code.calls
          (ap (calls_from m) on ∙ ap (λ k. option_to_list (called m t) ++ calls_from k rest) (sym code.machine))
          so_far.calls_found;
      typedefs_found = appended _ _ _ _ _ _ code.typedefs
          (ap (typedef_defs_from m c.loop-lined.state.declared c.loop-lined.code.pending.items) on
          ∙ (λ i. typedefs_out m c.loop-lined.state.declared c.loop-lined.code.pending.items t
          ++ typedef_defs_from (sym code.machine i) (sym code.declared i) (sym code.pending i) rest))
          so_far.typedefs_found;
      structures_found = appended _ _ _ _ _ _ code.structures
          (ap (structures_from c.loop-lined.state.naming) on
          ∙ ap (λ n. option_to_list (structure_found c.loop-lined.state.naming t) ++ structures_from n rest)
          (sym code.naming))
          so_far.structures_found;
      names_found = appended _ _ _ _ _ _ lines.names
          (kept_on c.args.uses _ _ _
          (walk_on use_out nothing text _ _ _ _ _ _ all_is is token_is line_is)) so_far.names_found;
      macros_found = appended _ _ _ _ _ _ lines.macros
          (walk_on macro_out nothing text _ _ _ _ _ _ all_is is token_is line_is) so_far.macros_found;
      macro_ranges_found = ap (λ l. l ++ walk no_range range_finish text c.add.new.line c.next.new.self) lines.ranges
          ∙ ap (λ l. c.loop-lined.lines.ranges.items ++ l)
          (sym (walk_on no_range range_finish text _ _ _ _ _ _ all_is is token_is line_is)) ∙ so_far.macro_ranges_found;
      macro_calls_found = appended _ _ _ _ _ _ lines.calls
          (walk_on macro_call_out nothing text _ _ _ _ _ _ all_is is token_is line_is) so_far.macro_calls_found;
      includes_found = appended _ _ _ _ _ _ lines.includes
          (walk_on (include_out text) nothing text _ _ _ _ _ _ all_is is token_is line_is) so_far.includes_found;
      within = (subst (AllByRecursion (Within text)) all_is so_far.within).1;
      room = omega (arith, ap length all_is, code.deep, so_far.room);
      nested = omega (arith, ap length all_is, code.nested, so_far.nested);
    }

-- a token of a directive adds nothing to the code
pub loop-lined-preserved-else-is_code : goal.loop-lined-preserved-else-is_code
loop-lined-preserved-else-is_code c =
    let text = c.args.text.now in
    let so_far = c.loop-lined.invariant in
    let all_is = c.in-Some.ensures.steps in
    let is : is_significant c.in-Some.lined.piece.class ≡ true =
    sym c.is_significant.ensures ∙ c.if-is_significant.true in
    let token_is = c.token_of-token.ensures in
    let line_is = c.in_ok-add.ensures.line in
    let code_is : is_code c.add.new.line ≡ false = sym c.is_code.ensures ∙ c.if-is_code.false in
    let lines = c.in_ok-add.ensures in
    let off = sym (code_off text c.loop-lined.line c.add.new.line c.token_of-token.result c.in-Some.lined
    c.loop-lined.lined-iterator c.next.new.self all_is is token_is line_is code_is) in
    let code = c.loop-lined.code in
    let state = c.loop-lined.state in
    record {
      functions_found = ap (λ ts. code.functions.items ++ defs_from state.machine ts) off
          ∙ so_far.functions_found;
      ranges_found = ap (λ ts. code.ranges.items ++ ranges_from (length text) state.machine ts) off
          ∙ so_far.ranges_found;
      calls_found = ap (λ ts. code.calls.items ++ calls_from state.machine ts) off
          ∙ so_far.calls_found;
      typedefs_found = ap (λ ts. code.typedefs.items
          ++ typedef_defs_from state.machine state.declared code.pending.items ts) off
          ∙ so_far.typedefs_found;
      structures_found = ap (λ ts. code.structures.items ++ structures_from state.naming ts) off
          ∙ so_far.structures_found;
      names_found = appended _ _ _ _ _ _ lines.names
          (kept_on c.args.uses _ _ _
          (walk_on use_out nothing text _ _ _ _ _ _ all_is is token_is line_is)) so_far.names_found;
      macros_found = appended _ _ _ _ _ _ lines.macros
          (walk_on macro_out nothing text _ _ _ _ _ _ all_is is token_is line_is) so_far.macros_found;
      macro_ranges_found = ap (λ l. l ++ walk no_range range_finish text c.add.new.line c.next.new.self) lines.ranges
          ∙ ap (λ l. c.loop-lined.lines.ranges.items ++ l)
          (sym (walk_on no_range range_finish text _ _ _ _ _ _ all_is is token_is line_is)) ∙ so_far.macro_ranges_found;
      macro_calls_found = appended _ _ _ _ _ _ lines.calls
          (walk_on macro_call_out nothing text _ _ _ _ _ _ all_is is token_is line_is) so_far.macro_calls_found;
      includes_found = appended _ _ _ _ _ _ lines.includes
          (walk_on (include_out text) nothing text _ _ _ _ _ _ all_is is token_is line_is) so_far.includes_found;
      within = (subst (AllByRecursion (Within text)) all_is so_far.within).1;
      room = omega (arith, ap length all_is, so_far.room);
      nested = omega (arith, ap length all_is, so_far.nested);
    }
