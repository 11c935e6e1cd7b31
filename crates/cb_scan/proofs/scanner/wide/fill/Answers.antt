use Rattle.std.proofs.Common.{◌≡◌, ◌∙◌, ◌++◌, true, false, List, None, length, sym, ap, subst}
use Rattle.std.proofs.Common.{arith}
use Rattle.std.specs.List.{AllByRecursion}
use Rattle.std.proofs.lemmas.List.{append-nil}
use Rattle.std.specs.List.Sorted.{IsPermutation}
use Rattle.std.specs.Option.{option_to_list}
use Rattle.cb_scan.specs.declared.facts.Def.{Def}
use Rattle.cb_scan.specs.declared.rules.directives.Stage.TheVariants.{Start}
use Rattle.cb_scan.specs.lex.Tokens.{is_significant}
use Rattle.cb_scan.specs.Profiles.{kept}
use Rattle.cb_scan.specs.rules.Code.{is_newline}
use Rattle.cb_scan.specs.steps.Cut.{pieces}
use Rattle.cb_scan.specs.steps.Directives.{code_out, include_out, is_code, macro_call_out}
use Rattle.cb_scan.specs.steps.Directives.{macro_out, no_range, nothing, range_finish, use_out}
use Rattle.cb_scan.specs.steps.Directives.{walk}
use Rattle.cb_scan.specs.steps.Functions.{call_before}
use Rattle.cb_scan.specs.steps.Lined.{Within}
use Rattle.cb_scan.specs.steps.wide.Gathering.{declared_in}
use Rattle.cb_scan.specs.steps.wide.Lists.{Lists}
use Rattle.cb_scan.specs.steps.wide.Pass.{most_in}
use Rattle.cb_scan.specs.steps.wide.Reading.{held_len, most_left_out, reader_after, reader_start}
use Rattle.cb_scan.specs.steps.wide.Reading.{taken_after, the_taken}
use Rattle.cb_scan.proofs.CodeLines.{code_is, uses_are}
use Rattle.cb_scan.proofs.IncludeLines.{includes_are}
use Rattle.cb_scan.proofs.MacroLines.{macro_calls_are, macro_ranges_are, macros_are}
use Rattle.cb_scan.proofs.GatherLemmas.{appended, code_off, code_on, kept_on, walk_end, walk_on}
use Rattle.cb_scan.proofs.WideCallsRead.{callable_read, calls_read}
use Rattle.cb_scan.proofs.WideGathered.{beginning, calls_gathered, gathered_at_end}
use Rattle.cb_scan.proofs.WideWhole.{read_all}
use Rattle.cb_scan.proofs.scanner.wide.fill.Goals as goal

-- nothing is gathered yet, and all is still to come
pub loop-lined-init : goal.loop-lined-init
loop-lined-init c =
    let text = c.args.text.now in
    let source = c.into_iter-lined-iterator.ensures.into_iter_gives ∙ c.lined_pieces-lined-items.ensures.value in
    let bounds = c.lined_pieces-lined-items.ensures in
    let reader = c.new-reader.ensures in
    let pass = c.requires.start in
    let found = c.requires.found in
    let given = c.requires in
    record {
      read = (λ i. read_all text (reader i) (the_taken (pass i) (found i))
          (walk code_out nothing text Start (source i)))
          ∙ ap (read_all text reader_start beginning) (code_is text (pieces text));
      calls_found = (λ i. given.calls i ++ calls_read text (reader i) (the_taken (pass i) (found i)) None
          (walk code_out nothing text Start (source i)))
          ∙ ap (calls_read text reader_start beginning None) (code_is text (pieces text));
      names_found = (λ i. given.names i
          ++ kept c.args.uses (walk use_out nothing text Start (source i)))
          ∙ ap (kept c.args.uses) (uses_are text (pieces text));
      macros_found = (λ i. given.macros i ++ walk macro_out nothing text Start (source i))
          ∙ macros_are text (pieces text);
      macro_ranges_found = (λ i. given.macro_ranges i ++ walk no_range range_finish text Start (source i))
          ∙ macro_ranges_are text (pieces text);
      macro_calls_found = (λ i. given.macro_calls i ++ walk macro_call_out nothing text Start (source i))
          ∙ macro_calls_are text (pieces text);
      includes_found = (λ i. given.includes i ++ walk (include_out text) nothing text Start (source i))
          ∙ includes_are text (pieces text);
      within = subst (AllByRecursion (Within text))
          (sym c.into_iter-lined-iterator.ensures.into_iter_gives) bounds.within;
      room = omega (
        arith,
        bounds.len,
        ap length c.into_iter-lined-iterator.ensures.into_iter_gives,
        ap most_in pass,
        ap held_len reader,
      );
      left_out = omega (
        arith,
        bounds.len,
        ap length c.into_iter-lined-iterator.ensures.into_iter_gives,
        ap most_left_out reader,
      );
      raw = omega (arith, ap (λ r. length r.window.raw) reader);
      bare = omega (arith, ap (λ r. length r.window.bare) reader);
    }

pub loop-lined-preserved-then-is_code : goal.loop-lined-preserved-then-is_code
unfolding read_all calls_read
loop-lined-preserved-then-is_code c =
    let text = c.args.text.now in
    let so_far = c.loop-lined.invariant in
    let all_is = c.in-Some.ensures.steps in
    let is : is_significant c.in-Some.lined.piece.class ≡ true =
    sym c.is_significant.ensures ∙ c.if-is_significant.true in
    let token_is = c.token_of-token.ensures in
    let line_is = c.in_ok-add.ensures.line in
    let code_is : is_code c.add.new.line ≡ true = sym c.is_code.ensures ∙ c.if-is_code.true in
    let told = c.in_ok-push_some.ensures in
    let code = c.in_ok-add-2.ensures in
    let lines = c.in_ok-add.ensures in
    let on = code_on text c.loop-lined.line c.add.new.line c.token_of-token.result c.in-Some.lined
    c.loop-lined.lined-iterator c.next.new.self all_is is token_is line_is code_is in
    let rest = walk code_out nothing text c.add.new.line c.next.new.self in
    let r = c.loop-lined.reader in
    let t = the_taken c.loop-lined.pass c.loop-lined.made.found in
    let token = c.token_of-token.result in
    let here = option_to_list (call_before c.loop-lined.pass.body c.loop-lined.last token) in
    record {
      read = (λ i. read_all text (code.reader i) (code.taken i) rest)
          ∙ sym (ap (read_all text r t) on) ∙ so_far.read;
      calls_found = appended _ _ _ _ _ _ (told ∙ ap (λ o. c.loop-lined.made.calls.items ++ option_to_list o)
          (c.call_before.ensures ∙ (λ i. call_before (c.body.ensures i) c.loop-lined.last token)))
          (ap (calls_read text r t c.loop-lined.last) on
          ∙ ap (λ l. here ++ l)
          (sym (callable_read text (reader_after text r t token) (taken_after text r t token)
          token rest))
          ∙ (λ i. here ++ calls_read text (sym code.reader i) (sym code.taken i)
          (sym c.callable-last.ensures i) rest))
          so_far.calls_found;
      names_found = appended _ _ _ _ _ _ lines.names
          (kept_on c.args.uses _ _ _
          (walk_on use_out nothing text _ _ _ _ _ _ all_is is token_is line_is)) so_far.names_found;
      macros_found = appended _ _ _ _ _ _ lines.macros
          (walk_on macro_out nothing text _ _ _ _ _ _ all_is is token_is line_is) so_far.macros_found;
      macro_ranges_found = ap (λ l. l ++ walk no_range range_finish text c.add.new.line c.next.new.self) lines.ranges
          ∙ ap (λ l. c.loop-lined.made.lines.ranges.items ++ l)
          (sym (walk_on no_range range_finish text _ _ _ _ _ _ all_is is token_is line_is)) ∙ so_far.macro_ranges_found;
      macro_calls_found = appended _ _ _ _ _ _ lines.calls
          (walk_on macro_call_out nothing text _ _ _ _ _ _ all_is is token_is line_is) so_far.macro_calls_found;
      includes_found = appended _ _ _ _ _ _ lines.includes
          (walk_on (include_out text) nothing text _ _ _ _ _ _ all_is is token_is line_is) so_far.includes_found;
      within = (subst (AllByRecursion (Within text)) all_is so_far.within).1;
      room = omega (arith, ap length all_is, code.small, so_far.room);
      left_out = omega (arith, ap length all_is, code.left_out, so_far.left_out);
      raw = code.raw;
      bare = code.bare;
    }

-- a token of a directive
pub loop-lined-preserved-else-is_code : goal.loop-lined-preserved-else-is_code
loop-lined-preserved-else-is_code c =
    let text = c.args.text.now in
    let so_far = c.loop-lined.invariant in
    let all_is = c.in-Some.ensures.steps in
    let is : is_significant c.in-Some.lined.piece.class ≡ true =
    sym c.is_significant.ensures ∙ c.if-is_significant.true in
    let token_is = c.token_of-token.ensures in
    let line_is = c.in_ok-add.ensures.line in
    let code_is : is_code c.add.new.line ≡ false = sym c.is_code.ensures ∙ c.if-is_code.false in
    let lines = c.in_ok-add.ensures in
    let off = code_off text c.loop-lined.line c.add.new.line c.token_of-token.result c.in-Some.lined
    c.loop-lined.lined-iterator c.next.new.self all_is is token_is line_is code_is in
    let r = c.loop-lined.reader in
    let t = the_taken c.loop-lined.pass c.loop-lined.made.found in
    record {
      read = sym (ap (read_all text r t) off) ∙ so_far.read;
      calls_found = ap (λ ts. c.loop-lined.made.calls.items ++ calls_read text r t c.loop-lined.last ts) (sym off)
          ∙ so_far.calls_found;
      names_found = appended _ _ _ _ _ _ lines.names
          (kept_on c.args.uses _ _ _
          (walk_on use_out nothing text _ _ _ _ _ _ all_is is token_is line_is)) so_far.names_found;
      macros_found = appended _ _ _ _ _ _ lines.macros
          (walk_on macro_out nothing text _ _ _ _ _ _ all_is is token_is line_is) so_far.macros_found;
      macro_ranges_found = ap (λ l. l ++ walk no_range range_finish text c.add.new.line c.next.new.self) lines.ranges
          ∙ ap (λ l. c.loop-lined.made.lines.ranges.items ++ l)
          (sym (walk_on no_range range_finish text _ _ _ _ _ _ all_is is token_is line_is)) ∙ so_far.macro_ranges_found;
      macro_calls_found = appended _ _ _ _ _ _ lines.calls
          (walk_on macro_call_out nothing text _ _ _ _ _ _ all_is is token_is line_is) so_far.macro_calls_found;
      includes_found = appended _ _ _ _ _ _ lines.includes
          (walk_on (include_out text) nothing text _ _ _ _ _ _ all_is is token_is line_is) so_far.includes_found;
      within = (subst (AllByRecursion (Within text)) all_is so_far.within).1;
      room = omega (arith, ap length all_is, so_far.room);
      left_out = omega (arith, ap length all_is, so_far.left_out);
      raw = so_far.raw;
      bare = so_far.bare;
    }

-- the end of a line
pub loop-lined-preserved-then-is_newline : goal.loop-lined-preserved-then-is_newline
loop-lined-preserved-then-is_newline c =
    let text = c.args.text.now in
    let so_far = c.loop-lined.invariant in
    let all_is = c.in-Some.ensures.steps in
    let is : is_newline c.in-Some.lined.piece.class ≡ true =
    sym c.is_newline.ensures ∙ c.if-is_newline.true in
    let lines = c.in_ok-end.ensures in
    let same = lines.others in
    let s = c.loop-lined.line in
    let r = c.loop-lined.reader in
    let t = the_taken c.loop-lined.pass c.loop-lined.made.found in
    let rest = c.next.new.self in
    let off = walk_end code_out nothing text s c.in-Some.lined c.loop-lined.lined-iterator rest all_is is in
    record {
      read = sym (ap (read_all text r t) off) ∙ so_far.read;
      calls_found = ap (λ ts. c.loop-lined.made.calls.items ++ calls_read text r t c.loop-lined.last ts) (sym off)
          ∙ so_far.calls_found;
      names_found = ap (λ l. l.names.items ++ kept c.args.uses (walk use_out nothing text Start rest)) same
          ∙ ap (λ l. c.loop-lined.made.lines.names.items ++ kept c.args.uses l)
          (sym (walk_end use_out nothing text s _ _ rest all_is is)) ∙ so_far.names_found;
      macros_found = ap (λ l. l.macros.items ++ walk macro_out nothing text Start rest) same
          ∙ ap (λ l. c.loop-lined.made.lines.macros.items ++ l)
          (sym (walk_end macro_out nothing text s _ _ rest all_is is)) ∙ so_far.macros_found;
      macro_ranges_found = appended _ _ _ _ _ _ lines.ranges
          (walk_end no_range range_finish text s _ _ rest all_is is) so_far.macro_ranges_found;
      macro_calls_found = ap (λ l. l.calls.items ++ walk macro_call_out nothing text Start rest) same
          ∙ ap (λ l. c.loop-lined.made.lines.calls.items ++ l)
          (sym (walk_end macro_call_out nothing text s _ _ rest all_is is)) ∙ so_far.macro_calls_found;
      includes_found = ap (λ l. l.includes.items ++ walk (include_out text) nothing text Start rest) same
          ∙ ap (λ l. c.loop-lined.made.lines.includes.items ++ l)
          (sym (walk_end (include_out text) nothing text s _ _ rest all_is is)) ∙ so_far.includes_found;
      within = (subst (AllByRecursion (Within text)) all_is so_far.within).1;
      room = omega (arith, ap length all_is, so_far.room);
      left_out = omega (arith, ap length all_is, so_far.left_out);
      raw = so_far.raw;
      bare = so_far.bare;
    }

-- all of the code is read
pub returns-clause-functions : goal.returns-clause-functions
returns-clause-functions c =
    let whole = gathered_at_end c.args.text.now c.loop-lined.reader
    (the_taken c.loop-lined.pass c.loop-lined.made.found) (the_taken c.finish.new.pass c.finish.new.found)
    c.loop-lined.line c.loop-lined.lined-iterator c.in_ok-finish.ensures c.in-None.ensures.steps.0
    c.loop-lined.invariant.read in
    ap (λ (l : Lists). l.functions) c.in_ok-end_function.ensures ∙ whole.functions

pub returns-clause-ranges : goal.returns-clause-ranges
returns-clause-ranges c =
    let whole = gathered_at_end c.args.text.now c.loop-lined.reader
    (the_taken c.loop-lined.pass c.loop-lined.made.found) (the_taken c.finish.new.pass c.finish.new.found)
    c.loop-lined.line c.loop-lined.lined-iterator c.in_ok-finish.ensures c.in-None.ensures.steps.0
    c.loop-lined.invariant.read in
    ap (λ (l : Lists). l.ranges) c.in_ok-end_function.ensures
    ∙ ap (λ o. c.finish.new.found.ranges ++ option_to_list o) c.left_open.ensures ∙ whole.ranges

pub returns-clause-defs : goal.returns-clause-defs
returns-clause-defs c =
    let whole = gathered_at_end c.args.text.now c.loop-lined.reader
    (the_taken c.loop-lined.pass c.loop-lined.made.found) (the_taken c.finish.new.pass c.finish.new.found)
    c.loop-lined.line c.loop-lined.lined-iterator c.in_ok-finish.ensures c.in-None.ensures.steps.0
    c.loop-lined.invariant.read in
    subst (λ (ds : List Def). IsPermutation ds (declared_in c.args.text.now (pieces c.args.text.now)))
    (sym (ap (λ (l : Lists). l.defs) c.in_ok-end_function.ensures)) whole.defs

pub returns-clause-objects : goal.returns-clause-objects
returns-clause-objects c =
    let whole = gathered_at_end c.args.text.now c.loop-lined.reader
    (the_taken c.loop-lined.pass c.loop-lined.made.found) (the_taken c.finish.new.pass c.finish.new.found)
    c.loop-lined.line c.loop-lined.lined-iterator c.in_ok-finish.ensures c.in-None.ensures.steps.0
    c.loop-lined.invariant.read in
    ap (λ (l : Lists). l.objects) c.in_ok-end_function.ensures ∙ whole.objects

pub returns-clause-calls : goal.returns-clause-calls
unfolding calls_read
returns-clause-calls c =
    sym (append-nil c.loop-lined.made.calls.items)
    ∙ sym (ap (λ xs. c.loop-lined.made.calls.items
    ++ calls_read c.args.text.now c.loop-lined.reader
    (the_taken c.loop-lined.pass c.loop-lined.made.found) c.loop-lined.last
    (walk code_out nothing c.args.text.now c.loop-lined.line xs)) c.in-None.ensures.steps.0)
    ∙ c.loop-lined.invariant.calls_found
    ∙ calls_gathered c.args.text.now
