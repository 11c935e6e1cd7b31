-- What is read and what is still to come are all, and list by list so for the lines.
use Rattle.std.proofs.Common.{◌≡◌, ◌+◌, ◌<◌, ◌≤◌, ◌++◌, None, length, map}
use Rattle.std.specs.List.{AllByRecursion, flat_map}
use Rattle.cb_scan.specs.steps.Cut.{pieces}
use Rattle.cb_scan.specs.rules.Code.{code, directives, logical_lines}
use Rattle.cb_scan.specs.declared.rules.wide.reader.TheConstants.{FULL}
use Rattle.cb_scan.specs.declared.source.TheConstants.{MOST_BYTES}
use Rattle.cb_scan.specs.Definitions.{macro_def}
use Rattle.cb_scan.specs.Profiles.{kept}
use Rattle.cb_scan.specs.rules.Macros.{macro_names, macros}
use Rattle.cb_scan.specs.rules.Scope.{macro_ranges}
use Rattle.cb_scan.specs.rules.Uses.{include_of, macro_calls, used}
use Rattle.cb_scan.specs.steps.Directives.{code_out, include_out, macro_call_out, macro_out}
use Rattle.cb_scan.specs.steps.Directives.{no_range, nothing, range_finish, use_out, walk}
use Rattle.cb_scan.specs.steps.Lined.{Within}
use Rattle.cb_scan.specs.steps.wide.Pass.{most_in}
use Rattle.cb_scan.specs.steps.wide.Reading.{held_len, most_left_out, reader_start, the_taken}
use Rattle.cb_scan.proofs.WideCallsRead.{calls_read}
use Rattle.cb_scan.proofs.WideGathered.{beginning}
use Rattle.cb_scan.proofs.WideWhole.{read_all}
use Rattle.cb_scan.proofs.scanner.wide.fill.Given as goal

abbrev pub invariant-loop-lined : goal.invariant-loop-lined
invariant-loop-lined l = record {
  read : read_all l.text l.reader (the_taken l.pass l.made.found)
      (walk code_out nothing l.text l.line l.lined-iterator)
      ≡ read_all l.text reader_start beginning (code l.text (pieces l.text));
  calls_found : l.made.calls.items
      ++ calls_read l.text l.reader (the_taken l.pass l.made.found) l.last
      (walk code_out nothing l.text l.line l.lined-iterator)
      ≡ calls_read l.text reader_start beginning None (code l.text (pieces l.text));
  names_found : l.made.lines.names.items
      ++ kept l.uses (walk use_out nothing l.text l.line l.lined-iterator)
      ≡ kept l.uses (flat_map used (logical_lines l.text (pieces l.text)));
  macros_found : l.made.lines.macros.items ++ walk macro_out nothing l.text l.line l.lined-iterator
      ≡ map macro_def (macro_names l.text (pieces l.text));
  macro_ranges_found : l.made.lines.ranges.items ++ walk no_range range_finish l.text l.line l.lined-iterator
      ≡ macro_ranges l.text (pieces l.text);
  macro_calls_found : l.made.lines.calls.items ++ walk macro_call_out nothing l.text l.line l.lined-iterator
      ≡ macro_calls (macros l.text (pieces l.text));
  includes_found : l.made.lines.includes.items ++ walk (include_out l.text) nothing l.text l.line l.lined-iterator
      ≡ flat_map (include_of l.text) (directives l.text (pieces l.text));
  within : AllByRecursion (Within l.text) l.lined-iterator;
  room : most_in l.pass + held_len l.reader + length l.lined-iterator ≤ MOST_BYTES;
  left_out : most_left_out l.reader + length l.lined-iterator ≤ MOST_BYTES;
  raw : length l.reader.window.raw ≤ 2;
  bare : length l.reader.window.bare < FULL;
}
