-- List by list: what is gathered and what is still to come are all.
use Rattle.std.proofs.Common.{◌≡◌, ◌+◌, ◌≤◌, ◌++◌, length, map}
use Rattle.std.specs.List.{AllByRecursion, flat_map}
use Rattle.cb_scan.specs.steps.Cut.{pieces}
use Rattle.cb_scan.specs.rules.Code.{code, directives, logical_lines}
use Rattle.cb_scan.specs.declared.source.TheConstants.{MOST_BYTES}
use Rattle.cb_scan.specs.Definitions.{function_def, macro_def, structure_def, typedef_def}
use Rattle.cb_scan.specs.Profiles.{kept}
use Rattle.cb_scan.specs.rules.Functions.{functions}
use Rattle.cb_scan.specs.rules.Macros.{macro_names, macros}
use Rattle.cb_scan.specs.rules.Scope.{function_ranges, macro_ranges}
use Rattle.cb_scan.specs.rules.Structures.{structures}
use Rattle.cb_scan.specs.rules.Typedefs.{typedefs}
use Rattle.cb_scan.specs.rules.Uses.{function_calls, include_of, macro_calls, used}
use Rattle.cb_scan.specs.steps.Directives.{code_out, include_out, macro_call_out, macro_out}
use Rattle.cb_scan.specs.steps.Directives.{no_range, nothing, range_finish, use_out, walk}
use Rattle.cb_scan.specs.steps.Lined.{Within}
use Rattle.cb_scan.specs.steps.Functions.{calls_from, defs_from, ranges_from}
use Rattle.cb_scan.specs.steps.Structures.{structures_from}
use Rattle.cb_scan.specs.steps.Typedefs.{nesting_of, typedef_defs_from}
use Rattle.cb_scan.proofs.scanner.standard.gather.Given as goal

abbrev pub invariant-loop-lined : goal.invariant-loop-lined
invariant-loop-lined l = record {
  functions_found : l.code.functions.items
      ++ defs_from l.state.machine (walk code_out nothing l.text l.line l.lined-iterator)
      ≡ map function_def (functions (code l.text (pieces l.text)));
  ranges_found : l.code.ranges.items
      ++ ranges_from (length l.text) l.state.machine (walk code_out nothing l.text l.line l.lined-iterator)
      ≡ function_ranges l.text (pieces l.text);
  calls_found : l.code.calls.items ++ calls_from l.state.machine (walk code_out nothing l.text l.line l.lined-iterator)
      ≡ function_calls (code l.text (pieces l.text));
  typedefs_found : l.code.typedefs.items
      ++ typedef_defs_from l.state.machine l.state.declared l.code.pending.items
      (walk code_out nothing l.text l.line l.lined-iterator) ≡ map typedef_def (typedefs (code l.text (pieces l.text)));
  structures_found : l.code.structures.items
      ++ structures_from l.state.naming (walk code_out nothing l.text l.line l.lined-iterator)
      ≡ map structure_def (structures (code l.text (pieces l.text)));
  names_found : l.lines.names.items
      ++ kept l.uses (walk use_out nothing l.text l.line l.lined-iterator)
      ≡ kept l.uses (flat_map used (logical_lines l.text (pieces l.text)));
  macros_found : l.lines.macros.items ++ walk macro_out nothing l.text l.line l.lined-iterator
      ≡ map macro_def (macro_names l.text (pieces l.text));
  macro_ranges_found : l.lines.ranges.items ++ walk no_range range_finish l.text l.line l.lined-iterator
      ≡ macro_ranges l.text (pieces l.text);
  macro_calls_found : l.lines.calls.items ++ walk macro_call_out nothing l.text l.line l.lined-iterator
      ≡ macro_calls (macros l.text (pieces l.text));
  includes_found : l.lines.includes.items ++ walk (include_out l.text) nothing l.text l.line l.lined-iterator
      ≡ flat_map (include_of l.text) (directives l.text (pieces l.text));
  within : AllByRecursion (Within l.text) l.lined-iterator;
  room : l.state.machine.depth + length l.lined-iterator ≤ MOST_BYTES;
  nested : nesting_of l.state.declared + length l.lined-iterator ≤ MOST_BYTES;
}
