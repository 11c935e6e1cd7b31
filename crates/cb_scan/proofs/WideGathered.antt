-- What is read of the code is what the rules of the wide profile find in it.
use Rattle.std.proofs.Common.{◌≡◌, ◌∙◌, ℕ, List, [], ◌++◌, None, sym, ap, length, map}
use Rattle.std.proofs.Common.{subst}
use Rattle.std.specs.List.Sorted.{IsPermutation}
use Rattle.std.specs.Option.{option_map, option_to_list}
use Rattle.cb_scan.specs.declared.lex.lined.Lined.{Lined}
use Rattle.cb_scan.specs.declared.lex.token.Token.{Token}
use Rattle.cb_scan.specs.declared.rules.directives.Stage.{Stage}
use Rattle.cb_scan.specs.declared.rules.wide.reader.Reader.{Reader}
use Rattle.cb_scan.specs.declared.rules.wide.token.WideToken.{WideToken}
use Rattle.cb_scan.specs.rules.Code.{code}
use Rattle.cb_scan.specs.rules.Scope.{ranges_of}
use Rattle.cb_scan.specs.rules.Uses.{calls_in}
use Rattle.cb_scan.specs.rules.wide.Attributes.{without_attributes}
use Rattle.cb_scan.specs.rules.wide.Bodies.{Body, bodies}
use Rattle.cb_scan.specs.rules.wide.Kinds.{bare_tokens, functions_of, wide_function_def}
use Rattle.cb_scan.specs.rules.wide.Levels.{wide_tokens}
use Rattle.cb_scan.specs.steps.Cut.{pieces}
use Rattle.cb_scan.specs.steps.Directives.{code_out, nothing, walk}
use Rattle.cb_scan.specs.steps.Functions.{range_to}
use Rattle.cb_scan.specs.steps.wide.Gathering.{declared_in, objects_in}
use Rattle.cb_scan.specs.steps.wide.Lists.{Lists}
use Rattle.cb_scan.specs.steps.wide.Pass.{Taken, pass_start, take_all}
use Rattle.cb_scan.specs.steps.wide.Reading.{reader_start, taken_at_end, the_taken}
use Rattle.cb_scan.proofs.Rising.{code_rises}
use Rattle.cb_scan.proofs.WideBodies.{Opens, opens_of_all}
use Rattle.cb_scan.proofs.WideCallsRead.{calls_read, calls_read_are}
use Rattle.cb_scan.proofs.WideDefs.{defs_of_all, objects_of_all}
use Rattle.cb_scan.proofs.WidePass.{pass_functions, pass_ranges}
use Rattle.cb_scan.proofs.WideRise.{read_of_bare, rise_of_bare}
use Rattle.cb_scan.proofs.WideStack.{Rise}
use Rattle.cb_scan.proofs.WideWhole.{read_all, whole_is}

-- nothing is found yet
abbrev pub no_lists : Lists
no_lists = record { functions = []; ranges = []; defs = []; objects = [] }

abbrev pub beginning : Taken
beginning = the_taken pass_start no_lists

-- what is found when all of the code is read
pub record IsGathered (text : List ℕ) (t : Taken) : Type 0 where
  pub functions : t.lists.functions ≡ map wide_function_def (functions_of text (pieces text))
  pub ranges : t.lists.ranges ++ option_to_list (option_map (range_to (length text)) t.pass.body)
      ≡ ranges_of text (pieces text) (functions_of text (pieces text))
  pub defs : IsPermutation t.lists.defs (declared_in text (pieces text))
  pub objects : t.lists.objects ≡ objects_in text (pieces text)

module _ (text : List ℕ) where
  abbrev ts : List Token
  ts = code text (pieces text)

  abbrev bare : List WideToken
  bare = without_attributes (wide_tokens text ts)

  abbrev bs : List Body
  bs = bodies (bare_tokens text ts)

  rise : Rise 0 bare
  rise = rise_of_bare text ts (code_rises text)

  opens : Opens bs None bare
  opens = opens_of_all bare rise

  gathered_by_pass : IsGathered text (take_all beginning bare)
  gathered_by_pass = record {
    functions = pass_functions text ts bs no_lists opens;
    ranges = pass_ranges text ts bs no_lists opens;
    defs = defs_of_all bare rise (read_of_bare text ts);
    objects = objects_of_all bare rise (read_of_bare text ts);
  }

  pub gathered_is : IsGathered text (read_all text reader_start beginning ts)
  gathered_is =
      let same = whole_is text ts no_lists in
      let lists_are = same.lists_are in
      record {
        functions = ap (λ (l : Lists). l.functions) lists_are ∙ gathered_by_pass.functions;
        ranges =
            (λ i. (lists_are i).ranges
            ++ option_to_list (option_map (range_to (length text)) (same.body_is i)))
            ∙ gathered_by_pass.ranges;
        defs = subst (λ (l : Lists). IsPermutation l.defs (declared_in text (pieces text)))
            (sym lists_are) gathered_by_pass.defs;
        objects = ap (λ (l : Lists). l.objects) lists_are ∙ gathered_by_pass.objects;
      }

  pub calls_gathered : calls_read text reader_start beginning None ts
      ≡ calls_in ts (functions_of text (pieces text))
  calls_gathered = calls_read_are bs text ts no_lists opens

  -- the same at the end of the pieces
  pub gathered_at_end : (r : Reader) (t u : Taken) (s : Stage) (xs : List Lined)
      → u ≡ taken_at_end r t → xs ≡ []
      → read_all text r t (walk code_out nothing text s xs) ≡ read_all text reader_start beginning ts
      → IsGathered text u
  unfolding read_all
  gathered_at_end r t u s xs u_is none all_is =
      subst (IsGathered text)
      (sym (u_is ∙ sym (ap (λ l. read_all text r t (walk code_out nothing text s l)) none) ∙ all_is))
      gathered_is
