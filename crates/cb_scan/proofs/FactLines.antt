-- Uses and calls are on the lines of their names.
use Rattle.std.proofs.Common.{◌≡◌, ℕ, true, List, [], ◌∷◌, ◌++◌, Option, map, refl, sym}
use Rattle.std.proofs.lemmas.Bool.{true≢false}
use Rattle.std.specs.List.{AllByRecursion, flat_map}
use Rattle.cb_scan.specs.declared.lex.piece.Span.{Span}
use Rattle.cb_scan.specs.declared.lex.token.Token.{Token}
use Rattle.cb_scan.specs.declared.profile.Profile.{Profile}
use Rattle.cb_scan.specs.lex.Pieces.{LiesIn}
use Rattle.cb_scan.specs.lex.Tokens.{is_name_token}
use Rattle.cb_scan.specs.Lines.{line_of}
use Rattle.cb_scan.specs.Order.{call_key, in_order}
use Rattle.cb_scan.specs.Profiles.{IsCallOnItsLine, IsUseOnItsLine, facts_in, functions_by}
use Rattle.cb_scan.specs.rules.Code.{code, directives, is_newline, logical_lines}
use Rattle.cb_scan.specs.rules.Functions.{Function}
use Rattle.cb_scan.specs.rules.Macros.{macros}
use Rattle.cb_scan.specs.rules.Scope.{scope_among}
use Rattle.cb_scan.specs.rules.Uses.{calls_in, macro_calls, use_of, used, uses_with}
use Rattle.cb_scan.specs.steps.Cut.{pieces}
use Rattle.cb_scan.proofs.CallLists.{calls_of_all, calls_of_lines}
use Rattle.cb_scan.proofs.FactsWithin.{all_in_order, all_kept}
use Rattle.cb_scan.proofs.FunctionsRise.{all_implied}
use Rattle.cb_scan.proofs.PieceLists.{pieces-lie}
use Rattle.cb_scan.proofs.Rising.{all-picked, only_directives, used_picks}
use Rattle.cb_scan.proofs.WithinLemmas.{all-append, all-joined, all-split, code-has, lines-have}

all_trivial : {X : Type 0} (xs : List X) → AllByRecursion (λ (x : X). Unit {0}) xs
all_trivial [] = tt
all_trivial (x ∷ xs) = (tt, all_trivial xs)

module _ (text : List ℕ) where
  -- a token is on the line of its first byte
  abbrev IsOnItsLine : Token → Type 0
  IsOnItsLine t = t.line ≡ line_of text t.span.start

  line_tokens : AllByRecursion IsOnItsLine (flat_map (λ l. l) (logical_lines text (pieces text)))
  line_tokens =
      all-joined IsOnItsLine (logical_lines text (pieces text))
      (lines-have text (LiesIn text) IsOnItsLine (λ p _. refl) _
      (all-split (LiesIn text) (λ p. is_newline p.class) (pieces text) (pieces-lie text)))

  code_tokens : AllByRecursion IsOnItsLine (code text (pieces text))
  code_tokens = code-has text (LiesIn text) IsOnItsLine (λ p _. refl) (pieces text) (pieces-lie text)

  -- the same of a token that is a name; a token that is not there is none
  abbrev IsNameOnItsLine : Token → Type 0
  IsNameOnItsLine t = is_name_token t.role ≡ true → IsOnItsLine t

  names_of : (ts : List Token) → AllByRecursion IsOnItsLine ts → AllByRecursion IsNameOnItsLine ts
  names_of = all_implied IsOnItsLine IsNameOnItsLine (λ t is _. is)

  made_uses : (scope : ℕ → Option Span) (ts : List Token) → AllByRecursion IsOnItsLine ts
      → AllByRecursion (IsUseOnItsLine text) (map (use_of scope) ts)
  made_uses scope [] a = tt
  made_uses scope (t ∷ ts) a = (a.0, made_uses scope ts a.1)

  module _ (fs : List Function) where
    uses_lined : AllByRecursion (IsUseOnItsLine text)
        (uses_with (scope_among text (pieces text) fs) text (pieces text))
    uses_lined =
        made_uses (scope_among text (pieces text) fs) (flat_map used (logical_lines text (pieces text)))
        (all-picked used used_picks IsOnItsLine (logical_lines text (pieces text)) line_tokens)

    calls_lined : AllByRecursion (IsCallOnItsLine text)
        (in_order call_key (calls_in (code text (pieces text)) fs ++ macro_calls (macros text (pieces text))))
    calls_lined =
        all_in_order call_key (IsCallOnItsLine text) _
        (all-append (IsCallOnItsLine text) _ _
        (calls_of_all IsNameOnItsLine (λ _. Unit {0}) (IsCallOnItsLine text) (λ t _. tt)
        (λ caller t _ is name. is name) (code text (pieces text)) fs (λ name. absurd (true≢false (sym name)))
        (all_trivial (map (λ (f : Function). f.name) fs)) (names_of (code text (pieces text)) code_tokens))
        (calls_of_lines IsNameOnItsLine (λ _. Unit {0}) (IsCallOnItsLine text) (λ t _. tt)
        (λ caller t _ is name. is name) (directives text (pieces text))
        (names_of _ (only_directives (logical_lines text (pieces text)) IsOnItsLine line_tokens))))

-- each use and each call is on the line of its name
pub uses_on_lines : (profile : Profile) (text : List ℕ)
    → AllByRecursion (IsUseOnItsLine text) (facts_in profile text).uses
uses_on_lines profile text =
    all_kept (IsUseOnItsLine text) profile.wanted.uses _
    (uses_lined text (functions_by profile.rules text (pieces text)))

pub calls_on_lines : (profile : Profile) (text : List ℕ)
    → AllByRecursion (IsCallOnItsLine text) (facts_in profile text).calls
calls_on_lines profile text =
    all_kept (IsCallOnItsLine text) profile.wanted.calls _
    (calls_lined text (functions_by profile.rules text (pieces text)))
