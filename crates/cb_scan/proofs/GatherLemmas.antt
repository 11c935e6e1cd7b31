-- From the first piece on the pass gathers what the definitions say, list by list.
use Rattle.std.proofs.Common.{◌≡◌, ◌∙◌, ℕ, Bool, true, false, List, [], ◌∷◌, ◌++◌, None, length, map, ap}
use Rattle.std.proofs.Common.{sym, refl, append_assoc}
use Rattle.std.proofs.lemmas.Bool.{false≢true}
use Rattle.std.specs.Prelude.{cond}
use Rattle.cb_scan.specs.declared.rules.directives.Stage.{Stage}
use Rattle.cb_scan.specs.declared.rules.directives.Stage.TheVariants.{Start}
use Rattle.cb_scan.specs.declared.lex.lined.Lined.{Lined}
use Rattle.cb_scan.specs.declared.lex.piece.Class.{Class}
use Rattle.cb_scan.specs.declared.lex.piece.Class.TheVariants.{Name, Number, Str, Chr, LineNote}
use Rattle.cb_scan.specs.declared.lex.piece.Class.TheVariants.{BlockNote, Blank, Newline, Byte}
use Rattle.cb_scan.specs.declared.lex.token.Token.{Token}
use Rattle.cb_scan.specs.rules.Code.{code, is_newline}
use Rattle.cb_scan.specs.Definitions.{function_def, structure_def, typedef_def}
use Rattle.cb_scan.specs.Profiles.{kept}
use Rattle.cb_scan.specs.rules.Functions.{functions}
use Rattle.cb_scan.specs.rules.Scope.{function_ranges}
use Rattle.cb_scan.specs.rules.Structures.{structures}
use Rattle.cb_scan.specs.rules.Typedefs.{typedefs}
use Rattle.cb_scan.specs.rules.Uses.{function_calls}
use Rattle.cb_scan.specs.steps.Cut.{pieces}
use Rattle.cb_scan.specs.steps.Directives.{code_out, is_code, lined_token, next_stage, nothing, walk}
use Rattle.cb_scan.specs.lex.Tokens.{is_significant}
use Rattle.cb_scan.specs.steps.Lined.{lined}
use Rattle.cb_scan.specs.steps.Functions.{calls_from, defs_from, ranges_from, start}
use Rattle.cb_scan.specs.declared.rules.structures.Naming.TheVariants.{Nothing}
use Rattle.cb_scan.specs.steps.Structures.{structures_from}
use Rattle.cb_scan.specs.steps.Typedefs.{typedef_defs_from}
use Rattle.cb_scan.proofs.BodyLemmas.{calls_from_start, ranges_from_start}
use Rattle.cb_scan.proofs.CodeLines.{code_is}
use Rattle.cb_scan.proofs.FunctionLemmas.{defs_from_start}
use Rattle.cb_scan.proofs.StructureLemmas.{structures_from_start}
use Rattle.cb_scan.proofs.TypedefLemmas.{typedef_defs_from_start}

module _ (text : List ℕ) where
  pub functions_found : defs_from start (walk code_out nothing text Start (map (lined text) (pieces text)))
      ≡ map function_def (functions (code text (pieces text)))
  functions_found = ap (defs_from start) (code_is text (pieces text)) ∙ defs_from_start (code text (pieces text))

  pub ranges_found : ranges_from (length text) start (walk code_out nothing text Start (map (lined text) (pieces text)))
      ≡ function_ranges text (pieces text)
  ranges_found = ap (ranges_from (length text) start) (code_is text (pieces text))
      ∙ ranges_from_start text (code text (pieces text))

  pub calls_found : calls_from start (walk code_out nothing text Start (map (lined text) (pieces text)))
      ≡ function_calls (code text (pieces text))
  calls_found = ap (calls_from start) (code_is text (pieces text)) ∙ calls_from_start text (code text (pieces text))

  pub typedefs_found : typedef_defs_from start None []
      (walk code_out nothing text Start (map (lined text) (pieces text)))
      ≡ map typedef_def (typedefs (code text (pieces text)))
  typedefs_found = ap (typedef_defs_from start None []) (code_is text (pieces text))
      ∙ typedef_defs_from_start (code text (pieces text))

  pub structures_found : structures_from Nothing (walk code_out nothing text Start (map (lined text) (pieces text)))
      ≡ map structure_def (structures (code text (pieces text)))
  structures_found = ap (structures_from Nothing) (code_is text (pieces text))
      ∙ structures_from_start (code text (pieces text))

-- what is kept of two lists is kept of one after the other
pub kept_on : {A : Type 0} (b : Bool) (all here rest : List A) → all ≡ here ++ rest
    → kept b all ≡ kept b here ++ kept b rest
kept_on true all here rest is = is
kept_on false all here rest is = refl

-- what is appended was to come
pub appended : {A : Type 0} (old new x y z all : List A) → new ≡ old ++ x → y ≡ x ++ z → old ++ y ≡ all → new ++ z ≡ all
appended old new x y z all new_is y_is all_is =
    ap (λ l. l ++ z) new_is ∙ append_assoc old x z ∙ ap (λ l. old ++ l) (sym y_is) ∙ all_is

token_no_newline : (c : Class) → is_significant c ≡ true → is_newline c ≡ false
token_no_newline Name is = refl
token_no_newline Number is = refl
token_no_newline Str is = refl
token_no_newline Chr is = refl
token_no_newline LineNote is = refl
token_no_newline BlockNote is = refl
token_no_newline Blank is = refl
token_no_newline Byte is = refl
token_no_newline Newline is = absurd (false≢true is)

-- a token of a line
pub walk_on : {A : Type 0} (out : Stage → Token → List A) (finish : Stage → ℕ → List A) (text : List ℕ) (s s' : Stage)
    (t : Token) (x : Lined) (all rest : List Lined) → all ≡ x ∷ rest → is_significant x.piece.class ≡ true
    → t ≡ lined_token text x → s' ≡ next_stage s t
    → walk out finish text s all ≡ out s t ++ walk out finish text s' rest
walk_on out finish text s s' t x all rest all_is is t_is s_is =
    ap (walk out finish text s) all_is
    ∙ (λ i. cond (token_no_newline x.piece.class is i) (finish s x.piece.span.start ++ walk out finish text Start rest)
    (cond (is i) (out s (lined_token text x) ++ walk out finish text (next_stage s (lined_token text x)) rest)
    (walk out finish text s rest)))
    ∙ (λ i. out s (sym t_is i) ++ walk out finish text (next_stage s (sym t_is i)) rest)
    ∙ ap (λ k. out s t ++ walk out finish text k rest) (sym s_is)

-- a token of the code
pub code_on : (text : List ℕ) (s s' : Stage) (t : Token) (x : Lined) (all rest : List Lined) → all ≡ x ∷ rest
    → is_significant x.piece.class ≡ true → t ≡ lined_token text x → s' ≡ next_stage s t → is_code s' ≡ true
    → walk code_out nothing text s all ≡ t ∷ walk code_out nothing text s' rest
code_on text s s' t x all rest all_is is t_is s_is code_is =
    walk_on code_out nothing text s s' t x all rest all_is is t_is s_is
    ∙ ap (λ b. cond b (t ∷ []) [] ++ walk code_out nothing text s' rest) (sym (ap is_code s_is) ∙ code_is)

-- a token of a directive
pub code_off : (text : List ℕ) (s s' : Stage) (t : Token) (x : Lined) (all rest : List Lined) → all ≡ x ∷ rest
    → is_significant x.piece.class ≡ true → t ≡ lined_token text x → s' ≡ next_stage s t → is_code s' ≡ false
    → walk code_out nothing text s all ≡ walk code_out nothing text s' rest
code_off text s s' t x all rest all_is is t_is s_is code_is =
    walk_on code_out nothing text s s' t x all rest all_is is t_is s_is
    ∙ ap (λ b. cond b (t ∷ []) [] ++ walk code_out nothing text s' rest) (sym (ap is_code s_is) ∙ code_is)

-- the end of a line
pub walk_end : {A : Type 0} (out : Stage → Token → List A) (finish : Stage → ℕ → List A) (text : List ℕ) (s : Stage)
    (x : Lined) (all rest : List Lined) → all ≡ x ∷ rest → is_newline x.piece.class ≡ true
    → walk out finish text s all ≡ finish s x.piece.span.start ++ walk out finish text Start rest
walk_end out finish text s x all rest all_is is =
    ap (walk out finish text s) all_is
    ∙ ap (λ b. cond b (finish s x.piece.span.start ++ walk out finish text Start rest)
    (cond (is_significant x.piece.class)
    (out s (lined_token text x) ++ walk out finish text (next_stage s (lined_token text x)) rest)
    (walk out finish text s rest))) is
