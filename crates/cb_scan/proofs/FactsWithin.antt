-- What is found in a text lies in it, and its definitions are on lines of it.
use Rattle.std.proofs.Common.{Bool, ltb-true, ◌≡◌, ◌≤◌, ◌<◌, ◌+◌, ◌-◌, ℕ, true, false, List}
use Rattle.std.proofs.Common.{[], ◌∷◌, ◌++◌, Option, Some, None, refl, sym, subst, map, length, arith}
use Rattle.std.specs.Prelude.{◌&&◌, cond, find, nat_lt, not}
use Rattle.std.specs.List.{AllByRecursion, flat_map}
use Rattle.std.specs.Option.{MatchOption, option_map, option_map_or}
use Rattle.cb_scan.specs.declared.facts.Call.{Call}
use Rattle.cb_scan.specs.declared.facts.Def.{Def}
use Rattle.cb_scan.specs.declared.facts.Include.{Include}
use Rattle.cb_scan.specs.declared.facts.Use.{Use}
use Rattle.cb_scan.specs.declared.lex.piece.Span.{Span}
use Rattle.cb_scan.specs.declared.lex.token.Token.{Token}
use Rattle.cb_scan.specs.declared.rules.scope.Range.{Range}
use Rattle.cb_scan.specs.rules.Code.{code, directives, is_newline, logical_lines}
use Rattle.cb_scan.specs.Definitions.{AreWithin, IsScopeWithin, IsTagWithin, IsWithin}
use Rattle.cb_scan.specs.Definitions.{function_def}
use Rattle.cb_scan.specs.Definitions.{definitions, definitions_from, macro_def, structure_def}
use Rattle.cb_scan.specs.Definitions.{typedef_def}
use Rattle.cb_scan.specs.rules.Depth.{no_token}
use Rattle.cb_scan.specs.rules.Functions.{Function, function_at, functions}
use Rattle.cb_scan.specs.Lines.{IsLineOf}
use Rattle.cb_scan.specs.rules.Macros.{Macro, after_arguments, begin_arguments, defines_macro}
use Rattle.cb_scan.specs.rules.Macros.{macro_names as defined_macros, macro_names_of, macro_of}
use Rattle.cb_scan.specs.rules.Macros.{macros, plain_macro_of}
use Rattle.cb_scan.specs.Order.{call_key, def_key, goes_first, in_order, put}
use Rattle.cb_scan.specs.lex.Pieces.{LiesIn}
use Rattle.cb_scan.specs.rules.Scope.{function_range, holds, macro_ranges, name_around, ranges_of}
use Rattle.cb_scan.specs.rules.Scope.{scope_among}
use Rattle.cb_scan.specs.rules.wide.Bodies.{bodies}
use Rattle.cb_scan.specs.rules.wide.Kinds.{bare_tokens, functions_of, wide_found, wide_function_def}
use Rattle.cb_scan.specs.rules.wide.Kinds.{wide_macro_def}
use Rattle.cb_scan.specs.Profiles.{all_definitions, definitions_by, facts_in, functions_by, kept}
use Rattle.cb_scan.specs.Profiles.{is_declaration}
use Rattle.cb_scan.specs.declared.facts.Kind.TheVariants as kind
use Rattle.cb_scan.specs.declared.profile.Profile.{Profile}
use Rattle.cb_scan.specs.declared.profile.Rules.{Rules}
use Rattle.cb_scan.specs.declared.profile.Rules.TheVariants.{Prototypes, Standard, Wide}
use Rattle.cb_scan.specs.lex.Tokens.{bytes_of, has_kind, is_mark, is_name_token, is_str}
use Rattle.cb_scan.specs.lex.Tokens.{kind_is_define, kind_is_include}
use Rattle.cb_scan.specs.steps.Quote.{is_closed}
use Rattle.cb_scan.specs.steps.Cut.{pieces}
use Rattle.cb_scan.specs.rules.Structures.{Structure, structures}
use Rattle.cb_scan.specs.rules.Typedefs.{typedefs}
use Rattle.cb_scan.specs.rules.Uses.{calls_in, header_between, header_of, include_of, includes_with}
use Rattle.cb_scan.specs.rules.Uses.{macro_calls, use_of, used, uses_with}
use Rattle.cb_scan.proofs.CallLists.{calls_of_all, calls_of_lines}
use Rattle.cb_scan.proofs.MacroLines.{range_names}
use Rattle.cb_scan.specs.rules.OldStyle.{semicolons_before}
use Rattle.cb_scan.proofs.FunctionsRise.{all_implied, named_before}
use Rattle.cb_scan.proofs.Rising.{all-prefix, all-picked, macro_picks, macro_names, names_flat}
use Rattle.cb_scan.proofs.Rising.{only_directives, used_picks}
use Rattle.cb_scan.proofs.PieceLists.{pieces-lie}
use Rattle.cb_scan.proofs.WideWithin.{DefLies, code_defs_lie, function_defs_lie, lies_alone}
use Rattle.cb_scan.proofs.WideWithin.{names_of_all, wide_names_lie}
use Rattle.cb_scan.proofs.WithinLemmas.{DefWithin, TokenWithin, all-append, all-filter, all-joined}
use Rattle.cb_scan.proofs.WithinLemmas.{all-split, code-within, found_among, functions-lie, head_of_all}
use Rattle.cb_scan.proofs.WithinLemmas.{heads_of_all, lines-within}
use Rattle.cb_scan.proofs.StructureLemmas.{all_structures, structure_name}
use Rattle.cb_scan.proofs.TypedefsWithin.{SpanWithin, all_typedefs}

-- ---- order
pub all_put : {X : Type 0} (key : X → List ℕ) (Q : X → Type 0) (x : X) (ys : List X) → Q x → AllByRecursion Q ys
    → AllByRecursion Q (put key x ys)
unfolding put
all_put key Q x [] q a = (q, tt)
all_put key Q x (y ∷ ys) q a =
    elim (goes_first key x y) as (λ b. AllByRecursion Q (cond b (x ∷ y ∷ ys) (y ∷ put key x ys)))
    [ true ↦ (q, a) | false ↦ (a.0, all_put key Q x ys q a.1) ]

pub all_in_order : {X : Type 0} (key : X → List ℕ) (Q : X → Type 0) (xs : List X) → AllByRecursion Q xs
    → AllByRecursion Q (in_order key xs)
unfolding in_order
all_in_order key Q [] a = tt
all_in_order key Q (x ∷ xs) a = all_put key Q x (in_order key xs) a.0 (all_in_order key Q xs a.1)

all_made : {X Y : Type 0} (make : X → Y) (Q : Y → Type 0) → ((x : X) → Q (make x)) → (xs : List X)
    → AllByRecursion Q (map make xs)
all_made make Q holds [] = tt
all_made make Q holds (x ∷ xs) = (holds x, all_made make Q holds xs)

-- ---- macros
module _ (P : Token → Type 0) where
  with_arguments : (l : List Token) → AllByRecursion P l → AllByRecursion P (map (λ (m : Macro). m.name) (macro_of l))
  with_arguments [] a = tt
  with_arguments (h ∷ []) a = tt
  with_arguments (h ∷ o ∷ []) a = tt
  with_arguments (h ∷ o ∷ n ∷ []) a = tt
  with_arguments (h ∷ o ∷ n ∷ p ∷ l) a =
      elim (defines_macro o n p) as (λ b. AllByRecursion P (map (λ (m : Macro). m.name)
      (cond b (record { name = n; body = after_arguments l } ∷ []) []))) [ true ↦ (a.1.1.0, tt) | false ↦ tt ]

  without_arguments : (l : List Token) → AllByRecursion P l → AllByRecursion P (plain_macro_of l)
  without_arguments [] a = tt
  without_arguments (h ∷ []) a = tt
  without_arguments (h ∷ o ∷ []) a = tt
  without_arguments (h ∷ o ∷ n ∷ l) a =
      elim (has_kind kind_is_define o.role && is_name_token n.role && not (begin_arguments n l)) as
      (λ b. AllByRecursion P (cond b (n ∷ []) [])) [ true ↦ (a.1.1.0, tt) | false ↦ tt ]

  all_macro_names : (ls : List (List Token)) → AllByRecursion P (flat_map (λ l. l) ls)
      → AllByRecursion P (flat_map macro_names_of ls)
  all_macro_names [] a = tt
  all_macro_names (l ∷ ls) a =
      let parts = all-prefix P l (flat_map (λ l. l) ls) a in
      all-append P (macro_names_of l) _
      (all-append P (map (λ (m : Macro). m.name) (macro_of l)) (plain_macro_of l) (with_arguments l parts.0)
      (without_arguments l parts.0))
      (all_macro_names ls parts.1)

-- ---- scopes
module _ (text : List ℕ) where
  named_ranges_of_functions : (fs : List Function)
      → AllByRecursion (SpanWithin text) (map (λ (f : Function). f.name) fs)
      → AllByRecursion (λ (r : Range). IsWithin text r.name) (map (function_range text (code text (pieces text))) fs)
  named_ranges_of_functions [] a = tt
  named_ranges_of_functions (f ∷ fs) a = (a.0, named_ranges_of_functions fs a.1)

  named_ranges : (rs : List Range) → AllByRecursion (IsWithin text) (map (λ (r : Range). r.name) rs)
      → AllByRecursion (λ (r : Range). IsWithin text r.name) rs
  named_ranges [] a = tt
  named_ranges (r ∷ rs) a = (a.0, named_ranges rs a.1)

  spans_of_macros : (ms : List Macro) → AllByRecursion (SpanWithin text) (map (λ (m : Macro). m.name) ms)
      → AllByRecursion (IsWithin text) (map (λ (m : Macro). m.name.span) ms)
  spans_of_macros [] a = tt
  spans_of_macros (m ∷ ms) a = (a.0, spans_of_macros ms a.1)

  around_within : (ranges : List Range) (place : ℕ) → AllByRecursion (λ (r : Range). IsWithin text r.name) ranges
      → IsScopeWithin text (name_around ranges place)
  around_within ranges place a =
      elim (find (holds place) ranges) as (λ o. MatchOption o (Unit {0}) (λ r. IsWithin text r.name)
      → IsScopeWithin text (option_map (λ (r : Range). r.name) o)) [ None ↦ λ _. tt | Some r ↦ λ p. p ]
      (found_among (λ r. IsWithin text r.name) (holds place) ranges a)

  -- the scope of a place lies in the text
  scope_within : (fs : List Function)
      → AllByRecursion (λ (r : Range). IsWithin text r.name) (macro_ranges text (pieces text))
      → AllByRecursion (λ (r : Range). IsWithin text r.name) (ranges_of text (pieces text) fs)
      → (place : ℕ) → IsScopeWithin text (scope_among text (pieces text) fs place)
  scope_within fs of_macros of_functions place =
      elim (name_around (macro_ranges text (pieces text)) place) as (λ o. IsScopeWithin text o
      → IsScopeWithin text (option_map_or (λ name. Some name) o
      (name_around (ranges_of text (pieces text) fs) place))) [
        | None ↦ λ _. around_within (ranges_of text (pieces text) fs) place of_functions
        | Some s ↦ λ p. p
      ] (around_within (macro_ranges text (pieces text)) place of_macros)

  uses_within : (s : ℕ → Option Span) → ((place : ℕ) → IsScopeWithin text (s place)) → (ts : List Token)
      → AllByRecursion (SpanWithin text) ts
      → AllByRecursion (λ (u : Use). IsWithin text u.name × IsScopeWithin text u.scope) (map (use_of s) ts)
  uses_within s scopes [] a = tt
  uses_within s scopes (t ∷ ts) a = ((a.0, scopes t.span.start), uses_within s scopes ts a.1)

  -- ---- includes
  between_within : (start end line : ℕ) → end ≤ length text
      → AllByRecursion (λ (i : Include). IsWithin text i.header) (header_between start end line)
  between_within start end line ends =
      elim (nat_lt start end) as (λ b. nat_lt start end ≡ b
      → AllByRecursion (λ (i : Include). IsWithin text i.header)
      (cond b (record { header = record { start = start; end = end }; line = line; scope = None } ∷ []) [])) [
        | true ↦ λ is. let below : start < end = ltb-true start end is in ((omega (arith, below), ends), tt)
        | false ↦ λ _. tt
      ] refl

  angle_within : (t : Token) (rest : List Token) → AllByRecursion (SpanWithin text) rest
      → AllByRecursion (λ (i : Include). IsWithin text i.header)
      (option_map_or (λ (g : Token). header_between t.span.end g.span.start t.line)
      (find (λ (u : Token). is_mark 62 u.role) rest) [])
  angle_within t rest a =
      elim (find (λ (u : Token). is_mark 62 u.role) rest) as (λ o. MatchOption o (Unit {0}) (SpanWithin text)
      → AllByRecursion (λ (i : Include). IsWithin text i.header)
      (option_map_or (λ (g : Token). header_between t.span.end g.span.start t.line) o [])) [
        | None ↦ λ _. tt
        | Some g ↦ λ w. between_within t.span.end g.span.start t.line (omega (arith, w.0, w.1))
      ] (found_among (SpanWithin text) (λ (u : Token). is_mark 62 u.role) rest a)

  header_within : (t : Token) (rest : List Token) → SpanWithin text t → AllByRecursion (SpanWithin text) rest
      → AllByRecursion (λ (i : Include). IsWithin text i.header) (header_of text t rest)
  header_within t rest w a =
      elim (is_str t.role) as (λ b. AllByRecursion (λ (i : Include). IsWithin text i.header)
      (cond b (cond (is_closed (bytes_of text t.span)) (header_between (t.span.start + 1) (t.span.end - 1) t.line)
      []) (cond (is_mark 60 t.role)
      (option_map_or (λ (g : Token). header_between t.span.end g.span.start t.line)
      (find (λ (u : Token). is_mark 62 u.role) rest) []) []))) [
        | true ↦ elim (is_closed (bytes_of text t.span)) as (λ b. AllByRecursion
            (λ (i : Include). IsWithin text i.header)
            (cond b (header_between (t.span.start + 1) (t.span.end - 1) t.line) [])) [
              | true ↦ between_within (t.span.start + 1) (t.span.end - 1) t.line (omega (arith, w.1))
              | false ↦ tt
            ]
        | false ↦ elim (is_mark 60 t.role) as (λ b. AllByRecursion (λ (i : Include). IsWithin text i.header)
            (cond b (option_map_or (λ (g : Token). header_between t.span.end g.span.start t.line)
            (find (λ (u : Token). is_mark 62 u.role) rest) []) [])) [
              | true ↦ angle_within t rest a
              | false ↦ tt
            ]
      ]

  include_within : (l : List Token) → AllByRecursion (SpanWithin text) l
      → AllByRecursion (λ (i : Include). IsWithin text i.header) (include_of text l)
  include_within [] a = tt
  include_within (h ∷ []) a = tt
  include_within (h ∷ o ∷ []) a = tt
  include_within (h ∷ o ∷ t ∷ rest) a =
      elim (has_kind kind_is_include o.role) as (λ b. AllByRecursion (λ (i : Include). IsWithin text i.header)
      (cond b (header_of text t rest) [])) [ true ↦ header_within t rest a.1.1.0 a.1.1.1 | false ↦ tt ]

  headers_within : (ls : List (List Token)) → AllByRecursion (SpanWithin text) (flat_map (λ l. l) ls)
      → AllByRecursion (λ (i : Include). IsWithin text i.header) (flat_map (include_of text) ls)
  headers_within [] a = tt
  headers_within (l ∷ ls) a =
      let parts = all-prefix (SpanWithin text) l (flat_map (λ l. l) ls) a in
      all-append (λ (i : Include). IsWithin text i.header) (include_of text l) _ (include_within l parts.0)
      (headers_within ls parts.1)

  includes_within : (s : ℕ → Option Span) → ((place : ℕ) → IsScopeWithin text (s place))
      → (is : List Include) → AllByRecursion (λ (i : Include). IsWithin text i.header) is
      → AllByRecursion (λ (i : Include). IsWithin text i.header × IsScopeWithin text i.scope)
      (map (λ (i : Include). record i { scope = s i.header.start }) is)
  includes_within s scopes [] a = tt
  includes_within s scopes (i ∷ is) a = ((a.0, scopes i.header.start), includes_within s scopes is a.1)

  -- ---- all facts
  span_within : (t : Token) → TokenWithin text t → SpanWithin text t
  span_within t w = (omega (arith, w.0), w.1)

  spans_of : (ts : List Token) → AllByRecursion (TokenWithin text) ts → AllByRecursion (SpanWithin text) ts
  spans_of = all_implied (TokenWithin text) (SpanWithin text) span_within

  defs_of_macros : (ts : List Token) → AllByRecursion (TokenWithin text) ts
      → AllByRecursion (DefWithin text) (map macro_def ts)
  defs_of_macros [] a = tt
  defs_of_macros (t ∷ ts) a = ((span_within t a.0, a.0.2), defs_of_macros ts a.1)

  defs_of_tokens : (ts : List Token) → AllByRecursion (TokenWithin text) ts
      → AllByRecursion (DefWithin text) (map typedef_def ts)
  defs_of_tokens [] a = tt
  defs_of_tokens (t ∷ ts) a = ((span_within t a.0, a.0.2), defs_of_tokens ts a.1)

  defs_of_structures : (ss : List Structure) → AllByRecursion (TokenWithin text) (map structure_name ss)
      → AllByRecursion (DefWithin text) (map structure_def ss)
  defs_of_structures [] a = tt
  defs_of_structures (s ∷ ss) a = ((span_within s.name a.0, a.0.2), defs_of_structures ss a.1)

  line_tokens : AllByRecursion (TokenWithin text) (flat_map (λ l. l) (logical_lines text (pieces text)))
  line_tokens =
      all-joined (TokenWithin text) (logical_lines text (pieces text))
      (lines-within text _ (all-split (LiesIn text) (λ p. is_newline p.class) (pieces text) (pieces-lie text)))

  code_tokens : AllByRecursion (TokenWithin text) (code text (pieces text))
  code_tokens = code-within text (pieces text) (pieces-lie text)

  directive_tokens : AllByRecursion (TokenWithin text) (flat_map (λ l. l) (directives text (pieces text)))
  directive_tokens = only_directives (logical_lines text (pieces text)) (TokenWithin text) line_tokens

  -- macros
  macros_lie : AllByRecursion (TokenWithin text) (defined_macros text (pieces text))
  macros_lie = all_macro_names (TokenWithin text) (directives text (pieces text)) directive_tokens

  macro_tokens : AllByRecursion (TokenWithin text) (map (λ (m : Macro). m.name) (macros text (pieces text)))
  macro_tokens = subst (AllByRecursion (TokenWithin text)) (names_flat (directives text (pieces text)))
      (all-picked macro_names macro_picks (TokenWithin text) (directives text (pieces text)) directive_tokens)

  origin : IsWithin text no_token.span
  origin = (omega (arith), omega (arith))

  -- ---- by the standard profile
  definitions_lie : AllByRecursion (DefWithin text) (definitions text)
  unfolding definitions_from
  definitions_lie =
      all_in_order def_key (DefWithin text) _
      (all-append (DefWithin text) _ _
      (all-append (DefWithin text) _ _
      (all-append (DefWithin text) _ _ (functions-lie text (pieces-lie text))
      (defs_of_macros (defined_macros text (pieces text)) macros_lie))
      (defs_of_tokens (typedefs (code text (pieces text)))
      (all_typedefs (TokenWithin text) (code text (pieces text)) code_tokens)))
      (defs_of_structures (structures (code text (pieces text)))
      (all_structures (TokenWithin text) (code text (pieces text)) code_tokens)))

  tags_lie : AllByRecursion (IsTagWithin text) (definitions text)
  unfolding definitions_from
  tags_lie =
      all_in_order def_key (IsTagWithin text) _
      (all-append (IsTagWithin text) _ _
      (all-append (IsTagWithin text) _ _
      (all-append (IsTagWithin text) _ _
      (all_made function_def (IsTagWithin text) (λ f. tt) (functions (code text (pieces text))))
      (all_made macro_def (IsTagWithin text) (λ t. tt) (defined_macros text (pieces text))))
      (all_made typedef_def (IsTagWithin text) (λ t. tt) (typedefs (code text (pieces text)))))
      (all_made structure_def (IsTagWithin text) (λ s. tt) (structures (code text (pieces text)))))

  function_names : AllByRecursion (TokenWithin text)
      (map (λ (f : Function). f.name) (functions (code text (pieces text))))
  function_names =
      let ts = code text (pieces text) in
      names_of_all (TokenWithin text) (function_at ts)
      (λ k. named_before (TokenWithin text) ts k (head_of_all (TokenWithin text) ts code_tokens k)
      (heads_of_all (TokenWithin text) ts code_tokens (semicolons_before ts k))) 0 (length ts)

  -- ---- by the wide profile
  macro_defs_lie : (ts : List Token) → AllByRecursion (TokenWithin text) ts
      → AllByRecursion (DefLies text) (map wide_macro_def ts)
  macro_defs_lie [] a = tt
  macro_defs_lie (t ∷ ts) a = (lies_alone text kind.Macro false t a.0, macro_defs_lie ts a.1)

  wide_names : AllByRecursion (TokenWithin text)
      (map (λ (f : Function). f.name) (functions_of text (pieces text)))
  wide_names =
      let ts = code text (pieces text) in
      wide_names_lie text ts code_tokens (bodies (bare_tokens text ts))

  all_definitions_lie : AllByRecursion (DefLies text) (all_definitions text (pieces text))
  all_definitions_lie =
      let ts = code text (pieces text) in
      let fs = functions_of text (pieces text) in
      let ms = defined_macros text (pieces text) in
      all_in_order def_key (DefLies text) (wide_found text (pieces text))
      (all-append (DefLies text) (map wide_function_def fs ++ map wide_macro_def ms) _
      (all-append (DefLies text) (map wide_function_def fs) (map wide_macro_def ms)
      (function_defs_lie text fs wide_names) (macro_defs_lie ms macros_lie))
      (code_defs_lie text ts code_tokens (ranges_of text (pieces text) fs)))

  -- ---- by each
  names_by : (rules : Rules) → AllByRecursion (TokenWithin text)
      (map (λ (f : Function). f.name) (functions_by rules text (pieces text)))
  names_by Standard = function_names
  names_by Wide = wide_names
  names_by Prototypes = wide_names

  both : (ds : List Def) → AllByRecursion (DefWithin text) ds → AllByRecursion (IsTagWithin text) ds
      → AllByRecursion (DefLies text) ds
  both [] a b = tt
  both (d ∷ ds) a b = ((a.0, b.0), both ds a.1 b.1)

  definitions_by_lie : (rules : Rules)
      → AllByRecursion (DefLies text) (definitions_by rules text (pieces text))
  definitions_by_lie Standard = both (definitions text) definitions_lie tags_lie
  definitions_by_lie Wide =
      all-filter (DefLies text) (λ d. not (is_declaration d.kind)) (all_definitions text (pieces text))
      all_definitions_lie
  definitions_by_lie Prototypes = all_definitions_lie

  module _ (fs : List Function)
      (names : AllByRecursion (TokenWithin text) (map (λ (f : Function). f.name) fs)) where
    name_spans : AllByRecursion (SpanWithin text) (map (λ (f : Function). f.name) fs)
    name_spans = spans_of (map (λ (f : Function). f.name) fs) names

    scopes_lie : (place : ℕ) → IsScopeWithin text (scope_among text (pieces text) fs place)
    scopes_lie = scope_within fs
        (named_ranges (macro_ranges text (pieces text))
        (subst (AllByRecursion (IsWithin text)) (sym (range_names text (pieces text)))
        (spans_of_macros (macros text (pieces text)) (spans_of _ macro_tokens))))
        (named_ranges_of_functions fs name_spans)

    uses_lie : AllByRecursion (λ (u : Use). IsWithin text u.name × IsScopeWithin text u.scope)
        (uses_with (scope_among text (pieces text) fs) text (pieces text))
    uses_lie =
        uses_within (scope_among text (pieces text) fs) scopes_lie
        (flat_map used (logical_lines text (pieces text)))
        (all-picked used used_picks (SpanWithin text) (logical_lines text (pieces text)) (spans_of _ line_tokens))

    calls_lie : AllByRecursion (λ (c : Call). IsWithin text c.callee × IsWithin text c.caller)
        (in_order call_key (calls_in (code text (pieces text)) fs ++ macro_calls (macros text (pieces text))))
    calls_lie =
        all_in_order call_key (λ (c : Call). IsWithin text c.callee × IsWithin text c.caller) _
        (all-append (λ (c : Call). IsWithin text c.callee × IsWithin text c.caller) _ _
        (calls_of_all (SpanWithin text) (IsWithin text) (λ c. IsWithin text c.callee × IsWithin text c.caller)
        (λ t w. w) (λ caller t s w _. (w, s)) (code text (pieces text)) fs origin name_spans
        (spans_of (code text (pieces text)) code_tokens))
        (calls_of_lines (SpanWithin text) (IsWithin text) (λ c. IsWithin text c.callee × IsWithin text c.caller)
        (λ t w. w) (λ caller t s w _. (w, s)) (directives text (pieces text)) (spans_of _ directive_tokens)))

    includes_lie : AllByRecursion (λ (i : Include). IsWithin text i.header × IsScopeWithin text i.scope)
        (includes_with (scope_among text (pieces text) fs) text (pieces text))
    includes_lie =
        includes_within (scope_among text (pieces text) fs) scopes_lie _
        (headers_within (directives text (pieces text)) (spans_of _ directive_tokens))

-- what is kept has the property that all has
pub all_kept : {X : Type 0} (P : X → Type 0) (b : Bool) (xs : List X) → AllByRecursion P xs
    → AllByRecursion P (kept b xs)
all_kept P true xs all = all
all_kept P false xs all = tt

-- what is found in a text lies in it, and its definitions are on lines of it
pub facts_lie : (profile : Profile) (text : List ℕ) → AreWithin text (facts_in profile text)
facts_lie profile text =
    let wanted = profile.wanted in
    let defs = kept wanted.defs (definitions_by profile.rules text (pieces text)) in
    let fs = functions_by profile.rules text (pieces text) in
    let lie = all_kept (DefLies text) wanted.defs _ (definitions_by_lie text profile.rules) in
    record {
      defs = all_implied (DefLies text) (λ (d : Def). IsWithin text d.name) (λ d w. w.0.0) defs lie;
      tags = all_implied (DefLies text) (IsTagWithin text) (λ d w. w.1) defs lie;
      lines = all_implied (DefLies text) (λ (d : Def). IsLineOf text d.line) (λ d w. w.0.1) defs lie;
      uses = all_kept (λ (u : Use). IsWithin text u.name × IsScopeWithin text u.scope) wanted.uses _
          (uses_lie text fs (names_by text profile.rules));
      calls = all_kept (λ (c : Call). IsWithin text c.callee × IsWithin text c.caller) wanted.calls _
          (calls_lie text fs (names_by text profile.rules));
      includes = all_kept (λ (i : Include). IsWithin text i.header × IsScopeWithin text i.scope)
          wanted.includes _ (includes_lie text fs (names_by text profile.rules));
    }
