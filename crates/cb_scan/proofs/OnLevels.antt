-- Every definition is on its level: in a body, or on the level of the file.
use Rattle.std.proofs.Common.{◌≡◌, ℕ, zero, suc, Bool, true, false, List, [], ◌∷◌, ◌++◌, arith}
use Rattle.std.proofs.Common.{cond, length, map, refl, Option, Some, None}
use Rattle.std.proofs.lemmas.Bool.{false≢true}
use Rattle.std.specs.Prelude.{◌&&◌, filter, not}
use Rattle.std.specs.List.{AllByRecursion, Contains, flat_map, range_with_len}
use Rattle.std.specs.Option.{MatchOption, is_none, option_map_or, option_or}
use Rattle.cb_scan.specs.declared.facts.Def.{Def}
use Rattle.cb_scan.specs.declared.facts.Kind.{Kind}
use Rattle.cb_scan.specs.declared.facts.Kind.TheVariants as kind
use Rattle.cb_scan.specs.declared.facts.Tag.{Tag}
use Rattle.cb_scan.specs.declared.lex.piece.Span.{Span}
use Rattle.cb_scan.specs.declared.lex.token.Role.{Role}
use Rattle.cb_scan.specs.declared.lex.token.Role.TheVariants as role
use Rattle.cb_scan.specs.declared.lex.token.Token.{Token}
use Rattle.cb_scan.specs.declared.lex.token.WordKind.TheVariants as word
use Rattle.cb_scan.specs.declared.profile.Profile.{Profile}
use Rattle.cb_scan.specs.declared.profile.Rules.{Rules}
use Rattle.cb_scan.specs.declared.profile.Rules.TheVariants.{Prototypes, Standard, Wide}
use Rattle.cb_scan.specs.declared.rules.scope.Range.{Range}
use Rattle.cb_scan.specs.declared.rules.wide.token.WideToken.{WideToken}
use Rattle.cb_scan.specs.Definitions.{definitions, definitions_from, function_def, macro_def}
use Rattle.cb_scan.specs.Definitions.{structure_def, typedef_def}
use Rattle.cb_scan.specs.Order.{def_key}
use Rattle.cb_scan.specs.Profiles.{IsOnItsLevel, IsOnLevelOf, IsOnTheFilesLevel, StandsIn}
use Rattle.cb_scan.specs.Profiles.{all_definitions, definitions_by, facts_in, is_declaration, kept}
use Rattle.cb_scan.specs.Profiles.{ranges_in}
use Rattle.cb_scan.specs.lex.Tokens.{is_mark, is_name_token}
use Rattle.cb_scan.specs.rules.Code.{code}
use Rattle.cb_scan.specs.rules.Depth.{token_at}
use Rattle.cb_scan.specs.rules.Functions.{functions}
use Rattle.cb_scan.specs.rules.Macros.{macro_names}
use Rattle.cb_scan.specs.rules.Scope.{name_around}
use Rattle.cb_scan.specs.rules.Structures.{Structure, keyword_kind, structure_at, structure_of, structures}
use Rattle.cb_scan.specs.rules.Typedefs.{typedefs}
use Rattle.cb_scan.specs.rules.wide.Bodies.{Body, bodies, enumerators, first_enumerator}
use Rattle.cb_scan.specs.rules.wide.Bodies.{is_enumeration, tag_around, tag_of}
use Rattle.cb_scan.specs.rules.wide.Declarations.{Part, body_declarations, defines_type}
use Rattle.cb_scan.specs.rules.wide.Declarations.{file_declarations, has_value, is_extern_part}
use Rattle.cb_scan.specs.rules.wide.Declarations.{is_static_part, naming_parts}
use Rattle.cb_scan.specs.rules.wide.Kinds.{bare_tokens, code_defs, content_defs, def_if, def_in}
use Rattle.cb_scan.specs.rules.wide.Kinds.{def_of, enumerator_defs, file_parts, functions_of}
use Rattle.cb_scan.specs.rules.wide.Kinds.{is_beside, kind_of_tag, member_defs, member_of}
use Rattle.cb_scan.specs.rules.wide.Kinds.{object_defs, object_of, tag_defs, typedef_of}
use Rattle.cb_scan.specs.rules.wide.Kinds.{variable_of, wide_found, wide_function_def, wide_macro_def}
use Rattle.cb_scan.specs.rules.wide.Levels.{Numbered, Placed, closes_brace, file_level, is_byte}
use Rattle.cb_scan.specs.rules.wide.Levels.{is_inside, is_outside, level_inside}
use Rattle.cb_scan.specs.rules.wide.Names.{part_name}
use Rattle.cb_scan.specs.rules.wide.Prototypes.{prototype_name}
use Rattle.cb_scan.specs.rules.wide.Words.{is_wide_name}
use Rattle.cb_scan.specs.steps.Cut.{pieces}
use Rattle.cb_scan.proofs.FactsWithin.{all_in_order}
use Rattle.cb_scan.proofs.NamedLists.{all-flat, all-made, all-met, and-first, each-flat, each-made}
use Rattle.cb_scan.proofs.NamedLists.{listed-has, tested}
use Rattle.cb_scan.proofs.NamedWide.{declarations-have, enumerators-have, naming-has}
use Rattle.cb_scan.proofs.WideNames.{All, name_if, prototype_if}
use Rattle.cb_scan.proofs.WithinLemmas.{all-append, all-filter}

-- ---- a list contains what is in it
module _ {X : Type 0} where
  weaker : (R N : X → Type 0) → ((x : X) → R x → N x) → (xs : List X) → AllByRecursion R xs
      → AllByRecursion N xs
  weaker R N has [] all = tt
  weaker R N has (x ∷ xs) all = (has x all.0, weaker R N has xs all.1)

  later : (y : X) (xs : List X) (x : X) → Contains xs x → Contains (y ∷ xs) x
  later y xs x (k, less, is) = (suc k, omega (arith, less), is)

  contains-all : (xs : List X) → AllByRecursion (Contains xs) xs
  contains-all [] = tt
  contains-all (x ∷ xs) = (
    (0, omega arith, refl),
    weaker (Contains xs) (Contains (x ∷ xs)) (later x xs) xs (contains-all xs),
  )

outside-is : (around : List ℕ) → is_outside around ≡ true → around ≡ []
outside-is [] is = refl
outside-is (place ∷ around) is = absurd (false≢true is)

none-is : (o : Option Span) → is_none o ≡ true → o ≡ None
none-is None is = refl
none-is (Some s) is = absurd (false≢true is)

-- ---- the wide rules
module _ (ps : List Placed) (ranges : List Range) where
  abbrev IsOn : Def → Type 0
  IsOn d = IsOnLevelOf d.kind ps ranges d

  -- the tokens of a level stand in it
  level-stands : (IsSo : List ℕ → Type 0) (test : Placed → Bool)
      → ((p : Placed) → test p ≡ true → IsSo p.around) → (qs : List Placed)
      → AllByRecursion (Contains ps) qs
      → AllByRecursion (λ x. StandsIn ps IsSo x.token.span)
      (map (λ (p : Placed). p.item) (filter test qs))
  level-stands IsSo test so [] all = tt
  level-stands IsSo test so (q ∷ qs) all =
      (elim (test q) as (λ b. test q ≡ b
      → AllByRecursion (λ x. StandsIn ps IsSo x.token.span)
      (map (λ (p : Placed). p.item) (cond b (q ∷ filter test qs) (filter test qs)))) [
        | true ↦ λ is. ((q, all.0, refl, so q is), level-stands IsSo test so qs all.1)
        | false ↦ λ _. level-stands IsSo test so qs all.1
      ]) refl

  -- ---- in a body
  module _ (b : Body) (among : Contains (bodies ps) b) where
    abbrev IsInside : Span → Type 0
    IsInside s = StandsIn ps (λ around. is_inside b.place around ≡ true) s

    inside : AllByRecursion (λ x. IsInside x.token.span) (level_inside b.place ps)
    inside =
        level-stands (λ around. is_inside b.place around ≡ true)
        (λ (p : Placed). is_inside b.place p.around && not (closes_brace p))
        (λ p is. and-first _ _ is) ps (contains-all ps)

    first-inside : (xs : List Numbered) → All (λ x. IsInside x.token.span) xs
        → AllByRecursion (λ t. IsInside t.span) (first_enumerator xs)
    first-inside [] all = tt
    first-inside (x ∷ []) all =
        elim (is_wide_name x.item.role) as
        (λ b. AllByRecursion (λ t. IsInside t.span) (cond b (x.item.token ∷ []) []))
        [ true ↦ (all.0, tt) | false ↦ tt ]
    first-inside (x ∷ y ∷ xs) all =
        elim (is_wide_name x.item.role && not (is_byte 40 y)) as
        (λ b. AllByRecursion (λ t. IsInside t.span) (cond b (x.item.token ∷ []) []))
        [ true ↦ (all.0, tt) | false ↦ tt ]

    enumerators-on : is_enumeration b.kind ≡ true → AllByRecursion IsOn (enumerator_defs ps b)
    enumerators-on is =
        all-made (λ t. IsInside t.span) IsOn (def_in kind.Enumerator (tag_of b))
        (λ t has. (b, among, is, has)) (enumerators (level_inside b.place ps))
        (enumerators-have (λ x. IsInside x.token.span) (λ t. IsInside t.span) first-inside
        (level_inside b.place ps) inside)

    member-on : is_enumeration b.kind ≡ false → (tag : Option Tag) (p : Part)
        → All (λ x. IsInside x.token.span) p.tokens → AllByRecursion IsOn (member_of tag p)
    member-on isnt tag p all =
        elim (defines_type p) as (λ e. AllByRecursion IsOn (cond e []
        (option_map_or (λ (x : WideToken). def_in kind.Member tag x.token ∷ []) (part_name p) []))) [
          | true ↦ tt
          | false ↦ listed-has (λ x. IsInside x.token.span) IsOn
              (λ (x : WideToken). def_in kind.Member tag x.token) (λ x has. (b, among, isnt, has))
              (part_name p) [] (name_if (λ x. IsInside x.token.span) p all) tt
        ]

    members-on : (bs : List Body) → is_enumeration b.kind ≡ false
        → AllByRecursion IsOn (member_defs bs ps b)
    members-on bs isnt =
        all-flat (λ (p : Part). All (λ x. IsInside x.token.span) p.tokens) IsOn
        (member_of (tag_around bs (b.place ∷ b.around)))
        (member-on isnt (tag_around bs (b.place ∷ b.around)))
        (flat_map naming_parts (body_declarations (level_inside b.place ps)))
        (all-flat (All (λ x. IsInside x.token.span))
        (λ (p : Part). All (λ x. IsInside x.token.span) p.tokens) naming_parts
        (naming-has (λ x. IsInside x.token.span)) (body_declarations (level_inside b.place ps))
        (declarations-have (λ x. IsInside x.token.span) _ (length (level_inside b.place ps))
        (level_inside b.place ps) inside))

    content-on : (bs : List Body) → AllByRecursion IsOn (content_defs bs ps b)
    content-on bs =
        (elim (is_enumeration b.kind) as (λ e. is_enumeration b.kind ≡ e
        → AllByRecursion IsOn (cond e (enumerator_defs ps b) (member_defs bs ps b)))
        [ true ↦ enumerators-on | false ↦ members-on bs ]) refl

  -- ---- on the level of the file
  abbrev IsOutside : Span → Type 0
  IsOutside s = StandsIn ps (λ around. around ≡ []) s

  outside : AllByRecursion (λ x. IsOutside x.token.span) (file_level ps)
  outside =
      level-stands (λ around. around ≡ []) (λ (p : Placed). is_outside p.around)
      (λ p is. outside-is p.around is) ps (contains-all ps)

  parts-outside : (bs : List Body)
      → AllByRecursion (λ (p : Part). All (λ x. IsOutside x.token.span) p.tokens) (file_parts bs ps)
  parts-outside bs =
      all-flat (All (λ x. IsOutside x.token.span))
      (λ (p : Part). All (λ x. IsOutside x.token.span) p.tokens) naming_parts
      (naming-has (λ x. IsOutside x.token.span)) (file_declarations bs (file_level ps))
      (declarations-have (λ x. IsOutside x.token.span) _ (length (file_level ps)) (file_level ps)
      outside)

  -- a definition that stands there is on its level if it is in no range of a function
  abbrev IsIfBeside : Def → Type 0
  IsIfBeside d = is_beside ranges d ≡ true → IsOn d

  on-file : (d : Def) → IsOutside d.name → is_beside ranges d ≡ true
      → IsOnTheFilesLevel ps ranges d
  on-file d has beside = (has, none-is (name_around ranges d.name.start) beside)

  variable-on : (p : Part) (o : Option WideToken)
      → MatchOption o (Unit {0}) (λ x. IsOutside x.token.span) → (extern : Bool)
      → AllByRecursion IsIfBeside
      (def_if (cond extern kind.External kind.Variable) (is_static_part p) o)
  variable-on p None has extern = tt
  variable-on p (Some x) has true =
      (on-file (def_of kind.External (is_static_part p) x.token) has, tt)
  variable-on p (Some x) has false =
      (on-file (def_of kind.Variable (is_static_part p) x.token) has, tt)

  object-on : (p : Part) → All (λ x. IsOutside x.token.span) p.tokens
      → AllByRecursion IsIfBeside (object_of p)
  object-on p all =
      elim (defines_type p) as (λ b. AllByRecursion IsIfBeside (cond b []
      (option_map_or (λ x. def_of kind.Prototype (is_static_part p) x.token ∷ [])
      (prototype_name p) (variable_of p)))) [
        | true ↦ tt
        | false ↦ listed-has (λ x. IsOutside x.token.span) IsIfBeside
            (λ (x : WideToken). def_of kind.Prototype (is_static_part p) x.token)
            (λ x has. on-file (def_of kind.Prototype (is_static_part p) x.token) has)
            (prototype_name p) (variable_of p)
            (prototype_if (λ x. IsOutside x.token.span) p all)
            (variable-on p (part_name p) (name_if (λ x. IsOutside x.token.span) p all)
            (is_extern_part p && not (has_value p.tokens)))
      ]

  objects-on : (bs : List Body) → AllByRecursion IsOn (object_defs ranges (file_parts bs ps))
  objects-on bs =
      let ds = flat_map object_of (file_parts bs ps) in
      all-met (λ d. is_beside ranges d ≡ true) IsOn (filter (is_beside ranges) ds)
      (all-filter IsIfBeside (is_beside ranges) ds
      (all-flat (λ (p : Part). All (λ x. IsOutside x.token.span) p.tokens) IsIfBeside object_of
      object-on (file_parts bs ps) (parts-outside bs)))
      (tested (is_beside ranges) ds)

  -- ---- what may stand anywhere
  typedef-on : (p : Part) → AllByRecursion IsOn (typedef_of p)
  typedef-on p =
      elim (defines_type p) as (λ b. AllByRecursion IsOn
      (cond b (def_if kind.Typedef false (option_or (prototype_name p) (part_name p))) []))
      [ true ↦ named (option_or (prototype_name p) (part_name p)) | false ↦ tt ]
    where
      named : (o : Option WideToken) → AllByRecursion IsOn (def_if kind.Typedef false o)
      named None = tt
      named (Some x) = (tt, tt)

  tag-on : (k : Kind) (d : Def) → IsOnLevelOf (kind_of_tag k) ps ranges d
  tag-on kind.Function d = tt
  tag-on kind.Macro d = tt
  tag-on kind.Typedef d = tt
  tag-on kind.Struct d = tt
  tag-on kind.Union d = tt
  tag-on kind.Enum d = tt
  tag-on kind.Enumerator d = tt
  tag-on kind.Member d = tt
  tag-on kind.Variable d = tt
  tag-on kind.External d = tt
  tag-on kind.Prototype d = tt

  tags-on : (b : Body) → AllByRecursion IsOn (tag_defs b)
  tags-on b = named b.tag
    where
      named : (o : Option Token) → AllByRecursion IsOn
          (option_map_or (λ t. def_of (kind_of_tag b.kind) false t ∷ []) o [])
      named None = tt
      named (Some t) = (tag-on b.kind (def_of (kind_of_tag b.kind) false t), tt)

  -- ---- all
  code-on : AllByRecursion IsOn (code_defs ranges ps (bodies ps))
  code-on =
      let bs = bodies ps in
      let types = flat_map typedef_of (file_parts bs ps) in
      let tags = flat_map tag_defs bs in
      let contents = flat_map (content_defs bs ps) bs in
      all-append IsOn (types ++ tags ++ contents) (object_defs ranges (file_parts bs ps))
      (all-append IsOn (types ++ tags) contents
      (all-append IsOn types tags (each-flat IsOn typedef_of typedef-on (file_parts bs ps))
      (each-flat IsOn tag_defs tags-on bs))
      (all-flat (Contains bs) IsOn (content_defs bs ps) (λ b among. content-on b among bs) bs
      (contains-all bs)))
      (objects-on bs)

  -- ---- the standard rules
  keyword-on : (r : Role)
      → MatchOption (keyword_kind r) (Unit {0}) (λ k. (d : Def) → IsOnLevelOf k ps ranges d)
  keyword-on (role.Word word.Name) = tt
  keyword-on (role.Word word.Define) = tt
  keyword-on (role.Word word.Include) = tt
  keyword-on (role.Word word.Typedef) = tt
  keyword-on (role.Word word.Extern) = tt
  keyword-on (role.Word word.Static) = tt
  keyword-on (role.Word word.Struct) = λ d. tt
  keyword-on (role.Word word.Union) = λ d. tt
  keyword-on (role.Word word.Enum) = λ d. tt
  keyword-on (role.Word word.Reserved) = tt
  keyword-on (role.Mark byte) = tt
  keyword-on role.Str = tt
  keyword-on role.Other = tt

  structure-on : (keyword name brace : Token)
      → AllByRecursion (λ (s : Structure). IsOn (structure_def s)) (structure_of keyword name brace)
  structure-on keyword name brace =
      elim (is_name_token name.role && is_mark 123 brace.role) as
      (λ b. AllByRecursion (λ (s : Structure). IsOn (structure_def s))
      (cond b (option_map_or (λ kind. record { kind = kind; name = name } ∷ [])
      (keyword_kind keyword.role) []) []))
      [ true ↦ of_kind (keyword_kind keyword.role) (keyword-on keyword.role) | false ↦ tt ]
    where
      of_kind : (o : Option Kind)
          → MatchOption o (Unit {0}) (λ k. (d : Def) → IsOnLevelOf k ps ranges d)
          → AllByRecursion (λ (s : Structure). IsOn (structure_def s))
          (option_map_or (λ kind. record { kind = kind; name = name } ∷ []) o [])
      of_kind None has = tt
      of_kind (Some k) has = (has (structure_def (record { kind = k; name = name })), tt)

  structures-on : (ts : List Token) (k : ℕ)
      → AllByRecursion (λ (s : Structure). IsOn (structure_def s)) (structure_at ts k)
  structures-on ts zero = tt
  structures-on ts (suc zero) = tt
  structures-on ts (suc (suc k)) =
      structure-on (token_at ts k) (token_at ts (suc k)) (token_at ts (suc (suc k)))

module _ (text : List ℕ) where
  abbrev code_tokens : List Placed
  code_tokens = bare_tokens text (code text (pieces text))

  abbrev IsHere : Def → Type 0
  IsHere d = IsOnItsLevel text d

  standard-on : AllByRecursion IsHere (definitions text)
  unfolding definitions_from
  standard-on =
      let ts = code text (pieces text) in
      all_in_order def_key IsHere _
      (all-append IsHere _ _
      (all-append IsHere _ _
      (all-append IsHere _ _
      (each-made IsHere function_def (λ f. tt) (functions ts))
      (each-made IsHere macro_def (λ t. tt) (macro_names text (pieces text))))
      (each-made IsHere typedef_def (λ t. tt) (typedefs ts)))
      (all-made (λ (s : Structure). IsHere (structure_def s)) IsHere structure_def (λ s has. has)
      (structures ts)
      (each-flat (λ (s : Structure). IsHere (structure_def s)) (structure_at ts)
      (structures-on code_tokens (ranges_in Wide text) ts) (range_with_len 0 (length ts)))))

  wide-on : AllByRecursion IsHere (all_definitions text (pieces text))
  wide-on =
      let fs = functions_of text (pieces text) in
      let ms = macro_names text (pieces text) in
      all_in_order def_key IsHere (wide_found text (pieces text))
      (all-append IsHere (map wide_function_def fs ++ map wide_macro_def ms) _
      (all-append IsHere (map wide_function_def fs) (map wide_macro_def ms)
      (each-made IsHere wide_function_def (λ f. tt) fs)
      (each-made IsHere wide_macro_def (λ t. tt) ms))
      (code-on code_tokens (ranges_in Wide text)))

  by-rules : (rules : Rules) → AllByRecursion IsHere (definitions_by rules text (pieces text))
  by-rules Standard = standard-on
  by-rules Wide =
      all-filter IsHere (λ d. not (is_declaration d.kind)) (all_definitions text (pieces text)) wide-on
  by-rules Prototypes = wide-on

  if-wanted : (wanted : Bool) (ds : List Def) → AllByRecursion IsHere ds
      → AllByRecursion IsHere (kept wanted ds)
  if-wanted true ds all = all
  if-wanted false ds all = tt

pub defs-on : (profile : Profile) (text : List ℕ)
    → AllByRecursion (IsOnItsLevel text) (facts_in profile text).defs
defs-on profile text =
    if-wanted text profile.wanted.defs (definitions_by profile.rules text (pieces text))
    (by-rules text profile.rules)
