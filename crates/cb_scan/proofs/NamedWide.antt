-- What the wide profile finds in declarations and bodies is a name.
use Rattle.std.proofs.Common.{◌≡◌, ℕ, zero, suc, ◌+◌, ◌-◌, Bool, true, false, List, [], ◌∷◌, ◌++◌}
use Rattle.std.proofs.Common.{arith, refl, cond, drop, length, map, take, Option, Some, None}
use Rattle.std.specs.Prelude.{◌&&◌, ◌==◌, filter, not, slice_index_or}
use Rattle.std.specs.List.{AllByRecursion, flat_map, list_any, prefix_len, range_with_len}
use Rattle.std.specs.List.{slice_split}
use Rattle.std.specs.Option.{MatchOption, option_map_or, option_or}
use Rattle.cb_scan.specs.declared.facts.Kind.{Kind}
use Rattle.cb_scan.specs.declared.facts.Kind.TheVariants as kind
use Rattle.cb_scan.specs.declared.facts.Tag.{Tag}
use Rattle.cb_scan.specs.declared.lex.token.Token.{Token}
use Rattle.cb_scan.specs.declared.rules.scope.Range.{Range}
use Rattle.cb_scan.specs.declared.rules.wide.token.WideToken.{WideToken}
use Rattle.cb_scan.specs.Definitions.{IsNameOf}
use Rattle.cb_scan.specs.rules.Typedefs.{nesting_after}
use Rattle.cb_scan.specs.rules.wide.Bodies.{Body, body_after, body_of, enumerators}
use Rattle.cb_scan.specs.rules.wide.Bodies.{first_enumerator, first_kind, first_token}
use Rattle.cb_scan.specs.rules.wide.Bodies.{is_enumeration, names_first, tag_around, tag_of}
use Rattle.cb_scan.specs.rules.wide.Declarations.{Part, body_declarations, declaration_len}
use Rattle.cb_scan.specs.rules.wide.Declarations.{declarations_from, defines_type, ended_parts}
use Rattle.cb_scan.specs.rules.wide.Declarations.{ends_part, file_declarations, has_stray}
use Rattle.cb_scan.specs.rules.wide.Declarations.{is_static_part, naming_parts, part_after, part_at}
use Rattle.cb_scan.specs.rules.wide.Kinds.{code_defs, content_defs, def_if, def_in, def_of}
use Rattle.cb_scan.specs.rules.wide.Kinds.{enumerator_defs, file_parts, is_beside, member_defs}
use Rattle.cb_scan.specs.rules.wide.Kinds.{member_of, object_defs, object_of, tag_defs, typedef_of}
use Rattle.cb_scan.specs.rules.wide.Kinds.{variable_kind, variable_of}
use Rattle.cb_scan.specs.rules.wide.Levels.{Numbered, Placed, around_after, file_level, is_byte}
use Rattle.cb_scan.specs.rules.wide.Levels.{is_outer_byte, level_inside, numbered, placed}
use Rattle.cb_scan.specs.rules.wide.Names.{part_name}
use Rattle.cb_scan.specs.rules.wide.Prototypes.{prototype_name}
use Rattle.cb_scan.specs.rules.wide.Words.{is_wide_name}
use Rattle.cb_scan.proofs.WideBodies.{bodies_from, body_here}
use Rattle.cb_scan.proofs.WideNames.{All, name_if, prototype_if}
use Rattle.cb_scan.proofs.WithinLemmas.{all-append, all-drop, all-filter, all-split, all-take}
use Rattle.cb_scan.proofs.NamedLists.{all-flat, all-made, and-first, each-flat, if-met, listed-has}
use Rattle.cb_scan.proofs.NamedLists.{or-has}
use Rattle.cb_scan.proofs.NamedParts.{part-role, prototype-role}
use Rattle.cb_scan.proofs.NamedTokens.{IsDefNamed}

-- ---- what all tokens of a list have, the tokens of its parts have
pub numbered-have : (P : WideToken → Type 0) (n : ℕ) (xs : List WideToken) → AllByRecursion P xs
    → All P (numbered n xs)
unfolding numbered
numbered-have P n [] all = tt
numbered-have P n (x ∷ xs) all = (all.0, numbered-have P (nesting_after x.token n) xs all.1)

pub declarations-have : (P : WideToken → Type 0) (ends : List Numbered → ℕ → Bool) (fuel : ℕ) (xs : List WideToken)
    → AllByRecursion P xs → AllByRecursion (All P) (declarations_from ends fuel xs)
unfolding declarations_from
declarations-have P ends zero xs all = tt
declarations-have P ends (suc fuel) [] all = tt
declarations-have P ends (suc fuel) (x ∷ xs) all =
    let ds = numbered 0 (x ∷ xs) in
    let n = declaration_len ends ds in (
      all-take (λ (m : Numbered). P m.item) n ds (numbered-have P 0 (x ∷ xs) all),
      declarations-have P ends fuel (drop n (x ∷ xs)) (all-drop P n (x ∷ xs) all),
    )

at_index : (P : WideToken → Type 0) (parts : List (List Numbered)) (i : ℕ) → AllByRecursion (All P) parts
    → All P (slice_index_or parts i [])
at_index P [] zero all = tt
at_index P [] (suc i) all = tt
at_index P (part ∷ parts) zero all = all.0
at_index P (part ∷ parts) (suc i) all = at_index P parts i all.1

part-has : (P : WideToken → Type 0) (first : Bool) (parts : List (List Numbered)) (part : List Numbered)
    → All P part → AllByRecursion (λ (p : Part). All P p.tokens) (part_after first parts part)
part-has P first parts part all =
    elim (list_any has_stray parts) as (λ b. AllByRecursion (λ (p : Part). All P p.tokens)
    (cond b [] (record { first = first; tokens = part; passed = flat_map (λ p. p) parts } ∷ [])))
    [ true ↦ tt | false ↦ (all, tt) ]

pub naming-has : (P : WideToken → Type 0) (ds : List Numbered) → All P ds
    → AllByRecursion (λ (p : Part). All P p.tokens) (naming_parts ds)
naming-has P ds all =
    let parts = ended_parts ds in
    let have : AllByRecursion (All P) parts =
    all-take (All P) (length (slice_split ends_part ds) - 1) (slice_split ends_part ds)
    (all-split (λ (m : Numbered). P m.item) ends_part ds all) in
    each-flat (λ (p : Part). All P p.tokens) (part_at parts)
    (λ i. part-has P (i == 0) (take (i + 1) parts) (slice_index_or parts i [])
    (at_index P parts i have)) (range_with_len 0 (length parts))

pub placed-have : (P : WideToken → Type 0) (around : List ℕ) (xs : List WideToken) → AllByRecursion P xs
    → AllByRecursion (λ (p : Placed). P p.item) (placed around xs)
unfolding placed
placed-have P around [] all = tt
placed-have P around (x ∷ xs) all = (all.0, placed-have P (around_after x around) xs all.1)

level-has : (P : WideToken → Type 0) (test : Placed → Bool) (ps : List Placed)
    → AllByRecursion (λ (p : Placed). P p.item) ps
    → AllByRecursion P (map (λ (p : Placed). p.item) (filter test ps))
level-has P test ps all =
    all-made (λ (p : Placed). P p.item) P (λ (p : Placed). p.item) (λ p has. has) (filter test ps)
    (all-filter (λ (p : Placed). P p.item) test ps all)

-- what the first token of each part has, the enumerators of a level have
pub enumerators-have : (P : WideToken → Type 0) (Q : Token → Type 0)
    → ((xs : List Numbered) → All P xs → AllByRecursion Q (first_enumerator xs))
    → (level : List WideToken) → AllByRecursion P level → AllByRecursion Q (enumerators level)
enumerators-have P Q has level all =
    all-flat (All P) Q first_enumerator has (slice_split (is_outer_byte 44) (numbered 0 level))
    (all-split (λ (m : Numbered). P m.item) (is_outer_byte 44) (numbered 0 level)
    (numbered-have P 0 level all))

module _ (text : List ℕ) where
  -- tokens of parts that are names by their role are names
  abbrev pub AreSound : List Numbered → Type 0
  AreSound xs = All (λ x. is_wide_name x.role ≡ true → IsNameOf text x.token.span) xs

  abbrev IsPartSound : Part → Type 0
  IsPartSound p = AreSound p.tokens

  -- ---- parts
  part-named : (p : Part) → IsPartSound p
      → MatchOption (part_name p) (Unit {0}) (λ x. IsNameOf text x.token.span)
  part-named p all =
      if-met (λ x. is_wide_name x.role ≡ true) (λ x. IsNameOf text x.token.span) (part_name p)
      (name_if _ p all) (part-role p)

  pub prototype-named : (p : Part) → IsPartSound p
      → MatchOption (prototype_name p) (Unit {0}) (λ x. IsNameOf text x.token.span)
  prototype-named p all =
      if-met (λ x. is_wide_name x.role ≡ true) (λ x. IsNameOf text x.token.span)
      (prototype_name p) (prototype_if _ p all) (prototype-role p)

  if-named : (k : Kind) (local : Bool) (o : Option WideToken)
      → MatchOption o (Unit {0}) (λ x. IsNameOf text x.token.span)
      → AllByRecursion (IsDefNamed text) (def_if k local o)
  if-named k local o named =
      listed-has (λ x. IsNameOf text x.token.span) (IsDefNamed text) _ (λ x n. n) o [] named tt

  typedef-named : (p : Part) → IsPartSound p → AllByRecursion (IsDefNamed text) (typedef_of p)
  typedef-named p all =
      elim (defines_type p) as (λ b. AllByRecursion (IsDefNamed text) (cond b
      (def_if kind.Typedef false (option_or (prototype_name p) (part_name p))) [])) [
        | true ↦ if-named kind.Typedef false (option_or (prototype_name p) (part_name p))
            (or-has (λ x. IsNameOf text x.token.span) (prototype_name p) (part_name p)
            (prototype-named p all) (part-named p all))
        | false ↦ tt
      ]

  object-named : (p : Part) → IsPartSound p → AllByRecursion (IsDefNamed text) (object_of p)
  object-named p all =
      elim (defines_type p) as (λ b. AllByRecursion (IsDefNamed text) (cond b []
      (option_map_or (λ x. def_of kind.Prototype (is_static_part p) x.token ∷ [])
      (prototype_name p) (variable_of p)))) [
        | true ↦ tt
        | false ↦ listed-has (λ x. IsNameOf text x.token.span) (IsDefNamed text) _ (λ x n. n)
            (prototype_name p) (variable_of p) (prototype-named p all)
            (if-named (variable_kind p) (is_static_part p) (part_name p) (part-named p all))
      ]

  member-named : (tag : Option Tag) (p : Part) → IsPartSound p
      → AllByRecursion (IsDefNamed text) (member_of tag p)
  member-named tag p all =
      elim (defines_type p) as (λ b. AllByRecursion (IsDefNamed text) (cond b []
      (option_map_or (λ x. def_in kind.Member tag x.token ∷ []) (part_name p) []))) [
        | true ↦ tt
        | false ↦ listed-has (λ x. IsNameOf text x.token.span) (IsDefNamed text) _ (λ x n. n)
            (part_name p) [] (part-named p all) tt
      ]

  -- ---- enumerators
  enumerator-named : (xs : List Numbered) → AreSound xs
      → AllByRecursion (λ t. IsNameOf text t.span) (first_enumerator xs)
  enumerator-named [] all = tt
  enumerator-named (x ∷ []) all =
      (elim (is_wide_name x.item.role) as (λ b. is_wide_name x.item.role ≡ b
      → AllByRecursion (λ t. IsNameOf text t.span) (cond b (x.item.token ∷ []) []))
      [ true ↦ λ is. (all.0 is, tt) | false ↦ λ _. tt ]) refl
  enumerator-named (x ∷ y ∷ xs) all =
      (elim (is_wide_name x.item.role && not (is_byte 40 y)) as
      (λ b. (is_wide_name x.item.role && not (is_byte 40 y)) ≡ b
      → AllByRecursion (λ t. IsNameOf text t.span) (cond b (x.item.token ∷ []) []))
      [ true ↦ λ is. (all.0 (and-first _ _ is), tt) | false ↦ λ _. tt ]) refl

  -- ---- bodies
  abbrev pub IsBodyNamed : Body → Type 0
  IsBodyNamed b = MatchOption b.tag (Unit {0}) (λ t. IsNameOf text t.span)

  abbrev pub IsPlacedSound : Placed → Type 0
  IsPlacedSound p = is_wide_name p.item.role ≡ true → IsNameOf text p.item.token.span

  first-named : (xs : List WideToken)
      → AllByRecursion (λ x. is_wide_name x.role ≡ true → IsNameOf text x.token.span) xs
      → MatchOption (first_token (names_first xs)) (Unit {0}) (λ t. IsNameOf text t.span)
  first-named [] all = tt
  first-named (x ∷ xs) all =
      (elim (is_wide_name x.role) as (λ b. is_wide_name x.role ≡ b
      → MatchOption (first_token (names_first (x ∷ xs))) (Unit {0}) (λ t. IsNameOf text t.span))
      [ true ↦ λ is. rw (is, more) (all.0 is) | false ↦ λ is. rw is tt ]) refl
    where
      more : 1 + prefix_len (λ y. is_wide_name y.role) xs
          ≡ suc (prefix_len (λ y. is_wide_name y.role) xs)
      more = omega arith

  body-named : (before : List WideToken) (brace : Placed)
      → AllByRecursion (λ x. is_wide_name x.role ≡ true → IsNameOf text x.token.span) before
      → AllByRecursion IsBodyNamed (body_after brace before)
  body-named before brace all =
      by_kind (first_kind (drop (length (names_first before)) before))
    where
      by_kind : (o : Option Kind)
          → AllByRecursion IsBodyNamed (body_of brace (names_first before) o)
      by_kind None = tt
      by_kind (Some k) = (first-named before all, tt)

  pub bodies-named : (before : List WideToken) (ps : List Placed)
      → AllByRecursion (λ x. is_wide_name x.role ≡ true → IsNameOf text x.token.span) before
      → AllByRecursion IsPlacedSound ps → AllByRecursion IsBodyNamed (bodies_from before ps)
  bodies-named before [] past all = tt
  bodies-named before (p ∷ ps) past all =
      all-append IsBodyNamed (body_here before p) (bodies_from (p.item ∷ before) ps)
      (elim (p.item.counted) as
      (λ b. AllByRecursion IsBodyNamed (cond b (body_after p before) []))
      [ true ↦ body-named before p past | false ↦ tt ])
      (bodies-named (p.item ∷ before) ps (all.0, past) all.1)

  tag-named : (b : Body) → IsBodyNamed b → AllByRecursion (IsDefNamed text) (tag_defs b)
  tag-named b named =
      listed-has (λ t. IsNameOf text t.span) (IsDefNamed text) _ (λ t n. n) b.tag [] named tt

  module _ (bs : List Body) (ps : List Placed) (tokens : AllByRecursion IsPlacedSound ps) where
    content-named : (b : Body) → AllByRecursion (IsDefNamed text) (content_defs bs ps b)
    content-named b =
        elim (is_enumeration b.kind) as (λ e. AllByRecursion (IsDefNamed text)
        (cond e (enumerator_defs ps b) (member_defs bs ps b))) [
          | true ↦ all-made (λ t. IsNameOf text t.span) (IsDefNamed text)
              (def_in kind.Enumerator (tag_of b)) (λ t named. named)
              (enumerators (level_inside b.place ps))
              (enumerators-have _ _ enumerator-named (level_inside b.place ps)
              (level-has _ _ ps tokens))
          | false ↦ all-flat IsPartSound (IsDefNamed text)
              (member_of (tag_around bs (b.place ∷ b.around)))
              (member-named (tag_around bs (b.place ∷ b.around)))
              (flat_map naming_parts (body_declarations (level_inside b.place ps)))
              (all-flat AreSound IsPartSound naming_parts (naming-has _)
              (body_declarations (level_inside b.place ps))
              (declarations-have _ _ (length (level_inside b.place ps)) (level_inside b.place ps)
              (level-has _ _ ps tokens)))
        ]

    parts-sound : AllByRecursion IsPartSound (file_parts bs ps)
    parts-sound =
        all-flat AreSound IsPartSound naming_parts (naming-has _)
        (file_declarations bs (file_level ps))
        (declarations-have _ _ (length (file_level ps)) (file_level ps) (level-has _ _ ps tokens))

    pub code-named : (ranges : List Range) → AllByRecursion IsBodyNamed bs
        → AllByRecursion (IsDefNamed text) (code_defs ranges ps bs)
    code-named ranges named =
        let types = flat_map typedef_of (file_parts bs ps) in
        let tags = flat_map tag_defs bs in
        let contents = flat_map (content_defs bs ps) bs in
        all-append (IsDefNamed text) (types ++ tags ++ contents)
        (object_defs ranges (file_parts bs ps))
        (all-append (IsDefNamed text) (types ++ tags) contents
        (all-append (IsDefNamed text) types tags
        (all-flat IsPartSound (IsDefNamed text) typedef_of typedef-named (file_parts bs ps)
        parts-sound)
        (all-flat IsBodyNamed (IsDefNamed text) tag_defs tag-named bs named))
        (each-flat (IsDefNamed text) (content_defs bs ps) content-named bs))
        (all-filter (IsDefNamed text) (is_beside ranges) (flat_map object_of (file_parts bs ps))
        (all-flat IsPartSound (IsDefNamed text) object_of object-named (file_parts bs ps)
        parts-sound))
