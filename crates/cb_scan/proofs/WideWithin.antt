-- What the wide profile finds lies in the text, and so do the tags.
use Rattle.std.proofs.Common.{ℕ, zero, suc, ◌+◌, ◌-◌, Bool, true, false, List, [], ◌∷◌, ◌++◌}
use Rattle.std.proofs.Common.{arith, sym, subst, drop, length, map, take, Option, Some, None}
use Rattle.std.specs.Prelude.{◌&&◌, ◌==◌, cond, not, filter, slice_index_or, if◌then◌else◌}
use Rattle.std.specs.List.{AllByRecursion, flat_map, list_any, prefix_len, range_with_len, slice_split, take_while}
use Rattle.std.specs.Option.{MatchOption, option_map_or, option_or}
use Rattle.std.proofs.lemmas.List.{map-append}
use Rattle.cb_scan.specs.declared.facts.Def.{Def}
use Rattle.cb_scan.specs.declared.facts.Kind.{Kind}
use Rattle.cb_scan.specs.declared.facts.Kind.TheVariants as kind
use Rattle.cb_scan.specs.declared.facts.Tag.{Tag}
use Rattle.cb_scan.specs.declared.lex.token.Token.{Token}
use Rattle.cb_scan.specs.declared.rules.scope.Range.{Range}
use Rattle.cb_scan.specs.declared.rules.wide.token.WideToken.{WideToken}
use Rattle.cb_scan.specs.Definitions.{IsTagWithin, IsWithin}
use Rattle.cb_scan.specs.rules.Functions.{Function}
use Rattle.cb_scan.specs.rules.OldStyle.{semicolons_before}
use Rattle.cb_scan.specs.rules.Typedefs.{nesting_after}
use Rattle.cb_scan.specs.rules.wide.Attributes.{without_attributes}
use Rattle.cb_scan.specs.rules.wide.Bodies.{Body, bodies, body_after, body_in, body_of, enumerators}
use Rattle.cb_scan.specs.rules.wide.Bodies.{first_enumerator, first_kind, first_token, is_enumeration}
use Rattle.cb_scan.specs.rules.wide.Bodies.{names_first, tag_around, tag_of}
use Rattle.cb_scan.specs.rules.wide.Declarations.{Part, body_declarations, declaration_len}
use Rattle.cb_scan.specs.rules.wide.Declarations.{declarations_from, defines_type, ended_parts, ends_part}
use Rattle.cb_scan.specs.rules.wide.Declarations.{file_declarations, has_stray, is_static_part}
use Rattle.cb_scan.specs.rules.wide.Declarations.{naming_parts, part_after, part_at}
use Rattle.cb_scan.specs.rules.wide.Functions.{plain, wide_function_at, wide_functions}
use Rattle.cb_scan.specs.rules.wide.Kinds.{code_defs, content_defs, def_if, def_in, def_of}
use Rattle.cb_scan.specs.rules.wide.Kinds.{enumerator_defs, file_parts, is_beside, kind_of_tag}
use Rattle.cb_scan.specs.rules.wide.Kinds.{member_defs, member_of, object_defs, object_of, tag_defs}
use Rattle.cb_scan.specs.rules.wide.Kinds.{typedef_of, variable_kind, variable_of, wide_function_def}
use Rattle.cb_scan.specs.rules.wide.Levels.{Numbered, Placed, around_after, file_level, is_byte}
use Rattle.cb_scan.specs.rules.wide.Levels.{is_outer_byte, level_inside, numbered, placed, wide_tokens}
use Rattle.cb_scan.specs.rules.wide.Names.{part_name}
use Rattle.cb_scan.specs.rules.wide.Prototypes.{prototype_name}
use Rattle.cb_scan.specs.rules.wide.Words.{is_wide_name}
use Rattle.cb_scan.proofs.WideBodies.{bodies_are, bodies_from, body_here}
use Rattle.cb_scan.proofs.WideFunctionsRise.{named, plain_is}
use Rattle.cb_scan.proofs.WideNames.{All, If, name_if, prototype_if}
use Rattle.cb_scan.proofs.WideRuns.{kept_all}
use Rattle.cb_scan.proofs.WithinLemmas.{DefWithin, TokenWithin, all-append, all-drop, all-filter}
use Rattle.cb_scan.proofs.WithinLemmas.{all-split, all-take, found_among, head_of_all, heads_of_all}

-- ---- lists
pub names_of_all : (P : Token → Type 0) (at : ℕ → List Function)
    → ((k : ℕ) → AllByRecursion P (map (λ (f : Function). f.name) (at k))) → (k n : ℕ)
    → AllByRecursion P (map (λ (f : Function). f.name) (flat_map at (range_with_len k n)))
names_of_all P at named k zero = tt
names_of_all P at named k (suc n) =
    subst (AllByRecursion P)
    (sym (map-append (λ (f : Function). f.name) (at k) (flat_map at (range_with_len (k + 1) n))))
    (all-append P _ _ (named k) (names_of_all P at named (k + 1) n))

module _ {X Y : Type 0} (P : X → Type 0) (Q : Y → Type 0) where
  all_map : (f : X → Y) → ((x : X) → P x → Q (f x)) → (xs : List X) → AllByRecursion P xs
      → AllByRecursion Q (map f xs)
  all_map f has [] all = tt
  all_map f has (x ∷ xs) all = (has x all.0, all_map f has xs all.1)

  all_flat : (f : X → List Y) → ((x : X) → P x → AllByRecursion Q (f x)) → (xs : List X)
      → AllByRecursion P xs → AllByRecursion Q (flat_map f xs)
  all_flat f has [] all = tt
  all_flat f has (x ∷ xs) all =
      all-append Q (f x) (flat_map f xs) (has x all.0) (all_flat f has xs all.1)

each_flat : {X Y : Type 0} (Q : Y → Type 0) (f : X → List Y) → ((x : X) → AllByRecursion Q (f x))
    → (xs : List X) → AllByRecursion Q (flat_map f xs)
each_flat Q f has [] = tt
each_flat Q f has (x ∷ xs) = all-append Q (f x) (flat_map f xs) (has x) (each_flat Q f has xs)

while_all : {X : Type 0} (P : X → Type 0) (test : X → Bool) (xs : List X) → AllByRecursion P xs
    → AllByRecursion P (take_while test xs)
while_all P test xs all = all-take P (prefix_len test xs) xs all

module _ (text : List ℕ) where
  -- the token lies in the text
  abbrev pub Lies : WideToken → Type 0
  Lies x = TokenWithin text x.token

  -- the definition does, and its tag
  abbrev pub DefLies : Def → Type 0
  DefLies d = DefWithin text d × IsTagWithin text d

  abbrev TagLies : Option Tag → Type 0
  TagLies tag = MatchOption tag (Unit {0}) (λ (g : Tag). IsWithin text g.name)

  pub lies_alone : (k : Kind) (local : Bool) (t : Token) → TokenWithin text t
      → DefLies (def_of k local t)
  lies_alone k local t w = (((omega (arith, w.0), w.1), w.2), tt)

  lies_tagged : (k : Kind) (tag : Option Tag) (t : Token) → TagLies tag → TokenWithin text t
      → DefLies (def_in k tag t)
  lies_tagged k tag t g w = (((omega (arith, w.0), w.1), w.2), g)

  if_named : (k : Kind) (local : Bool) (o : Option WideToken) → If Lies o
      → AllByRecursion DefLies (def_if k local o)
  if_named k local None has = tt
  if_named k local (Some x) has = (lies_alone k local x.token has, tt)

  -- ---- parts
  numbered_lie : (n : ℕ) (xs : List WideToken) → AllByRecursion Lies xs → All Lies (numbered n xs)
  unfolding numbered
  numbered_lie n [] all = tt
  numbered_lie n (x ∷ xs) all = (all.0, numbered_lie (nesting_after x.token n) xs all.1)

  abbrev NumberedLies : Numbered → Type 0
  NumberedLies m = Lies m.item

  declarations_lie : (ends : List Numbered → ℕ → Bool) (fuel : ℕ) (xs : List WideToken)
      → AllByRecursion Lies xs → AllByRecursion (All Lies) (declarations_from ends fuel xs)
  unfolding declarations_from
  declarations_lie ends zero xs all = tt
  declarations_lie ends (suc fuel) [] all = tt
  declarations_lie ends (suc fuel) (x ∷ xs) all =
      let ds = numbered 0 (x ∷ xs) in
      let n = declaration_len ends ds in (
        all-take NumberedLies n ds (numbered_lie 0 (x ∷ xs) all),
        declarations_lie ends fuel (drop n (x ∷ xs)) (all-drop Lies n (x ∷ xs) all),
      )

  abbrev PartLies : Part → Type 0
  PartLies p = All Lies p.tokens

  at_index : (parts : List (List Numbered)) (i : ℕ) → AllByRecursion (All Lies) parts
      → All Lies (slice_index_or parts i [])
  at_index [] zero all = tt
  at_index [] (suc i) all = tt
  at_index (part ∷ parts) zero all = all.0
  at_index (part ∷ parts) (suc i) all = at_index parts i all.1

  part_lies : (first : Bool) (parts : List (List Numbered)) (part : List Numbered) → All Lies part
      → AllByRecursion PartLies (part_after first parts part)
  part_lies first parts part all =
      elim (list_any has_stray parts) as (λ b. AllByRecursion PartLies (cond b []
      (record { first = first; tokens = part; passed = flat_map (λ p. p) parts } ∷ [])))
      [ true ↦ tt | false ↦ (all, tt) ]

  naming_lie : (ds : List Numbered) → All Lies ds → AllByRecursion PartLies (naming_parts ds)
  naming_lie ds all =
      let parts = ended_parts ds in
      let lie : AllByRecursion (All Lies) parts =
      all-take (All Lies) (length (slice_split ends_part ds) - 1) (slice_split ends_part ds)
      (all-split NumberedLies ends_part ds all) in
      each_flat PartLies (part_at parts)
      (λ i. part_lies (i == 0) (take (i + 1) parts) (slice_index_or parts i [])
      (at_index parts i lie)) (range_with_len 0 (length parts))

  typedef_lies : (p : Part) → PartLies p → AllByRecursion DefLies (typedef_of p)
  typedef_lies p all =
      elim (defines_type p) as (λ b. AllByRecursion DefLies (cond b
      (def_if kind.Typedef false (option_or (prototype_name p) (part_name p))) [])) [
        | true ↦ if_named kind.Typedef false (option_or (prototype_name p) (part_name p))
            (either (prototype_name p) (part_name p) (prototype_if Lies p all) (name_if Lies p all))
        | false ↦ tt
      ]
    where
      either : (a b : Option WideToken) → If Lies a → If Lies b → If Lies (option_or a b)
      either None b has_a has_b = has_b
      either (Some x) b has_a has_b = has_a

  object_lies : (p : Part) → PartLies p → AllByRecursion DefLies (object_of p)
  object_lies p all =
      elim (defines_type p) as (λ b. AllByRecursion DefLies (cond b []
      (option_map_or (λ (x : WideToken). def_of kind.Prototype (is_static_part p) x.token ∷ [])
      (prototype_name p) (variable_of p))))
      [ true ↦ tt | false ↦ by_name (prototype_name p) (prototype_if Lies p all) ]
    where
      by_name : (o : Option WideToken) → If Lies o → AllByRecursion DefLies
          (option_map_or (λ (x : WideToken). def_of kind.Prototype (is_static_part p) x.token ∷ [])
          o (variable_of p))
      by_name None has =
          if_named (variable_kind p) (is_static_part p) (part_name p) (name_if Lies p all)
      by_name (Some x) has = (lies_alone kind.Prototype (is_static_part p) x.token has, tt)

  member_lies : (tag : Option Tag) → TagLies tag → (p : Part) → PartLies p
      → AllByRecursion DefLies (member_of tag p)
  member_lies tag g p all =
      elim (defines_type p) as (λ b. AllByRecursion DefLies (cond b []
      (option_map_or (λ (x : WideToken). def_in kind.Member tag x.token ∷ []) (part_name p) [])))
      [ true ↦ tt | false ↦ by_name (part_name p) (name_if Lies p all) ]
    where
      by_name : (o : Option WideToken) → If Lies o → AllByRecursion DefLies
          (option_map_or (λ (x : WideToken). def_in kind.Member tag x.token ∷ []) o [])
      by_name None has = tt
      by_name (Some x) has = (lies_tagged kind.Member tag x.token g has, tt)

  -- ---- levels
  abbrev PlacedLies : Placed → Type 0
  PlacedLies p = Lies p.item

  placed_lie : (around : List ℕ) (xs : List WideToken) → AllByRecursion Lies xs
      → AllByRecursion PlacedLies (placed around xs)
  unfolding placed
  placed_lie around [] all = tt
  placed_lie around (x ∷ xs) all = (all.0, placed_lie (around_after x around) xs all.1)

  level_lies : (test : Placed → Bool) (ps : List Placed) → AllByRecursion PlacedLies ps
      → AllByRecursion Lies (map (λ (p : Placed). p.item) (filter test ps))
  level_lies test ps all =
      all_map PlacedLies Lies (λ (p : Placed). p.item) (λ p has. has) (filter test ps)
      (all-filter PlacedLies test ps all)

  first_lies : (xs : List Numbered) → All Lies xs
      → AllByRecursion (TokenWithin text) (first_enumerator xs)
  first_lies [] all = tt
  first_lies (x ∷ []) all =
      elim (is_wide_name x.item.role) as
      (λ b. AllByRecursion (TokenWithin text) (cond b (x.item.token ∷ []) []))
      [ true ↦ (all.0, tt) | false ↦ tt ]
  first_lies (x ∷ y ∷ xs) all =
      elim (is_wide_name x.item.role && not (is_byte 40 y)) as
      (λ b. AllByRecursion (TokenWithin text) (cond b (x.item.token ∷ []) []))
      [ true ↦ (all.0, tt) | false ↦ tt ]

  enumerators_lie : (level : List WideToken) → AllByRecursion Lies level
      → AllByRecursion (TokenWithin text) (enumerators level)
  enumerators_lie level all =
      all_flat (All Lies) (TokenWithin text) first_enumerator first_lies
      (slice_split (is_outer_byte 44) (numbered 0 level))
      (all-split NumberedLies (is_outer_byte 44) (numbered 0 level) (numbered_lie 0 level all))

  -- ---- bodies
  abbrev BodyLies : Body → Type 0
  BodyLies b = MatchOption b.tag (Unit {0}) (TokenWithin text)

  first_token_lies : (xs : List WideToken) → AllByRecursion Lies xs
      → MatchOption (first_token xs) (Unit {0}) (TokenWithin text)
  first_token_lies [] all = tt
  first_token_lies (x ∷ xs) all = all.0

  body_lies : (before : List WideToken) → AllByRecursion Lies before → (brace : Placed)
      → AllByRecursion BodyLies (body_after brace before)
  body_lies before all brace =
      by_kind (first_kind (drop (length (names_first before)) before))
    where
      by_kind : (o : Option Kind) → AllByRecursion BodyLies (body_of brace (names_first before) o)
      by_kind None = tt
      by_kind (Some k) = (
        first_token_lies (names_first before)
            (while_all Lies (λ x. is_wide_name x.role) before all),
        tt,
      )

  bodies_lie : (before : List WideToken) (ps : List Placed) → AllByRecursion Lies before
      → AllByRecursion PlacedLies ps → AllByRecursion BodyLies (bodies_from before ps)
  bodies_lie before [] past all = tt
  bodies_lie before (p ∷ ps) past all =
      all-append BodyLies (body_here before p) (bodies_from (p.item ∷ before) ps)
      (elim (p.item.counted) as (λ b. AllByRecursion BodyLies (cond b (body_after p before) []))
      [ true ↦ body_lies before past p | false ↦ tt ])
      (bodies_lie (p.item ∷ before) ps (all.0, past) all.1)

  tag_lies : (b : Body) → BodyLies b → AllByRecursion DefLies (tag_defs b)
  tag_lies b = by_tag b.tag
    where
      by_tag : (o : Option Token) → MatchOption o (Unit {0}) (TokenWithin text)
          → AllByRecursion DefLies
          (option_map_or (λ t. def_of (kind_of_tag b.kind) false t ∷ []) o [])
      by_tag None has = tt
      by_tag (Some t) has = (lies_alone (kind_of_tag b.kind) false t has, tt)

  tag_of_lies : (b : Body) → BodyLies b → TagLies (tag_of b)
  tag_of_lies b = by_tag b.tag
    where
      by_tag : (o : Option Token) → MatchOption o (Unit {0}) (TokenWithin text)
          → TagLies (option_map_or (λ t. Some (record { kind = b.kind; name = t.span })) o None)
      by_tag None has = tt
      by_tag (Some t) has = (omega (arith, has.0), has.1)

  tag_or : (o : Option Tag) (rest : Option Tag) → TagLies o → TagLies rest
      → TagLies (option_map_or (λ tag. Some tag) o rest)
  tag_or None rest has after = after
  tag_or (Some g) rest has after = has

  around_lies : (bs : List Body) → AllByRecursion BodyLies bs → (around : List ℕ)
      → TagLies (tag_around bs around)
  unfolding tag_around
  around_lies bs all [] = tt
  around_lies bs all (place ∷ around) =
      by_body (body_in bs place)
      (found_among BodyLies (λ (b : Body). b.place == place) bs all) (around_lies bs all around)
    where
      by_body : (o : Option Body) → MatchOption o (Unit {0}) BodyLies
          → TagLies (tag_around bs around)
          → TagLies (option_map_or (λ b. if is_enumeration b.kind then None
          else option_map_or (λ tag. Some tag) (tag_of b) (tag_around bs around)) o None)
      by_body None has after = tt
      by_body (Some b) has after =
          elim (is_enumeration b.kind) as (λ e. TagLies (cond e None
          (option_map_or (λ tag. Some tag) (tag_of b) (tag_around bs around)))) [
            | true ↦ tt
            | false ↦ tag_or (tag_of b) (tag_around bs around) (tag_of_lies b has) after
          ]

  module _ (bs : List Body) (ps : List Placed) (bodies_do : AllByRecursion BodyLies bs)
      (tokens_do : AllByRecursion PlacedLies ps) where
    inside_lies : (place : ℕ) → AllByRecursion Lies (level_inside place ps)
    inside_lies place = level_lies _ ps tokens_do

    content_lies : (b : Body) → BodyLies b → AllByRecursion DefLies (content_defs bs ps b)
    content_lies b has =
        elim (is_enumeration b.kind) as
        (λ e. AllByRecursion DefLies (cond e (enumerator_defs ps b) (member_defs bs ps b))) [
          | true ↦ all_map (TokenWithin text) DefLies (def_in kind.Enumerator (tag_of b))
              (λ t w. lies_tagged kind.Enumerator (tag_of b) t (tag_of_lies b has) w)
              (enumerators (level_inside b.place ps))
              (enumerators_lie (level_inside b.place ps) (inside_lies b.place))
          | false ↦
              let tag = tag_around bs (b.place ∷ b.around) in
              all_flat PartLies DefLies (member_of tag)
              (member_lies tag (around_lies bs bodies_do (b.place ∷ b.around)))
              (flat_map naming_parts (body_declarations (level_inside b.place ps)))
              (all_flat (All Lies) PartLies naming_parts naming_lie
              (body_declarations (level_inside b.place ps))
              (declarations_lie _ (length (level_inside b.place ps)) (level_inside b.place ps)
              (inside_lies b.place)))
        ]

    parts_lie : AllByRecursion PartLies (file_parts bs ps)
    parts_lie =
        all_flat (All Lies) PartLies naming_parts naming_lie
        (file_declarations bs (file_level ps))
        (declarations_lie _ (length (file_level ps)) (file_level ps) (level_lies _ ps tokens_do))

    code_lies : (ranges : List Range) → AllByRecursion DefLies (code_defs ranges ps bs)
    code_lies ranges =
        let types = flat_map typedef_of (file_parts bs ps) in
        let tags = flat_map tag_defs bs in
        let contents = flat_map (content_defs bs ps) bs in
        all-append DefLies (types ++ tags ++ contents) (object_defs ranges (file_parts bs ps))
        (all-append DefLies (types ++ tags) contents
        (all-append DefLies types tags
        (all_flat PartLies DefLies typedef_of typedef_lies (file_parts bs ps) parts_lie)
        (all_flat BodyLies DefLies tag_defs tag_lies bs bodies_do))
        (all_flat BodyLies DefLies (content_defs bs ps) content_lies bs bodies_do))
        (all-filter DefLies (is_beside ranges) (flat_map object_of (file_parts bs ps))
        (all_flat PartLies DefLies object_of object_lies (file_parts bs ps) parts_lie))

  -- ---- where the tokens of the code lie in the text
  of_plain_all : (P : Token → Type 0) (ws : List WideToken) → AllByRecursion P (plain ws)
      → AllByRecursion (λ (x : WideToken). P x.token) ws
  of_plain_all P [] all = tt
  of_plain_all P (w ∷ ws) all = (all.0, of_plain_all P ws all.1)

  module _ (ts : List Token) (all : AllByRecursion (TokenWithin text) ts) where
    bare_lie : AllByRecursion PlacedLies (placed [] (without_attributes (wide_tokens text ts)))
    bare_lie =
        placed_lie [] (without_attributes (wide_tokens text ts))
        (kept_all Lies 0 (wide_tokens text ts)
        (of_plain_all (TokenWithin text) (wide_tokens text ts)
        (subst (AllByRecursion (TokenWithin text)) (sym (plain_is text ts [])) all)))

    -- what the code defines
    pub code_defs_lie : (ranges : List Range)
        → (let xs = placed [] (without_attributes (wide_tokens text ts)) in
        AllByRecursion DefLies (code_defs ranges xs (bodies xs)))
    code_defs_lie ranges =
        let xs = placed [] (without_attributes (wide_tokens text ts)) in
        code_lies (bodies xs) xs
        (subst (AllByRecursion BodyLies) (sym (bodies_are xs)) (bodies_lie [] xs tt bare_lie))
        bare_lie ranges

    -- the names of functions
    pub wide_names_lie : (bs : List Body)
        → AllByRecursion (TokenWithin text)
        (map (λ (f : Function). f.name) (wide_functions ts (wide_tokens text ts) bs))
    wide_names_lie bs =
        names_of_all (TokenWithin text) (wide_function_at ts (wide_tokens text ts) bs)
        (λ k. named text ts bs (TokenWithin text) k (head_of_all (TokenWithin text) ts all k)
        (heads_of_all (TokenWithin text) ts all (semicolons_before ts k))) 0 (length ts)

  -- the functions
  pub function_defs_lie : (fs : List Function)
      → AllByRecursion (TokenWithin text) (map (λ (f : Function). f.name) fs)
      → AllByRecursion DefLies (map wide_function_def fs)
  function_defs_lie [] all = tt
  function_defs_lie (f ∷ fs) all =
      (lies_alone kind.Function f.local f.name all.0, function_defs_lie fs all.1)
