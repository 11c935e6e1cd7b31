-- What is found by the wide profile, in order.
use Rattle.std.proofs.Common.{◌≡◌, ◌∙◌, ℕ, Bool, true, false, List, [], ◌∷◌, ◌++◌, refl, sym, ap}
use Rattle.std.proofs.Common.{append_assoc, map, Option, Some, None}
use Rattle.std.proofs.lemmas.List.Elements.{filter-append}
use Rattle.std.proofs.lemmas.List.Sorted.{IsPermutation-append_left, IsPermutation-append_right}
use Rattle.std.specs.Prelude.{◌||◌, ◌&&◌, cond, filter, not, if◌then◌else◌}
use Rattle.std.specs.List.{AllByRecursion, flat_map}
use Rattle.std.specs.List.Sorted.{IsPermutation}
use Rattle.std.specs.Option.{option_map_or, option_or}
use Rattle.cb_scan.specs.declared.facts.Kind.{Kind}
use Rattle.cb_scan.specs.declared.facts.Kind.TheVariants as kind
use Rattle.cb_scan.specs.declared.lex.piece.Piece.{Piece}
use Rattle.cb_scan.specs.declared.lex.token.Token.{Token}
use Rattle.cb_scan.specs.declared.rules.scope.Range.{Range}
use Rattle.cb_scan.specs.declared.facts.Tag.{Tag}
use Rattle.cb_scan.specs.declared.facts.Def.{Def}
use Rattle.cb_scan.specs.declared.rules.wide.token.WideToken.{WideToken}
use Rattle.cb_scan.specs.rules.Code.{code}
use Rattle.cb_scan.specs.rules.Macros.{macro_names}
use Rattle.cb_scan.specs.rules.Scope.{ranges_of}
use Rattle.cb_scan.specs.rules.wide.Bodies.{Body, bodies, enumerators, is_enumeration, tag_around, tag_of}
use Rattle.cb_scan.specs.rules.wide.Declarations.{Part, body_declarations, defines_type, has_value}
use Rattle.cb_scan.specs.rules.wide.Declarations.{is_extern_part, is_static_part, naming_parts}
use Rattle.cb_scan.specs.rules.wide.Kinds.{bare_tokens, content_defs, def_if, def_in, def_of, enumerator_defs}
use Rattle.cb_scan.specs.rules.wide.Kinds.{file_parts, functions_of, is_beside, kind_of_tag, member_defs}
use Rattle.cb_scan.specs.rules.wide.Kinds.{member_of, object_defs, object_of, tag_defs, typedef_of}
use Rattle.cb_scan.specs.rules.wide.Kinds.{variable_kind, variable_of, wide_found, wide_function_def}
use Rattle.cb_scan.specs.rules.wide.Kinds.{wide_macro_def}
use Rattle.cb_scan.specs.rules.wide.Levels.{Placed, level_inside}
use Rattle.cb_scan.specs.rules.wide.Names.{part_name}
use Rattle.cb_scan.specs.rules.wide.Prototypes.{prototype_name}
use Rattle.cb_scan.specs.Order.{def_key, in_order}
use Rattle.cb_scan.specs.Profiles.{is_object}
use Rattle.cb_scan.proofs.KeptInOrder.{kept_in_order}
use Rattle.cb_scan.proofs.OrderLemmas.{def_exact, in_order_same}
use Rattle.cb_scan.proofs.WithinLemmas.{all-append}

-- ---- variables, external declarations and prototypes, and the others

abbrev Other : Def → Type 0
Other d = is_object d.kind ≡ false

abbrev Object : Def → Type 0
Object d = is_object d.kind ≡ true

-- it is another, or lies in none of the ranges
abbrev pub stays : List Range → Def → Bool
stays ranges d = not (is_object d.kind) || is_beside ranges d

others_stay : (ranges : List Range) (ds : List Def) → AllByRecursion Other ds
    → filter (stays ranges) ds ≡ ds
others_stay ranges [] all = refl
others_stay ranges (d ∷ ds) all =
    (λ i. cond (not (all.0 i) || is_beside ranges d) (d ∷ filter (stays ranges) ds) (filter (stays ranges) ds))
    ∙ ap (λ l. d ∷ l) (others_stay ranges ds all.1)

objects_beside : (ranges : List Range) (ds : List Def) → AllByRecursion Object ds
    → filter (stays ranges) ds ≡ filter (is_beside ranges) ds
objects_beside ranges [] all = refl
objects_beside ranges (d ∷ ds) all =
    (λ i. cond (not (all.0 i) || is_beside ranges d) (d ∷ filter (stays ranges) ds) (filter (stays ranges) ds))
    ∙ ap (λ l. if is_beside ranges d then d ∷ l else l) (objects_beside ranges ds all.1)

-- ---- what is of which kind
module _ (Q : Def → Type 0) where
  each_map : {X : Type 0} (f : X → Def) → ((x : X) → Q (f x)) → (xs : List X) → AllByRecursion Q (map f xs)
  each_map f has [] = tt
  each_map f has (x ∷ xs) = (has x, each_map f has xs)

  each_flat : {X : Type 0} (f : X → List Def) → ((x : X) → AllByRecursion Q (f x)) → (xs : List X)
      → AllByRecursion Q (flat_map f xs)
  each_flat f has [] = tt
  each_flat f has (x ∷ xs) = all-append Q (f x) (flat_map f xs) (has x) (each_flat f has xs)

  if_some : (kind : Kind) (local : Bool) → ((t : Token) → Q (def_of kind local t)) → (o : Option WideToken)
      → AllByRecursion Q (def_if kind local o)
  if_some kind local has None = tt
  if_some kind local has (Some x) = (has x.token, tt)

typedef_other : (p : Part) → AllByRecursion Other (typedef_of p)
typedef_other p =
    elim (defines_type p) as (λ b. AllByRecursion Other
    (cond b (def_if kind.Typedef false (option_or (prototype_name p) (part_name p))) []))
    [ true ↦ if_some Other kind.Typedef false (λ t. refl) (option_or (prototype_name p) (part_name p)) | false ↦ tt ]

tag_kind_other : (k : Kind) → is_object (kind_of_tag k) ≡ false
tag_kind_other kind.Function = refl
tag_kind_other kind.Macro = refl
tag_kind_other kind.Typedef = refl
tag_kind_other kind.Struct = refl
tag_kind_other kind.Union = refl
tag_kind_other kind.Enum = refl
tag_kind_other kind.Enumerator = refl
tag_kind_other kind.Member = refl
tag_kind_other kind.Variable = refl
tag_kind_other kind.External = refl
tag_kind_other kind.Prototype = refl

tag_other : (b : Body) → AllByRecursion Other (tag_defs b)
tag_other b = by_tag b.tag
  where
    by_tag : (o : Option Token) → AllByRecursion Other
        (option_map_or (λ t. def_of (kind_of_tag b.kind) false t ∷ []) o [])
    by_tag None = tt
    by_tag (Some t) = (tag_kind_other b.kind, tt)

member_other : (tag : Option Tag) (p : Part) → AllByRecursion Other (member_of tag p)
member_other tag p =
    elim (defines_type p) as (λ b. AllByRecursion Other (cond b []
    (option_map_or (λ (x : WideToken). def_in kind.Member tag x.token ∷ []) (part_name p) [])))
    [ true ↦ tt | false ↦ by_name (part_name p) ]
  where
    by_name : (o : Option WideToken) → AllByRecursion Other
        (option_map_or (λ (x : WideToken). def_in kind.Member tag x.token ∷ []) o [])
    by_name None = tt
    by_name (Some x) = (refl, tt)

content_other : (bs : List Body) (ps : List Placed) (b : Body) → AllByRecursion Other (content_defs bs ps b)
content_other bs ps b =
    elim (is_enumeration b.kind) as (λ e. AllByRecursion Other (cond e (enumerator_defs ps b) (member_defs bs ps b))) [
      | true ↦ each_map Other (def_in kind.Enumerator (tag_of b)) (λ t. refl) (enumerators (level_inside b.place ps))
      | false ↦ each_flat Other (member_of (tag_around bs (b.place ∷ b.around)))
          (member_other (tag_around bs (b.place ∷ b.around)))
          (flat_map naming_parts (body_declarations (level_inside b.place ps)))
    ]

variable_object : (p : Part) (t : Token) (local : Bool) → Object (def_of (variable_kind p) local t)
variable_object p t local =
    elim (is_extern_part p && not (has_value p.tokens)) as
    (λ b. is_object (cond b kind.External kind.Variable) ≡ true) [ true ↦ refl | false ↦ refl ]

object_is : (p : Part) → AllByRecursion Object (object_of p)
object_is p =
    elim (defines_type p) as (λ b. AllByRecursion Object (cond b []
    (option_map_or (λ (x : WideToken). def_of kind.Prototype (is_static_part p) x.token ∷ [])
    (prototype_name p) (variable_of p)))) [ true ↦ tt | false ↦ by_name (prototype_name p) ]
  where
    by_name : (o : Option WideToken) → AllByRecursion Object
        (option_map_or (λ (x : WideToken). def_of kind.Prototype (is_static_part p) x.token ∷ []) o
        (variable_of p))
    by_name None =
        if_some Object (variable_kind p) (is_static_part p) (λ t. variable_object p t (is_static_part p)) (part_name p)
    by_name (Some x) = (refl, tt)

-- ---- all of a text
module _ (text : List ℕ) (ps : List Piece) where
  abbrev xs : List Placed
  xs = bare_tokens text (code text ps)

  abbrev bs : List Body
  bs = bodies xs

  abbrev of_functions : List Def
  of_functions = map wide_function_def (functions_of text ps)

  abbrev of_macros : List Def
  of_macros = map wide_macro_def (macro_names text ps)

  -- types, tags, enumerators and members
  abbrev pub of_declarations : List Def
  of_declarations =
      flat_map typedef_of (file_parts bs xs) ++ (flat_map tag_defs bs ++ flat_map (content_defs bs xs) bs)

  abbrev pub of_objects : List Def
  of_objects = flat_map object_of (file_parts bs xs)

  abbrev ranges : List Range
  ranges = ranges_of text ps (functions_of text ps)

  declarations_other : AllByRecursion Other of_declarations
  declarations_other =
      all-append Other (flat_map typedef_of (file_parts bs xs))
      (flat_map tag_defs bs ++ flat_map (content_defs bs xs) bs)
      (each_flat Other typedef_of typedef_other (file_parts bs xs))
      (all-append Other (flat_map tag_defs bs) (flat_map (content_defs bs xs) bs)
      (each_flat Other tag_defs tag_other bs)
      (each_flat Other (content_defs bs xs) (content_other bs xs) bs))

  -- what passes of all that is gathered is what the rules say
  passes : filter (stays ranges) (of_functions ++ (of_macros ++ (of_declarations ++ of_objects)))
      ≡ of_functions ++ (of_macros ++ (of_declarations ++ object_defs ranges (file_parts bs xs)))
  passes =
      filter-append (stays ranges) of_functions (of_macros ++ (of_declarations ++ of_objects))
      ∙ ap (λ l. l ++ filter (stays ranges) (of_macros ++ (of_declarations ++ of_objects)))
      (others_stay ranges of_functions (each_map Other wide_function_def (λ f. refl) (functions_of text ps)))
      ∙ ap (λ l. of_functions ++ l)
      (filter-append (stays ranges) of_macros (of_declarations ++ of_objects)
      ∙ ap (λ l. l ++ filter (stays ranges) (of_declarations ++ of_objects))
      (others_stay ranges of_macros (each_map Other wide_macro_def (λ t. refl) (macro_names text ps)))
      ∙ ap (λ l. of_macros ++ l)
      (filter-append (stays ranges) of_declarations of_objects
      ∙ ap (λ l. l ++ filter (stays ranges) of_objects) (others_stay ranges of_declarations declarations_other)
      ∙ ap (λ l. of_declarations ++ l)
      (objects_beside ranges of_objects (each_flat Object object_of object_is (file_parts bs xs)))))

  grouped : of_functions ++ (of_macros ++ (of_declarations ++ object_defs ranges (file_parts bs xs)))
      ≡ wide_found text ps
  grouped =
      let types = flat_map typedef_of (file_parts bs xs) in
      let tags = flat_map tag_defs bs in
      let contents = flat_map (content_defs bs xs) bs in
      let objects = object_defs ranges (file_parts bs xs) in
      sym (append_assoc of_functions of_macros (of_declarations ++ objects))
      ∙ ap (λ l. (of_functions ++ of_macros) ++ (l ++ objects)) (sym (append_assoc types tags contents))

  -- so it is in order, in whatever order types, tags and members were gathered
  pub found_in_order : (gathered : List Def) → IsPermutation gathered of_declarations
      → filter (stays ranges) (in_order def_key (of_functions ++ (of_macros ++ (gathered ++ of_objects))))
      ≡ in_order def_key (wide_found text ps)
  found_in_order gathered moved =
      ap (filter (stays ranges))
      (in_order_same def_key def_exact (of_functions ++ (of_macros ++ (gathered ++ of_objects)))
      (of_functions ++ (of_macros ++ (of_declarations ++ of_objects)))
      (IsPermutation-append_right of_functions _ _ (IsPermutation-append_right of_macros _ _
      (IsPermutation-append_left of_objects gathered of_declarations moved))))
      ∙ kept_in_order def_key (stays ranges) (of_functions ++ (of_macros ++ (of_declarations ++ of_objects)))
      ∙ ap (in_order def_key) (passes ∙ grouped)
