-- The pass over the bare tokens finds the parts of the declarations of the file, and the types, tags,
-- enumerators and members.
use Rattle.std.proofs.Common.{◌≡◌, ◌∙◌, ℕ, suc, ◌+◌, ◌-◌, Bool, true, false, List, [], ◌∷◌, ◌++◌}
use Rattle.std.proofs.Common.{refl, sym, ap, subst, arith, add-one, append_assoc, drop, length, map, ⊎_elim, None}
use Rattle.std.proofs.lemmas.Bool.{cases_Bool, eqb-true, false≢true, false_from_ne_true}
use Rattle.std.proofs.lemmas.List.{append-nil}
use Rattle.std.proofs.lemmas.List.Concat.{flat_map-append}
use Rattle.std.proofs.lemmas.List.Sorted.{IsPermutation-append_comm}
use Rattle.std.proofs.lemmas.List.Sorted.{IsPermutation-append_left, IsPermutation-append_right}
use Rattle.std.proofs.lemmas.List.Sorted.{IsPermutation-refl, IsPermutation-trans}
use Rattle.std.specs.Prelude.{◌&&◌, ◌==◌, cond, filter, if◌then◌else◌}
use Rattle.std.specs.List.{AllByRecursion, flat_map}
use Rattle.std.specs.List.Sorted.{IsPermutation}
use Rattle.cb_scan.specs.declared.rules.wide.declaration.Declaration.{Declaration}
use Rattle.cb_scan.specs.declared.facts.Def.{Def}
use Rattle.cb_scan.specs.declared.rules.wide.pass.Pass.{Pass}
use Rattle.cb_scan.specs.declared.rules.wide.role.WideRole.TheVariants as wide
use Rattle.cb_scan.specs.declared.rules.wide.token.WideToken.{WideToken}
use Rattle.cb_scan.specs.rules.wide.Attributes.{ends_attribute}
use Rattle.cb_scan.specs.rules.wide.Bodies.{Body, bodies}
use Rattle.cb_scan.specs.rules.wide.Declarations as rules
use Rattle.cb_scan.specs.rules.wide.Kinds.{content_defs, file_parts, object_of, tag_defs, typedef_of}
use Rattle.cb_scan.specs.rules.wide.Levels.{Placed, around_after, file_level, is_outside, placed}
use Rattle.cb_scan.specs.rules.wide.Words.{is_sign}
use Rattle.cb_scan.specs.steps.wide.Ahead.{seen, up_to_mark}
use Rattle.cb_scan.specs.steps.wide.Contents.{contents_from, defined_by}
use Rattle.cb_scan.specs.steps.wide.Declarations as declarations
use Rattle.cb_scan.specs.steps.wide.Declarations.{Given, before_in_file, ends_part, file_from, given, grown}
use Rattle.cb_scan.specs.steps.wide.Declarations.{may_name, next_in_file, next_part_of}
use Rattle.cb_scan.specs.steps.wide.Givens.{object_given, typedef_given}
use Rattle.cb_scan.specs.steps.wide.Openings.{tag_out, tags_from}
use Rattle.cb_scan.specs.steps.wide.Pass.{Taken, is_block, next_of_file, next_pass, part_at}
use Rattle.cb_scan.specs.steps.wide.Pass.{parts_here, pass_start, take_all, take_first}
use Rattle.cb_scan.proofs.WideBodies.{Opens, contents_of_all, opens_of_all, tags_of_all}
use Rattle.cb_scan.proofs.WideBlocks.{IsRead}
use Rattle.cb_scan.proofs.WideDeclarations.{of_part}
use Rattle.cb_scan.proofs.WideFile.{file_is}
use Rattle.cb_scan.proofs.WidePass.{block_is}
use Rattle.cb_scan.proofs.WideSeen.{grown_seen}
use Rattle.cb_scan.proofs.WideSegments.{depth_next_is}
use Rattle.cb_scan.proofs.WideStack.{Rise}

-- ---- the parts of the file

-- the parts that end in the tokens from a state on
unfoldable pub parts_from : Pass → List WideToken → List Given
parts_from p [] = []
parts_from p (x ∷ xs) = parts_here p x ++ parts_from (next_pass p (x ∷ xs) x) xs

-- a token that is no brace and no `;` opens nothing
uncounted : (x : WideToken) → (x.counted ≡ true → x.role ≡ wide.Mark 123) → ends_attribute x.role ≡ false
    → x.counted ≡ false
uncounted x formed isnt =
    false_from_ne_true x.counted (λ e. absurd (false≢true (sym isnt ∙ ap ends_attribute (formed e))))

no_places : List ℕ
no_places = []

all_none : (a b : Bool) → (if a then (if b then no_places else no_places) else no_places) ≡ no_places
all_none true true = refl
all_none true false = refl
all_none false b = refl

stays_outside : (x : WideToken) → (x.counted ≡ true → x.role ≡ wide.Mark 123)
    → ends_attribute x.role ≡ false → around_after x [] ≡ []
unfolding no_places
stays_outside x formed isnt =
    ap (λ b. if b then x.token.span.start ∷ no_places
    else (if is_sign 125 x.role then (if x.token.starts_line then no_places else no_places) else no_places))
    (uncounted x formed isnt)
    ∙ all_none (is_sign 125 x.role) x.token.starts_line

-- what is ahead on the level of the file is what is ahead
ahead_in_file : (n : ℕ) (xs : List WideToken) → Rise n xs
    → up_to_mark (file_level (placed [] xs)) ≡ up_to_mark xs
unfolding placed
ahead_in_file n [] rise = refl
ahead_in_file n (x ∷ xs) rise =
    ⊎_elim
    (λ is.
    ap (λ b. cond b [] (x ∷ up_to_mark (file_level (placed (around_after x []) xs)))) is
    ∙ ap (λ b. cond b [] (x ∷ up_to_mark xs)) (sym is))
    (λ isnt.
    let same : around_after x [] ≡ [] = stays_outside x rise.1.0 isnt in
    ap (λ b. cond b [] (x ∷ up_to_mark (file_level (placed (around_after x []) xs)))) isnt
    ∙ ap (λ a. x ∷ up_to_mark (file_level (placed a xs))) same
    ∙ ap (λ l. x ∷ l) (ahead_in_file (suc x.token.span.start) xs rise.1.1)
    ∙ ap (λ b. cond b [] (x ∷ up_to_mark xs)) (sym isnt))
    (cases_Bool (ends_attribute x.role))

seen_in_file : (n : ℕ) (x : WideToken) (xs : List WideToken) → Rise n (x ∷ xs)
    → seen (x ∷ file_level (placed (around_after x []) xs)) ≡ seen (x ∷ xs)
seen_in_file n x xs rise =
    ⊎_elim
    (λ is. ap (λ b. x ∷ cond b [] (up_to_mark (file_level (placed (around_after x []) xs)))) is
    ∙ ap (λ b. x ∷ cond b [] (up_to_mark xs)) (sym is))
    (λ isnt.
    ap (λ b. x ∷ cond b [] (up_to_mark (file_level (placed (around_after x []) xs)))) isnt
    ∙ ap (λ a. x ∷ up_to_mark (file_level (placed a xs))) (stays_outside x rise.1.0 isnt)
    ∙ ap (λ l. x ∷ l) (ahead_in_file (suc x.token.span.start) xs rise.1.1)
    ∙ ap (λ b. x ∷ cond b [] (up_to_mark xs)) (sym isnt))
    (cases_Bool (ends_attribute x.role))

-- a declaration of the file after a token, by what is ahead on that level
next_in_level : (n : ℕ) (d : Declaration) (block : Bool) (x : WideToken) (xs : List WideToken)
    → Rise n (x ∷ xs)
    → next_of_file d block (x ∷ file_level (placed (around_after x []) xs)) x
    ≡ next_of_file d block (x ∷ xs) x
next_in_level n d block x xs rise =
    let level = file_level (placed (around_after x []) xs) in
    ap (λ g. next_in_file (if ends_part d x then next_part_of d x else g) block x)
    (grown_seen d x level ∙ ap (λ l. grown d l x) (seen_in_file n x xs rise) ∙ sym (grown_seen d x xs))

-- one step of the pass over the level of the file
file_step : (bs : List Body) (d : Declaration) (x : WideToken) (level : List WideToken)
    → file_from bs d (x ∷ level)
    ≡ part_at (before_in_file d x) x
    ++ file_from bs (next_of_file (before_in_file d x) (declarations.is_block bs x) (x ∷ level) x) level
unfolding file_from
file_step bs d x level =
    let e = before_in_file d x in
    let block = declarations.is_block bs x in
    let onward : Declaration → List Given = λ g. file_from bs (next_in_file g block x) level in
    elim (ends_part e x) as (λ b.
    cond b ((if may_name e then given e ∷ [] else []) ++ onward (next_part_of e x))
    (onward (grown e (x ∷ level) x))
    ≡ (if b && may_name e then given e ∷ [] else [])
    ++ onward (if b then next_part_of e x else grown e (x ∷ level) x))
    [ true ↦ refl | false ↦ refl ]

-- there is a place for each brace that is open
abbrev IsPlaced : Pass → List ℕ → Type 0
IsPlaced p around = p.machine.depth ≡ length around

outside_is : (around : List ℕ) → (length around == 0) ≡ is_outside around
outside_is [] = refl
outside_is (place ∷ around) =
    false_from_ne_true (suc (length around) == 0) (λ e. let none : suc (length around) ≡ 0 = eqb-true (suc (length around)) 0 e in absurd (omega arith))

placed_next : (p : Pass) (around : List ℕ) (xs : List WideToken) (x : WideToken) → IsRead x → IsPlaced p around
    → IsPlaced (next_pass p xs x) (around_after x around)
placed_next p around xs x read deep =
    depth_next_is p.machine xs x
    ∙ (λ i. if x.counted then deep i + 1
    else (if sym read i then (if x.token.starts_line then 0 else deep i - 1) else deep i))
    ∙ by_tests x.counted (is_sign 125 x.role) x.token.starts_line
  where
    rest_length : (l : List ℕ) → length l - 1 ≡ length (drop 1 l)
    rest_length [] = refl
    rest_length (q ∷ qs) = omega arith

    by_tests : (c b s : Bool)
        → (if c then length around + 1 else (if b then (if s then 0 else length around - 1) else length around))
        ≡ length (if c then x.token.span.start ∷ around
        else (if b then (if s then [] else drop 1 around) else around))
    by_tests true b s = add-one (length around)
    by_tests false true true = refl
    by_tests false true false = rest_length around
    by_tests false false s = refl

module _ (bs : List Body) where
  parts_are : (p : Pass) (around : List ℕ) (n : ℕ) (xs : List WideToken)
      → IsPlaced p around → Opens bs p.opening xs → Rise n xs → AllByRecursion IsRead xs
      → parts_from p xs ≡ file_from bs p.file (file_level (placed around xs))
  unfolding parts_from placed file_from
  parts_are p around n [] deep same rise read = refl
  parts_are p around n (x ∷ xs) deep same rise read =
      let after = around_after x around in
      let q = next_pass p (x ∷ xs) x in
      let block = is_block p x in
      let e = before_in_file p.file x in
      let rest : parts_from q xs ≡ file_from bs q.file (file_level (placed after xs)) =
      parts_are q after (suc x.token.span.start) xs (placed_next p around (x ∷ xs) x read.0 deep) same.1
      rise.1.1 read.1 in
      let here : (p.machine.depth == 0) ≡ is_outside around =
      ap (λ d. d == 0) deep ∙ outside_is around in
      ap (λ l. parts_here p x ++ l) rest
      ∙ ap (λ b. (if b then part_at e x else [])
      ++ file_from bs (if b then next_of_file e block (x ∷ xs) x else p.file) (file_level (placed after xs))) here
      ∙ by_place around n rise after refl e block (block_is bs p.opening x same.0) p.file refl
    where
      by_place : (around : List ℕ) (n : ℕ) → Rise n (x ∷ xs) → (after : List ℕ) → after ≡ around_after x around
          → (e : Declaration) (block : Bool) → block ≡ declarations.is_block bs x
          → (d : Declaration) → e ≡ before_in_file d x
          → (if is_outside around then part_at e x else [])
          ++ file_from bs (if is_outside around then next_of_file e block (x ∷ xs) x else d)
          (file_level (placed after xs))
          ≡ file_from bs d (map (λ (q : Placed). q.item) (cond (is_outside around)
          (record { item = x; around = around }
          ∷ filter (λ (q : Placed). is_outside q.around) (placed (around_after x around) xs))
          (filter (λ (q : Placed). is_outside q.around) (placed (around_after x around) xs))))
      by_place [] n rise after after_is e block block_is d e_is =
          let level = file_level (placed (around_after x []) xs) in
          (λ i. part_at (e_is i) x
          ++ file_from bs (next_of_file (e_is i) (block_is i) (x ∷ xs) x) (file_level (placed (after_is i) xs)))
          ∙ ap (λ g. part_at (before_in_file d x) x ++ file_from bs g level)
          (sym (next_in_level n (before_in_file d x) (declarations.is_block bs x) x xs rise))
          ∙ sym (file_step bs d x level)
      by_place (place ∷ around) n rise after after_is e block block_is d e_is =
          ap (λ a. file_from bs d (file_level (placed a xs))) after_is

-- ---- types, tags, enumerators and members

swapped : (a b c : List Def) → IsPermutation (a ++ (b ++ c)) (b ++ (a ++ c))
swapped a b c =
    subst (λ l. IsPermutation l (b ++ (a ++ c))) (append_assoc a b c)
    (subst (IsPermutation ((a ++ b) ++ c)) (append_assoc b a c)
    (IsPermutation-append_left c (a ++ b) (b ++ a) (IsPermutation-append_comm a b)))

-- what one token gives, and what the others give, list by list
sorted_out : (d t g c ts gs cs : List Def)
    → IsPermutation ((((d ++ t) ++ g) ++ c) ++ (ts ++ (gs ++ cs))) (d ++ ((t ++ ts) ++ ((g ++ gs) ++ (c ++ cs))))
sorted_out d t g c ts gs cs =
    let rest = gs ++ cs in
    let from : (((d ++ t) ++ g) ++ c) ++ (ts ++ rest) ≡ d ++ (t ++ (g ++ (c ++ (ts ++ rest)))) =
    append_assoc ((d ++ t) ++ g) c (ts ++ rest)
    ∙ append_assoc (d ++ t) g (c ++ (ts ++ rest))
    ∙ append_assoc d t (g ++ (c ++ (ts ++ rest))) in
    let to : d ++ (t ++ (ts ++ (g ++ (gs ++ (c ++ cs))))) ≡ d ++ ((t ++ ts) ++ ((g ++ gs) ++ (c ++ cs))) =
    ap (λ l. d ++ l) (sym (append_assoc t ts (g ++ (gs ++ (c ++ cs))))
    ∙ ap (λ l. (t ++ ts) ++ l) (sym (append_assoc g gs (c ++ cs)))) in
    subst (λ l. IsPermutation l (d ++ ((t ++ ts) ++ ((g ++ gs) ++ (c ++ cs))))) (sym from)
    (subst (IsPermutation (d ++ (t ++ (g ++ (c ++ (ts ++ rest)))))) to
    (IsPermutation-append_right d _ _ (IsPermutation-append_right t _ _
    (IsPermutation-trans (g ++ (c ++ (ts ++ rest))) (g ++ (ts ++ (c ++ rest))) (ts ++ (g ++ (gs ++ (c ++ cs))))
    (IsPermutation-append_right g _ _ (swapped c ts rest))
    (IsPermutation-trans (g ++ (ts ++ (c ++ rest))) (ts ++ (g ++ (c ++ rest))) (ts ++ (g ++ (gs ++ (c ++ cs))))
    (swapped g ts (c ++ rest))
    (IsPermutation-append_right ts _ _ (IsPermutation-append_right g _ _ (swapped c gs cs))))))))

-- what is given of types, tags and bodies from a state on
abbrev defs_along : Pass → List WideToken → List Def
defs_along p xs =
    flat_map typedef_given (parts_from p xs)
    ++ (tags_from p.opening xs ++ contents_from p.opening p.levels xs)

pub defs_gathered : (xs : List WideToken) (t : Taken)
    → IsPermutation (take_all t xs).lists.defs (t.lists.defs ++ defs_along t.pass xs)
unfolding take_all parts_from tags_from contents_from
defs_gathered [] t =
    subst (IsPermutation t.lists.defs) (sym (append-nil t.lists.defs)) (IsPermutation-refl t.lists.defs)
defs_gathered (x ∷ xs) t =
    let p = t.pass in
    let q = next_pass p (x ∷ xs) x in
    let types = flat_map typedef_given (parts_from q xs) in
    let tags = tags_from q.opening xs in
    let contents = contents_from q.opening q.levels xs in
    let here = flat_map typedef_given (parts_here p x) in
    let types_are : here ++ types ≡ flat_map typedef_given (parts_here p x ++ parts_from q xs) =
    sym (flat_map-append typedef_given (parts_here p x) (parts_from q xs)) in
    subst (λ l. IsPermutation (take_all (take_first t (x ∷ xs) x) xs).lists.defs
    (t.lists.defs ++ (l ++ ((tag_out p.opening x ++ tags) ++ (defined_by p.levels (x ∷ xs) x ++ contents)))))
    types_are
    (IsPermutation-trans (take_all (take_first t (x ∷ xs) x) xs).lists.defs _ _
    (defs_gathered xs (take_first t (x ∷ xs) x))
    (sorted_out t.lists.defs here (tag_out p.opening x) (defined_by p.levels (x ∷ xs) x) types tags contents))

given_typedefs : (ps : List rules.Part) → flat_map typedef_given (map of_part ps) ≡ flat_map typedef_of ps
given_typedefs [] = refl
given_typedefs (p ∷ ps) = ap (λ l. typedef_of p ++ l) (given_typedefs ps)

-- the beginning of the code
abbrev pub at_start : Taken
at_start = record {
  pass = pass_start;
  lists = record { functions = []; ranges = []; defs = []; objects = [] };
}

-- ---- variables, external declarations and prototypes

pub objects_gathered : (xs : List WideToken) (t : Taken) → (take_all t xs).lists.objects
    ≡ t.lists.objects ++ flat_map object_given (parts_from t.pass xs)
unfolding take_all parts_from
objects_gathered [] t = sym (append-nil t.lists.objects)
objects_gathered (x ∷ xs) t =
    let p = t.pass in
    let rest = parts_from (next_pass p (x ∷ xs) x) xs in
    objects_gathered xs (take_first t (x ∷ xs) x)
    ∙ append_assoc t.lists.objects (flat_map object_given (parts_here p x)) (flat_map object_given rest)
    ∙ ap (λ l. t.lists.objects ++ l) (sym (flat_map-append object_given (parts_here p x) rest))

given_objects : (ps : List rules.Part) → flat_map object_given (map of_part ps) ≡ flat_map object_of ps
given_objects [] = refl
given_objects (p ∷ ps) = ap (λ l. object_of p ++ l) (given_objects ps)

-- ---- the whole code

module _ (xs : List WideToken) (rise : Rise 0 xs) (read : AllByRecursion IsRead xs) where
  abbrev ps : List Placed
  ps = placed [] xs

  abbrev bs : List Body
  bs = bodies ps

  pub parts_of_all : parts_from pass_start xs ≡ map of_part (file_parts bs ps)
  parts_of_all =
      parts_are bs pass_start [] 0 xs refl (opens_of_all xs rise) rise read
      ∙ file_is bs (file_level ps)

  pub defs_of_all : IsPermutation (take_all at_start xs).lists.defs
      (flat_map typedef_of (file_parts bs ps) ++ (flat_map tag_defs bs ++ flat_map (content_defs bs ps) bs))
  defs_of_all =
      IsPermutation-trans (take_all at_start xs).lists.defs _ _ (defs_gathered xs at_start)
      (subst (λ l. IsPermutation (flat_map typedef_given (parts_from pass_start xs)
      ++ (tags_from None xs ++ contents_from None [] xs))
      (l ++ (flat_map tag_defs bs ++ flat_map (content_defs bs ps) bs)))
      (ap (flat_map typedef_given) parts_of_all ∙ given_typedefs (file_parts bs ps))
      (IsPermutation-append_right (flat_map typedef_given (parts_from pass_start xs)) _ _
      (subst (λ l. IsPermutation (tags_from None xs ++ contents_from None [] xs)
      (l ++ flat_map (content_defs bs ps) bs)) (sym (tags_of_all xs))
      (IsPermutation-append_right (tags_from None xs) _ _ (contents_of_all xs rise)))))

  pub objects_of_all : (take_all at_start xs).lists.objects ≡ flat_map object_of (file_parts bs ps)
  objects_of_all =
      objects_gathered xs at_start
      ∙ ap (flat_map object_given) parts_of_all
      ∙ given_objects (file_parts bs ps)
