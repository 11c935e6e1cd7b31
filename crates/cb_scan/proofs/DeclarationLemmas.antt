-- The state of a part, a token at a time, gives the names of the parts of a typedef.
use Rattle.std.proofs.Common.{◌≡◌, ◌∙◌, ℕ, ◌+◌, ◌-◌, Bool, true, false, List, [], ◌∷◌, ◌++◌, Option}
use Rattle.std.proofs.Common.{Some, None, refl, sym, ap, subst}
use Rattle.std.proofs.lemmas.Bool.{false≢true, eqb-true}
use Rattle.std.proofs.lemmas.List.{append-nil}
use Rattle.std.specs.Prelude.{◌||◌, ◌&&◌, ◌==◌, if◌then◌else◌, cond}
use Rattle.std.specs.List.{flat_map, slice_split, onto_first}
use Rattle.std.specs.Option.{option_to_list, option_map_or}
use Rattle.cb_scan.specs.declared.lex.token.Token.{Token}
use Rattle.cb_scan.specs.declared.lex.token.Role.{Role}
use Rattle.cb_scan.specs.declared.lex.token.Role.TheVariants.{Word, Mark, Str, Other}
use Rattle.cb_scan.specs.declared.lex.token.WordKind.TheVariants.{Name, Define, Include, Typedef}
use Rattle.cb_scan.specs.declared.lex.token.WordKind.TheVariants.{Extern, Static, Struct, Union}
use Rattle.cb_scan.specs.declared.lex.token.WordKind.TheVariants.{Enum, Reserved}
use Rattle.cb_scan.specs.declared.rules.typedefs.Declaration.{Declaration}
use Rattle.cb_scan.specs.declared.rules.typedefs.Reach.{Reach}
use Rattle.cb_scan.specs.declared.rules.typedefs.Reach.TheVariants.{Nothing, Paren, Stars}
use Rattle.cb_scan.specs.lex.Tokens.{is_mark, is_name_token, is_typedef, kind_is_name}
use Rattle.cb_scan.specs.rules.Typedefs.{Nested, begins_with_star, last_name, name_after_stars}
use Rattle.cb_scan.specs.rules.Typedefs.{nested, nesting_after, part_name, parts, parts_here}
use Rattle.cb_scan.specs.rules.Typedefs.{pointer_name, typedef_names}
use Rattle.cb_scan.specs.steps.Typedefs.{after, declaration_start, goes_on, is_reached, is_starred}
use Rattle.cb_scan.specs.steps.Typedefs.{name_of, or_else, parts_at, pointer_after, reach_after}

-- the names that the parts give from a state on
abbrev pub names_from : Declaration → List Token → List Token
names_from d [] = option_to_list (name_of d)
names_from d (t ∷ ts) = option_to_list (if parts_at d.nesting t then name_of d else None) ++ names_from (after d t) ts

-- ---- one part

-- the name after `*`s, or else the first one that follows
abbrev stars_on : List Nested → Option Token
stars_on xs = option_map_or (λ name. Some name) (name_after_stars xs) (pointer_name xs)

-- the first name after `(` and `*`s, which have come so far
abbrev pointer_on : Reach → List Nested → Option Token
pointer_on Nothing xs = pointer_name xs
pointer_on Paren xs = if begins_with_star xs then stars_on xs else pointer_name xs
pointer_on Stars xs = stars_on xs

-- the name of a part from a state on
abbrev name_on : Declaration → List Nested → Option Token
name_on d xs = or_else (or_else d.pointer (pointer_on d.reach xs)) (last_name d.last xs)

or_else_none : (o : Option Token) → or_else o None ≡ o
or_else_none None = refl
or_else_none (Some t) = refl

-- a token is a `(`, a `*`, a name, or none of these
pick : (P : Bool → Bool → Bool → Type 0) → P true false false → P false true false → P false false true
    → P false false false → (r : Role) → P (is_mark 40 r) (is_mark 42 r) (is_name_token r)
pick P open_ star name other (Word w) = elim (kind_is_name w) as (λ b. P false false b) [ true ↦ name | false ↦ other ]
pick P open_ star name other Str = other
pick P open_ star name other Other = other
pick P open_ star name other (Mark x) =
    elim (x == 40) as (λ a. (x == 40) ≡ a → P a (x == 42) false) [
      | true ↦ λ e. subst (λ y. P true (y == 42) false) (sym (eqb-true x 40 e)) open_
      | false ↦ λ e. elim (x == 42) as (λ b. P false b false) [ true ↦ star | false ↦ other ]
    ] refl

-- what one more token makes of the pointer name, by what it is
abbrev first_at : Bool → List Nested → Option Token
first_at a xs = if a && begins_with_star xs then stars_on xs else pointer_name xs

abbrev stars_at : Bool → Bool → Bool → Token → List Nested → Option Token
stars_at a s w t xs = option_map_or (λ name. Some name)
    (if s then name_after_stars xs else (if w then Some t else None)) (first_at a xs)

abbrev on_next : Bool → Bool → Bool → Token → Reach → List Nested → Option Token
on_next a s w t Nothing xs = first_at a xs
on_next a s w t Paren xs = if s then stars_at a s w t xs else first_at a xs
on_next a s w t Stars xs = stars_at a s w t xs

abbrev IsStep : Token → Reach → List Nested → Bool → Bool → Bool → Type 0
IsStep t r xs a s w = on_next a s w t r xs
    ≡ or_else (if w && is_starred r then Some t else None)
    (pointer_on (if a then Paren else (if s && is_reached r then Stars else Nothing)) xs)

one_step : (t : Token) (r : Reach) (xs : List Nested)
    → IsStep t r xs (is_mark 40 t.role) (is_mark 42 t.role) (is_name_token t.role)
one_step t Nothing xs = pick (IsStep t Nothing xs) refl refl refl refl t.role
one_step t Paren xs = pick (IsStep t Paren xs) refl refl refl refl t.role
one_step t Stars xs = pick (IsStep t Stars xs) refl refl refl refl t.role

abbrev at_nesting : Token → ℕ → Nested
at_nesting t n = record { token = t; nesting = n }

pointer_first : (t : Token) (n : ℕ) (r : Reach) (xs : List Nested)
    → pointer_on r (at_nesting t n ∷ xs) ≡ on_next (is_mark 40 t.role) (is_mark 42 t.role) (is_name_token t.role) t r xs
unfolding pointer_name name_after_stars
pointer_first t n Nothing xs = refl
pointer_first t n Paren xs = refl
pointer_first t n Stars xs = refl

pointer_step : (p : Option Token) (r : Reach) (t : Token) (n : ℕ) (xs : List Nested)
    → or_else p (pointer_on r (at_nesting t n ∷ xs)) ≡ or_else (pointer_after p r t) (pointer_on (reach_after r t) xs)
pointer_step (Some name) r t n xs = refl
pointer_step None r t n xs = pointer_first t n r xs ∙ one_step t r xs

-- one more token of a part
name_step : (d : Declaration) (t : Token) (xs : List Nested)
    → name_on d (at_nesting t d.nesting ∷ xs) ≡ name_on (goes_on d t) xs
unfolding last_name
name_step d t xs = ap (λ o. or_else o
    (last_name (if is_name_token t.role && d.nesting == 0 then Some t else d.last) xs))
    (pointer_step d.pointer d.reach t d.nesting xs)

pointer_none : (r : Reach) → pointer_on r [] ≡ None
unfolding pointer_name name_after_stars
pointer_none Nothing = refl
pointer_none Paren = refl
pointer_none Stars = refl

-- the end of a part
name_end : (d : Declaration) → name_on d [] ≡ name_of d
unfolding last_name
name_end d = ap (λ o. or_else (or_else d.pointer o) d.last) (pointer_none d.reach)
    ∙ ap (λ o. or_else o d.last) (or_else_none d.pointer)

-- a whole part
name_whole : (xs : List Nested) → option_to_list (name_on declaration_start xs) ≡ part_name xs
name_whole xs = by_cases (pointer_name xs)
  where
    by_cases : (o : Option Token)
        → option_to_list (or_else o (last_name None xs))
        ≡ option_map_or (λ name. name ∷ []) o (option_to_list (last_name None xs))
    by_cases None = refl
    by_cases (Some name) = refl

-- ---- all parts

-- the names of the parts, the first of which goes on from a state
abbrev names_on : Declaration → List (List Nested) → List Token
names_on d [] = option_to_list (name_on d [])
names_on d (p ∷ ps) = option_to_list (name_on d p) ++ flat_map part_name ps

part_none : part_name [] ≡ []
unfolding pointer_name last_name
part_none = refl

names_whole : (ps : List (List Nested)) → names_on declaration_start ps ≡ flat_map part_name ps
names_whole [] = name_whole [] ∙ part_none
names_whole (p ∷ ps) = ap (λ l. l ++ flat_map part_name ps) (name_whole p)

names_first : (d : Declaration) (t : Token) (ps : List (List Nested))
    → names_on (goes_on d t) ps ≡ names_on d (onto_first (at_nesting t d.nesting) ps)
names_first d t [] = ap option_to_list (sym (name_step d t [])) ∙ sym (append-nil _)
names_first d t (p ∷ ps) = ap (λ o. option_to_list o ++ flat_map part_name ps) (sym (name_step d t p))

-- a comma opens and closes nothing
comma_nesting : (r : Role) (n : ℕ) → (is_mark 44 r && n == 0) ≡ true
    → (if is_mark 40 r || is_mark 91 r then n + 1 else (if is_mark 41 r || is_mark 93 r then n - 1 else n)) ≡ 0
comma_nesting (Word w) n is = absurd (false≢true is)
comma_nesting Str n is = absurd (false≢true is)
comma_nesting Other n is = absurd (false≢true is)
comma_nesting (Mark x) n is =
    (λ i. if eqb-true x 44 (and_left _ _ is) i == 40 || eqb-true x 44 (and_left _ _ is) i == 91 then n + 1
    else (if eqb-true x 44 (and_left _ _ is) i == 41 || eqb-true x 44 (and_left _ _ is) i == 93 then n - 1 else n))
    ∙ eqb-true n 0 (and_right _ _ is)
  where
    and_left : (a b : Bool) → (a && b) ≡ true → a ≡ true
    and_left true b is = refl
    and_left false b is = is

    and_right : (a b : Bool) → (a && b) ≡ true → b ≡ true
    and_right true b is = is
    and_right false b is = absurd (false≢true is)

names_are : (d : Declaration) (ts : List Token)
    → names_from d ts ≡ names_on d (slice_split parts_here (nested d.nesting ts))
unfolding nested after
names_are d [] = ap option_to_list (sym (name_end d)) ∙ sym (append-nil _)
names_are d (t ∷ ts) =
    elim (parts_at d.nesting t) as (λ b. parts_at d.nesting t ≡ b
    → option_to_list (if b then name_of d else None) ++ names_from (if b then declaration_start else goes_on d t) ts
    ≡ names_on d (cond b ([] ∷ slice_split parts_here (nested (nesting_after t d.nesting) ts))
    (onto_first (at_nesting t d.nesting) (slice_split parts_here (nested (nesting_after t d.nesting) ts))))) [
      | true ↦ λ e.
          (λ i. option_to_list (sym (name_end d) i) ++ names_are declaration_start ts i)
          ∙ ap (λ l. option_to_list (name_on d []) ++ l) (names_whole (slice_split parts_here (nested 0 ts)))
          ∙ ap (λ n. option_to_list (name_on d []) ++ flat_map part_name (slice_split parts_here (nested n ts)))
          (sym (comma_nesting t.role d.nesting e))
      | false ↦ λ e. names_are (goes_on d t) ts
          ∙ names_first d t (slice_split parts_here (nested (nesting_after t d.nesting) ts))
    ] refl

-- the names of a typedef
pub names_of_typedef : (ts : List Token) → names_from declaration_start ts ≡ typedef_names ts
names_of_typedef ts = names_are declaration_start ts ∙ names_whole (parts ts)

-- ---- the first token

typedef_only : (r : Role) → is_typedef r ≡ true → r ≡ Word Typedef
typedef_only (Word Name) is = absurd (false≢true is)
typedef_only (Word Define) is = absurd (false≢true is)
typedef_only (Word Include) is = absurd (false≢true is)
typedef_only (Word Typedef) is = refl
typedef_only (Word Extern) is = absurd (false≢true is)
typedef_only (Word Static) is = absurd (false≢true is)
typedef_only (Word Struct) is = absurd (false≢true is)
typedef_only (Word Union) is = absurd (false≢true is)
typedef_only (Word Enum) is = absurd (false≢true is)
typedef_only (Word Reserved) is = absurd (false≢true is)
typedef_only (Mark x) is = absurd (false≢true is)
typedef_only Str is = absurd (false≢true is)
typedef_only Other is = absurd (false≢true is)

abbrev goes_on_by : Role → Token → Declaration
goes_on_by r t = record {
  nesting = if is_mark 40 r || is_mark 91 r then 0 + 1 else (if is_mark 41 r || is_mark 93 r then 0 - 1 else 0);
  reach = if is_mark 40 r then Paren else (if is_mark 42 r && false then Stars else Nothing);
  pointer = if is_name_token r && false then Some t else None;
  last = if is_name_token r && 0 == 0 then Some t else None;
}

-- the word itself, taken or not, says nothing of the names
pub names_after : (t : Token) (b : Bool) (ts : List Token) → is_typedef t.role ≡ true
    → names_from declaration_start ((if b then t ∷ [] else []) ++ ts) ≡ names_from declaration_start ts
unfolding after
names_after t false ts is = refl
names_after t true ts is =
    let word : t.role ≡ Word Typedef = typedef_only t.role is in
    λ i. option_to_list (if is_mark 44 (word i) && 0 == 0 then None else None)
    ++ names_from (if is_mark 44 (word i) && 0 == 0 then declaration_start else goes_on_by (word i) t) ts
