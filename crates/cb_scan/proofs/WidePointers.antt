-- The pass finds the pointer of a part.
use Rattle.std.proofs.Common.{◌≡◌, ◌∙◌, Bool, true, false, List, [], ◌∷◌, Option, Some, refl}
use Rattle.std.proofs.Common.{ap}
use Rattle.std.specs.Prelude.{◌&&◌, not, cond}
use Rattle.std.specs.Option.{option_map_or}
use Rattle.cb_scan.specs.declared.rules.wide.pointer.Pointer.{Pointer}
use Rattle.cb_scan.specs.declared.rules.wide.pointer.Pointer.TheVariants.{Nothing, Sought, Found}
use Rattle.cb_scan.specs.declared.rules.wide.token.WideToken.{WideToken}
use Rattle.cb_scan.specs.rules.wide.Levels.{Numbered, is_byte, is_outer, is_outer_byte}
use Rattle.cb_scan.specs.rules.wide.Names.{after_pointer, begins_with, begins_with_word, from_free_name}
use Rattle.cb_scan.specs.rules.wide.Names.{names}
use Rattle.cb_scan.specs.steps.wide.Ahead.{first_is, first_is_word}
use Rattle.cb_scan.specs.steps.wide.Along.{items, pointer_from}

-- what the rules say of the tokens after `(` where `*` follows it, and of the whole part
unfoldable pub meant_name : List Numbered → Pointer
meant_name [] = Sought
meant_name (x ∷ xs) = Found x.item (begins_with 40 xs)

abbrev pub meant_pointer : Option (List Numbered) → Pointer
meant_pointer o = option_map_or (λ rest. meant_name (from_free_name rest)) o Nothing

-- the next token is the same with its number
pub same_byte : (b : _) (xs : List Numbered) → first_is b (items xs) ≡ begins_with b xs
same_byte b [] = refl
same_byte b (x ∷ xs) = refl

pub same_word : (xs : List Numbered) → first_is_word (items xs) ≡ begins_with_word xs
same_word [] = refl
same_word (x ∷ xs) = refl

found : (name : WideToken) (called : Bool) (xs : List Numbered)
    → pointer_from (Found name called) xs ≡ Found name called
unfolding pointer_from
found name called [] = refl
found name called (x ∷ xs) = found name called xs

sought : (xs : List Numbered) → pointer_from Sought xs ≡ meant_name (from_free_name xs)
unfolding pointer_from from_free_name meant_name
sought [] = refl
sought (x ∷ xs) =
    ap (λ b. pointer_from (cond (names x && not b) (Found x.item (first_is 40 (items xs))) Sought) xs)
    (same_word xs)
    ∙ elim (names x && not (begins_with_word xs)) as (λ b.
    pointer_from (cond b (Found x.item (first_is 40 (items xs))) Sought) xs
    ≡ meant_name (cond b (x ∷ xs) (from_free_name xs))) [
      | true ↦ found x.item (first_is 40 (items xs)) xs ∙ ap (Found x.item) (same_byte 40 xs)
      | false ↦ sought xs
    ]

together : (a b c : Bool) → (a && b && c) ≡ ((a && b) && c)
together true b c = refl
together false b c = refl

-- the pass over a part
pub pointer_is : (xs : List Numbered) → pointer_from Nothing xs ≡ meant_pointer (after_pointer xs)
unfolding pointer_from after_pointer meant_name
pointer_is [] = refl
pointer_is (x ∷ xs) =
    ap (λ b. pointer_from (cond (is_outer x && is_byte 40 x && b) Sought Nothing) xs) (same_byte 42 xs)
    ∙ ap (λ b. pointer_from (cond b Sought Nothing) xs)
    (together (is_outer x) (is_byte 40 x) (begins_with 42 xs))
    ∙ elim (is_outer_byte 40 x && begins_with 42 xs) as (λ b.
    pointer_from (cond b Sought Nothing) xs
    ≡ meant_pointer (cond b (Some xs) (after_pointer xs))) [
      | true ↦ sought xs
      | false ↦ pointer_is xs
    ]
