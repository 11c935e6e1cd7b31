-- The pass finds the prototype that the head of a function has.
use Rattle.std.proofs.Common.{◌≡◌, ◌∙◌, ℕ, Bool, true, false, List, [], ◌∷◌, Option, Some, None, refl}
use Rattle.std.proofs.Common.{sym, ap, ⊎_elim}
use Rattle.std.proofs.lemmas.Bool.{cases_Bool}
use Rattle.std.specs.Prelude.{◌==◌, cond, drop, slice_get, if◌then◌else◌}
use Rattle.std.specs.List.{flat_map, onto_first}
use Rattle.std.specs.Option.{option_to_list}
use Rattle.cb_scan.specs.declared.rules.wide.head.WideHead.{WideHead}
use Rattle.cb_scan.specs.declared.rules.wide.part.Part.{Part}
use Rattle.cb_scan.specs.declared.rules.wide.token.WideToken.{WideToken}
use Rattle.cb_scan.specs.rules.Typedefs.{nesting_after}
use Rattle.cb_scan.specs.rules.wide.Functions.{declared_by, declared_names, head_parts}
use Rattle.cb_scan.specs.rules.wide.Levels.{Numbered, is_byte, is_outer, is_outer_byte, numbered}
use Rattle.cb_scan.specs.rules.wide.Prototypes.{prototype_name}
use Rattle.cb_scan.specs.rules.wide.Words.{is_sign, is_wide_word}
use Rattle.cb_scan.specs.steps.wide.Along.{items, part_from}
use Rattle.cb_scan.specs.steps.wide.Heads.{declared, head_from, head_start, next_head}
use Rattle.cb_scan.specs.steps.wide.Parts as parts
use Rattle.cb_scan.specs.steps.wide.Parts.{function, grown_part, next_part, part_start}
use Rattle.cb_scan.specs.steps.wide.Tails.{or_first}
use Rattle.cb_scan.proofs.WideAhead.{cut_at, grown_same}
use Rattle.cb_scan.proofs.WideEnumerators.{and_right, drop_onto, first_part, onto, split}
use Rattle.cb_scan.proofs.WideParts.{function_name_is}
use Rattle.cb_scan.proofs.WideTails.{get_append, sign_is}

-- ---- parts

-- a comma outside parentheses and brackets
abbrev comma : Numbered → Bool
comma = is_outer_byte 44

comma_is_not : (b : ℕ) (x : Numbered) → (44 == b) ≡ false → comma x ≡ true → is_byte b x ≡ false
comma_is_not b x other is =
    ap (is_sign b) (sign_is 44 x.item.role (and_right (is_outer x) (is_byte 44 x) is)) ∙ other

comma_is_no_word : (x : Numbered) → comma x ≡ true → is_wide_word x.item.role ≡ false
comma_is_no_word x is =
    ap is_wide_word (sign_is 44 x.item.role (and_right (is_outer x) (is_byte 44 x) is))

split_form : (xs : List Numbered) → split xs ≡ first_part (split xs) ∷ drop 1 (split xs)
split_form [] = refl
split_form (x ∷ xs) =
    ⊎_elim
    (λ is. ap (λ b. cond b ([] ∷ split xs) (onto_first x (split xs))) is
    ∙ sym (ap (λ b. first_part (cond b ([] ∷ split xs) (onto_first x (split xs)))
    ∷ drop 1 (cond b ([] ∷ split xs) (onto_first x (split xs)))) is))
    (λ isnt. ap (λ b. cond b ([] ∷ split xs) (onto_first x (split xs))) isnt
    ∙ onto x (split xs)
    ∙ sym (ap (λ l. first_part l ∷ drop 1 l) (onto x (split xs)))
    ∙ sym (ap (λ b. first_part (cond b ([] ∷ split xs) (onto_first x (split xs)))
    ∷ drop 1 (cond b ([] ∷ split xs) (onto_first x (split xs)))) isnt))
    (cases_Bool (comma x))

first_is : (xs : List Numbered) → first_part (split xs) ≡ cut_at comma xs
first_is [] = refl
first_is (x ∷ xs) =
    ⊎_elim
    (λ is. ap (λ b. first_part (cond b ([] ∷ split xs) (onto_first x (split xs)))) is
    ∙ sym (ap (λ b. cond b [] (x ∷ cut_at comma xs)) is))
    (λ isnt. ap (λ b. first_part (cond b ([] ∷ split xs) (onto_first x (split xs)))) isnt
    ∙ ap first_part (onto x (split xs))
    ∙ ap (λ l. x ∷ l) (first_is xs)
    ∙ sym (ap (λ b. cond b [] (x ∷ cut_at comma xs)) isnt))
    (cases_Bool (comma x))

pub items_are : (n : ℕ) (xs : List WideToken) → items (numbered n xs) ≡ xs
unfolding numbered
items_are n [] = refl
items_are n (x ∷ xs) = ap (λ l. x ∷ l) (items_are (nesting_after x.token n) xs)

-- a part reads no further than a token that no rule looks for
module _ (stop : Numbered → Bool)
    (no_open : (x : Numbered) → stop x ≡ true → is_byte 40 x ≡ false)
    (no_close : (x : Numbered) → stop x ≡ true → is_byte 41 x ≡ false)
    (no_star : (x : Numbered) → stop x ≡ true → is_byte 42 x ≡ false)
    (no_word : (x : Numbered) → stop x ≡ true → is_wide_word x.item.role ≡ false) where
  pub part_until : (p : Part) (m : Numbered) (n : ℕ) (xs : List WideToken)
      → next_part p (is_outer m) (m.item ∷ xs) m.item
      ≡ next_part p (is_outer m) (items (m ∷ cut_at stop (numbered n xs))) m.item
  part_until p m n xs =
      let by : Part → Part = λ g. if p.has_value then p
      else (if parts.begins_value (is_outer m) m.item then record p { has_value = true } else g) in
      ap (λ l. by (grown_part p (is_outer m) (m.item ∷ l) m.item)) (sym (items_are n xs))
      ∙ ap by (grown_same stop no_open no_close no_star no_word p (is_outer m) m (numbered n xs))

-- ---- along a head

-- the first function of parts that are not the first
firsts : List (List Numbered) → Option WideToken
firsts [] = None
firsts (s ∷ ss) = or_first (function (part_from (part_start false) s)) (firsts ss)

first_kept : (p : Option WideToken) → p ≡ or_first p None
first_kept None = refl
first_kept (Some x) = refl

firsts_together : (p q r : Option WideToken) → or_first (or_first p q) r ≡ or_first p (or_first q r)
firsts_together None q r = refl
firsts_together (Some x) q r = refl

-- what the tokens of a head declare from a state on
abbrev meant : WideHead → List Numbered → Option WideToken
meant h ns =
    or_first h.found (or_first (function (part_from h.part (cut_at comma ns))) (firsts (drop 1 (split ns))))

part_same : (p : Part) (m : Numbered) (n : ℕ) (xs : List WideToken)
    → next_part p (is_outer m) (m.item ∷ xs) m.item
    ≡ next_part p (is_outer m) (items (m ∷ cut_at comma (numbered n xs))) m.item
part_same =
    part_until comma (λ x is. comma_is_not 40 x refl is) (λ x is. comma_is_not 41 x refl is)
    (λ x is. comma_is_not 42 x refl is) comma_is_no_word

after_comma : (h : WideHead) (x : WideToken) (xs : List WideToken) (ns : List Numbered)
    → or_first (declared h) (or_first (function (part_from (part_start false) (cut_at comma ns)))
    (firsts (drop 1 (split ns))))
    ≡ or_first h.found (or_first (function (part_from h.part [])) (firsts (split ns)))
unfolding firsts part_from
after_comma h x xs ns =
    firsts_together h.found (function h.part) (or_first (function (part_from (part_start false) (cut_at comma ns)))
    (firsts (drop 1 (split ns))))
    ∙ ap (λ s. or_first h.found (or_first (function h.part)
    (or_first (function (part_from (part_start false) s)) (firsts (drop 1 (split ns)))))) (sym (first_is ns))
    ∙ ap (λ ss. or_first h.found (or_first (function h.part) (firsts ss))) (sym (split_form ns))

along : (h : WideHead) (xs : List WideToken) → declared (head_from h xs) ≡ meant h (numbered h.count xs)
unfolding head_from numbered firsts part_from
along h [] = ap (or_first h.found) (first_kept (function h.part))
along h (x ∷ xs) =
    let n = nesting_after x.token h.count in
    let ns = numbered n xs in
    let m : Numbered = record { item = x; count = h.count } in
    let out : Bool → Option WideToken = λ b.
    or_first h.found (or_first (function (part_from h.part (cond b [] (m ∷ cut_at comma ns))))
    (firsts (drop 1 (cond b ([] ∷ split ns) (onto_first m (split ns)))))) in
    along (next_head h (x ∷ xs) x) xs
    ∙ ⊎_elim
    (λ is.
    ap (λ b. meant (if b then record { count = n; part = part_start false; found = declared h }
    else record h { part = next_part h.part (is_outer m) (x ∷ xs) x; count = n })
    (numbered (if b then record { count = n; part = part_start false; found = declared h }
    else record h { part = next_part h.part (is_outer m) (x ∷ xs) x; count = n }).count xs)) is
    ∙ after_comma h x xs ns
    ∙ sym (ap out is))
    (λ isnt.
    ap (λ b. meant (if b then record { count = n; part = part_start false; found = declared h }
    else record h { part = next_part h.part (is_outer m) (x ∷ xs) x; count = n })
    (numbered (if b then record { count = n; part = part_start false; found = declared h }
    else record h { part = next_part h.part (is_outer m) (x ∷ xs) x; count = n }).count xs)) isnt
    ∙ ap (λ p. or_first h.found (or_first (function (part_from p (cut_at comma ns)))
    (firsts (drop 1 (split ns))))) (part_same h.part m n xs)
    ∙ ap (λ ss. or_first h.found (or_first (function (part_from h.part (m ∷ cut_at comma ns))) (firsts ss)))
    (sym (drop_onto m (split ns)))
    ∙ sym (ap out isnt))
    (cases_Bool (comma m))

-- ---- what it means

get_list : (o : Option WideToken) → slice_get (option_to_list o) 0 ≡ o
get_list None = refl
get_list (Some x) = refl

firsts_are : (ss : List (List Numbered)) → firsts ss ≡ slice_get (flat_map (declared_by false) ss) 0
unfolding firsts
firsts_are [] = refl
firsts_are (s ∷ ss) =
    let o = prototype_name (record { first = false; tokens = s; passed = [] }) in
    ap (λ p. or_first p (firsts ss)) (function_name_is false s [])
    ∙ ap (or_first o) (firsts_are ss)
    ∙ ap (λ p. or_first p (slice_get (flat_map (declared_by false) ss) 0)) (sym (get_list o))
    ∙ sym (get_append (option_to_list o) (flat_map (declared_by false) ss))

names_are : (s : List Numbered) (ss : List (List Numbered))
    → or_first (function (part_from (part_start true) s)) (firsts ss)
    ≡ slice_get (declared_names (s ∷ ss)) 0
names_are s ss =
    let o = prototype_name (record { first = true; tokens = s; passed = [] }) in
    ap (λ p. or_first p (firsts ss)) (function_name_is true s [])
    ∙ ap (or_first o) (firsts_are ss)
    ∙ ap (λ p. or_first p (slice_get (flat_map (declared_by false) ss) 0)) (sym (get_list o))
    ∙ sym (get_append (option_to_list o) (flat_map (declared_by false) ss))

-- the pass over a head
pub head_is : (xs : List WideToken)
    → declared (head_from head_start xs) ≡ slice_get (declared_names (head_parts xs)) 0
head_is xs =
    let ns = numbered 0 xs in
    along head_start xs
    ∙ ap (λ s. or_first (function (part_from (part_start true) s)) (firsts (drop 1 (split ns)))) (sym (first_is ns))
    ∙ names_are (first_part (split ns)) (drop 1 (split ns))
    ∙ ap (λ ss. slice_get (declared_names ss) 0) (sym (split_form ns))
