-- The pass finds the names of a part.
use Rattle.std.proofs.Common.{◌≡◌, ◌∙◌, ℕ, suc, ◌+◌, Bool, true, false, List, [], ◌∷◌, Option, Some}
use Rattle.std.proofs.Common.{None, refl, sym, ap, arith, subst, ⊎_elim}
use Rattle.std.proofs.lemmas.Bool.{cases_Bool, false≢true}
use Rattle.std.specs.Prelude.{◌&&◌, ◌||◌, ◌==◌, not, cond, take, if◌then◌else◌}
use Rattle.std.specs.List.{list_any, prefix_len}
use Rattle.std.specs.Option.{option_map_or}
use Rattle.cb_scan.specs.declared.rules.wide.called.CalledName.{CalledName}
use Rattle.cb_scan.specs.declared.rules.wide.called.Calls.{Calls}
use Rattle.cb_scan.specs.declared.rules.wide.part.Part.{Part}
use Rattle.cb_scan.specs.declared.rules.wide.tail.Tail.{Tail}
use Rattle.cb_scan.specs.declared.rules.wide.token.WideToken.{WideToken}
use Rattle.cb_scan.specs.rules.wide.Declarations as rules
use Rattle.cb_scan.specs.rules.wide.Declarations.{before_value, begins_value, has_stray, has_value}
use Rattle.cb_scan.specs.rules.wide.Declarations.{is_stray}
use Rattle.cb_scan.specs.rules.wide.Levels.{Numbered, is_byte, is_outer}
use Rattle.cb_scan.specs.rules.wide.Names.{after_pointer, called_name, first_of, from_free_name}
use Rattle.cb_scan.specs.rules.wide.Names.{part_name, tail_name, uncalled_name}
use Rattle.cb_scan.specs.rules.wide.Prototypes.{called_pointer, prototype_in, prototype_name}
use Rattle.cb_scan.specs.rules.wide.Prototypes.{tail_prototype, uncalled_prototype}
use Rattle.cb_scan.specs.rules.wide.Words.{is_sign}
use Rattle.cb_scan.specs.rules.wide.Words.{is_wide_word}
use Rattle.cb_scan.specs.steps.wide.Along.{calls_from, items, part_from, pointer_from, tail_from}
use Rattle.cb_scan.specs.steps.wide.Parts as parts
use Rattle.cb_scan.specs.steps.wide.Parts.{grown_part, part_start}
use Rattle.cb_scan.proofs.WideAhead.{cut_at, grown_same}
use Rattle.cb_scan.proofs.WideCalls.{calls_are}
use Rattle.cb_scan.proofs.WidePointers.{meant_name, meant_pointer, pointer_is}
use Rattle.cb_scan.proofs.WideTails.{or_together, sign_is, tail_function_is, tail_name_is}

-- ---- a value is not looked into

-- a token before the value, and one that begins it
value_true : (x : Numbered) (xs : List Numbered) → begins_value x ≡ true → before_value (x ∷ xs) ≡ []
value_true x xs is =
    ap (λ b. take (cond (not b) (1 + prefix_len (λ x. not (begins_value x)) xs) 0) (x ∷ xs)) is

value_false : (x : Numbered) (xs : List Numbered) → begins_value x ≡ false
    → before_value (x ∷ xs) ≡ x ∷ before_value xs
value_false x xs isnt =
    let one : 1 + prefix_len (λ x. not (begins_value x)) xs ≡ suc (prefix_len (λ x. not (begins_value x)) xs) =
    omega arith in
    ap (λ b. take (cond (not b) (1 + prefix_len (λ x. not (begins_value x)) xs) 0) (x ∷ xs)) isnt
    ∙ ap (λ n. take n (x ∷ xs)) one

-- an `=` or `:` is none of the marks that are looked for, and no word
value_is_not : (b : ℕ) (x : Numbered) → (61 == b) ≡ false → (58 == b) ≡ false → begins_value x ≡ true
    → is_byte b x ≡ false
value_is_not b x equals colon is =
    by_sign (is_outer x) (is_byte 61 x) (is_byte 58 x) is
    (λ e. ap (is_sign b) (sign_is 61 x.item.role e) ∙ equals)
    (λ e. ap (is_sign b) (sign_is 58 x.item.role e) ∙ colon)
  where
    by_sign : (o e c : Bool) → ((o && e) || (o && c)) ≡ true → (e ≡ true → is_byte b x ≡ false)
        → (c ≡ true → is_byte b x ≡ false) → is_byte b x ≡ false
    by_sign true true c is by_e by_c = by_e refl
    by_sign true false true is by_e by_c = by_c refl
    by_sign true false false is by_e by_c = absurd (false≢true is)
    by_sign false e c is by_e by_c = absurd (false≢true is)

value_is_no_word : (x : Numbered) → begins_value x ≡ true → is_wide_word x.item.role ≡ false
value_is_no_word x is =
    by_sign (is_outer x) (is_byte 61 x) (is_byte 58 x) is
    (λ e. ap is_wide_word (sign_is 61 x.item.role e))
    (λ e. ap is_wide_word (sign_is 58 x.item.role e))
  where
    by_sign : (o e c : Bool) → ((o && e) || (o && c)) ≡ true
        → (e ≡ true → is_wide_word x.item.role ≡ false) → (c ≡ true → is_wide_word x.item.role ≡ false)
        → is_wide_word x.item.role ≡ false
    by_sign true true c is by_e by_c = by_e refl
    by_sign true false true is by_e by_c = by_c refl
    by_sign true false false is by_e by_c = absurd (false≢true is)
    by_sign false e c is by_e by_c = absurd (false≢true is)

-- a part without its value is cut there
cut_is : (xs : List Numbered) → cut_at begins_value xs ≡ before_value xs
cut_is [] = refl
cut_is (x ∷ xs) =
    ⊎_elim
    (λ is. ap (λ b. cond b [] (x ∷ cut_at begins_value xs)) is ∙ sym (value_true x xs is))
    (λ isnt.
    ap (λ b. cond b [] (x ∷ cut_at begins_value xs)) isnt
    ∙ ap (λ l. x ∷ l) (cut_is xs)
    ∙ sym (value_false x xs isnt))
    (cases_Bool (begins_value x))

grown_part_same : (p : Part) (o : Bool) (x : Numbered) (xs : List Numbered)
    → grown_part p o (items (x ∷ xs)) x.item ≡ grown_part p o (items (x ∷ before_value xs)) x.item
grown_part_same p o x xs =
    grown_same begins_value (λ y is. value_is_not 40 y refl refl is) (λ y is. value_is_not 41 y refl refl is)
    (λ y is. value_is_not 42 y refl refl is) value_is_no_word p o x xs
    ∙ ap (λ l. grown_part p o (items (x ∷ l)) x.item) (cut_is xs)

-- ---- the machines along a part
record Meant (p : Part) (xs : List Numbered) (q : Part) : Type 0 where
  calls : q.calls ≡ calls_from p.calls (before_value xs)
  pointer : q.pointer ≡ pointer_from p.pointer (before_value xs)
  tail : q.tail ≡ tail_from p.tail (before_value xs)
  has_value : q.has_value ≡ has_value xs
  is_stray : q.is_stray ≡ (p.is_stray || has_stray xs)

valued : (p : Part) (xs : List Numbered) → p.has_value ≡ true → part_from p xs ≡ p
unfolding part_from
valued p [] is = refl
valued p (x ∷ xs) is =
    ap (λ b. part_from (if b then p else (if parts.begins_value (is_outer x) x.item
    then record p { has_value = true } else grown_part p (is_outer x) (items (x ∷ xs)) x.item)) xs) is
    ∙ valued p xs is

value_same : (x : Numbered) → parts.begins_value (is_outer x) x.item ≡ begins_value x
value_same x =
    elim (is_outer x) as (λ o. (o && (is_byte 61 x || is_byte 58 x)) ≡ ((o && is_byte 61 x) || (o && is_byte 58 x)))
    [ true ↦ refl | false ↦ refl ]

or_nothing : (b : Bool) → b ≡ (b || false)
or_nothing true = refl
or_nothing false = refl

-- where the value begins
at_value : (p : Part) (x : Numbered) (xs : List Numbered) → begins_value x ≡ true
    → Meant p (x ∷ xs) (record p { has_value = true })
unfolding calls_from pointer_from tail_from
at_value p x xs is = record {
  calls = sym (ap (calls_from p.calls) (value_true x xs is));
  pointer = sym (ap (pointer_from p.pointer) (value_true x xs is));
  tail = sym (ap (tail_from p.tail) (value_true x xs is));
  has_value = sym (ap (λ b. b || list_any begins_value xs) is);
  is_stray = or_nothing p.is_stray ∙ sym (ap (λ l. p.is_stray || list_any is_stray l) (value_true x xs is));
}

-- before it
before : (p : Part) (x : Numbered) (xs : List Numbered) (q : Part) → begins_value x ≡ false
    → Meant (grown_part p (is_outer x) (items (x ∷ before_value xs)) x.item) xs q → Meant p (x ∷ xs) q
unfolding calls_from pointer_from tail_from
before p x xs q isnt m = record {
  calls = m.calls ∙ sym (ap (calls_from p.calls) (value_false x xs isnt));
  pointer = m.pointer ∙ sym (ap (pointer_from p.pointer) (value_false x xs isnt));
  tail = m.tail ∙ sym (ap (tail_from p.tail) (value_false x xs isnt));
  has_value = m.has_value ∙ sym (ap (λ b. b || list_any begins_value xs) isnt);
  is_stray = m.is_stray
      ∙ or_together p.is_stray (is_stray x) (list_any is_stray (before_value xs))
      ∙ sym (ap (λ l. p.is_stray || list_any is_stray l) (value_false x xs isnt));
}

meant : (p : Part) (xs : List Numbered) → p.has_value ≡ false → Meant p xs (part_from p xs)
unfolding part_from calls_from pointer_from tail_from
meant p [] isnt = record {
  calls = refl;
  pointer = refl;
  tail = refl;
  has_value = isnt;
  is_stray = or_nothing p.is_stray;
}
meant p (x ∷ xs) none =
    let grown = grown_part p (is_outer x) (items (x ∷ xs)) x.item in
    let by : Bool → Bool → Part =
    λ a b. if a then p else (if b then record p { has_value = true } else grown) in
    let here : by p.has_value (parts.begins_value (is_outer x) x.item) ≡ by false (begins_value x) =
    ap (λ a. by a (parts.begins_value (is_outer x) x.item)) none ∙ ap (by false) (value_same x) in
    subst (λ n. Meant p (x ∷ xs) (part_from n xs)) (sym here)
    (⊎_elim
    (λ is. subst (λ b. Meant p (x ∷ xs) (part_from (by false b) xs)) (sym is)
    (subst (Meant p (x ∷ xs)) (sym (valued (record p { has_value = true }) xs refl)) (at_value p x xs is)))
    (λ isnt. subst (λ b. Meant p (x ∷ xs) (part_from (by false b) xs)) (sym isnt)
    (subst (λ g. Meant p (x ∷ xs) (part_from g xs)) (sym (grown_part_same p (is_outer x) x xs))
    (before p x xs (part_from (grown_part p (is_outer x) (items (x ∷ before_value xs)) x.item) xs) isnt
    (meant (grown_part p (is_outer x) (items (x ∷ before_value xs)) x.item) xs none))))
    (cases_Bool (begins_value x)))

-- ---- its names
uncalled_is : (o : Option (List Numbered)) (name : Option WideToken)
    → parts.uncalled (meant_pointer o) name ≡ option_map_or (λ rest. first_of (from_free_name rest)) o name
unfolding meant_name
uncalled_is None name = refl
uncalled_is (Some rest) name =
    elim (from_free_name rest) as (λ l. parts.uncalled (meant_name l) name ≡ first_of l)
    [ [] ↦ refl | y ∷ ys ↦ refl ]

named_is : (o : Option CalledName) (name : Option WideToken)
    → parts.name_of o name ≡ option_map_or (λ called. Some called.name) o name
named_is None name = refl
named_is (Some called) name = refl

-- what the free name is that a pointer leads to
abbrev free : Option (List Numbered) → List Numbered
free o = option_map_or from_free_name o []

uncalled_function_is : (o : Option (List Numbered)) (name : Option WideToken)
    → parts.uncalled_function (meant_pointer o) name
    ≡ option_map_or (λ _. called_pointer (free o)) (first_of (free o)) name
unfolding meant_name
uncalled_function_is None name = refl
uncalled_function_is (Some rest) name =
    elim (from_free_name rest) as (λ l. parts.uncalled_function (meant_name l) name
    ≡ option_map_or (λ _. called_pointer l) (first_of l) name)
    [ [] ↦ refl | y ∷ ys ↦ refl ]

function_is : (o : Option CalledName) (name : Option WideToken)
    → parts.function_of o name
    ≡ option_map_or (λ called. if called.starred then None else Some called.name) o name
function_is None name = refl
function_is (Some called) name = refl

all_before : (xs : List Numbered) → has_value xs ≡ false → before_value xs ≡ xs
all_before [] isnt = refl
all_before (x ∷ xs) isnt =
    value_false x xs (or_left (begins_value x) (has_value xs) isnt)
    ∙ ap (λ l. x ∷ l) (all_before xs (or_right (begins_value x) (has_value xs) isnt))
  where
    or_left : (a b : Bool) → (a || b) ≡ false → a ≡ false
    or_left true b is = is
    or_left false b is = refl

    or_right : (a b : Bool) → (a || b) ≡ false → b ≡ false
    or_right true b is = absurd (false≢true (sym is))
    or_right false b is = is

module _ (first : Bool) (xs : List Numbered) (passed : List Numbered) where
  -- the part as the rules and as the pass have it
  abbrev given : rules.Part
  given = record { first = first; tokens = xs; passed = passed }

  abbrev ended : Part
  ended = part_from (part_start first) xs

  found : Meant (part_start first) xs ended
  found = meant (part_start first) xs refl

  abbrev own : List Numbered
  own = before_value xs

  call_is : ended.calls.found ≡ called_name own
  call_is = ap (λ (c : Calls). c.found) found.calls ∙ calls_are own

  pointer_found : ended.pointer ≡ meant_pointer (after_pointer own)
  pointer_found = found.pointer ∙ pointer_is own

  pub name_is : parts.named ended ≡ part_name given
  name_is =
      ap (λ o. parts.name_of o (parts.uncalled ended.pointer ended.tail.name)) call_is
      ∙ ap (λ p. parts.name_of (called_name own) (parts.uncalled p ended.tail.name)) pointer_found
      ∙ ap (λ n. parts.name_of (called_name own) (parts.uncalled (meant_pointer (after_pointer own)) n))
      (ap (λ (t : Tail). t.name) found.tail ∙ tail_name_is first own)
      ∙ ap (parts.name_of (called_name own)) (uncalled_is (after_pointer own) (tail_name first own))
      ∙ named_is (called_name own) (uncalled_name first own)

  function_found : parts.function_of ended.calls.found
      (parts.uncalled_function ended.pointer ended.tail.prototype) ≡ prototype_in first own
  function_found =
      ap (λ o. parts.function_of o (parts.uncalled_function ended.pointer ended.tail.prototype)) call_is
      ∙ ap (λ p. parts.function_of (called_name own) (parts.uncalled_function p ended.tail.prototype)) pointer_found
      ∙ ap (λ n. parts.function_of (called_name own) (parts.uncalled_function (meant_pointer (after_pointer own)) n))
      (ap (λ (t : Tail). t.prototype) found.tail ∙ tail_function_is first own)
      ∙ ap (parts.function_of (called_name own))
      (uncalled_function_is (after_pointer own) (tail_prototype first own))
      ∙ function_is (called_name own) (uncalled_prototype first own)

  pub function_name_is : parts.function ended ≡ prototype_name given
  function_name_is =
      ap (λ b. if b then None else parts.function_of ended.calls.found
      (parts.uncalled_function ended.pointer ended.tail.prototype)) found.has_value
      ∙ ap (λ n. if has_value xs then None else n) function_found
      ∙ ⊎_elim
      (λ is.
      ap (λ b. if b then None else prototype_in first own) is
      ∙ sym (ap (λ b. if b then None else prototype_in first xs) is))
      (λ isnt. ap (λ l. if has_value xs then None else prototype_in first l) (all_before xs isnt))
      (cases_Bool (has_value xs))

  pub value_is : ended.has_value ≡ has_value xs
  value_is = found.has_value

  pub stray_is : ended.is_stray ≡ has_stray xs
  stray_is = found.is_stray
