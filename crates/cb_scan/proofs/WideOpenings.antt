-- The pass knows which body a `{` opens.
use Rattle.std.proofs.Common.{◌≡◌, ◌∙◌, suc, ◌+◌, true, false, List, [], ◌∷◌, Option, Some}
use Rattle.std.proofs.Common.{None, refl, sym, ap, arith, length, drop, ⊎_elim}
use Rattle.std.proofs.lemmas.Bool.{cases_Bool, false≢true}
use Rattle.std.specs.Prelude.{cond, take}
use Rattle.std.specs.List.{prefix_len}
use Rattle.std.specs.Option.{option_map}
use Rattle.cb_scan.specs.declared.facts.Kind.{Kind}
use Rattle.cb_scan.specs.declared.rules.wide.opening.Opening.{Opening}
use Rattle.cb_scan.specs.declared.rules.wide.role.WideRole.{WideRole}
use Rattle.cb_scan.specs.declared.rules.wide.role.WideRole.TheVariants as wide
use Rattle.cb_scan.specs.declared.rules.wide.token.WideToken.{WideToken}
use Rattle.cb_scan.specs.rules.wide.Bodies.{body_kind, first_kind, names_first}
use Rattle.cb_scan.specs.rules.wide.Words.{is_wide_name}
use Rattle.cb_scan.specs.steps.wide.Openings.{after_kind, first, next_opening, opening_after}
use Rattle.cb_scan.specs.steps.wide.Openings.{the_opening}

-- the names that come first
names_true : (x : WideToken) (xs : List WideToken) → is_wide_name x.role ≡ true
    → names_first (x ∷ xs) ≡ x ∷ names_first xs
names_true x xs is =
    let one : 1 + prefix_len (λ (y : WideToken). is_wide_name y.role) xs
    ≡ suc (prefix_len (λ (y : WideToken). is_wide_name y.role) xs) = omega arith in
    ap (λ b. take (cond b (1 + prefix_len (λ (y : WideToken). is_wide_name y.role) xs) 0) (x ∷ xs)) is
    ∙ ap (λ n. take n (x ∷ xs)) one

names_false : (x : WideToken) (xs : List WideToken) → is_wide_name x.role ≡ false
    → names_first (x ∷ xs) ≡ []
names_false x xs isnt =
    ap (λ b. take (cond b (1 + prefix_len (λ (y : WideToken). is_wide_name y.role) xs) 0) (x ∷ xs)) isnt

-- a name begins no body
name_begins_none : (r : WideRole) → is_wide_name r ≡ true → body_kind r ≡ None
name_begins_none wide.Name is = refl
name_begins_none wide.Underscored is = refl
name_begins_none wide.Struct is = absurd (false≢true is)
name_begins_none wide.Union is = absurd (false≢true is)
name_begins_none wide.Enum is = absurd (false≢true is)
name_begins_none wide.Typedef is = refl
name_begins_none wide.Extern is = refl
name_begins_none wide.Static is = refl
name_begins_none wide.Specifier is = refl
name_begins_none wide.Attribute is = refl
name_begins_none wide.Statement is = refl
name_begins_none wide.Reserved is = refl
name_begins_none wide.Str is = refl
name_begins_none wide.Number is = refl
name_begins_none wide.Character is = refl
name_begins_none (wide.Mark x) is = refl

-- what a `{` opens after some tokens, by the names that are directly before it
abbrev opening_by : List WideToken → List WideToken → Option Opening
opening_by names before =
    option_map (λ (kind : Kind). the_opening kind (first names)) (first_kind (drop (length names) before))

-- after a name, and after another token
after_name : (x : WideToken) (xs : List WideToken) → is_wide_name x.role ≡ true
    → next_opening (opening_after xs) x ≡ opening_after (x ∷ xs)
after_name x xs is =
    ap (λ k. after_kind k (opening_after xs) x) (name_begins_none x.role is)
    ∙ ap (λ b. cond b (option_map (λ (o : Opening). record o { tag = Some x }) (opening_after xs)) None) is
    ∙ by_kind (first_kind (drop (length (names_first xs)) xs))
    ∙ sym (ap (λ names. opening_by names (x ∷ xs)) (names_true x xs is))
  where
    by_kind : (k : Option Kind)
        → option_map (λ (o : Opening). record o { tag = Some x })
        (option_map (λ (kind : Kind). the_opening kind (first (names_first xs))) k)
        ≡ option_map (λ (kind : Kind). the_opening kind (Some x)) k
    by_kind None = refl
    by_kind (Some kind) = refl

after_other : (x : WideToken) (xs : List WideToken) → is_wide_name x.role ≡ false
    → next_opening (opening_after xs) x ≡ opening_after (x ∷ xs)
after_other x xs isnt =
    by_kind (body_kind x.role) ∙ sym (ap (λ names. opening_by names (x ∷ xs)) (names_false x xs isnt))
  where
    by_kind : (k : Option Kind)
        → after_kind k (opening_after xs) x ≡ option_map (λ (kind : Kind). the_opening kind None) k
    by_kind None = ap (λ b. cond b (option_map (λ (o : Opening). record o { tag = Some x }) (opening_after xs)) None) isnt
    by_kind (Some kind) = refl

-- after any token
pub opening_next : (x : WideToken) (xs : List WideToken)
    → next_opening (opening_after xs) x ≡ opening_after (x ∷ xs)
opening_next x xs = ⊎_elim (after_name x xs) (after_other x xs) (cases_Bool (is_wide_name x.role))
