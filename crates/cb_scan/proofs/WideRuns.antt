-- Attributes in tokens up to a `;` or a brace, whatever is beyond.
use Rattle.std.proofs.Common.{◌≡◌, ◌∙◌, ℕ, zero, suc, Bool, true, false, List, [], ◌∷◌, ◌++◌}
use Rattle.std.proofs.Common.{refl, sym, ap}
use Rattle.std.specs.Prelude.{◌&&◌, ◌||◌, not, if◌then◌else◌}
use Rattle.std.specs.List.{AllByRecursion}
use Rattle.cb_scan.specs.declared.rules.wide.attribute.Attribute.{Attribute}
use Rattle.cb_scan.specs.declared.rules.wide.attribute.Attribute.TheVariants.{Begun, Inside}
use Rattle.cb_scan.specs.declared.rules.wide.attribute.Attribute.TheVariants.{Outside}
use Rattle.cb_scan.specs.declared.rules.wide.token.WideToken.{WideToken}
use Rattle.cb_scan.specs.rules.wide.Attributes.{attribute_len, begins_attribute}
use Rattle.cb_scan.specs.rules.wide.Attributes.{begins_with_literal}
use Rattle.cb_scan.specs.rules.wide.Attributes.{ends_attribute, outside_attributes}
use Rattle.cb_scan.specs.rules.wide.Attributes.{without_attributes}
use Rattle.cb_scan.specs.rules.wide.Words.{is_attribute_word, is_literal, is_sign, is_wide_word}
use Rattle.cb_scan.specs.steps.wide.Attributes.{inside_after, kept_from, leaves_out, next_attribute}
use Rattle.cb_scan.proofs.WideAttributes.{end_begins_none, kept_from_start}
use Rattle.cb_scan.proofs.WideSeen.{mark_fails, mark_is_not}

-- every token of a run keeps what it had
pub kept_all : (P : WideToken → Type 0) (n : ℕ) (s : List WideToken) → AllByRecursion P s
    → AllByRecursion P (outside_attributes n s)
unfolding outside_attributes
kept_all P n [] all = tt
kept_all P (suc n) (x ∷ s) all = kept_all P n s all.1
kept_all P zero (x ∷ s) all =
    elim (begins_attribute (x ∷ s)) as (λ b. AllByRecursion P
    (if b then outside_attributes (attribute_len (x ∷ s)) s else x ∷ outside_attributes 0 s)) [
      | true ↦ kept_all P (attribute_len (x ∷ s)) s all.1
      | false ↦ (all.0, kept_all P 0 s all.1)
    ]

second_false : (a c : Bool) → (a && false && c) ≡ false
second_false true c = refl
second_false false c = refl

-- ---- a run, and then a token that ends an attribute
module _ (q : WideToken) (rest : List WideToken) (ends : ends_attribute q.role ≡ true) where
  -- the same attributes begin in the run
  begins_same : (x : WideToken) (s : List WideToken)
      → begins_attribute (x ∷ (s ++ q ∷ rest)) ≡ begins_attribute (x ∷ s)
  begins_same x [] =
      ap (λ o. is_wide_word x.role && o && (is_attribute_word x.role || begins_with_literal rest))
      (mark_is_not 40 q.role refl refl refl ends)
      ∙ second_false (is_wide_word x.role)
      (is_attribute_word x.role || begins_with_literal rest)
  begins_same x (y ∷ []) =
      ap (λ l. is_wide_word x.role && is_sign 40 y.role && (is_attribute_word x.role || l))
      (mark_fails is_literal q.role refl refl refl ends)
  begins_same x (y ∷ z ∷ s) = refl

  -- no state sees beyond the token
  pub leaves_same : (a : Attribute) (x : WideToken) (s : List WideToken)
      → leaves_out a (x ∷ (s ++ q ∷ rest)) ≡ leaves_out a (x ∷ s)
  leaves_same Outside x s = begins_same x s
  leaves_same Begun x s = refl
  leaves_same (Inside n) x s = refl

  pub next_same : (a : Attribute) (x : WideToken) (s : List WideToken)
      → next_attribute a (x ∷ (s ++ q ∷ rest)) ≡ next_attribute a (x ∷ s)
  next_same Outside x s = ap (λ b. if b then Begun else Outside) (begins_same x s)
  next_same Begun x s = refl
  next_same (Inside n) x s = refl

  -- it is kept in every state, and no attribute goes on after it
  kept_mark : (a : Attribute) → kept_from a (q ∷ rest) ≡ q ∷ kept_from Outside rest
  unfolding kept_from
  kept_mark Outside =
      ap (λ b. if b then kept_from (if b then Begun else Outside) rest
      else q ∷ kept_from (if b then Begun else Outside) rest) (end_begins_none q rest ends)
  kept_mark Begun =
      ap (λ e. if not e then kept_from (if e then Outside else Inside 0) rest
      else q ∷ kept_from (if e then Outside else Inside 0) rest) ends
  kept_mark (Inside n) =
      ap (λ e. if not e then kept_from (if e then Outside else inside_after n q.role) rest
      else q ∷ kept_from (if e then Outside else inside_after n q.role) rest) ends

  -- the run without attributes, then the token and what is beyond it
  pub kept_run : (a : Attribute) (s : List WideToken)
      → kept_from a (s ++ q ∷ rest) ≡ kept_from a s ++ q ∷ kept_from Outside rest
  unfolding kept_from
  kept_run a [] = kept_mark a
  kept_run a (x ∷ s) =
      let n = next_attribute a (x ∷ s) in
      let later = kept_run n s in
      (λ i. if leaves_same a x s i then kept_from (next_same a x s i) (s ++ q ∷ rest)
      else x ∷ kept_from (next_same a x s i) (s ++ q ∷ rest))
      ∙ elim (leaves_out a (x ∷ s)) as (λ b.
      (if b then kept_from n (s ++ q ∷ rest) else x ∷ kept_from n (s ++ q ∷ rest))
      ≡ (if b then kept_from n s else x ∷ kept_from n s) ++ q ∷ kept_from Outside rest)
      [ true ↦ later | false ↦ ap (λ l. x ∷ l) later ]

  pub run_is : (s : List WideToken)
      → without_attributes (s ++ q ∷ rest) ≡ without_attributes s ++ q ∷ without_attributes rest
  run_is s =
      sym (kept_from_start (s ++ q ∷ rest))
      ∙ kept_run Outside s
      ∙ (λ i. kept_from_start s i ++ q ∷ kept_from_start rest i)

-- nor does any state see more than three tokens
pub leaves_by_three : (a : Attribute) (x y z : WideToken) (s more : List WideToken)
    → leaves_out a (x ∷ y ∷ z ∷ (s ++ more)) ≡ leaves_out a (x ∷ y ∷ z ∷ s)
leaves_by_three Outside x y z s more = refl
leaves_by_three Begun x y z s more = refl
leaves_by_three (Inside n) x y z s more = refl

pub next_by_three : (a : Attribute) (x y z : WideToken) (s more : List WideToken)
    → next_attribute a (x ∷ y ∷ z ∷ (s ++ more)) ≡ next_attribute a (x ∷ y ∷ z ∷ s)
next_by_three Outside x y z s more = refl
next_by_three Begun x y z s more = refl
next_by_three (Inside n) x y z s more = refl
