-- The laws of renaming at the definitions of a function.
use Rattle.std.proofs.Common.{◌≡◌, ◌∙◌, ◌<◌, ◌∷◌, [], ℕ, Bool, true, false, List, Option, Some, None}
use Rattle.std.proofs.Common.{⊎_elim, refl, sym, ap, arith, filter, length, map}
use Rattle.std.proofs.lemmas.Bool.{and_parts, cases_Bool, eqb-true, false≢true}
use Rattle.std.specs.Prelude.{◌&&◌, ◌==◌, ◌||◌, cond, not, option_map}
use Rattle.std.specs.List.{range_with_len}
use Rattle.std.specs.Option.{option_map_or}
use Rattle.std.specs.Str.{bytes_eq}
use Rattle.cb_names.specs.Bindings.{binding, declares_name, is_bound_in, is_named, scope_of, variable_at, variable_of}
use Rattle.cb_names.specs.Braces.{is_name_at}
use Rattle.cb_names.specs.Labels.{follows_goto, label_of, label_use, names_label}
use Rattle.cb_names.specs.Locals.{LocalName}
use Rattle.cb_names.specs.Renaming.{AreBoundToThemselves, BindsAsBefore, ForsAreInBlocks, IsNewToAll, IsNewToLabels}
use Rattle.cb_names.specs.Renaming.{IsNewToNames}
use Rattle.cb_names.specs.Renaming.{LabelsAsBefore, UsesAsBefore, bound_in, has, is_label_use, is_use_of, listed}
use Rattle.cb_names.specs.Renaming.{own_words, spans_where, with_label, with_local}
use Rattle.cb_names.specs.Scoped.{declares, is_list}
use Rattle.cb_names.specs.Spaces.{follows_accessor, is_ordinary, is_tag}
use Rattle.cb_names.specs.Statements.{is_label}
use Rattle.cb_names.specs.declared.local.LocalUse.{LocalUse}
use Rattle.cb_names.specs.declared.scopes.Scope.{Scope}
use Rattle.cb_names.specs.declared.word.Item.{Item}
use Rattle.cb_names.proofs.ListLemmas.{lists_pair}
use Rattle.cb_names.proofs.NestingLemmas.{in_own, nested}
use Rattle.cb_names.proofs.RenamingLemmas.{bound_same, bound_to, kept_bound, new_exactly, told_same, uses_same, word_is}
use Rattle.cb_names.proofs.SeenLemmas.{bound_to_itself}

-- an ordinary name names no label
apart : (xs : List Item) (b k : ℕ) → is_ordinary xs b k ≡ true → names_label xs b k ≡ true → ⊥
apart xs b k ordinary label =
    false≢true (sym (ap (λ c. is_name_at xs k && not (follows_accessor xs k || is_tag xs k || c)) label ∙ none) ∙ ordinary)
  where
    none : (is_name_at xs k && not (follows_accessor xs k || is_tag xs k || true)) ≡ false
    none = by (is_name_at xs k) (follows_accessor xs k || is_tag xs k)
      where
        by : (n o : Bool) → (n && not (o || true)) ≡ false
        by true true = refl
        by true false = refl
        by false true = refl
        by false false = refl

module _ (text : List ℕ) (xs : List Item) (m b : ℕ) where
  pub bound_to_themselves : (name : List ℕ) → ForsAreInBlocks text xs m b name → AreBoundToThemselves text xs m b name
  bound_to_themselves name fors k less is =
      bound_to_itself (scope_of xs m b) (declares_name text xs m b name) k is
      (in_own xs b (is_list xs m b) (lists_pair xs m b) k (fors k less is) less)
      (λ d le declared seen.
      nested xs b (is_list xs m b) (lists_pair xs m b) d k (fors d (omega (arith, le, less)) declared) le less seen)

  module _ (d : ℕ) (new : List ℕ) (own : AreBoundToThemselves text xs m b (own_words text xs d)) (fresh : IsNewToNames text xs b new) where
    pub local_binds : BindsAsBefore text xs m b (with_local text xs m b d new)
    local_binds k less ordinary =
        bound_same (length xs) (is_ordinary xs b) (declares xs m b) (own_words text xs) (scope_of xs m b)
        (own_words text xs d) new (scope_of xs m b d).first fresh own k less ordinary

    pub local_uses : UsesAsBefore text xs m b (with_local text xs m b d new)
    local_uses e k j k_less j_less ordinary is =
        uses_same (length xs) (is_ordinary xs b) (declares xs m b) (own_words text xs) (scope_of xs m b)
        (own_words text xs d) new (scope_of xs m b d).first fresh own e k j k_less j_less ordinary is

    pub local_exactly : (k : ℕ) → k < length xs
        → has (with_local text xs m b d new) (is_ordinary xs b) new k ≡ is_use_of text xs m b d k
    local_exactly k less =
        new_exactly (length xs) (is_ordinary xs b) (declares xs m b) (own_words text xs) (scope_of xs m b)
        (own_words text xs d) new (scope_of xs m b d).first fresh own k less

  -- a local leaves labels as they are
  pub local_labels : (d : ℕ) (new : List ℕ) → LabelsAsBefore text xs b (with_local text xs m b d new)
  local_labels d new j k j_less k_less j_label k_label = (λ i. bytes_eq (kept j j_label i) (kept k k_label i))
    where
      kept : (i : ℕ) → names_label xs b i ≡ true → with_local text xs m b d new i ≡ own_words text xs i
      kept i label =
          ⊎_elim
          (λ is. absurd (apart xs b i
          (and_parts (is_ordinary xs b i) (bytes_eq (own_words text xs i) (own_words text xs d))
          (and_parts (is_named text xs b (own_words text xs d) i) _ is).0).0 label))
          (λ isnt. ap (λ c. cond c new (own_words text xs i)) isnt)
          (cases_Bool (is_use_of text xs m b d i))

  -- and a label leaves ordinary names as they are
  pub label_binds : (k : ℕ) (new : List ℕ) → BindsAsBefore text xs m b (with_label text xs b k new)
  label_binds l new k less ordinary =
      kept_bound (length xs) (is_ordinary xs b) (declares xs m b) (own_words text xs) (with_label text xs b l new) (scope_of xs m b)
      (λ i i_less i_ordinary. kept i i_ordinary) k less ordinary
    where
      kept : (i : ℕ) → is_ordinary xs b i ≡ true → with_label text xs b l new i ≡ own_words text xs i
      kept i is =
          ⊎_elim
          (λ label. absurd (apart xs b i is (and_parts (names_label xs b i) _ label).0))
          (λ isnt. ap (λ c. cond c new (own_words text xs i)) isnt)
          (cases_Bool (is_label_use text xs b l i))

pub labels_same : (text : List ℕ) (xs : List Item) (b k : ℕ) (new : List ℕ) → IsNewToLabels text xs b new
    → LabelsAsBefore text xs b (with_label text xs b k new)
labels_same text xs b k new fresh i j i_less j_less i_label j_label =
    told_same (length xs) (names_label xs b) (own_words text xs) (own_words text xs k) new fresh i j i_less j_less i_label j_label

-- ---- what is answered
map_twice : {A B C : Type 0} (f : A → B) (g : B → C) (l : List A) → map g (map f l) ≡ map (λ x. g (f x)) l
map_twice f g [] = refl
map_twice f g (x ∷ l) = ap (λ r. g (f x) ∷ r) (map_twice f g l)

pub local_listed : (text : List ℕ) (xs : List Item) (m b k d : ℕ) → is_ordinary xs b k ≡ true
    → bound_in (own_words text xs) xs m b k ≡ Some d
    → option_map listed (variable_at text xs m b k) ≡ Some (spans_where xs (is_use_of text xs m b d))
local_listed text xs m b k d ordinary is =
    ap (λ c. option_map listed (cond c (option_map of (bound_in (own_words text xs) xs m b k)) None)) ordinary
    ∙ ap (λ o. option_map listed (option_map of o)) is
    ∙ ap (λ l. Some l) (map_twice _ (λ (u : LocalUse). u.name) (filter (used (own_words text xs k)) (range_with_len 0 (length xs)))
    ∙ ap (λ n. spans_where xs (used n)) (sym (bound_to (is_ordinary xs b) (declares xs m b) (own_words text xs) (scope_of xs m b) k d is).same))
  where
    of : ℕ → LocalName
    of e = variable_of xs (is_named text xs b (own_words text xs k)) (declares_name text xs m b (own_words text xs k)) (scope_of xs m b) e

    used : List ℕ → ℕ → Bool
    used name j = is_named text xs b name j
        && is_bound_in (declares_name text xs m b name) (scope_of xs m b) (scope_of xs m b d).first j

pub label_listed : (text : List ℕ) (xs : List Item) (b k : ℕ)
    → listed (label_of text xs b k) ≡ spans_where xs (is_label_use text xs b k)
label_listed text xs b k =
    map_twice (λ j. label_use xs (is_label xs b j) j) (λ (u : LocalUse). u.name)
    (filter (is_label_use text xs b k) (range_with_len 0 (length xs)))

-- ---- uses
at_first : (scope : ℕ → Scope) (o : Option ℕ) (i j : ℕ) → option_map_or (λ d. (scope d).first == i) o false ≡ true
    → option_map_or (λ d. (scope d).first == j) o false ≡ true → i ≡ j
at_first scope None i j one two = absurd (false≢true one)
at_first scope (Some d) i j one two = sym (eqb-true (scope d).first i one) ∙ eqb-true (scope d).first j two

pub use_has_word : (text : List ℕ) (xs : List Item) (m b d k : ℕ) → is_use_of text xs m b d k ≡ true
    → own_words text xs k ≡ own_words text xs d
use_has_word text xs m b d k is =
    word_is (own_words text xs k) (own_words text xs d)
    (and_parts (is_ordinary xs b k) (bytes_eq (own_words text xs k) (own_words text xs d))
    (and_parts (is_named text xs b (own_words text xs d) k) _ is).0).1

pub uses_apart : (text : List ℕ) (xs : List Item) (m b d e k : ℕ) → is_use_of text xs m b d k ≡ true
    → is_use_of text xs m b e k ≡ true → (j : ℕ) → is_use_of text xs m b d j ≡ is_use_of text xs m b e j
uses_apart text xs m b d e k of_d of_e j =
    (λ i. is_named text xs b (name i) j && is_bound_in (declares_name text xs m b (name i)) (scope_of xs m b) (first i) j)
  where
    name : own_words text xs d ≡ own_words text xs e
    name = sym (use_has_word text xs m b d k of_d) ∙ use_has_word text xs m b e k of_e

    first : (scope_of xs m b d).first ≡ (scope_of xs m b e).first
    first = at_first (scope_of xs m b) (binding (declares_name text xs m b (own_words text xs d)) (scope_of xs m b) k) _ _
        (and_parts (is_named text xs b (own_words text xs d) k) _ of_d).1
        (ap (λ n. is_bound_in (declares_name text xs m b n) (scope_of xs m b) (scope_of xs m b e).first k) name
        ∙ (and_parts (is_named text xs b (own_words text xs e) k) _ of_e).1)

-- ---- new words
new_to : (name kind word : Bool) → (name ≡ true → word ≡ false) → ((name && kind) && word) ≡ false
new_to true true word new = new refl
new_to true false word new = refl
new_to false kind word new = refl

pub new_to_names : (text : List ℕ) (xs : List Item) (b : ℕ) (new : List ℕ) → IsNewToAll text xs new → IsNewToNames text xs b new
new_to_names text xs b new fresh k less =
    new_to (is_name_at xs k) (not (follows_accessor xs k || is_tag xs k || names_label xs b k))
    (bytes_eq (own_words text xs k) new) (fresh k less)

pub new_to_labels : (text : List ℕ) (xs : List Item) (b : ℕ) (new : List ℕ) → IsNewToAll text xs new → IsNewToLabels text xs b new
new_to_labels text xs b new fresh k less =
    new_to (is_name_at xs k) (follows_goto xs k || is_label xs b k) (bytes_eq (own_words text xs k) new) (fresh k less)
