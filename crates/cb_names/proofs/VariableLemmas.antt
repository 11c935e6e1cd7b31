-- The local that a token names, by what is known of each token, is that of the definitions.
use Rattle.std.proofs.Common.{◌≡◌, ◌<◌, ℕ, Bool, List, ap, arith, length, false, refl}
use Rattle.std.specs.Prelude.{◌&&◌, ◌||◌, not, slice_index_or}
use Rattle.std.specs.Str.{bytes_eq}
use Rattle.cb_scan.specs.lex.Tokens.{bytes_of}
use Rattle.cb_names.specs.Bindings.{declares_name, is_named, scope_of, variable_by}
use Rattle.cb_names.specs.Braces.{is_name_at}
use Rattle.cb_names.specs.Labels.{is_spelled, span}
use Rattle.cb_names.specs.OwnNames.{is_bound, own_in}
use Rattle.cb_names.specs.Pairs.{at}
use Rattle.cb_names.specs.Scoped.{declares}
use Rattle.cb_names.specs.Spaces.{follows_accessor, is_ordinary, is_tag}
use Rattle.cb_names.specs.Statements.{starts}
use Rattle.cb_names.specs.Tables.{IsTable, those_where}
use Rattle.cb_names.specs.declared.scopes.Scope.{Scope}
use Rattle.cb_names.specs.declared.word.Item.{Item}
use Rattle.cb_names.specs.steps.Binding.{declares_by, named_by, no_scope, scope_by}
use Rattle.cb_names.specs.steps.Labelling.{names_label_by}
use Rattle.cb_names.specs.steps.Naming.{is_ordinary_by}
use Rattle.cb_names.proofs.BindingLemmas.{any_same, variable_same}
use Rattle.cb_names.proofs.LabelLemmas.{names_same, uses_same_by}

module _ (text : List ℕ) (xs : List Item) (b : ℕ) (begun : List Bool) (t : IsTable (starts xs b) (length xs) begun) where
  pub ordinary_same : (k : ℕ) → k < length xs → is_ordinary_by xs begun k ≡ is_ordinary xs b k
  ordinary_same k less =
      (λ i. is_name_at xs k && not (follows_accessor xs k || is_tag xs k || names_same text xs b k begun t k less i))

  module _ (m : ℕ) (declaring : List Bool) (scopes : List Scope) (name : List ℕ)
      (d : IsTable (declares xs m b) (length xs) declaring) (s : IsTable (scope_of xs m b) (length xs) scopes) where
    named_same : (k : ℕ) → k < length xs → named_by text xs begun name k ≡ is_named text xs b name k
    named_same k less = ap (λ c. c && bytes_eq (bytes_of text (span (at xs k))) name) (ordinary_same k less)

    pub variable_is : (k : ℕ) → k < length xs
        → variable_by xs (named_by text xs begun name) (declares_by text xs begun declaring name) (scope_by scopes) k
        ≡ variable_by xs (is_named text xs b name) (declares_name text xs m b name) (scope_of xs m b) k
    variable_is k less =
        variable_same xs _ _ _ _ _ _ named_same (λ i under. (λ j. named_same i under j && d.at i false under j))
        (λ i under. s.at i no_scope under) k less

    pub own_is : those_where (λ k. span (at xs k)) (λ k. (names_label_by xs (slice_index_or begun k false) k && is_spelled text xs k name)
        || (named_by text xs begun name k && is_bound (declares_by text xs begun declaring name) (scope_by scopes) k)) (length xs)
        ≡ own_in text xs m b name
    own_is =
        uses_same_by _ _ _ _ 0 (length xs)
        (λ k le less. let within : k < length xs = omega (arith, less) in
        (λ i. (names_same text xs b k begun t k within i && is_spelled text xs k name)
        || (named_same k within i
        && any_same _ _ _ _ (length xs) (λ j under. (λ i. named_same j under i && d.at j false under i))
        (λ j under. s.at j no_scope under) k within i)))
        (λ k le less. refl)
