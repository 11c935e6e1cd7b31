-- The labels of a function, where it is known with which tokens a statement begins.
use Rattle.std.specs.Prelude.{ℕ, ◌+◌, Bool, false, ◌&&◌, ◌||◌, List, find, length}
use Rattle.std.specs.Prelude.{Option, slice_index_or}
use Rattle.std.specs.List.{range_with_len}
use Rattle.std.specs.Option.{option_map}
use Rattle.cb_scan.specs.declared.lex.piece.Span.{Span}
use Rattle.cb_names.specs.Braces.{is_name_at}
use Rattle.cb_names.specs.Labels.{follows_goto, is_same, label_use, span}
use Rattle.cb_names.specs.Locals.{uses_where}
use Rattle.cb_names.specs.Pairs.{at}
use Rattle.cb_names.specs.Statements.{is_lone_colon}
use Rattle.cb_names.specs.declared.local.LocalUse.{LocalUse}
use Rattle.cb_names.specs.declared.word.Item.{Item}

abbrev pub is_label_by : List Item → Bool → ℕ → Bool
is_label_by xs begins k = is_name_at xs k && is_lone_colon xs (k + 1) && begins

abbrev pub names_label_by : List Item → Bool → ℕ → Bool
names_label_by xs begins k = is_name_at xs k && (follows_goto xs k || is_label_by xs begins k)

-- index j is a label with the name of index k; it names that label
abbrev pub defines : List ℕ → List Item → List Bool → ℕ → ℕ → Bool
defines text xs starts k j = is_label_by xs (slice_index_or starts j false) j && is_same text xs j k

abbrev pub uses : List ℕ → List Item → List Bool → ℕ → ℕ → Bool
uses text xs starts k j = names_label_by xs (slice_index_or starts j false) j && is_same text xs j k

abbrev pub definition_by : List ℕ → List Item → List Bool → ℕ → Option Span
definition_by text xs starts k =
    option_map (λ j. span (at xs j)) (find (defines text xs starts k) (range_with_len 0 (length xs)))

abbrev pub use_by : List Item → List Bool → ℕ → LocalUse
use_by xs starts j = label_use xs (is_label_by xs (slice_index_or starts j false) j) j

abbrev pub uses_by : List ℕ → List Item → List Bool → ℕ → List LocalUse
uses_by text xs starts k = uses_where (use_by xs starts) (uses text xs starts k) (length xs)
