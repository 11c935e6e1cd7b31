-- Which names are ordinary, where it is known with which tokens a statement begins.
use Rattle.std.specs.Prelude.{ℕ, Bool, false, ◌&&◌, ◌||◌, not, List, slice_index_or}
use Rattle.cb_names.specs.Braces.{is_name_at}
use Rattle.cb_names.specs.Spaces.{follows_accessor, is_tag}
use Rattle.cb_names.specs.declared.word.Item.{Item}
use Rattle.cb_names.specs.steps.Labelling.{names_label_by}

abbrev pub is_ordinary_by : List Item → List Bool → ℕ → Bool
is_ordinary_by xs starts k =
    is_name_at xs k
    && not (follows_accessor xs k || is_tag xs k
    || names_label_by xs (slice_index_or starts k false) k)
