-- Definitions that are found by a search of all files, one after another.
use Rattle.std.specs.Prelude.{List, [], ◌∷◌, Option, Some, if◌then◌else◌}
use Rattle.cb_index.specs.Held.{all_entries}
use Rattle.cb_index.specs.Kinds.{def_kind, keyer_of, lister_of}
use Rattle.cb_index.specs.steps.ShownIn.{shown_in}
use Rattle.cb_index.specs.steps.ToCome.{earlier, is_to_come, to_come}
use Rattle.cb_index.specs.declared.tags.DefSearch.{DefSearch}
use Rattle.cb_index.specs.declared.entry.Posting.{Posting}

-- the definitions that a search is still to give
abbrev pub search_left : DefSearch → List Posting
search_left s =
    to_come (def_kind s.by_tag_name) s.archive.now s.asked s.last
    (all_entries (lister_of (def_kind s.by_tag_name)) s.archive.now (shown_in s.shown))

-- ---- how the first of them is found

-- of an entry, if it is still to come, and of one before it, the first
abbrev pub earlier_of : DefSearch → Option Posting → Posting → Option Posting
earlier_of s before e =
    if is_to_come (def_kind s.by_tag_name) s.archive.now s.asked s.last e
    then Some (earlier (keyer_of (def_kind s.by_tag_name)) s.archive.now before e) else before

-- of entries that are still to come and of one before them, the first
abbrev pub first_among : DefSearch → Option Posting → List Posting → Option Posting
first_among s before [] = before
first_among s before (e ∷ es) = first_among s (earlier_of s before e) es
