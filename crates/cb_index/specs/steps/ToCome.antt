-- Entries that are still to come, where they are found one after another.
use Rattle.std.specs.Prelude.{◌≡◌, Bool, true, not, ◌&&◌, List, [], ◌∷◌, Option, Some, None}
use Rattle.std.specs.Prelude.{filter}
use Rattle.std.specs.Prelude.{map, if◌then◌else◌}
use Rattle.cb_scan.specs.Order.{goes_first, in_order}
use Rattle.cb_tags.specs.TagLines.{Tag}
use Rattle.cb_index.specs.Archived.{Archived}
use Rattle.cb_index.specs.Entries.{Keyer, has_key, has_key_from, sort_key}
use Rattle.cb_index.specs.Held.{all_entries}
use Rattle.cb_index.specs.Kinds.{keyer_of, lister_of, prefix_of}
use Rattle.cb_index.specs.steps.Found.{tag_at}
use Rattle.cb_index.specs.declared.entry.Asked.{Asked}
use Rattle.cb_index.specs.declared.entry.Asked.TheVariants.{Every, OfKey, FromKey}
use Rattle.cb_index.specs.declared.entry.Posting.{Posting}
use Rattle.cb_index.specs.declared.entry.Shown.{Shown}
use Rattle.cb_index.specs.declared.entry.IndexKind.{IndexKind}

-- whether an entry goes behind the last one that was given, if one was
abbrev pub is_later : Keyer → Archived → Option Posting → Posting → Bool
is_later keyer a None e = true
is_later keyer a (Some last) e = not (goes_first (sort_key keyer a) e last)

-- whether an entry is asked for: any one, one that has the key, or one whose key is not less
abbrev pub is_asked : IndexKind → Archived → Asked → Posting → Bool
is_asked kind a Every e = true
is_asked kind a (OfKey key) e = has_key (keyer_of kind) a (prefix_of kind key.now) key.now e
is_asked kind a (FromKey key) e =
    has_key_from (keyer_of kind) a (prefix_of kind key.now) key.now e

-- whether an entry is still to come
abbrev pub is_to_come : IndexKind → Archived → Asked → Option Posting → Posting → Bool
is_to_come kind a asked last e = is_later (keyer_of kind) a last e && is_asked kind a asked e

-- of these entries the ones that are still to come, in order
abbrev pub to_come : IndexKind → Archived → Asked → Option Posting → List Posting → List Posting
to_come kind a asked last es =
    in_order (sort_key (keyer_of kind) a) (filter (is_to_come kind a asked last) es)

-- of an entry and of one before it, if there is one, the first
abbrev pub earlier : Keyer → Archived → Option Posting → Posting → Posting
earlier keyer a None e = e
earlier keyer a (Some before) e = if goes_first (sort_key keyer a) e before then e else before

-- the first one, if there is one
abbrev pub first_of : List Posting → Option Posting
first_of [] = None
first_of (e ∷ es) = Some e

-- the tags of the definitions of files that are asked for, in order
abbrev pub asked_tags : IndexKind → Archived → Asked → List Shown → List Tag
asked_tags kind a asked shown =
    map (tag_at a) (filter (is_asked kind a asked)
    (in_order (sort_key (keyer_of kind) a) (all_entries (lister_of kind) a shown)))

-- whichever was given last, the first of those still to come is followed by those that are still to
-- come once it was given
abbrev pub GoesOn : IndexKind → Archived → Asked → List Posting → Type 0
GoesOn kind a asked es =
    (last : Option Posting) (e : Posting) → first_of (to_come kind a asked last es) ≡ Some e
    → to_come kind a asked last es ≡ e ∷ to_come kind a asked (Some e) es
