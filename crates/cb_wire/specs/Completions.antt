-- Names that complete a word, as the protocol tells them.
use Rattle.std.specs.Prelude.{ℕ, Bool, true, false, List, ◌∷◌, codes, decimal}
use Rattle.json.specs.Json.{Json, array, boolean, number, string, object, no_members, member}
use Rattle.cb_wire.specs.declared.completion.Completion.{Completion}
use Rattle.cb_wire.specs.declared.completion.Rank.{Rank}
use Rattle.cb_wire.specs.declared.completion.Rank.TheVariants.{Local, Session}
use Rattle.cb_wire.specs.Texts.{readable}
use Rattle.cb_wire.specs.Values.{items_of, value_text}

-- the digit of a rank: `0` or `1`
abbrev pub rank_digit : Rank → ℕ
rank_digit Local = 48
rank_digit Session = 49

-- a name that completes a word, and the number of its kind. An editor sorts names by their rank, and
-- those of one rank by their bytes
abbrev pub completion_item : List ℕ → ℕ → Rank → Json
completion_item label kind rank =
    object (member (codes "label") (string (readable label))
    (member (codes "kind") (number (decimal kind))
    (member (codes "sortText") (string (rank_digit rank ∷ readable label)) no_members)))

abbrev pub completion_tree : Completion → Json
completion_tree c = completion_item c.label.now c.kind c.rank

abbrev pub completion_text : Completion → List ℕ
completion_text c = value_text (completion_tree c)

-- some of the names that complete a word, and whether there are more
abbrev pub completion_list : (more : Bool) → (items : List Json) → Json
completion_list more items =
    object (member (codes "isIncomplete") (boolean more)
    (member (codes "items") (array (items_of items)) no_members))

-- how the text of such a list begins, up to its first name
abbrev pub completions_front : (more : Bool) → List ℕ
completions_front true = codes "{\"isIncomplete\":true,\"items\":["
completions_front false = codes "{\"isIncomplete\":false,\"items\":["
