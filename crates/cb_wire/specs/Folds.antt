-- Lines that an editor folds, as the protocol tells them.
use Rattle.std.specs.Prelude.{ℕ, List, codes, decimal}
use Rattle.json.specs.Json.{Json, number, object, no_members, member}
use Rattle.cb_wire.specs.declared.fold.Fold.{Fold}
use Rattle.cb_wire.specs.Values.{value_text}

-- the lines from one to another, counted from 0
abbrev pub fold_of : (first last : ℕ) → Json
fold_of first last =
    object (member (codes "startLine") (number (decimal first))
    (member (codes "endLine") (number (decimal last)) no_members))

abbrev pub fold_tree : Fold → Json
fold_tree f = fold_of f.first f.last

abbrev pub fold_text : Fold → List ℕ
fold_text f = value_text (fold_tree f)
