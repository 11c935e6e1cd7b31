-- The texts of lines that are folded.
use Rattle.std.proofs.Common.{◌≡◌, ℕ, ◌<◌, ◌^◌, ◌++◌, decimal}
use Rattle.std.specs.Prelude.{codes}
use Rattle.json.specs.Print.{escape_byte}
use Rattle.json.specs.Tree.{HasNumbers}
use Rattle.json.proofs.Printed.Decimals.{IsNumber-decimal}
use Rattle.cb_wire.specs.declared.fold.Fold.{Fold}
use Rattle.cb_wire.specs.Folds.{fold_of, fold_tree}
use Rattle.cb_wire.specs.Values.{value_text}
use Rattle.cb_wire.proofs.Printed.{value_text-is}

pub fold-text : (first last : ℕ) → value_text (fold_of first last)
    ≡ codes "{\"startLine\":" ++ (decimal first
    ++ (codes ",\"endLine\":" ++ (decimal last ++ codes "}")))
unfolding escape_byte
fold-text first last = value_text-is (fold_of first last)

pub fold-numbers : (f : Fold) → f.first < 2 ^ 64 → f.last < 2 ^ 64 → HasNumbers (fold_tree f)
fold-numbers f first last = (IsNumber-decimal f.first first, (IsNumber-decimal f.last last, tt))
