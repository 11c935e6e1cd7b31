-- The tokens of a line lie in the text as those of its rest lie there.
use Rattle.std.proofs.Common.{◌<◌, ◌^◌, [], ◌∷◌, ℕ, List, arith, drop, length, length-drop, map}
use Rattle.std.specs.List.{AllByRecursion}
use Rattle.cb_scan.specs.CodeTokens.{IsSpanOf}
use Rattle.cb_scan.specs.declared.lex.token.Token.{Token}
use Rattle.cb_names.specs.Functions.{IsItemOf}
use Rattle.cb_names.specs.Parameters.{IsMovable, line_item}

module _ (text : List ℕ) (n : ℕ) where
  pub all_moved : (ts : List Token) → AllByRecursion (IsSpanOf (drop n text)) ts
      → AllByRecursion (IsItemOf text) (map (line_item n) ts)
  all_moved [] within = within
  all_moved (t ∷ ts) (here, more) =
      ((omega (arith, here.0), omega (arith, here.0, here.1, length-drop n text)), all_moved ts more)

  pub all_movable : (ts : List Token) → length text < 2 ^ 32 → AllByRecursion (IsSpanOf (drop n text)) ts
      → AllByRecursion (IsMovable n) ts
  all_movable [] small within = within
  all_movable (t ∷ ts) small (here, more) =
      ((here.0, omega (arith, small, here.0, here.1, length-drop n text)), all_movable ts small more)
