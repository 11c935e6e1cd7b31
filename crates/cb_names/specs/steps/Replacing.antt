-- The tokens of the text of a macro.
use Rattle.std.specs.List.{AllByRecursion}
use Rattle.cb_scan.specs.CodeTokens.{IsSpanOf}
use Rattle.cb_names.specs.declared.macros.Text.{Text}

-- the tokens lie in the bytes
pub record IsText (t : Text) : Type 0 where
  pub listed : AllByRecursion (IsSpanOf t.bytes.now) t.listed.now
  pub tokens : AllByRecursion (IsSpanOf t.bytes.now) t.tokens.now
