-- The tokens that are held back.
use Rattle.std.specs.Prelude.{List, []}
use Rattle.cb_scan.specs.declared.rules.wide.token.WideToken.{WideToken}

-- those that are known to be of no attribute, and after them those that may yet be of one
pub record HeldBack : Type 0 where
  pub bare : List WideToken
  pub raw : List WideToken

-- no token is held back
abbrev pub none_held : HeldBack
none_held = record { bare = []; raw = [] }
