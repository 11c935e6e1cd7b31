-- The tokens of the code as the wide profile reads them, one after the other.
use Rattle.std.specs.Prelude.{ℕ, ◌&&◌, not, List, [], ◌∷◌}
use Rattle.cb_scan.specs.declared.lex.token.Token.{Token}
use Rattle.cb_scan.specs.declared.rules.functions.Before.{Before}
use Rattle.cb_scan.specs.declared.rules.wide.role.WideRole.{WideRole}
use Rattle.cb_scan.specs.declared.rules.wide.token.WideToken.{WideToken}
use Rattle.cb_scan.specs.lex.Tokens.{is_mark}
use Rattle.cb_scan.specs.rules.wide.Words.{wide_role}
use Rattle.cb_scan.specs.steps.Functions.{before_after, is_after_linkage}
use Rattle.cb_scan.specs.Bytes.{open_brace}

-- a token with what it is, by what is directly before it
abbrev pub token_as : WideRole → Before → Token → WideToken
token_as role b t = record {
  token = t;
  role = role;
  counted = is_mark open_brace t.role && not (is_after_linkage b);
}

-- a token of a text
abbrev pub token_after : List ℕ → Before → Token → WideToken
token_after text b t = token_as (wide_role text t) b t

-- the tokens after what is directly before them
unfoldable pub tokens_from : List ℕ → Before → List Token → List WideToken
tokens_from text b [] = []
tokens_from text b (t ∷ ts) = token_after text b t ∷ tokens_from text (before_after b t) ts
