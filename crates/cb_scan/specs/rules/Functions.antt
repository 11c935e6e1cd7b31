-- The functions of a text. This is the project's profile.
use Rattle.std.specs.Prelude.{ℕ, suc, ◌-◌, Bool, ◌&&◌, ◌==◌, List, [], ◌∷◌, length, if◌then◌else◌}
use Rattle.std.specs.Prelude.{Option, find}
use Rattle.std.specs.List.{flat_map, range_with_len}
use Rattle.std.specs.Option.{option_map_or, unwrap_or}
use Rattle.cb_scan.specs.declared.lex.token.Token.{Token}
use Rattle.cb_scan.specs.rules.Depth.{depth, head_start, is_counted, closes}
use Rattle.cb_scan.specs.rules.Heads.{Signature, defined_name, head, signed}
use Rattle.cb_scan.specs.rules.OldStyle.{old_signature}

-- a function: the token of its name, whether it is static, the index of its `{`, and that of the
-- `}` that ends it, or the end
pub record Function : Type 0 where
  pub name : Token
  pub local : Bool
  pub body : ℕ
  pub end : ℕ

-- the least index from k on of a `}` that leaves depth 0, or the end
abbrev pub close_from : List Token → ℕ → ℕ
close_from ts k = unwrap_or (find (closes ts) (range_with_len k (length ts - k))) (length ts)

-- what names the function whose `{` is token k: its head, or where that is empty, an opening in the
-- old style
abbrev pub signature : List Token → ℕ → Option Signature
signature ts k =
    if head_start ts k == k then old_signature ts k
    else signed (head ts k) (defined_name (head ts k))

-- the function of that signature whose `{` is token k
abbrev pub function_from : List Token → ℕ → Option Signature → List Function
function_from ts k signature =
    let end = close_from ts (suc k) in
    option_map_or (λ s. record { name = s.name; local = s.local; body = k; end = end } ∷ [])
    signature []

-- the function whose `{` is token k, if one is
abbrev pub function_at : List Token → ℕ → List Function
function_at ts k =
    if is_counted ts k && depth ts k == 0 then function_from ts k (signature ts k) else []

-- the functions of the code, by the places of their `{`
abbrev pub functions : List Token → List Function
functions ts = flat_map (function_at ts) (range_with_len 0 (length ts))
