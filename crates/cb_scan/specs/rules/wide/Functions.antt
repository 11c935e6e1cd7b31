-- The functions of a text by the wide profile: as those of the standard one, without attributes and
-- with the name of a prototype. This is the project's profile.
use Rattle.std.specs.Prelude.{ℕ, Bool, true, false, ◌&&◌, ◌==◌, not, List, [], ◌∷◌, ◌++◌, length}
use Rattle.std.specs.Prelude.{take, drop, map, Option}
use Rattle.std.specs.Prelude.{None, slice_get, if◌then◌else◌}
use Rattle.std.specs.List.{flat_map, range_with_len, slice_split}
use Rattle.std.specs.Option.{option_map, option_or, option_to_list}
use Rattle.cb_scan.specs.declared.lex.token.Token.{Token}
use Rattle.cb_scan.specs.declared.rules.wide.token.WideToken.{WideToken}
use Rattle.cb_scan.specs.rules.Depth.{depth, head_start, is_counted, token_at}
use Rattle.cb_scan.specs.rules.Functions.{Function, function_from}
use Rattle.cb_scan.specs.rules.Heads.{Signature, called_name, may_define, signed}
use Rattle.cb_scan.specs.rules.OldStyle.{semicolons_before, signature_of}
use Rattle.cb_scan.specs.rules.wide.Attributes.{without_attributes}
use Rattle.cb_scan.specs.rules.wide.Bodies.{Body, opens_body}
use Rattle.cb_scan.specs.rules.wide.Levels.{Numbered, is_outer_byte, numbered}
use Rattle.cb_scan.specs.rules.wide.Prototypes.{prototype_name}
use Rattle.cb_scan.specs.Bytes.{comma}

-- the tokens after the last stop before index k of the code, without attributes
abbrev pub wide_head : List Token → List WideToken → ℕ → List WideToken
wide_head ts all k = without_attributes (drop (head_start ts k) (take k all))

-- the same as plain tokens
abbrev pub plain : List WideToken → List Token
plain xs = map (λ (x : WideToken). x.token) xs

-- the parts of a head
abbrev pub head_parts : List WideToken → List (List Numbered)
head_parts h = slice_split (is_outer_byte comma) (numbered 0 h)

-- the name of the function that a part declares, if it declares one
abbrev pub declared_by : Bool → List Numbered → List WideToken
declared_by first part =
    option_to_list (prototype_name (record { first = first; tokens = part; passed = [] }))

-- the names of the functions that some parts declare, the first of which is the first of all
abbrev pub declared_names : List (List Numbered) → List WideToken
declared_names [] = []
declared_names (part ∷ parts) = declared_by true part ++ flat_map (declared_by false) parts

-- the name of the function that the first part declares which declares one
abbrev pub head_prototype : List WideToken → Option Token
head_prototype h =
    option_map (λ (x : WideToken). x.token) (slice_get (declared_names (head_parts h)) 0)

-- the name that a head defines: that of a prototype, or else the first called name
abbrev pub wide_name : List WideToken → Option Token
wide_name h =
    if may_define (plain h) then option_or (head_prototype h) (called_name (plain h)) else None

-- what names a function with this head, where these segments stand before: the head, or where it is
-- empty, an opening in the old style
abbrev pub signature_from : List WideToken → List (List Token) → Option Signature
signature_from [] segments = signature_of segments
signature_from (x ∷ xs) segments = signed (plain (x ∷ xs)) (wide_name (x ∷ xs))

-- what names the function whose `{` is at index k
abbrev pub wide_signature : List Token → List WideToken → ℕ → Option Signature
wide_signature ts all k =
    signature_from (wide_head ts all k)
    (map (λ j. plain (wide_head ts all j)) (semicolons_before ts k))

-- the function whose `{` is at index k, if one is: it opens no body of a structure, union or
-- enumeration
abbrev pub wide_function_at : List Token → List WideToken → List Body → ℕ → List Function
wide_function_at ts all bs k =
    if is_counted ts k && depth ts k == 0 && not (opens_body bs (token_at ts k).span.start)
    then function_from ts k (wide_signature ts all k) else []

-- the functions of the code, by the places of their `{`, where these are all its tokens and bodies
abbrev pub wide_functions : List Token → List WideToken → List Body → List Function
wide_functions ts all bs =
    flat_map (wide_function_at ts all bs) (range_with_len 0 (length ts))
