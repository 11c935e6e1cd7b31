-- What is done with a name: whether it is read or written, or its address is taken (ISO C 2011, 6.5,
-- found in tokens by this project's profile).
use Rattle.std.specs.Prelude.{ℕ, zero, suc, ◌+◌, Option, None, Bool, true, false, ◌&&◌, ◌||◌, ◌==◌, nat_lt, not, List}
use Rattle.std.specs.Prelude.{if◌then◌else◌, length}
use Rattle.std.specs.Option.{option_map_or}
use Rattle.cb_scan.specs.Bytes.{close_bracket, close_paren, equals, open_bracket, star}
use Rattle.cb_scan.specs.declared.rules.wide.role.WideRole.{WideRole}
use Rattle.cb_scan.specs.declared.rules.wide.role.WideRole.TheVariants as wide
use Rattle.cb_names.specs.Braces.{is_name_at}
use Rattle.cb_names.specs.Pairs.{at, is_at, partner, sign}
use Rattle.cb_names.specs.Spaces.{begins_accessor, greater, minus, touches}
use Rattle.cb_names.specs.declared.local.Access.{Access}
use Rattle.cb_names.specs.declared.local.Access.TheVariants.{Named, Read, Written, Address}
use Rattle.cb_names.specs.declared.word.Item.{Item}

-- `+`, `&`, `<`
abbrev pub plus : ℕ
plus = 43

abbrev pub ampersand : ℕ
ampersand = 38

abbrev pub less : ℕ
less = 60

-- where `[..]` ends that begins at index k
abbrev pub index_end : List Item → ℕ → Option ℕ
index_end xs k = if is_at open_bracket xs k then partner xs k else None

-- the index behind such pairs that follow each other from index k on; of at most `fuel` pairs
unfoldable pub behind_from : List Item → ℕ → ℕ → ℕ
behind_from xs zero k = k
behind_from xs (suc fuel) k = option_map_or (λ p. behind_from xs fuel (suc p)) (index_end xs k) k

abbrev pub behind_indices : List Item → ℕ → ℕ
behind_indices xs k = behind_from xs (length xs) k

-- index k and the next one touch, and are the same byte
abbrev pub is_double : List Item → ℕ → Bool
is_double xs k = sign xs (suc k) == sign xs k && touches xs k

-- `++` or `--` begins at index k
abbrev pub is_step : List Item → ℕ → Bool
is_step xs k = (sign xs k == plus || sign xs k == minus) && is_double xs k

-- one of `+ - * / % & ^ |`
abbrev pub is_operator : ℕ → Bool
is_operator b =
    b == 43 || b == 45 || b == 42 || b == 47 || b == 37 || b == 38 || b == 94 || b == 124

-- index k and a `=` touch
abbrev pub precedes_equals : List Item → ℕ → Bool
precedes_equals xs k = is_at equals xs (suc k) && touches xs k

-- `<<=` or `>>=` begins at index k
abbrev pub is_shift : List Item → ℕ → Bool
is_shift xs k =
    (sign xs k == less || sign xs k == greater) && is_double xs k && precedes_equals xs (suc k)

-- an assignment begins at index k: `=` that no `=` touches, or an operator and a `=` that touches it
abbrev pub is_assigned : List Item → ℕ → Bool
is_assigned xs k =
    (is_at equals xs k && not (precedes_equals xs k))
    || (is_operator (sign xs k) && precedes_equals xs k) || is_shift xs k

-- `++` or `--` is directly before index k
unfoldable pub follows_step : List Item → ℕ → Bool
follows_step xs zero = false
follows_step xs (suc zero) = false
follows_step xs (suc (suc k)) = is_step xs k

abbrev pub is_character : WideRole → Bool
is_character wide.Number = true
is_character wide.Str = true
is_character wide.Character = true
is_character _ = false

-- an operand ends at index k: a name, a number, a literal, `)` or `]`
abbrev pub ends_operand : List Item → ℕ → Bool
ends_operand xs k =
    is_name_at xs k || (nat_lt k (length xs) && is_character (at xs k).token.role)
    || is_at close_paren xs k || is_at close_bracket xs k

-- the `&` at index k takes an address: it follows no operand, and touches no `&` before it
unfoldable pub takes_address : List Item → ℕ → Bool
takes_address xs zero = is_at ampersand xs 0
takes_address xs (suc k) =
    is_at ampersand xs (suc k) && not (is_at ampersand xs k && touches xs k)
    && not (ends_operand xs k)

-- it is directly before index k
unfoldable pub follows_address : List Item → ℕ → Bool
follows_address xs zero = false
follows_address xs (suc k) = takes_address xs k

-- `*` is directly before index k
unfoldable pub follows_star : List Item → ℕ → Bool
follows_star xs zero = false
follows_star xs (suc k) = is_at star xs k

-- what is done by what stands before the name at index k, which is not assigned and whose end has
-- index e
abbrev pub done_before : List Item → ℕ → ℕ → Access
done_before xs e k =
    if begins_accessor xs e then Read
    else (if follows_step xs k then Written else (if follows_address xs k then Address else Read))

-- what is done with one that is not declared
abbrev pub done_with : List Item → ℕ → ℕ → Access
done_with xs e k =
    if follows_star xs k && not (is_step xs e) then Read
    else (if is_assigned xs e || is_step xs e then Written else done_before xs e k)

-- what is done with the name at index k, which declares or not: a declaration with a value writes
abbrev pub access : List Item → Bool → ℕ → Access
access xs is_declared k =
    let e = behind_indices xs (k + 1) in
    if is_declared then (if is_assigned xs e then Written else Named) else done_with xs e k
