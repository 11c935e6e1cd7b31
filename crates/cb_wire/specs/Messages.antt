-- What the body of a message asks for.
use Rattle.std.specs.Prelude.{◌≡◌, ◌&&◌, ◌||◌, ℕ, Bool, cond, codes, List, Option, Some, None}
use Rattle.std.specs.Prelude.{FitsSigned, option_map, is_some}
use Rattle.std.specs.Int.{w64}
use Rattle.std.specs.Str.Parse.{IsNumeral, signed_digits_value, without_leading_sign}
use Rattle.bstr.specs.Utf8.{lossy_chars}
use Rattle.std.specs.Str.{bytes_eq, encode_utf8_all}
use Rattle.json.specs.Json.{Json, null, boolean, number, string, array, object}
use Rattle.json.specs.Find.{get}
use Rattle.json.specs.Value.{value_view}
use Rattle.cb_wire.specs.declared.message.Call.{Call}
use Rattle.cb_wire.specs.declared.message.Id.{Id}
use Rattle.cb_wire.specs.declared.message.Id.TheVariants.{Number, Text}
use Rattle.cb_wire.specs.declared.message.Message.{Message}
use Rattle.cb_wire.specs.declared.message.Message.TheVariants.{NotRequest, Reply, Notification}
use Rattle.cb_wire.specs.declared.message.Message.TheVariants.{Request}

-- the text of a body: U+FFFD stands for each maximal piece that is no UTF-8
abbrev pub text_of : List ℕ → List ℕ
text_of body = encode_utf8_all (lossy_chars body)

-- the number is an integer from -2^63 to 2^63 - 1, without point and exponent
abbrev pub IsInteger : List ℕ → Type 0
IsInteger s = IsNumeral 10 (without_leading_sign s) × FitsSigned w64 (signed_digits_value 10 s)

-- the value may be the id of a request
abbrev pub IsId : Json → Type 0
IsId (number s) = IsInteger s
IsId (string s) = Unit {0}
IsId null = ⊥
IsId (boolean b) = ⊥
IsId (array js) = ⊥
IsId (object ms) = ⊥

-- an id as it comes back: the integer in decimal, so that -0 is 0, or the string
abbrev pub plain_number : List ℕ → List ℕ
plain_number s = cond (bytes_eq s (codes "-0")) (codes "0") s

abbrev pub plain_id : Json → Json
plain_id (number s) = number (plain_number s)
plain_id j = j

-- the value that an id stands for
abbrev pub id_json : Id → Json
id_json (Number s) = number s.now
id_json (Text s) = string s.now

-- a method and its parameters, if there are any
abbrev pub IsCall : List ℕ → Option Json → Call → Type 0
IsCall method params call =
    (call.method.now ≡ method) × (option_map (λ v. value_view v.now) call.params ≡ params)

abbrev pub IsNotification : List ℕ → Option Json → Message → Type 0
IsNotification method params (Notification call) = IsCall method params call
IsNotification method params (Request id call) = ⊥
IsNotification method params NotRequest = ⊥
IsNotification method params Reply = ⊥

abbrev pub IsRequest : Json → List ℕ → Option Json → Message → Type 0
IsRequest i method params (Request id call) =
    (id_json id ≡ plain_id i) × IsCall method params call
IsRequest i method params (Notification call) = ⊥
IsRequest i method params NotRequest = ⊥
IsRequest i method params Reply = ⊥

abbrev pub has : List ℕ → Json → Bool
has name j = is_some (get name j)

-- a message with a method, by its id
abbrev pub JudgesId : Option Json → List ℕ → Option Json → Message → Type 0
JudgesId None method params m = IsNotification method params m
JudgesId (Some i) method params m =
    (IsId i → IsRequest i method params m) × ((IsId i → ⊥) → m ≡ NotRequest)

-- a message, by its method
abbrev pub JudgesMethod : Option Json → Json → Message → Type 0
JudgesMethod None j m =
    m ≡ cond (has (codes "id") j && (has (codes "result") j || has (codes "error") j)) Reply
    NotRequest
JudgesMethod (Some (string s)) j m =
    JudgesId (get (codes "id") j) s (get (codes "params") j) m
JudgesMethod (Some null) j m = m ≡ NotRequest
JudgesMethod (Some (boolean b)) j m = m ≡ NotRequest
JudgesMethod (Some (number s)) j m = m ≡ NotRequest
JudgesMethod (Some (array js)) j m = m ≡ NotRequest
JudgesMethod (Some (object ms)) j m = m ≡ NotRequest

-- what a body asks for: a notification, a request, a reply, or none of these
abbrev pub Judges : Json → Message → Type 0
Judges j m = JudgesMethod (get (codes "method") j) j m
