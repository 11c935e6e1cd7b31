-- The values that messages tell.
use Rattle.std.specs.Prelude.{ℕ, List, codes}
use Rattle.json.specs.Json.{Json, number, string, object, no_members, member}
use Rattle.cb_wire.specs.declared.message.Id.{Id}
use Rattle.cb_wire.specs.declared.reply.ErrorCode.{ErrorCode}
use Rattle.cb_wire.specs.Messages.{id_json}
use Rattle.cb_wire.specs.Replies.{code_text}

-- a reply with a result, by the value of its id
abbrev pub result_reply : (id result : Json) → Json
result_reply id j =
    object (member (codes "jsonrpc") (string (codes "2.0")) (member (codes "id") id
    (member (codes "result") j no_members)))

abbrev pub result_tree : Id → Json → Json
result_tree id j = result_reply (id_json id) j

-- a reply that tells an error, by the value of its id
abbrev pub error_reply : (id : Json) → ErrorCode → List ℕ → Json
error_reply id code text =
    object (member (codes "jsonrpc") (string (codes "2.0")) (member (codes "id") id
    (member (codes "error") (object (member (codes "code") (number (code_text code))
    (member (codes "message") (string text) no_members))) no_members)))

abbrev pub error_tree : Id → ErrorCode → List ℕ → Json
error_tree id code text = error_reply (id_json id) code text

-- a notification with a message of a type
abbrev pub notice_tree : List ℕ → List ℕ → List ℕ → Json
notice_tree method type text =
    object (member (codes "jsonrpc") (string (codes "2.0"))
    (member (codes "method") (string method)
    (member (codes "params") (object (member (codes "type") (number type)
    (member (codes "message") (string text) no_members))) no_members)))
