-- The messages that are written.
use Rattle.std.specs.Prelude.{◌++◌, ◌+◌, ℕ, List, length, codes}
use Rattle.json.specs.Print.{escape}
use Rattle.cb_wire.specs.declared.message.Id.{Id}
use Rattle.cb_wire.specs.declared.reply.ErrorCode.{ErrorCode}
use Rattle.cb_wire.specs.declared.reply.ErrorCode.TheVariants.{ServerNotInitialized, InvalidRequest}
use Rattle.cb_wire.specs.declared.reply.ErrorCode.TheVariants.{MethodNotFound, InvalidParams}
use Rattle.cb_wire.specs.declared.reply.ErrorCode.TheVariants.{RequestFailed}
use Rattle.cb_wire.specs.Texts.{frame_head, id_text}

-- a reply up to its result, and what follows the result
abbrev pub result_front : Id → List ℕ
result_front id = codes "{\"jsonrpc\":\"2.0\",\"id\":" ++ (id_text id ++ codes ",\"result\":")

abbrev pub result_body : Id → List ℕ → List ℕ
result_body id result = result_front id ++ (result ++ codes "}")

-- a reply with a result of so many bytes, up to the result
abbrev pub result_head : Id → ℕ → List ℕ
result_head id n = frame_head (length (result_front id) + n + 1) ++ result_front id

-- the number of a code, by the protocol
abbrev pub code_text : ErrorCode → List ℕ
code_text ServerNotInitialized = codes "-32002"
code_text InvalidRequest = codes "-32600"
code_text MethodNotFound = codes "-32601"
code_text InvalidParams = codes "-32602"
code_text RequestFailed = codes "-32803"

-- a reply that tells an error, by its code and a text of two parts
abbrev pub error_body : Id → ErrorCode → List ℕ → List ℕ → List ℕ
error_body id code text more =
    codes "{\"jsonrpc\":\"2.0\",\"id\":" ++ (id_text id ++ (codes ",\"error\":{\"code\":"
    ++ (code_text code ++ (codes ",\"message\":\""
    ++ (escape text ++ (escape more ++ codes "\"}}"))))))

-- a text that is logged
abbrev pub log_body : List ℕ → List ℕ
log_body text =
    codes "{\"jsonrpc\":\"2.0\",\"method\":\"window/logMessage\","
    ++ (codes "\"params\":{\"type\":1,\"message\":\"cbrowse: "
    ++ (escape text ++ codes "\"}}"))

-- a text on a name that is shown; the name has the escapes of a string of JSON
abbrev pub show_body : List ℕ → List ℕ → List ℕ
show_body name text =
    codes "{\"jsonrpc\":\"2.0\",\"method\":\"window/showMessage\","
    ++ (codes "\"params\":{\"type\":2,\"message\":\"cbrowse: "
    ++ (name ++ (codes ": " ++ (escape text ++ codes "\"}}"))))
