-- Messages that are written read back as the values that they tell.
use Rattle.std.proofs.Common.{◌≡◌, ℕ, ◌<◌, Bool, true, false, List, [], ◌∷◌, ◌++◌}
use Rattle.std.proofs.Common.{Some, refl, sym, ap, ◌∙◌, arith, append_assoc}
use Rattle.std.specs.Prelude.{codes}
use Rattle.std.specs.List.{fold}
use Rattle.std.proofs.lemmas.Grind.{flat_map-append}
use Rattle.json.specs.Token.{Token}
use Rattle.json.specs.Json.{Json, document, max_depth}
use Rattle.json.specs.Word.{after_number}
use Rattle.json.specs.Print.{ends, escape, escape_byte, print, print_from, quoted}
use Rattle.json.specs.Print.{IsNumber}
use Rattle.json.specs.Tree.{HasNumbers, depth, json_tokens}
use Rattle.json.proofs.Printed.Tokens.{print_from-append}
use Rattle.json.proofs.Printed.Trees.{document-print}
use Rattle.cb_wire.specs.declared.message.Id.{Id}
use Rattle.cb_wire.specs.declared.message.Id.TheVariants.{Number, Text}
use Rattle.cb_wire.specs.Messages.{id_json}
use Rattle.cb_wire.specs.declared.reply.ErrorCode.{ErrorCode}
use Rattle.cb_wire.specs.declared.reply.ErrorCode.TheVariants.{ServerNotInitialized, InvalidRequest}
use Rattle.cb_wire.specs.declared.reply.ErrorCode.TheVariants.{MethodNotFound, InvalidParams}
use Rattle.cb_wire.specs.declared.reply.ErrorCode.TheVariants.{RequestFailed}
use Rattle.cb_wire.specs.Replies.{code_text, error_body, log_body, result_body, show_body}
use Rattle.cb_wire.specs.Trees.{error_reply, error_tree, notice_tree, result_reply, result_tree}
use Rattle.cb_wire.specs.Values.{value_text}

-- no comma stands before the end of an object
end_text : (b : Bool) → print_from b (Token.end_object ∷ []) ≡ codes "}"
unfolding print_from
end_text true = refl
end_text false = refl

-- a value, and the end of the object that it is in
print-end : (j : Json) → print_from false (json_tokens j ++ Token.end_object ∷ [])
    ≡ print (json_tokens j) ++ codes "}"
print-end j =
    let after = fold (λ (b : Bool) (u : Token). ends u) false (json_tokens j) in
    print_from-append false (json_tokens j) (Token.end_object ∷ [])
    ∙ ap (λ l. print (json_tokens j) ++ l) (end_text after)

-- a reply with a result
pub result-text : (id : Id) (j : Json)
    → result_body id (value_text j) ≡ value_text (result_reply (id_json id) j)
unfolding print_from escape_byte
result-text (Number s) j =
    let result = print (json_tokens j) ++ codes "}" in
    ap (λ l. codes "{\"jsonrpc\":\"2.0\",\"id\":" ++ l)
    (append_assoc s.now (codes ",\"result\":") result
    ∙ ap (λ l. s.now ++ (codes ",\"result\":" ++ l)) (sym (print-end j)))
result-text (Text s) j =
    let result = print (json_tokens j) ++ codes "}" in
    ap (λ l. codes "{\"jsonrpc\":\"2.0\",\"id\":" ++ l)
    (append_assoc (quoted s.now) (codes ",\"result\":") result
    ∙ ap (λ l. quoted s.now ++ (codes ",\"result\":" ++ l)) (sym (print-end j)))

id-depth : (id : Id) → depth (id_json id) ≡ 0
id-depth (Number s) = refl
id-depth (Text s) = refl

pub result-reads : (id : Id) (j : Json) → HasNumbers (id_json id) → HasNumbers j → depth j < max_depth
    → document (result_body id (print (json_tokens j))) ≡ Some (result_tree id j)
result-reads id j p q deep =
    ap document (result-text id j)
    ∙ document-print (result_tree id j) (tt, (p, (q, tt))) (omega (arith, id-depth id))

-- the end of a string in two objects
closed : (text : List ℕ) → escape text ++ codes "\"}}" ≡ (escape text ++ 34 ∷ []) ++ codes "}}"
closed text = sym (append_assoc (escape text) (34 ∷ []) (codes "}}"))

-- texts in one string
joined : (a b : List ℕ) → escape a ++ (escape b ++ codes "\"}}")
    ≡ (escape (a ++ b) ++ 34 ∷ []) ++ codes "}}"
joined a b =
    sym (append_assoc (escape a) (escape b) (codes "\"}}"))
    ∙ ap (λ l. l ++ codes "\"}}") (sym (flat_map-append escape_byte a b)) ∙ closed (a ++ b)

code-number : (code : ErrorCode) → IsNumber (code_text code)
unfolding after_number
code-number ServerNotInitialized = refl
code-number InvalidRequest = refl
code-number MethodNotFound = refl
code-number InvalidParams = refl
code-number RequestFailed = refl

one-number : IsNumber (codes "1")
unfolding after_number
one-number = refl

two-number : IsNumber (codes "2")
unfolding after_number
two-number = refl

-- a reply that tells an error
pub error-text : (id : Id) (code : ErrorCode) (a b : List ℕ)
    → error_body id code a b ≡ value_text (error_reply (id_json id) code (a ++ b))
unfolding print_from escape_byte
error-text (Number s) code a b =
    ap (λ l. codes "{\"jsonrpc\":\"2.0\",\"id\":" ++ (s.now ++ (codes ",\"error\":{\"code\":"
    ++ (code_text code ++ (codes ",\"message\":\"" ++ l))))) (joined a b)
error-text (Text s) code a b =
    ap (λ l. codes "{\"jsonrpc\":\"2.0\",\"id\":" ++ (quoted s.now
    ++ (codes ",\"error\":{\"code\":" ++ (code_text code ++ (codes ",\"message\":\"" ++ l)))))
    (joined a b)

pub error-reads : (id : Id) (code : ErrorCode) (a b : List ℕ) → HasNumbers (id_json id)
    → document (error_body id code a b) ≡ Some (error_tree id code (a ++ b))
error-reads id code a b p =
    ap document (error-text id code a b)
    ∙ document-print (error_tree id code (a ++ b)) (tt, (p, ((code-number code, (tt, tt)), tt)))
    (omega (arith, id-depth id))

-- a text that is logged
pub log-text : (text : List ℕ) → log_body text
    ≡ value_text (notice_tree (codes "window/logMessage") (codes "1") (codes "cbrowse: " ++ text))
unfolding print_from escape_byte
log-text text =
    ap (λ l. codes "{\"jsonrpc\":\"2.0\",\"method\":\"window/logMessage\","
    ++ (codes "\"params\":{\"type\":1,\"message\":\"cbrowse: " ++ l)) (closed text)

pub log-reads : (text : List ℕ) → document (log_body text)
    ≡ Some (notice_tree (codes "window/logMessage") (codes "1") (codes "cbrowse: " ++ text))
log-reads text =
    ap document (log-text text)
    ∙ document-print (notice_tree (codes "window/logMessage") (codes "1") (codes "cbrowse: " ++ text))
    (tt, (tt, ((one-number, (tt, tt)), tt))) (omega arith)

-- a text on a name that is shown
pub show-text : (name text : List ℕ) → show_body (escape name) text
    ≡ value_text (notice_tree (codes "window/showMessage") (codes "2")
    (codes "cbrowse: " ++ (name ++ (codes ": " ++ text))))
unfolding print_from escape_byte
show-text name text =
    ap (λ l. codes "{\"jsonrpc\":\"2.0\",\"method\":\"window/showMessage\","
    ++ (codes "\"params\":{\"type\":2,\"message\":\"cbrowse: " ++ l))
    (joined name (codes ": " ++ text))

pub show-reads : (name text : List ℕ) → document (show_body (escape name) text)
    ≡ Some (notice_tree (codes "window/showMessage") (codes "2")
    (codes "cbrowse: " ++ (name ++ (codes ": " ++ text))))
show-reads name text =
    ap document (show-text name text)
    ∙ document-print (notice_tree (codes "window/showMessage") (codes "2")
    (codes "cbrowse: " ++ (name ++ (codes ": " ++ text)))) (tt, (tt, ((two-number, (tt, tt)), tt)))
    (omega arith)
