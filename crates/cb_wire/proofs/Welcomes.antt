-- The text of the reply to `initialize`.
use Rattle.std.proofs.Common.{◌≡◌, ℕ, Bool, true, false, List, ◌∷◌, [], ◌++◌, refl, sym, ap, ◌∙◌}
use Rattle.std.proofs.Common.{append_assoc}
use Rattle.std.specs.Prelude.{codes}
use Rattle.json.specs.Print.{escape, escape_byte}
use Rattle.cb_wire.specs.declared.message.Id.{Id}
use Rattle.cb_wire.specs.declared.message.Id.TheVariants.{Number, Text}
use Rattle.cb_wire.specs.declared.units.Encoding.{Encoding}
use Rattle.cb_wire.specs.Messages.{id_json}
use Rattle.cb_wire.specs.Texts.{id_text}
use Rattle.cb_wire.specs.Trees.{result_reply}
use Rattle.cb_wire.specs.Values.{value_text}
use Rattle.cb_wire.specs.Welcome.{encoding_name, renaming, welcome}
use Rattle.cb_wire.proofs.Printed.{text_then, value_text-is, value_text-then}

-- an id, before a text
id-then : (id : Id) (rest : List ℕ) → text_then (id_json id) rest ≡ id_text id ++ rest
id-then (Number s) rest = refl
id-then (Text s) rest = ap (λ l. 34 ∷ l) (sym (append_assoc (escape s.now) (34 ∷ []) rest))

-- what a welcome tells up to how names are renamed
abbrev pub welcome_front : Id → Encoding → List ℕ → List ℕ
welcome_front id e rest =
    codes "{\"jsonrpc\":\"2.0\",\"id\":" ++ (id_text id
    ++ (codes ",\"result\":{\"capabilities\":{\"positionEncoding\":\""
    ++ (escape (encoding_name e)
    ++ (codes "\",\"textDocumentSync\":{\"openClose\":true,\"change\":2,\"save\":true},"
    ++ (codes "\"hoverProvider\":true,\"completionProvider\":{},"
    ++ (codes "\"definitionProvider\":true,\"declarationProvider\":true,"
    ++ (codes "\"referencesProvider\":true,\"documentHighlightProvider\":true,"
    ++ (codes "\"documentSymbolProvider\":true,\"workspaceSymbolProvider\":true,"
    ++ (codes "\"renameProvider\":" ++ rest)))))))))

abbrev pub welcome_end : List ℕ → List ℕ
welcome_end version =
    codes ",\"callHierarchyProvider\":true,\"foldingRangeProvider\":true},"
    ++ (codes "\"serverInfo\":{\"name\":\"cbrowse\",\"version\":\""
    ++ (escape version ++ codes "\"}}}"))

pub welcome-text : (id : Id) (e : Encoding) (prepares : Bool) (version : List ℕ)
    → value_text (result_reply (id_json id) (welcome e prepares version))
    ≡ welcome_front id e (value_text (renaming prepares) ++ welcome_end version)
unfolding escape_byte
welcome-text id e prepares version =
    value_text-is (result_reply (id_json id) (welcome e prepares version))
    ∙ ap (λ l. codes "{\"jsonrpc\":\"2.0\",\"id\":" ++ l) (id-then id _)
    ∙ ap (welcome_front id e) (sym (value_text-then (renaming prepares) (welcome_end version)))

pub asked-first : codes "{\"prepareProvider\":true}" ≡ value_text (renaming true)
unfolding escape_byte
asked-first = sym (value_text-is (renaming true))

pub not-asked : codes "true" ≡ value_text (renaming false)
not-asked = sym (value_text-is (renaming false))
