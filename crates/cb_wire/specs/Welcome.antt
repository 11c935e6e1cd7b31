-- What a server says of itself.
use Rattle.std.specs.Prelude.{List, ℕ, Bool, codes, true, false}
use Rattle.json.specs.Json.{Json, boolean, number, string, object, no_members, member}
use Rattle.cb_wire.specs.declared.units.Encoding.{Encoding}
use Rattle.cb_wire.specs.declared.units.Encoding.TheVariants.{Utf8, Utf16}

-- an encoding, as the protocol names it
abbrev pub encoding_name : Encoding → List ℕ
encoding_name Utf8 = codes "utf-8"
encoding_name Utf16 = codes "utf-16"

-- documents are opened and closed, changed as whole texts or in parts (2), and saved
abbrev pub sync : Json
sync =
    object (member (codes "openClose") (boolean true) (member (codes "change") (number (codes "2"))
    (member (codes "save") (boolean true) no_members)))

-- names are renamed, and a client that prepares that may ask what would be renamed
abbrev pub renaming : (prepares : Bool) → Json
renaming false = boolean true
renaming true = object (member (codes "prepareProvider") (boolean true) no_members)

-- what the server does
abbrev pub capabilities : Encoding → (prepares : Bool) → Json
capabilities encoding prepares =
    object (member (codes "positionEncoding") (string (encoding_name encoding))
    (member (codes "textDocumentSync") sync
    (member (codes "hoverProvider") (boolean true)
    (member (codes "completionProvider") (object no_members)
    (member (codes "definitionProvider") (boolean true)
    (member (codes "declarationProvider") (boolean true)
    (member (codes "referencesProvider") (boolean true)
    (member (codes "documentHighlightProvider") (boolean true)
    (member (codes "documentSymbolProvider") (boolean true)
    (member (codes "workspaceSymbolProvider") (boolean true)
    (member (codes "renameProvider") (renaming prepares)
    (member (codes "callHierarchyProvider") (boolean true)
    (member (codes "foldingRangeProvider") (boolean true) no_members)))))))))))))

-- who the server is
abbrev pub server_info : (version : List ℕ) → Json
server_info version =
    object (member (codes "name") (string (codes "cbrowse"))
    (member (codes "version") (string version) no_members))

-- what the server does, and who it is
abbrev pub welcome : Encoding → (prepares : Bool) → (version : List ℕ) → Json
welcome encoding prepares version =
    object (member (codes "capabilities") (capabilities encoding prepares)
    (member (codes "serverInfo") (server_info version) no_members))
