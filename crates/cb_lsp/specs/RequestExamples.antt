-- What requests say, and what they mean, computed. The expected values are worked out by hand.
use Rattle.std.specs.Prelude.{◌≡◌, ℕ, List, [], ◌∷◌, true, false, codes, refl}
use Rattle.std.specs.Prelude.{Option, Some, None, Ok, Err}
use Rattle.json.specs.Json.{Json, boolean, number, string, array, object, Items, no_items, item}
use Rattle.json.specs.Json.{no_members, member, null}
use Rattle.cb_scan.specs.lex.Lexeme.{is_identifier}
use Rattle.cb_scan.specs.lex.Reserved.{is_reserved, reserved_words}
use Rattle.cb_lsp.specs.declared.question.Unasked.TheVariants.{UnknownMethod, BadParameters}
use Rattle.cb_lsp.specs.Headers.{folder_of, is_in_folder, without_dots}
use Rattle.cb_lsp.specs.Likes.{holds_like}
use Rattle.cb_wire.specs.declared.position.Range.{Range}
use Rattle.cb_lsp.specs.Changes.{part, whole}
use Rattle.cb_lsp.specs.Params.{are_changes, changes_among, changes_in, has_text, number_in}
use Rattle.cb_lsp.specs.Params.{prepares_renames, root_in, takes_trees, takes_utf8}
use Rattle.cb_lsp.specs.Questions.{asked_by, in_file, rename, workspace_symbols}
use Rattle.cb_lsp.specs.declared.question.FileQuestion.TheVariants.{At}
use Rattle.cb_lsp.specs.declared.question.PlaceQuestion.TheVariants.{Hover, PrepareRename}
use Rattle.cb_lsp.specs.declared.question.PlaceQuestion.TheVariants.{References}
use Rattle.cb_lsp.specs.Words.{word_at}

-- an object of one member
abbrev one : List ℕ → Json → Json
one name value = object (member name value no_members)

-- ---- parameters

-- a number is an integer from 0 up, below 2^64
pub a_number : number_in (Some (number (codes "12"))) ≡ Some 12
a_number = refl

pub a_negative_number : number_in (Some (number (codes "-1"))) ≡ None
a_negative_number = refl

pub a_fraction : number_in (Some (number (codes "1.0"))) ≡ None
a_fraction = refl

pub a_large_number : number_in (Some (number (codes "18446744073709551616"))) ≡ None
a_large_number = refl

pub no_number : number_in (Some (string (codes "1"))) ≡ None
no_number = refl

abbrev anew : List ℕ → Json
anew text = one (codes "text") (string text)

abbrev at : (line character : List ℕ) → Json
at line character =
    object (member (codes "line") (number line)
    (member (codes "character") (number character) no_members))

-- a part: from the start of the text up to a place of the first line
abbrev up_to : (character : List ℕ) → (text : List ℕ) → Json
up_to character text =
    object (member (codes "range") (object (member (codes "start") (at (codes "0") (codes "0"))
    (member (codes "end") (at (codes "0") character) no_members)))
    (member (codes "text") (string text) no_members))

abbrev with_range : Json → Json
with_range range =
    object (member (codes "range") range (member (codes "text") (string (codes "b")) no_members))

abbrev changed : Items → Option Json
changed changes = Some (one (codes "contentChanges") (array changes))

abbrev first_two : Range
first_two = record {
  start = record { line = 0; character = 0 };
  end = record { line = 0; character = 2 };
}

-- a whole text, and a part behind it
pub two_changes : changes_in (changed
    (item (anew (codes "abc")) (item (up_to (codes "2") (codes "x")) no_items)))
    ≡ Some (whole (codes "abc") ∷ part first_two (codes "x") ∷ [])
unfolding are_changes changes_among
two_changes = refl

pub no_changes : changes_in (changed no_items) ≡ Some []
unfolding are_changes changes_among
no_changes = refl

-- a range that is null is none
pub a_null_range : changes_in (changed (item (with_range null) no_items))
    ≡ Some (whole (codes "b") ∷ [])
unfolding are_changes changes_among
a_null_range = refl

-- where one is no change there is none
pub a_wrong_range : changes_in (changed
    (item (anew (codes "a")) (item (with_range (object no_members)) no_items))) ≡ None
unfolding are_changes
a_wrong_range = refl

pub a_negative_place : changes_in (changed (item (up_to (codes "-1") (codes "x")) no_items)) ≡ None
unfolding are_changes
a_negative_place = refl

abbrev folder : Json
folder = one (codes "uri") (string (codes "file:///a"))

-- the first folder goes before the root
pub two_roots : root_in (Some (object (member (codes "rootUri") (string (codes "file:///b"))
    (member (codes "workspaceFolders") (array (item folder no_items)) no_members))))
    ≡ Some (codes "file:///a")
two_roots = refl

pub one_root : root_in (Some (one (codes "rootUri") (string (codes "file:///b"))))
    ≡ Some (codes "file:///b")
one_root = refl

abbrev encodings : Items → Option Json
encodings names =
    Some (one (codes "capabilities") (one (codes "general")
    (one (codes "positionEncodings") (array names))))

pub utf8_is_taken : takes_utf8 (encodings (item (string (codes "utf-16"))
    (item (string (codes "utf-8")) no_items))) ≡ true
unfolding has_text
utf8_is_taken = refl

pub utf16_alone : takes_utf8 (encodings (item (string (codes "utf-16")) no_items)) ≡ false
unfolding has_text
utf16_alone = refl

pub trees_are_taken : takes_trees (Some (one (codes "capabilities") (one (codes "textDocument")
    (one (codes "documentSymbol")
    (one (codes "hierarchicalDocumentSymbolSupport") (boolean true)))))) ≡ true
trees_are_taken = refl

abbrev asks_first : Json → Option Json
asks_first support =
    Some (one (codes "capabilities") (one (codes "textDocument") (one (codes "rename")
    (one (codes "prepareSupport") support))))

pub it_asks_first : prepares_renames (asks_first (boolean true)) ≡ true
it_asks_first = refl

pub it_does_not_ask : prepares_renames (asks_first (string (codes "true"))) ≡ false
it_does_not_ask = refl

-- ---- questions

abbrev document : Json
document = one (codes "uri") (string (codes "file:///a.c"))

abbrev position : Json
position = object (member (codes "character") (number (codes "5"))
    (member (codes "line") (number (codes "2")) no_members))

pub what_stands_there : asked_by (codes "textDocument/hover") (Some (object
    (member (codes "textDocument") document (member (codes "position") position no_members))))
    ≡ Ok (in_file (codes "file:///a.c") (At (record { line = 2; character = 5 }) Hover))
what_stands_there = refl

abbrev uses_asked : (context : Json) → Option Json
uses_asked context =
    Some (object (member (codes "context") context (member (codes "textDocument") document
    (member (codes "position") position no_members))))

-- uses, without the names of definitions
pub where_it_is_used : asked_by (codes "textDocument/references")
    (uses_asked (one (codes "includeDeclaration") (boolean false)))
    ≡ Ok (in_file (codes "file:///a.c") (At (record { line = 2; character = 5 }) (References false)))
where_it_is_used = refl

-- whether these are wanted has to be told
pub with_or_without : asked_by (codes "textDocument/references") (uses_asked (object no_members))
    ≡ Err BadParameters
with_or_without = refl

-- a new name, which has to be told
abbrev rename_asked : (new : Json) → Option Json
rename_asked new =
    Some (object (member (codes "newName") new (member (codes "textDocument") document
    (member (codes "position") position no_members))))

pub how_it_is_renamed : asked_by (codes "textDocument/rename") (rename_asked (string (codes "b")))
    ≡ Ok (rename (codes "file:///a.c") (record { line = 2; character = 5 }) (codes "b"))
how_it_is_renamed = refl

pub a_wrong_name : asked_by (codes "textDocument/rename") (rename_asked (number (codes "7")))
    ≡ Err BadParameters
a_wrong_name = refl

pub what_would_be_renamed : asked_by (codes "textDocument/prepareRename")
    (rename_asked (string [])) ≡ Ok (in_file (codes "file:///a.c")
    (At (record { line = 2; character = 5 }) PrepareRename))
what_would_be_renamed = refl

-- the document is not named at the top
pub a_misplaced_document : asked_by (codes "textDocument/documentSymbol") (Some document)
    ≡ Err BadParameters
a_misplaced_document = refl

pub a_query : asked_by (codes "workspace/symbol") (Some (one (codes "query") (string [])))
    ≡ Ok (workspace_symbols [])
a_query = refl

pub a_longer_method : asked_by (codes "workspace/symbols") None ≡ Err UnknownMethod
a_longer_method = refl

-- ---- words, headers, names

-- a place is in a word, or at its end
pub inside_a_word : word_at (codes "int x_1;") 5 ≡ Some (record { start = 4; end = 7 })
unfolding is_identifier is_reserved reserved_words
inside_a_word = refl

pub behind_a_word : word_at (codes "int x_1;") 7 ≡ Some (record { start = 4; end = 7 })
unfolding is_identifier is_reserved reserved_words
behind_a_word = refl

pub a_reserved_word : word_at (codes "int x_1;") 1 ≡ None
unfolding is_identifier is_reserved reserved_words
a_reserved_word = refl

pub no_word : word_at (codes "int x_1;") 8 ≡ None
unfolding is_identifier is_reserved reserved_words
no_word = refl

pub dots_go : without_dots (codes "../.././a/../b.h") ≡ codes "a/../b.h"
unfolding without_dots
dots_go = refl

pub a_hidden_file_stays : without_dots (codes ".b.h") ≡ codes ".b.h"
unfolding without_dots
a_hidden_file_stays = refl

pub beside_it : is_in_folder (folder_of (codes "src/a.c")) (codes "b.h") (codes "src/b.h") ≡ true
beside_it = refl

pub elsewhere : is_in_folder (folder_of (codes "src/a.c")) (codes "b.h") (codes "b.h") ≡ false
elsewhere = refl

pub in_either_case : holds_like (codes "RUN") (codes "do_Run") ≡ true
in_either_case = refl

pub not_in_it : holds_like (codes "runs") (codes "do_run") ≡ false
not_in_it = refl
