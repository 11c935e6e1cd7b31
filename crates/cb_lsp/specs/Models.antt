-- What the values of the server stand for in the definitions.
use Rattle.std.specs.Prelude.{Option, Result, Ok, Err}
use Rattle.std.specs.Option.{option_map}
use Rattle.cb_lsp.specs.declared.change.TextChange.{TextChange as CodeChange}
use Rattle.cb_lsp.specs.declared.change.TextChange.TheVariants.{Part, Whole}
use Rattle.cb_lsp.specs.Changes.{TextChange, part, whole}
use Rattle.cb_lsp.specs.declared.documents.Kept.{Kept as CodeKept}
use Rattle.cb_lsp.specs.declared.documents.Kept.TheVariants.{Nothing, Present, Text}
use Rattle.cb_lsp.specs.declared.disk.Found.{Found as CodeFound}
use Rattle.cb_lsp.specs.declared.disk.Found.TheVariants.{Gone as CodeGone, Linked, Unreadable}
use Rattle.cb_lsp.specs.declared.disk.Found.TheVariants.{Holds, NoRoom}
use Rattle.cb_lsp.specs.Documents.{Reading, Kept, gone, holds, linked, no_room, nothing}
use Rattle.cb_lsp.specs.Documents.{present, text, unreadable}
use Rattle.cb_lsp.specs.declared.question.Question.{Question}
use Rattle.cb_lsp.specs.declared.question.Question.TheVariants.{Folds, InFile, Incoming, Outgoing}
use Rattle.cb_lsp.specs.declared.question.Question.TheVariants.{Rename, WorkspaceSymbols}
use Rattle.cb_lsp.specs.declared.question.Unasked.{Unasked}
use Rattle.cb_lsp.specs.declared.refresh.Sought.{Sought as CodeSought}
use Rattle.cb_lsp.specs.Refresh.{Sought, about}
use Rattle.cb_wire.specs.declared.message.Message.{Message as CodeMessage}
use Rattle.cb_wire.specs.declared.message.Message.TheVariants.{NotRequest, Notification, Reply}
use Rattle.cb_wire.specs.declared.message.Message.TheVariants.{Request}
use Rattle.cb_wire.specs.Messages.{id_json}
use Rattle.cb_lsp.specs.Messages.{Message, not_request, notification, reply, request}
use Rattle.cb_lsp.specs.steps.Values.{seen}
use Rattle.cb_lsp.specs.Questions.{Asked, folds, in_file, incoming, outgoing, rename}
use Rattle.cb_lsp.specs.Questions.{workspace_symbols}

-- what a question asks
abbrev pub asked_of : Question → Asked
asked_of (InFile uri question) = in_file uri.now question
asked_of (WorkspaceSymbols query) = workspace_symbols query.now
asked_of (Incoming name uri) = incoming name.now uri.now
asked_of (Outgoing name uri position) = outgoing name.now uri.now position
asked_of (Folds uri) = folds uri.now
asked_of (Rename uri position new) = rename uri.now position new.now

-- what a question asks, where there is one
abbrev pub asked_in : Result Question Unasked → Result Asked Unasked
asked_in (Ok question) = Ok (asked_of question)
asked_in (Err reason) = Err reason

-- what a change does
abbrev pub change_seen : CodeChange → TextChange
change_seen (Whole new) = whole new.now
change_seen (Part range new) = part range new.now

-- what is found of a file
abbrev pub found_in : CodeFound → Reading
found_in CodeGone = gone
found_in Linked = linked
found_in Unreadable = unreadable
found_in NoRoom = no_room
found_in (Holds bytes) = holds bytes.items

-- the text that is kept
abbrev pub kept_of : CodeKept → Kept
kept_of Nothing = nothing
kept_of Present = present
kept_of (Text bytes) = text bytes.items

abbrev pub kept_in : Option CodeKept → Option Kept
kept_in kept = option_map kept_of kept

-- the message that a value was judged to be
abbrev pub message_in : CodeMessage → Message
message_in NotRequest = not_request
message_in Reply = reply
message_in (Notification call) = notification call.method.now (seen call.params)
message_in (Request id call) = request (id_json id) call.method.now (seen call.params)

-- what is asked about
abbrev pub sought_of : CodeSought → Sought
sought_of sought = about (option_map (λ name. name.now) sought.name) sought.uses
