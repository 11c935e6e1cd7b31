-- The models of the program's values: what an input is in the definitions.
use Rattle.std.specs.Prelude.{◌≢◌, [], Option, None, Some}
use Rattle.cb_session.specs.declared.input.Input.{Input}
use Rattle.cb_session.specs.declared.input.Input.TheVariants.{Command, Refused, Nothing, End}
use Rattle.cb_session.specs.declared.input.Ended.{Ended}
use Rattle.cb_session.specs.declared.input.Going.{Going}
use Rattle.cb_session.specs.declared.input.Going.TheVariants.{On, Stop}
use Rattle.cb_session.specs.declared.input.Command.{Command as Asks}
use Rattle.cb_session.specs.declared.input.Command.TheVariants.{Query, Change, Rebuild, Undo, Redo}
use Rattle.cb_session.specs.declared.input.Command.TheVariants.{Tags, Listing, Marks, Stack}
use Rattle.cb_session.specs.declared.line.Asked.{Asked}
use Rattle.cb_session.specs.declared.line.Asked.TheVariants.{Whole, Block}
use Rattle.cb_desk.specs.Models.{step_of}
use Rattle.cb_session.specs.Requests.{Request, query, change, undo, redo, rebuild, tags_file}
use Rattle.cb_session.specs.Requests.{listing, marks, stack, refused, nothing, quit}
use Rattle.cb_session.specs.Requests.{LineRequest, whole, block}

-- the request that a command is
abbrev pub command_of : Asks → Request
command_of (Query field pattern) = query field pattern.now
command_of (Change c) = change (step_of c)
command_of Rebuild = rebuild
command_of Undo = undo
command_of Redo = redo
command_of (Tags format) = tags_file format
command_of Listing = listing
command_of Marks = marks
command_of Stack = stack

-- the request that an input is
abbrev pub request_of : Input → Request
request_of (Command command) = command_of command
request_of (Refused r) = refused r
request_of Nothing = nothing
request_of End = quit

-- a query has a pattern
abbrev pub HasPattern : Request → Type 0
HasPattern (query field pattern) = pattern ≢ []
HasPattern _ = Unit {0}

-- what is asked for
abbrev pub line_request_of : Asked → LineRequest
line_request_of (Whole input) = whole (request_of input)
line_request_of (Block purpose name size) = block purpose name.now size

-- a run goes on where it has no ending
abbrev pub going_of : Option Ended → Going
going_of None = On
going_of (Some ended) = Stop
