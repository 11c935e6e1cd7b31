-- What is asked at a prompt.
use Rattle.std.specs.Prelude.{ℕ, List}
use Rattle.cb_desk.specs.declared.change.Refusal.{Refusal}
use Rattle.cb_desk.specs.declared.rows.Field.{Field}
use Rattle.cb_desk.specs.declared.rows.Format.{Format}
use Rattle.cb_desk.specs.Step.{Step}
use Rattle.cb_session.specs.declared.line.Purpose.{Purpose}

-- what is read at a prompt
pub data Request : Type 0 where
  -- a query
  query : (field : Field) (pattern : List ℕ) → Request
  -- a change of the files, of the marks or of the tag stack
  change : Step → Request
  -- take the last change back
  undo : Request
  -- make the last change that was taken back again
  redo : Request
  -- scan every file again
  rebuild : Request
  -- the tags file
  tags_file : Format → Request
  -- the listing
  listing : Request
  -- the marks
  marks : Request
  -- the tag stack
  stack : Request
  -- what is refused as it is read
  refused : Refusal → Request
  -- an empty line
  nothing : Request
  -- the end of the session
  quit : Request
  -- a line with more bytes than a run allows
  overlong : Request

-- what a line asks for: a request by itself, or a load or a reload with a block of so many bytes
-- after the line
pub data LineRequest : Type 0 where
  whole : Request → LineRequest
  block : (purpose : Purpose) (name : List ℕ) (size : ℕ) → LineRequest
