-- The output of a run: a prompt before each input, and its reply.
use Rattle.std.specs.Prelude.{ℕ, ◌+◌, Bool, true, false, List, [], ◌∷◌, ◌++◌, length, codes}
use Rattle.std.specs.Prelude.{decimal, Result, Ok, Err}
use Rattle.std.specs.List.{flat_map}
use Rattle.cb_desk.specs.declared.change.Refusal.{Refusal}
use Rattle.cb_desk.specs.declared.change.Refusal.TheVariants.{OutOfMemory}
use Rattle.cb_desk.specs.Refusals.{text_of}
use Rattle.cb_desk.specs.Timeline.{Timeline, changed, undone, redone, judged}
use Rattle.cb_desk.specs.declared.rows.Field.TheVariants.{Text}
use Rattle.cb_desk.specs.Answer.{AnswerRow, answer}
use Rattle.cb_desk.specs.Step.{Step, want}
use Rattle.cb_desk.specs.World.{World}
use Rattle.cb_desk.specs.Tags.{tags, tags_text, head_count, listing_text}
use Rattle.cb_tags.specs.TagLines.{Tag}
use Rattle.cb_desk.specs.declared.rows.Format.{Format}
use Rattle.cb_desk.specs.declared.rows.Format.TheVariants.{Extended}
use Rattle.cb_session.specs.Places.{mark_rows, stack_rows}
use Rattle.cb_session.specs.Requests.{Request, query, change, undo, redo, rebuild, tags_file}
use Rattle.cb_session.specs.Requests.{listing, marks, stack, refused, nothing, quit, overlong}

-- the prompt
abbrev pub prompt : List ℕ
prompt = codes ">> "

-- a row of an answer: its four columns with single spaces between them
abbrev pub row_line : AnswerRow → List ℕ
row_line r =
    r.file ++ codes " " ++ r.function ++ codes " " ++ decimal r.line ++ codes " "
    ++ r.text ++ codes "\n"

-- how many rows an answer has
abbrev pub count_line : ℕ → List ℕ
count_line n = codes "cscope: " ++ decimal n ++ codes " lines\n"

-- the reply to a query: how many rows there are, and the rows
abbrev pub answer_lines : List AnswerRow → List ℕ
answer_lines rows = count_line (length rows) ++ flat_map row_line rows

-- the reply that shows a tags file: how many lines it has, and the lines
abbrev pub tags_reply : Format → List Tag → List ℕ
tags_reply format ts = count_line (length ts + head_count format) ++ tags_text format ts

-- the reply that shows a listing
abbrev pub listing_reply : List Tag → List ℕ
listing_reply ts = count_line (length ts) ++ listing_text ts

-- the reply to a command that is done
abbrev pub done_line : List ℕ
done_line = codes "cscope: done\n"

-- the reply to what is refused
abbrev pub refused_line : Refusal → List ℕ
refused_line r = codes "cscope: refused: " ++ text_of r ++ codes "\n"

-- the reply to an accepted change, by the world that it leads to: a text that is wanted has the
-- rows of the lines that hold it
abbrev pub change_reply : Step → World → List ℕ
change_reply (want text) w = answer_lines (answer w Text text)
change_reply _ w = done_line

-- the reply to a rebuild: it is done, unless memory refused it
abbrev pub rebuild_reply : Bool → List ℕ
rebuild_reply true = refused_line OutOfMemory
rebuild_reply false = done_line

-- the timeline after an input, and the reply to it
pub record Outcome : Type 0 where
  pub timeline : Timeline
  pub reply : List ℕ

-- a move of the timeline is done and has a reply by the world that it leads to, or is refused and
-- nothing moves
abbrev pub moved : Timeline → (World → List ℕ) → Result Timeline Refusal → Outcome
moved t reply (Err r) = record { timeline = t; reply = refused_line r }
moved t reply (Ok next) = record { timeline = next; reply = reply next.present }

-- the outcome of an input; `out_of_memory` says that memory was refused to it, where it takes any
unfoldable pub outcome : Bool → Timeline → Request → Outcome
outcome out_of_memory t (query field pattern) =
    record { timeline = t; reply = answer_lines (answer t.present field pattern) }
outcome out_of_memory t rebuild = record { timeline = t; reply = rebuild_reply out_of_memory }
outcome out_of_memory t (tags_file format) =
    record { timeline = t; reply = tags_reply format (tags format t.present) }
outcome out_of_memory t listing =
    record { timeline = t; reply = listing_reply (tags Extended t.present) }
outcome out_of_memory t marks = record { timeline = t; reply = answer_lines (mark_rows t.present) }
outcome out_of_memory t stack = record { timeline = t; reply = answer_lines (stack_rows t.present) }
outcome out_of_memory t (change s) = moved t (change_reply s) (judged out_of_memory s (changed t s))
outcome out_of_memory t undo = moved t (λ _. done_line) (undone t)
outcome out_of_memory t redo = moved t (λ _. done_line) (redone t)
outcome out_of_memory t (refused r) = record { timeline = t; reply = refused_line r }
outcome out_of_memory t nothing = record { timeline = t; reply = [] }
outcome out_of_memory t quit = record { timeline = t; reply = [] }
outcome out_of_memory t overlong = record { timeline = t; reply = [] }

-- whether memory was refused to the first input; not where nothing is said
abbrev pub first_refusal : List Bool → Bool
first_refusal [] = false
first_refusal (m ∷ ms) = m

-- the same for the inputs after it
abbrev pub later_refusals : List Bool → List Bool
later_refusals [] = []
later_refusals (m ∷ ms) = ms

-- the prompt and the reply to an input
abbrev pub exchange : Bool → Timeline → Request → List ℕ
exchange out_of_memory t e = prompt ++ (outcome out_of_memory t e).reply

-- the output of a run that begins with a timeline: each input in turn; the list says which of them
-- memory refused
unfoldable pub output : List Bool → Timeline → List Request → List ℕ
output refusals t [] = []
output refusals t (e ∷ es) =
    exchange (first_refusal refusals) t e
    ++ output (later_refusals refusals) (outcome (first_refusal refusals) t e).timeline es
