-- Short runs, computed: how input is cut into requests, and what is written. Expected values are
-- worked out by hand.
use Rattle.std.specs.Prelude.{◌≡◌, true, [], ◌∷◌, ◌++◌, codes, refl}
use Rattle.std.specs.Fmt.{digits}
use Rattle.cb_scan.specs.declared.profile.Rules.TheVariants.{Standard}
use Rattle.cb_scan.specs.Profiles.{all_by}
use Rattle.cb_scan.specs.Definitions.{definitions_from}
use Rattle.cb_scan.specs.examples.Functions.{finding}
use Rattle.cb_scan.specs.Order.{put, in_order}
use Rattle.cb_desk.specs.declared.change.Refusal.TheVariants.{InputEnded, NoPattern}
use Rattle.cb_desk.specs.declared.change.Refusal.TheVariants.{UnknownCommand, BadCount}
use Rattle.cb_desk.specs.declared.rows.Field.TheVariants.{Definition}
use Rattle.cb_desk.specs.Answer.{distinct, unindented}
use Rattle.cb_desk.specs.Refusals.{text_of}
use Rattle.cb_desk.specs.Step.{step, load, reload, unload, rename, tag}
use Rattle.cb_desk.specs.Timeline.{new_timeline, changed, undone, redone}
use Rattle.cb_desk.specs.World.{standard_bounds}
use Rattle.cb_tags.specs.TagLineExamples.{lining}
use Rattle.cb_session.specs.declared.input.Ended.TheVariants.{Done, Cut, Fault}
use Rattle.cb_session.specs.declared.input.Fault.TheVariants.{LongLine, ManyLines}
use Rattle.cb_session.specs.Commands.{command}
use Rattle.cb_session.specs.Inputs.{first, inputs}
use Rattle.cb_session.specs.Output.{outcome, output}
use Rattle.cb_session.specs.Requests.{query, change, undo, redo, refused, nothing, quit, overlong}

-- `unfolding reading` opens how input is cut
unfoldable pub reading : Unit {0}
unfolding first inputs command
reading = tt

-- `unfolding running` opens what is written
unfoldable pub running : Unit {0}
unfolding output outcome changed undone redone step text_of digits
running = tt

-- a command, an empty line, a field without a pattern, and the end of input
pub lines_cut : inputs 9 5000 (codes ":undo\n\n1") ≡ record {
  requests = undo ∷ nothing ∷ refused NoPattern ∷ quit ∷ [];
  ending = Done;
  rest = [];
}
unfolding reading
lines_cut = refl

-- a block follows its line, and the next line follows the block at once; what comes behind `q` is
-- left
pub block_cut : inputs 9 5000 (codes ":load a.c 2\n{}1f\nq\n1f\n") ≡ record {
  requests = change (load (codes "a.c") (codes "{}")) ∷ query Definition (codes "f") ∷ quit ∷ [];
  ending = Done;
  rest = codes "1f\n";
}
unfolding reading
block_cut = refl

-- so does the block of a reload, whatever its name is
pub reload_cut : inputs 9 5000 (codes ":reload a 2\n{}:undo\n:reload a.c 1 \n:reload a.c\n")
    ≡ record {
      requests = change (reload (codes "a") (codes "{}")) ∷ undo
          ∷ refused UnknownCommand ∷ refused BadCount ∷ quit ∷ [];
      ending = Done;
      rest = [];
    }
unfolding reading
reload_cut = refl

-- input that ends in a block ends the run
pub short_block : inputs 9 5000 (codes ":load a.c 3\n{}")
    ≡ record { requests = refused InputEnded ∷ []; ending = Cut; rest = [] }
unfolding reading
short_block = refl

-- words that are missing are empty, and too many are refused
pub words_cut : inputs 9 5000 (codes ":drop\n:rename a.c\n:tag f 2\n:tag f 2 \n:tag f x\n")
    ≡ record {
      requests = change (unload []) ∷ change (rename (codes "a.c") []) ∷ change (tag (codes "f") 2)
          ∷ refused UnknownCommand ∷ refused BadCount ∷ quit ∷ [];
      ending = Done;
      rest = [];
    }
unfolding reading
words_cut = refl

-- a line with a byte too many ends the run, and so does the last line that is allowed
pub long_line : inputs 9 4 (codes ":undo")
    ≡ record { requests = overlong ∷ []; ending = Fault LongLine; rest = [] }
unfolding reading
long_line = refl

pub many_lines : inputs 2 5 (codes ":undo\n:redo\n1f\n")
    ≡ record { requests = undo ∷ redo ∷ []; ending = Fault ManyLines; rest = codes "1f\n" }
unfolding reading
many_lines = refl

-- moves and refusals
pub moves_shown : output [] (new_timeline (all_by Standard) standard_bounds)
    (change (load (codes "a.c") (codes "{}")) ∷ undo ∷ undo ∷ redo ∷ refused NoPattern ∷ quit ∷ [])
    ≡ codes ">> cscope: done\n>> cscope: done\n>> cscope: refused: nothing to undo\n"
    ++ codes ">> cscope: done\n>> cscope: refused: no pattern\n>> "
unfolding running
moves_shown = refl

-- one undo takes a reload back
pub reload_undone : output [] (new_timeline (all_by Standard) standard_bounds)
    (change (load (codes "a.c") (codes "{}")) ∷ change (reload (codes "a.c") (codes "x"))
    ∷ undo ∷ undo ∷ undo ∷ [])
    ≡ codes ">> cscope: done\n>> cscope: done\n>> cscope: done\n>> cscope: done\n"
    ++ codes ">> cscope: refused: nothing to undo\n"
unfolding running
reload_undone = refl

-- memory refused the load, and so there is nothing to undo
pub refusal_shown : output (true ∷ []) (new_timeline (all_by Standard) standard_bounds)
    (change (load (codes "a.c") (codes "{}")) ∷ undo ∷ [])
    ≡ codes ">> cscope: refused: out of memory\n>> cscope: refused: nothing to undo\n"
unfolding running
refusal_shown = refl

-- a file is loaded, asked for its function, and taken away again
pub query_shown : output [] (new_timeline (all_by Standard) standard_bounds)
    (change (load (codes "f.c") (codes " f(){}")) ∷ query Definition (codes "f")
    ∷ undo ∷ query Definition (codes "f") ∷ [])
    ≡ codes ">> cscope: done\n>> cscope: 1 lines\nf.c f 1 f(){}\n"
    ++ codes ">> cscope: done\n>> cscope: 0 lines\n"
unfolding running finding definitions_from put in_order distinct unindented lining
query_shown = refl
