-- What a change does to a world, and why it is refused.
use Rattle.std.specs.Prelude.{ℕ, List, Option, None, Some, Result, Ok, Err}
use Rattle.cb_desk.specs.declared.change.Refusal.{Refusal}
use Rattle.cb_desk.specs.World.{World, Place}
use Rattle.cb_desk.specs.Files.{load_refusal, loaded, reload_refusal, reloaded, unload_refusal}
use Rattle.cb_desk.specs.Files.{unloaded, rename_refusal, renamed}
use Rattle.cb_desk.specs.Marks.{want_refusal, wanting, wanted_places, mark_refusal, toggled_at}
use Rattle.cb_desk.specs.Marks.{mark_all_refusal, all_marked, replace_refusal, replaced_on_marks}
use Rattle.cb_desk.specs.Places.{nth}
use Rattle.cb_desk.specs.Stack.{places, push_refusal, pushed, pop_refusal, popped}

-- a change of the world
pub data Step : Type 0 where
  -- add a file
  load : (name bytes : List ℕ) → Step
  -- give a file other bytes
  reload : (name bytes : List ℕ) → Step
  -- take a file away
  unload : (name : List ℕ) → Step
  -- give a file another name
  rename : (old new : List ℕ) → Step
  -- want a text
  want : (text : List ℕ) → Step
  -- mark the nth line that holds the wanted text, counted from 1, or take its mark away
  mark : (n : ℕ) → Step
  -- mark every line that holds the wanted text
  mark_all : Step
  -- put another text in place of the wanted one on the marked lines
  replace : (text : List ℕ) → Step
  -- push the place of the nth definition of a name, counted from 1
  tag : (name : List ℕ) (n : ℕ) → Step
  -- take the top frame away
  pop : Step

-- the place that a step asks for: a mark the nth line that holds the wanted text, a tag the nth
-- definition of its name
abbrev pub place_of : World → Step → Option Place
place_of w (load name bytes) = None
place_of w (reload name bytes) = None
place_of w (unload name) = None
place_of w (rename old new) = None
place_of w (want text) = None
place_of w (mark n) = nth n (wanted_places w)
place_of w mark_all = None
place_of w (replace text) = None
place_of w (tag name n) = nth n (places w.profile w.files name)
place_of w pop = None

-- why a step is refused
abbrev pub refusal_of : World → Step → Option Refusal
refusal_of w (load name bytes) = load_refusal w name bytes
refusal_of w (reload name bytes) = reload_refusal w name bytes
refusal_of w (unload name) = unload_refusal w name
refusal_of w (rename old new) = rename_refusal w old new
refusal_of w (want text) = want_refusal text
refusal_of w (mark n) = mark_refusal w.wanted (place_of w (mark n))
refusal_of w mark_all = mark_all_refusal w.wanted
refusal_of w (replace text) = replace_refusal w text
refusal_of w (tag name n) = push_refusal (place_of w (tag name n))
refusal_of w pop = pop_refusal w.frames

-- the world after a step that is not refused
abbrev pub after : World → Step → World
after w (load name bytes) = loaded w name bytes
after w (reload name bytes) = reloaded w name bytes
after w (unload name) = unloaded w name
after w (rename old new) = renamed w old new
after w (want text) = wanting w text
after w (mark n) = toggled_at w (place_of w (mark n))
after w mark_all = all_marked w
after w (replace text) = replaced_on_marks w w.wanted text
after w (tag name n) = pushed w (place_of w (tag name n))
after w pop = popped w

-- the world, or the refusal
abbrev pub unless_refused : Option Refusal → World → Result World Refusal
unless_refused None w = Ok w
unless_refused (Some r) w = Err r

-- the world after a step, or why it is refused
unfoldable pub step : World → Step → Result World Refusal
step w s = unless_refused (refusal_of w s) (after w s)
