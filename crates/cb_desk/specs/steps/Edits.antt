-- What edits make of a list of places.
use Rattle.std.specs.Prelude.{◌≡◌, ℕ, List, [], ◌∷◌, ◌++◌, length, take, drop, map, nat_eq, not}
use Rattle.std.specs.Prelude.{if◌then◌else◌}
use Rattle.cb_desk.specs.declared.edits.Edit.{Edit}
use Rattle.cb_desk.specs.declared.edits.Step.{Step}
use Rattle.cb_desk.specs.declared.edits.Step.TheVariants.{Keep, Take, Put}
use Rattle.cb_desk.specs.declared.edits.Way.{Way}
use Rattle.cb_desk.specs.declared.edits.Way.TheVariants.{Each, Both, Renamed}
use Rattle.cb_desk.specs.declared.renaming.Renaming.{Renaming}
use Rattle.cb_desk.specs.declared.places.FileLine.{FileLine}

-- the list after some edits; each stands after so many places that stay
abbrev pub edited_each : List Edit → List FileLine → List FileLine
edited_each [] ps = ps
edited_each (e ∷ es) ps = take e.kept ps
    ++ (if e.is_put then e.place ∷ edited_each es (drop e.kept ps)
    else edited_each es (drop 1 (drop e.kept ps)))

-- the edit that takes one back, and those that take several back
abbrev pub turned_edit : Edit → Edit
turned_edit e = record e { is_put = not e.is_put }

abbrev pub turned_each : List Edit → List Edit
turned_each es = map turned_edit es

-- edits make one list from the other, and back
pub record IsEachDifference (es : List Edit) (old new : List FileLine) : Type 0 where
  pub on : edited_each es old ≡ new
  pub back : edited_each (turned_each es) new ≡ old

-- a list begins with that place
abbrev pub Begins : FileLine → List FileLine → Type 0
Begins p ps = ps ≡ p ∷ drop 1 ps

-- what can be done first to make one list from the other
abbrev pub IsFirstStep : Step → (olds news : List FileLine) → Type 0
IsFirstStep Keep olds news = (p : FileLine) × Begins p olds × Begins p news
IsFirstStep (Take p) olds news = Begins p olds
IsFirstStep (Put p) olds news = Begins p news

-- ---- a file gets another number

-- a place, in the file of the other number if it is in the one of the first
abbrev pub with_number : Renaming → FileLine → FileLine
with_number r p = if nat_eq p.name r.from then record p { name = r.to } else p

-- a list where the first places of a range are behind the others of it
abbrev pub rotated : (start end split : ℕ) → List FileLine → List FileLine
rotated start end split ps = take start (take end ps)
    ++ (drop split (drop start (take end ps)) ++ take split (drop start (take end ps)))
    ++ drop end ps

abbrev pub renamed : Renaming → List FileLine → List FileLine
renamed r ps = rotated r.start r.end r.split (map (with_number r) ps)

-- the renaming that takes one back
abbrev pub turned_renaming : Renaming → Renaming
turned_renaming r = record {
  from = r.to;
  to = r.from;
  start = r.start;
  end = r.end;
  split = r.back;
  back = r.split;
}

-- ---- all forms

-- each edit; the list before and the list after; or a file that gets another number
pub data Edits : Type 0 where
  each : List Edit → Edits
  both : (old new : List FileLine) → Edits
  renaming : Renaming → Edits

-- what they make of a list
abbrev pub edited : Edits → List FileLine → List FileLine
edited (each es) ps = edited_each es ps
edited (both old new) ps = new
edited (renaming r) ps = renamed r ps

-- those that take them back
abbrev pub turned_edits : Edits → Edits
turned_edits (each es) = each (turned_each es)
turned_edits (both old new) = both new old
turned_edits (renaming r) = renaming (turned_renaming r)

-- for how many places more there has to be room
abbrev pub more : Edits → ℕ
more (each es) = length es
more (both old new) = length new
more (renaming r) = 0

-- they make one list from the other, and back
pub record IsDifference (es : Edits) (old new : List FileLine) : Type 0 where
  pub on : edited es old ≡ new
  pub back : edited (turned_edits es) new ≡ old

-- the edits that a form in memory stands for
abbrev pub edits_in : Way → Edits
edits_in (Each es) = each es.items
edits_in (Both old new) = both old.items new.items
edits_in (Renamed r) = renaming r
