-- Changes of the tag stack.
use Rattle.std.specs.Prelude.{ℕ, ◌-◌, List, [], ◌∷◌, ◌++◌, length, take, Option, None}
use Rattle.std.specs.Prelude.{Some, filter, map}
use Rattle.std.specs.List.{flat_map}
use Rattle.cb_scan.specs.declared.profile.Profile.{Profile}
use Rattle.cb_scan.specs.declared.facts.Def.{Def}
use Rattle.cb_scan.specs.Profiles.{facts_in}
use Rattle.cb_desk.specs.declared.change.Refusal.{Refusal}
use Rattle.cb_desk.specs.declared.change.Refusal.TheVariants.{NoSuchDefinition, StackEmpty}
use Rattle.cb_desk.specs.Answer.{defines}
use Rattle.cb_desk.specs.World.{World, File, Place}

-- ---- the place of a definition

-- the places of the definitions of a name in a file, all that the profile finds
abbrev pub places_in : Profile → List ℕ → File → List Place
places_in p name f =
    map (λ (d : Def). record { file = f.name; line = d.line })
    (filter (defines f.bytes name) (facts_in p f.bytes).defs)

-- those of all files, by file and place; equal ones all count
abbrev pub places : Profile → List File → List ℕ → List Place
places p files name = flat_map (places_in p name) files

-- ---- push

-- why nothing is pushed: there is no such place
abbrev pub push_refusal : Option Place → Option Refusal
push_refusal None = Some NoSuchDefinition
push_refusal (Some f) = None

-- the world with one more frame on top, if there is such a place
abbrev pub pushed : World → Option Place → World
pushed w None = w
pushed w (Some f) = record w { frames = w.frames ++ f ∷ [] }

-- ---- pop

-- why no frame can be taken away
abbrev pub pop_refusal : List Place → Option Refusal
pop_refusal [] = Some StackEmpty
pop_refusal (f ∷ fs) = None

-- the world without its top frame
abbrev pub popped : World → World
popped w = record w { frames = take (length w.frames - 1) w.frames }
