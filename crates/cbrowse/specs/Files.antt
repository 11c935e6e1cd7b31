-- The files of a process: what is found, what is seen of them, and what is done to them by name.
use Rattle.std.specs.Prelude.{◌≡◌, ◌⊎◌, ℕ, false, List, [], ◌∷◌, Option}
use Rattle.cb_desk.specs.World.{File}
use Rattle.cb_lsp.specs.Documents.{Looked, Reading, gone, holds, linked, unreadable}
use Rattle.cbrowse.specs.declared.execute.storage.Seen.{Seen}

-- what is seen: what stands under a name, if anything does; with which bytes a file begins, of which
-- at most so many are read; and the path of the file to which a name leads
pub data Sight : Type 0 where
  stands : (name : List ℕ) → Option Seen → Sight
  begins : (name : List ℕ) → (most : ℕ) → (first : List ℕ) → Sight
  leads : (name path : List ℕ) → Sight

-- what is done: a file is made where nothing stood; one is opened where it stands, and emptied if it
-- is a regular one; what was made or opened is closed, and holds this; one takes another name, in
-- the place of what has it; one is taken away
pub data Step : Type 0 where
  creates : (name : List ℕ) → Step
  opens : (name : List ℕ) → Step
  closes : (held : Option (List ℕ)) → Step
  renames : (from to : List ℕ) → Step
  removes : (name : List ℕ) → Step

-- these steps are done, one after another, and nothing else
abbrev pub Does : {D : Type 0} → (D → Step → D → Type 0) → D → List Step → D → Type 0
Does does old [] new = new ≡ old
Does {D} does old (step ∷ steps) new =
    (between : D) × does old step between × Does does between steps new

-- what a run finds and sees of files, and what it has done to them
pub record Disk : Type 1 where
  pub finds : Looked → Type 0
  pub shows : Sight → Type 0
  pub done : List Step → Type 0

-- the same, of the files before a run and after it
abbrev pub disk_over : {D : Type 0} → (D → Looked → Type 0) → (D → Sight → Type 0)
    → (D → Step → D → Type 0) → D → D → Disk
disk_over finds shows does old new =
    record { finds = finds old; shows = shows old; done = λ steps. Does does old steps new }

-- this is found under a name, where at most so many bytes are read
abbrev pub looks : (name : List ℕ) → (most : ℕ) → Reading → Looked
looks name most found = record { path = name; most = most; only = 0; found = found }

-- a file is found as it is
abbrev pub IsFound : (Looked → Type 0) → (most : ℕ) → File → Type 0
IsFound finds most f = finds (looks f.name most (holds f.bytes))

-- a file is not there, may not be read under a second name, or cannot be read
abbrev pub IsUnreadable : (Looked → Type 0) → (most : ℕ) → (name : List ℕ) → Type 0
IsUnreadable finds most name =
    finds (looks name most gone) ⊎ (finds (looks name most linked)
    ⊎ finds (looks name most unreadable))
