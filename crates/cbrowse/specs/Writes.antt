-- What is written of a text, into what a process has open.
use Rattle.std.specs.Prelude.{◌≡◌, ℕ, true, false, List, [], Option, None, Some}
use Rattle.std.specs.Io.KnownBytes.{Appends}
use Rattle.cb_session.specs.declared.input.Ended.{Ended}
use Rattle.cb_session.specs.declared.input.Ended.TheVariants.{Done, Fault}
use Rattle.cb_session.specs.declared.input.Fault.TheVariants.{Write}
use Rattle.cb_tags.specs.Writers.{Writer}
use Rattle.cb_tags.specs.Writing.{AppendsPrefix}
use Rattle.cbrowse.specs.declared.execute.finish.Finish.{Finish}
use Rattle.cbrowse.specs.declared.execute.finish.Finish.TheVariants.{Ran, Served, Unreadable}
use Rattle.cbrowse.specs.declared.execute.finish.Finish.TheVariants.{Unlisted, Unwritable}

-- the whole text was written and handed on; or the writer failed, and a prefix was written
abbrev pub WritesText : List ℕ → Writer → Writer → Ended → Type 0
WritesText text old new Done =
    (new.failed ≡ false) × Appends old.bytes new.bytes text × (new.pending ≡ false)
WritesText text old new (Fault Write) = (new.failed ≡ true) × AppendsPrefix old.bytes new.bytes text
WritesText text old new _ = ⊥

-- a writer that has taken nothing yet
abbrev pub fresh : Option (List ℕ) → Writer
fresh bytes = record { bytes = bytes; failed = false; pending = false }

-- the whole text was written into a file and handed on; or the file can't be written, and a prefix
-- was written
abbrev pub WritesFile : List ℕ → Writer → Writer → Finish → Type 0
WritesFile text old new (Ran ended) = (ended ≡ Done) × WritesText text old new Done
WritesFile text old new Unwritable = WritesText text old new (Fault Write)
WritesFile text old new (Served end) = ⊥
WritesFile text old new (Unreadable place) = ⊥
WritesFile text old new Unlisted = ⊥

-- what a file that is opened late holds: nothing before it is open
abbrev pub late_contents : {F : Type 0} → (F → Option (List ℕ)) → Option F → Option (List ℕ)
late_contents contents None = Some []
late_contents contents (Some file) = contents file
