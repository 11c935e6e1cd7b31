-- What writing a whole text does to a writer.
use Rattle.std.specs.Prelude.{◌≡◌, ◌≢◌, ℕ, true, false, List, [], ◌++◌, Option, Result, Ok, Err}
use Rattle.std.specs.Io.KnownBytes.{Appends, Keeps}
use Rattle.cb_tags.specs.Writers.{Writer}

-- known bytes grow by a prefix of the text
abbrev pub AppendsPrefix : Option (List ℕ) → Option (List ℕ) → List ℕ → Type 0
AppendsPrefix old new text =
    (prefix rest : List ℕ) × (text ≡ prefix ++ rest) × Appends old new prefix

-- the whole text was written; a writer that had failed takes no text but the empty one, which
-- leaves no more pending than before
abbrev pub PutsAll : Writer → Writer → List ℕ → Type 0
PutsAll old new text =
    (new.failed ≡ old.failed) × (text ≢ [] → old.failed ≡ false) × Appends old.bytes new.bytes text
    × (text ≡ [] → new.pending ≡ old.pending)

-- the writer has failed, and a prefix of the text was written; nothing where it had failed before
abbrev pub PutsPrefix : Writer → Writer → List ℕ → Type 0
PutsPrefix old new text =
    (new.failed ≡ true)
    × (old.failed ≡ true → Keeps old.bytes new.bytes × (new.pending ≡ old.pending))
    × AppendsPrefix old.bytes new.bytes text

-- success says that the whole text was written, and an error that the writer has failed
abbrev pub Puts : {A E : Type 0} → Writer → Writer → Result A E → List ℕ → Type 0
Puts old new (Ok _) text = PutsAll old new text
Puts old new (Err _) text = PutsPrefix old new text
