-- What writing a whole text does to a writer, where the session has a fault of its own.
use Rattle.std.specs.Prelude.{◌≡◌, ℕ, List, Result, IfErr}
use Rattle.cb_session.specs.declared.input.Fault.{Fault}
use Rattle.cb_session.specs.declared.input.Fault.TheVariants.{Write}
use Rattle.cb_tags.specs.Writers.{Writer}
use Rattle.cb_tags.specs.Writing.{Puts as PutsText}

-- a text is written as any text is, and a fault says that the writer has failed
abbrev pub Puts : {A : Type 0} → Writer → Writer → Result A Fault → List ℕ → Type 0
Puts old new result text = PutsText old new result text × IfErr result (λ fault. fault ≡ Write)
