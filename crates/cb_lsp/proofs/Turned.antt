-- What the parts of a turn leave.
use Rattle.std.proofs.Common.{◌≡◌, Bool}
use Rattle.std.specs.List.{AllByRecursion}
use Rattle.std.specs.Prelude.{Ok, Err}
use Rattle.cb_tags.specs.Writers.{Writer}
use Rattle.cb_tags.specs.Writing.{PutsAll, PutsPrefix}
use Rattle.cb_tags.specs.declared.sink.WriteFault.{WriteFault}
use Rattle.cb_lsp.specs.Documents.{Looked, Oracle}
use Rattle.cb_lsp.specs.Messages.{Message, Serving, does}
use Rattle.cb_lsp.specs.Bodies.{is_last, taken, written_text}
use Rattle.cb_lsp.specs.Bodies.{TakesBody}

-- a message is taken
pub takes-ok : (finds : Looked → Type 0) (P : Message → Type 0) (m : Message) (o : Oracle)
    (s next : Serving) (old new : Writer) (last : Bool) → P m → last ≡ is_last (taken m o)
    → (next ≡ (does o s m).server)
    → PutsAll old new (written_text (does o s m).written)
    → AllByRecursion finds (does o s m).read
    → TakesBody finds P s next old new (Ok last)
takes-ok finds P m o s next old new last p is same put found =
    (taken m o, p, (((same, put), found), is))

pub takes-fault : (finds : Looked → Type 0) (P : Message → Type 0) (m : Message) (o : Oracle) (s next : Serving)
    (old new : Writer) (e : WriteFault) → P m
    → PutsPrefix old new (written_text (does o s m).written)
    → TakesBody finds P s next old new (Err e)
takes-fault finds P m o s next old new e p put = (taken m o, p, (((tt, put), tt), tt))
