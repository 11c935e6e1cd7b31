-- Where definitions are, and the positions in the file of the last one.
use Rattle.std.specs.Prelude.{◌≡◌, List, Option, None, Some}
use Rattle.cb_desk.specs.World.{File, text_of_file}
use Rattle.cb_lsp.specs.Clients.{Client}
use Rattle.cb_lsp.specs.declared.location.FilePositions.{FilePositions}
use Rattle.cb_lsp.specs.declared.location.Forms.{Forms}
use Rattle.cb_wire.specs.declared.units.Encoding.{Encoding}

-- what a client takes
abbrev pub client_in : Forms → Client
client_in f = record { root = f.root.now; encoding = f.encoding; tree = f.tree }

-- files, as a client has them
pub record Locating : Type 0 where
  pub client : Client
  pub files : List File

-- positions in a text of the files, if there are any
abbrev pub AreIn : Encoding → List File → Option FilePositions → Type 0
AreIn e files None = Unit {0}
AreIn e files (Some p) =
    (p.positions.encoding ≡ e) × (p.positions.text ≡ text_of_file files p.file.now)
