-- What an editor has of its documents: it holds units, and puts units in the place of units.
use Rattle.std.specs.Prelude.{◌≡◌, ℕ, Bool, max, List, Option, Some, fold, IfSome}
use Rattle.std.specs.List.{AllByRecursion}
use Rattle.std.specs.Option.{option_map}
use Rattle.json.specs.Json.{Json}
use Rattle.cb_desk.specs.World.{World}
use Rattle.cb_wire.specs.declared.position.Range.{Range}
use Rattle.cb_wire.specs.declared.units.Encoding.{Encoding}
use Rattle.cb_wire.specs.Offsets.{IsText, offset, units}
use Rattle.cb_wire.specs.Uris.{Below}
use Rattle.cb_lsp.specs.Changes.{TextChange, part, replaced, whole}
use Rattle.cb_lsp.specs.declared.notice.Notice.{Notice}
use Rattle.cb_lsp.specs.declared.notice.Notice.TheVariants.{Open, Change}
use Rattle.cb_lsp.specs.Messages.{Message, fresh_server, notice_of, notification}
use Rattle.cb_lsp.specs.Params.{changes_in, document_text}
use Rattle.cb_lsp.specs.Sync.{Arrived, HasArrived, Holding, StayInSync, text_through}

-- ---- changes

-- units with others in place of a range; an end before the start counts as the start
abbrev pub put_units : (us : List ℕ) → Range → (new : List ℕ) → List ℕ
put_units us r new =
    let start = offset us r.start in replaced start (max start (offset us r.end)) new us

-- the units after a change, if there are any
abbrev pub units_with : Encoding → Option (List ℕ) → TextChange → Option (List ℕ)
units_with e us (whole new) = Some (units e new)
units_with e us (part r new) = option_map (λ us. put_units us r (units e new)) us

-- the units after changes, each of them made in those after the changes before it
abbrev pub units_through : Encoding → Option (List ℕ) → List TextChange → Option (List ℕ)
units_through e us cs = fold (units_with e) us cs

-- the text that a change brings is in UTF-8 and has no carriage return alone
abbrev pub BringsText : TextChange → Type 0
BringsText (whole new) = IsText new
BringsText (part r new) = IsText new

-- changes of such a text by such texts lead to one whose units an editor has after them
abbrev pub EditorsCountUnits : Type 0
EditorsCountUnits = (e : Encoding) (text : List ℕ) (cs : List TextChange) → IsText text
    → AllByRecursion BringsText cs
    → option_map (units e) (text_through e (Some text) cs)
    ≡ units_through e (Some (units e text)) cs

-- ---- messages

-- an editor holds units
abbrev pub in_units : Holding
in_units = record { has = units; after = units_through }

-- the texts that an editor tells are in UTF-8 and have no carriage return alone
abbrev pub HasTexts : Option Notice → Option Json → Type 0
HasTexts (Some Open) params = IfSome (document_text params) IsText
HasTexts (Some Change) params = IfSome (changes_in params) (AllByRecursion BringsText)
HasTexts _ params = Unit {0}

abbrev pub TellsTexts : Message → Type 0
TellsTexts (notification method params) = HasTexts (notice_of method) params
TellsTexts _ = Unit {0}

-- after any messages with such texts, whatever is found, refused or dropped, the units of the documents of a server are
-- those that its editor has
abbrev pub EditorsStayInSync : Type 0
EditorsStayInSync = (w : World) (root : Below) (rooted : Bool) (version : List ℕ)
    (arrived : List Arrived) → AllByRecursion HasArrived arrived
    → AllByRecursion (λ (a : Arrived). TellsTexts a.0) arrived
    → StayInSync in_units (fresh_server w root rooted version) arrived
