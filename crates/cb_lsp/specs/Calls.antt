-- Functions and macros that call each other, and their calls.
use Rattle.std.specs.Prelude.{ℕ, ◌+◌, ◌==◌, ◌&&◌, Bool, true, false, List, [], ◌∷◌, filter, length}
use Rattle.std.specs.Prelude.{map, Option, None, Some, if◌then◌else◌}
use Rattle.std.specs.Str.{bytes_eq}
use Rattle.json.specs.Json.{Json}
use Rattle.cb_desk.specs.Scanned.{ScannedText, scanned_named}
use Rattle.cb_desk.specs.World.{File, World, text_of_file}
use Rattle.cb_index.specs.Rows.{Fact, calls_of, tags_named}
use Rattle.cb_scan.specs.Order.{in_order}
use Rattle.cb_scan.specs.declared.facts.Def.{Def}
use Rattle.cb_scan.specs.declared.facts.Kind.{Kind}
use Rattle.cb_scan.specs.declared.facts.Kind.TheVariants as kind
use Rattle.cb_tags.specs.TagLines.{Tag}
use Rattle.cb_wire.specs.Calls as wire
use Rattle.cb_wire.specs.Calls.{call_item, side_name}
use Rattle.cb_wire.specs.declared.calls.Side.TheVariants.{From}
use Rattle.cb_wire.specs.declared.position.Range.{Range}
use Rattle.cb_lsp.specs.Clients.{Client}
use Rattle.cb_lsp.specs.Places.{line_range, range_of}
use Rattle.cb_lsp.specs.References.{uses_reached}
use Rattle.cb_lsp.specs.Symbols.{kind_number}

-- what can call and be called: functions and macros
abbrev pub is_callable : Kind → Bool
is_callable kind.Function = true
is_callable kind.Macro = true
is_callable _ = false

-- those among definitions
abbrev pub callables : List Tag → List Tag
callables ts = filter (λ (t : Tag). is_callable t.kind) ts

-- one of a name that begins at a place of a file
abbrev pub item_at : Client → List File → (name : List ℕ) → Kind → (file : List ℕ) → (place : ℕ)
    → Json
item_at c files name kind file place =
    let text = text_of_file files file in
    call_item name (kind_number kind) c.root file (line_range c.encoding text place)
    (range_of c.encoding text place (place + length name))

-- a definition as such a one
abbrev pub item_of : Client → List File → Tag → Json
item_of c files t = item_at c files t.name t.kind t.file t.place

-- ---- the kind of what a place names

-- that of the first definition whose name begins there
unfoldable pub kind_at : List Def → (place : ℕ) → Kind
kind_at [] place = kind.Function
kind_at (d ∷ ds) place = if d.name.start == place then d.kind else kind_at ds place

abbrev pub kind_if : Option ScannedText → (place : ℕ) → Kind
kind_if None place = kind.Function
kind_if (Some t) place = kind_at t.facts.defs place

abbrev pub kind_in : World → (file : List ℕ) → (place : ℕ) → Kind
kind_in w file place = kind_if (scanned_named w.profile w.files file) place

-- ---- calls

-- a call, and the range of the name that is called
pub record Called : Type 0 where
  pub call : Fact
  pub range : Range

abbrev pub called_at : Client → List File → Fact → Called
called_at c files f = record {
  call = f;
  range = range_of c.encoding (text_of_file files f.file) f.place (f.place + length f.name);
}

-- the name of the caller, and where it begins in the file of the call
abbrev pub name_or_none : Option (List ℕ) → List ℕ
name_or_none None = []
name_or_none (Some name) = name

abbrev pub place_or_none : Option ℕ → ℕ
place_or_none None = 0
place_or_none (Some place) = place

abbrev pub caller_name : Called → List ℕ
caller_name c = name_or_none c.call.scope

abbrev pub caller_place : Called → ℕ
caller_place c = place_or_none c.call.scope_place

-- calls by their callers: by file, and then by the place of the caller's name
abbrev pub by_caller : List Called → List Called
by_caller cs =
    in_order (λ (c : Called). c.call.file) (in_order (λ (c : Called). caller_place c ∷ []) cs)

abbrev pub have_one_caller : Called → Called → Bool
have_one_caller c d = bytes_eq c.call.file d.call.file && (caller_place c == caller_place d)

-- what stands in a row and is alike, as groups: the first, and all
abbrev pub put_first : {X : Type 0} → (X → X → Bool) → X → List (X × List X) → List (X × List X)
put_first alike x [] = (x, x ∷ []) ∷ []
put_first alike x (g ∷ gs) =
    if alike x g.0 then (x, x ∷ g.1) ∷ gs else (x, x ∷ []) ∷ g ∷ gs

unfoldable pub cut_by : {X : Type 0} → (X → X → Bool) → List X → List (X × List X)
cut_by alike [] = []
cut_by alike (x ∷ xs) = put_first alike x (cut_by alike xs)

-- calls in a row that have one caller: the first, and all
abbrev pub Calls : Type 0
Calls = Called × List Called

abbrev pub cut_by_caller : List Called → List Calls
cut_by_caller cs = cut_by have_one_caller cs

-- ---- incoming calls

-- the calls of a name in its reach from a file
abbrev pub calls_reached : World → (name from : List ℕ) → List Fact
calls_reached w name from =
    uses_reached (tags_named w.profile name w.files) from (calls_of w.profile name w.files)

-- the caller of a call
abbrev pub caller_item : Client → World → Called → Json
caller_item c w called =
    item_at c w.files (caller_name called)
    (kind_in w called.call.file (caller_place called)) called.call.file (caller_place called)

-- the calls of one caller
abbrev pub caller_calls : Client → World → Calls → Json
caller_calls c w calls =
    wire.calls_of (side_name From) (caller_item c w calls.0)
    (map (λ (d : Called). d.range) calls.1)

-- who calls a name in its reach from a file
abbrev pub incoming_calls : Client → World → (name from : List ℕ) → List Json
incoming_calls c w name from =
    map (caller_calls c w)
    (cut_by_caller (by_caller (map (called_at c w.files) (calls_reached w name from))))
