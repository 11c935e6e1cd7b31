-- What functions and macros call.
use Rattle.std.specs.Prelude.{false, ℕ, ◌==◌, ◌&&◌, ◌-◌, Bool, List, [], ◌∷◌, filter, length, map, take}
use Rattle.std.specs.Prelude.{Some, if◌then◌else◌}
use Rattle.std.specs.List.{flat_map}
use Rattle.std.specs.Str.{bytes_eq}
use Rattle.json.specs.Json.{Json}
use Rattle.cb_desk.specs.World.{File, World}
use Rattle.cb_index.specs.Rows.{tags_named}
use Rattle.cb_scan.specs.declared.facts.Call.{Call}
use Rattle.cb_scan.specs.lex.Tokens.{bytes_of}
use Rattle.cb_scan.specs.Order.{in_order}
use Rattle.cb_scan.specs.Profiles.{facts_in}
use Rattle.cb_tags.specs.TagLines.{Tag}
use Rattle.cb_wire.specs.Calls as wire
use Rattle.cb_wire.specs.Calls.{side_name}
use Rattle.cb_wire.specs.Positions.{place}
use Rattle.cb_wire.specs.declared.calls.Side.TheVariants.{To}
use Rattle.cb_wire.specs.declared.position.Position.{Position}
use Rattle.cb_wire.specs.declared.position.Range.{Range}
use Rattle.cb_wire.specs.declared.units.Encoding.{Encoding}
use Rattle.cb_names.specs.declared.space.Space.TheVariants as name_space
use Rattle.cb_lsp.specs.Calls.{callables, cut_by, item_of}
use Rattle.cb_lsp.specs.Clients.{Client}
use Rattle.cb_lsp.specs.Closures.{is_in_closure}
use Rattle.cb_lsp.specs.Nearest.{kinds_at, shown}
use Rattle.cb_lsp.specs.Places.{range_of}

-- ---- the calls of one caller

-- a call of a text stands in what has this name, which begins at this place
abbrev pub is_call_by : (text name : List ℕ) → (place : ℕ) → Call → Bool
is_call_by text name place c =
    c.caller.start == place && bytes_eq (bytes_of text c.caller) name

-- the name that a call calls, where it stands in the text, and its range
pub record Callee : Type 0 where
  pub name : List ℕ
  pub place : ℕ
  pub range : Range

abbrev pub callee_of : Encoding → (text : List ℕ) → Call → Callee
callee_of e text c = record {
  name = bytes_of text c.callee;
  place = c.callee.start;
  range = range_of e text c.callee.start c.callee.end;
}

-- what is called by what has this name, which begins at this place
abbrev pub callees_by : Encoding → (text name : List ℕ) → (place : ℕ) → List Call → List Callee
callees_by e text name place cs =
    map (callee_of e text) (filter (is_call_by text name place) cs)

-- ---- by the called name

abbrev pub have_one_name : Callee → Callee → Bool
have_one_name c d = bytes_eq c.name d.name

-- the calls of one name: the first, and all
abbrev pub Group : Type 0
Group = Callee × List Callee

abbrev pub by_name : List Callee → List Callee
by_name cs = in_order (λ (c : Callee). c.name) cs

abbrev pub by_first_call : List Group → List Group
by_first_call gs = in_order (λ (g : Group). g.0.place ∷ []) gs

-- calls by the called name, the name first that is called first
abbrev pub called_names : List Callee → List Group
called_names cs = by_first_call (cut_by have_one_name (by_name cs))

-- ---- what the names mean

-- what is called, and the calls of its name
abbrev pub Called : Type 0
Called = Tag × List Callee

-- each function and macro that is shown of a called name in a file
abbrev pub called_as : World → (file : List ℕ) → Group → List Called
called_as w file g =
    let ts = tags_named w.profile g.0.name w.files in
    map (λ (t : Tag). (t, g.1)) (callables
    (shown file (is_in_closure w file) (kinds_at (Some name_space.Called) ts) false ts))

-- calls up to so many, and what is called up to so many calls in all
abbrev pub cut_called : (most : ℕ) → Called → Called
cut_called most called = (called.0, take most called.1)

abbrev pub cut_calls : (left : ℕ) → List Called → List Called
cut_calls left [] = []
cut_calls left (called ∷ more) =
    let cut = cut_called left called in
    if left == 0 then [] else cut ∷ cut_calls (left - length cut.1) more

abbrev pub called_calls : Client → List File → Called → Json
called_calls c files called =
    wire.calls_of (side_name To) (item_of c files called.0)
    (map (λ (d : Callee). d.range) called.1)

-- of calls of a file in the order of called names what is called: the first 1,000, and 100,000 calls
abbrev pub first_called : World → (file : List ℕ) → List Callee → List Called
first_called w file cs =
    take 1000 (flat_map (called_as w file) (by_first_call (cut_by have_one_name cs)))

abbrev pub told_by_name : Client → World → (file : List ℕ) → List Callee → List Json
told_by_name c w file cs =
    map (called_calls c w.files) (cut_calls 100000 (first_called w file cs))

-- the calls of what has this name at a position of a text, in the order of called names
abbrev pub calls_at : Client → World → (text name : List ℕ) → Position → List Callee
calls_at c w text name p =
    by_name (callees_by c.encoding text name (place c.encoding text p)
    (facts_in w.profile text).calls)

-- what is called by what has this name at a position of the file of this name and text
abbrev pub outgoing_calls : Client → World → (file text name : List ℕ) → Position → List Json
outgoing_calls c w file text name p = told_by_name c w file (calls_at c w text name p)

-- the files of that, each as often as it is said
abbrev pub files_called : Client → World → (file text name : List ℕ) → Position → List (List ℕ)
files_called c w file text name p =
    map (λ (called : Called). called.0.file) (first_called w file (calls_at c w text name p))
