-- How what is called is told.
use Rattle.std.specs.Prelude.{◌≡◌, ◌≤◌, ℕ, List, ◌∷◌, drop, length, map}
use Rattle.cb_tags.specs.TagLines.{tag_of}
use Rattle.cb_wire.specs.Values.{value_text}
use Rattle.cb_lsp.specs.Calls.{cut_by}
use Rattle.cb_lsp.specs.Outgoing.{Called, Callee, Group, called_calls, cut_calls, have_one_name}
use Rattle.cb_lsp.specs.declared.outgoing.CalledRow.{CalledRow}
use Rattle.cb_lsp.specs.declared.outgoing.CalleeGroup.{CalleeGroup}
use Rattle.cb_lsp.specs.declared.outgoing.CalleeRow.{CalleeRow}
use Rattle.cb_lsp.specs.declared.outgoing.Outgoing.{Outgoing}

-- what rows say
abbrev pub callee_in : CalleeRow → Callee
callee_in r = record { name = r.name.now; place = r.place; range = r.range }

abbrev pub callee_rows : List CalleeRow → List Callee
callee_rows rs = map callee_in rs

abbrev pub group_in : CalleeGroup → Group
group_in g = (callee_in g.first, callee_rows g.calls.now)

abbrev pub group_rows : List CalleeGroup → List Group
group_rows gs = map group_in gs

abbrev pub called_in : CalledRow → Called
called_in r = (tag_of r.row, callee_rows r.calls.now)

abbrev pub called_rows : List CalledRow → List Called
called_rows rs = map called_in rs

-- the first group of some calls: the others are cut as they would be alone
pub record FirstGroup (all : List Callee) (g : Group) : Type 0 where
  pub some : 1 ≤ length g.1
  pub within : length g.1 ≤ length all
  pub cut : cut_by have_one_name all ≡ g ∷ cut_by have_one_name (drop (length g.1) all)

-- those that are left
abbrev pub outgoing_left : Outgoing → List (List ℕ)
outgoing_left o =
    map (λ c. value_text (called_calls o.places.client o.places.files c))
    (cut_calls o.left (called_rows o.rest.now))
