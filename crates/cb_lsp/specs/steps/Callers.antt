-- How calls are told by their callers.
use Rattle.std.specs.Prelude.{◌≡◌, ◌≤◌, ◌==◌, ℕ, List, [], ◌∷◌, drop, length, map}
use Rattle.std.specs.Prelude.{if◌then◌else◌}
use Rattle.cb_index.specs.steps.Left.{fact_of_spot}
use Rattle.cb_scan.specs.declared.facts.Def.{Def}
use Rattle.cb_scan.specs.declared.facts.Kind.{Kind}
use Rattle.cb_scan.specs.declared.facts.Kind.TheVariants as kind
use Rattle.cb_wire.specs.Values.{value_text}
use Rattle.cb_lsp.specs.Calls.{Called, caller_calls, cut_by_caller}
use Rattle.cb_lsp.specs.declared.callers.CallRow.{CallRow}
use Rattle.cb_lsp.specs.declared.callers.Incoming.{Incoming}
use Rattle.cb_lsp.specs.steps.Located.{client_in}

-- what a row says
abbrev pub called_in : CallRow → Called
called_in r = record { call = fact_of_spot r.spot; range = r.range }

abbrev pub called_rows : List CallRow → List Called
called_rows rs = map called_in rs

-- the first of some calls, and those at the front that have its caller: the others are cut as they
-- would be alone
pub record FirstCalls (all : List Called) (first : Called) (calls : List Called) : Type 0 where
  pub within : length calls ≤ length all
  pub cut : cut_by_caller all ≡ (first, calls) ∷ cut_by_caller (drop (length calls) all)

-- the kind of the first of some definitions, if its name begins there
abbrev pub kind_first : List Def → (place : ℕ) → Kind
kind_first [] place = kind.Function
kind_first (d ∷ ds) place = if d.name.start == place then d.kind else kind.Function

-- the groups that are left
abbrev pub incoming_left : Incoming → List (List ℕ)
incoming_left i =
    let world = i.callers.desk.now.timeline.present in
    map (λ g. value_text (caller_calls (client_in i.callers.forms) world g))
    (cut_by_caller (drop i.given (called_rows i.rows.now)))
