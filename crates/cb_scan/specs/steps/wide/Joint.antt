-- The pass of the wide profile, where the head of a function and the declaration of the file have
-- one open part.
use Rattle.std.specs.Prelude.{Bool, false, ◌&&◌, ◌==◌, not, List, None, if◌then◌else◌}
use Rattle.cb_scan.specs.declared.rules.wide.declaration.Declaration.{Declaration}
use Rattle.cb_scan.specs.declared.rules.wide.head.WideHead.{WideHead}
use Rattle.cb_scan.specs.declared.rules.wide.machine.WideMachine.{WideMachine}
use Rattle.cb_scan.specs.declared.rules.wide.pass.Pass.{Pass}
use Rattle.cb_scan.specs.declared.rules.wide.token.WideToken.{WideToken}
use Rattle.cb_scan.specs.rules.wide.Words.{is_sign}
use Rattle.cb_scan.specs.steps.Heads.{add}
use Rattle.cb_scan.specs.steps.wide.Contents.{first_goes_on}
use Rattle.cb_scan.specs.steps.wide.Declarations.{is_over}
use Rattle.cb_scan.specs.steps.wide.Functions.{stopped}
use Rattle.cb_scan.specs.steps.wide.Openings.{next_opening}
use Rattle.cb_scan.specs.steps.wide.Parts.{function}
use Rattle.cb_scan.specs.steps.wide.Pass.{is_brace, is_in_file, next_of_file}
use Rattle.cb_scan.specs.steps.wide.Tails.{or_first}
use Rattle.cb_scan.specs.Bytes.{comma, semicolon}

-- a head, which has the open part of the declaration where they go together
abbrev pub head_with : Bool → Declaration → WideHead → WideHead
head_with together d h = if together then record h { count = d.count; part = d.part } else h

abbrev pub machine_with : Bool → Declaration → WideMachine → WideMachine
machine_with together d m = record m { parts = head_with together d m.parts }

abbrev pub pass_with : Bool → Pass → Pass
pass_with together p = record p { machine = machine_with together p.file p.machine }

-- the token is of the file, is no brace and begins no declaration anew
abbrev pub stays_together : Pass → WideToken → Bool
stays_together p x = is_in_file p && not (is_brace x) && not (is_over p.file x)

-- after a token of the file that is no brace, the open part aside: a comma outside parentheses and
-- brackets ends it
abbrev pub head_beside : Declaration → WideHead → WideToken → WideHead
head_beside d h x =
    if d.count == 0 && is_sign comma x.role
    then record h { found = or_first h.found (function d.part) } else h

abbrev pub machine_beside : Declaration → WideMachine → WideToken → WideMachine
machine_beside d m x =
    if is_sign semicolon x.role then stopped m x
    else record m { head = add m.head x.token; parts = head_beside d m.parts x }

-- after a token that the head and the declaration of the file take together: these two
abbrev pub together_on : Pass → List WideToken → WideToken → Pass
together_on p xs x = record p {
  machine = machine_beside p.file p.machine x;
  file = next_of_file p.file false xs x;
}

abbrev pub next_together : Pass → List WideToken → WideToken → Pass
next_together p xs x = record {
  opening = next_opening p.opening x;
  machine = machine_beside p.file p.machine x;
  file = next_of_file p.file false xs x;
  body = None;
  levels = first_goes_on p.levels xs x;
}
