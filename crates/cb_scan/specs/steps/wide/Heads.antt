-- The prototype that the head of a function has, a token at a time.
use Rattle.std.specs.Prelude.{true, false, ◌&&◌, ◌==◌, List, [], ◌∷◌, Option, None}
use Rattle.std.specs.Prelude.{if◌then◌else◌}
use Rattle.cb_scan.specs.declared.rules.wide.head.WideHead.{WideHead}
use Rattle.cb_scan.specs.declared.rules.wide.token.WideToken.{WideToken}
use Rattle.cb_scan.specs.rules.Typedefs.{nesting_after}
use Rattle.cb_scan.specs.rules.wide.Words.{is_sign}
use Rattle.cb_scan.specs.steps.wide.Parts.{function, next_part, part_start}
use Rattle.cb_scan.specs.steps.wide.Tails.{or_first}
use Rattle.cb_scan.specs.Bytes.{comma}

-- the beginning of a head
abbrev pub head_start : WideHead
head_start = record { count = 0; part = part_start true; found = None }

-- the function that the first part declares which declares one
abbrev pub declared : WideHead → Option WideToken
declared h = or_first h.found (function h.part)

-- after the first token
abbrev pub next_head : WideHead → List WideToken → WideToken → WideHead
next_head h xs x =
    if h.count == 0 && is_sign comma x.role
    then record {
      count = nesting_after x.token h.count;
      part = part_start false;
      found = declared h;
    }
    else record h {
      part = next_part h.part (h.count == 0) xs x;
      count = nesting_after x.token h.count;
    }

-- the head from a state on
unfoldable pub head_from : WideHead → List WideToken → WideHead
head_from h [] = h
head_from h (x ∷ xs) = head_from (next_head h (x ∷ xs) x) xs
