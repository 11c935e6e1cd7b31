-- Who calls and what is called, computed. The expected values are worked out by hand.
use Rattle.std.specs.Prelude.{◌≡◌, ◌+◌, ℕ, List, [], ◌∷◌, codes, filter, refl, Option, Some}
use Rattle.std.specs.Prelude.{Ok, Err}
use Rattle.json.specs.Json.{Json, number, string, object, no_members, member}
use Rattle.cb_scan.specs.declared.facts.Call.{Call}
use Rattle.cb_scan.specs.Order.{in_order, put}
use Rattle.cb_wire.specs.declared.position.Range.{Range}
use Rattle.cb_lsp.specs.Calls.{Called, by_caller, cut_by, cut_by_caller}
use Rattle.cb_lsp.specs.Outgoing.{Callee, called_names, is_call_by}
use Rattle.cb_lsp.specs.Questions.{asked_by, incoming, outgoing}
use Rattle.cb_lsp.specs.declared.question.Unasked.TheVariants.{BadParameters}

-- ---- what is asked

abbrev one : List ℕ → Json → Json
one name value = object (member name value no_members)

abbrev place : Json
place =
    one (codes "start") (object (member (codes "line") (number (codes "2"))
    (member (codes "character") (number (codes "5")) no_members)))

-- an item with a range of its name, which may be wrong
abbrev item_with : Json → Option Json
item_with range =
    Some (one (codes "item") (object (member (codes "name") (string (codes "f"))
    (member (codes "uri") (string (codes "file:///a.c"))
    (member (codes "selectionRange") range no_members)))))

pub who_calls : asked_by (codes "callHierarchy/incomingCalls") (item_with (string []))
    ≡ Ok (incoming (codes "f") (codes "file:///a.c"))
who_calls = refl

pub what_is_called : asked_by (codes "callHierarchy/outgoingCalls") (item_with place)
    ≡ Ok (outgoing (codes "f") (codes "file:///a.c") (record { line = 2; character = 5 }))
what_is_called = refl

pub called_from_nowhere : asked_by (codes "callHierarchy/outgoingCalls") (item_with (string []))
    ≡ Err BadParameters
called_from_nowhere = refl

pub no_item : asked_by (codes "callHierarchy/incomingCalls")
    (Some (one (codes "name") (string (codes "f")))) ≡ Err BadParameters
no_item = refl

-- ---- by their callers

abbrev nowhere : Range
nowhere = record {
  start = record { line = 0; character = 0 };
  end = record { line = 0; character = 0 };
}

-- a call at a place of a file, and where the name of its caller begins
abbrev call_in : (file : List ℕ) → (caller place : ℕ) → Called
call_in file caller place = record {
  call = record {
    file = file;
    name = codes "g";
    place = place;
    scope = Some (codes "f");
    scope_place = Some caller;
    line = 1;
    text = [];
  };
  range = nowhere;
}

abbrev a_first : Called
a_first = call_in (codes "a.c") 2 20

abbrev a_second : Called
a_second = call_in (codes "a.c") 9 15

abbrev a_third : Called
a_third = call_in (codes "a.c") 2 30

abbrev b_first : Called
b_first = call_in (codes "b.c") 2 5

-- calls around another one's are the function's
pub together : cut_by_caller (by_caller (b_first ∷ a_second ∷ a_first ∷ a_third ∷ []))
    ≡ (a_first, a_first ∷ a_third ∷ []) ∷ (a_second, a_second ∷ []) ∷ (b_first, b_first ∷ []) ∷ []
unfolding in_order put cut_by
together = refl

-- ---- by what is called

abbrev callee : (name : List ℕ) → (place : ℕ) → Callee
callee name place = record { name = name; place = place; range = nowhere }

abbrev z : ℕ → Callee
z place = callee (codes "z") place

abbrev b : ℕ → Callee
b place = callee (codes "b") place

abbrev a : ℕ → Callee
a place = callee (codes "a") place

-- the name first that is called first
pub by_first : called_names (z 3 ∷ b 8 ∷ a 12 ∷ b 17 ∷ z 20 ∷ [])
    ≡ (z 3, z 3 ∷ z 20 ∷ []) ∷ (b 8, b 8 ∷ b 17 ∷ []) ∷ (a 12, a 12 ∷ []) ∷ []
unfolding in_order put cut_by
by_first = refl

-- `f(){g();}` twice: the calls of the second one
abbrev call : (caller callee : ℕ) → Call
call caller callee = record {
  callee = record { start = callee; end = callee + 1 };
  line = 1;
  caller = record { start = caller; end = caller + 1 };
}

abbrev twice : List ℕ
twice = codes "f(){g();}f(){g();}"

pub of_the_second : filter (is_call_by twice (codes "f") 9) (call 0 4 ∷ call 9 13 ∷ [])
    ≡ call 9 13 ∷ []
of_the_second = refl

pub of_another_name : filter (is_call_by twice (codes "g") 9) (call 0 4 ∷ call 9 13 ∷ []) ≡ []
of_another_name = refl
