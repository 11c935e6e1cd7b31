-- The machines of a part along its tokens.
use Rattle.std.specs.Prelude.{List, [], ◌∷◌, map}
use Rattle.cb_scan.specs.declared.rules.wide.called.Calls.{Calls}
use Rattle.cb_scan.specs.declared.rules.wide.part.Part.{Part}
use Rattle.cb_scan.specs.declared.rules.wide.pointer.Pointer.{Pointer}
use Rattle.cb_scan.specs.declared.rules.wide.tail.Tail.{Tail}
use Rattle.cb_scan.specs.declared.rules.wide.token.WideToken.{WideToken}
use Rattle.cb_scan.specs.rules.wide.Levels.{Numbered, is_outer}
use Rattle.cb_scan.specs.steps.wide.Called.{next_calls}
use Rattle.cb_scan.specs.steps.wide.Parts.{next_part}
use Rattle.cb_scan.specs.steps.wide.Pointers.{next_pointer}
use Rattle.cb_scan.specs.steps.wide.Tails.{next_tail}

-- the tokens alone
abbrev pub items : List Numbered → List WideToken
items xs = map (λ (x : Numbered). x.item) xs

-- the called name from a state on
unfoldable pub calls_from : Calls → List Numbered → Calls
calls_from c [] = c
calls_from c (x ∷ xs) = calls_from (next_calls c (is_outer x) (items (x ∷ xs)) x.item) xs

-- the pointer from a state on
unfoldable pub pointer_from : Pointer → List Numbered → Pointer
pointer_from p [] = p
pointer_from p (x ∷ xs) = pointer_from (next_pointer p (is_outer x) (items (x ∷ xs)) x.item) xs

-- the tail from a state on
unfoldable pub tail_from : Tail → List Numbered → Tail
tail_from t [] = t
tail_from t (x ∷ xs) = tail_from (next_tail t (is_outer x) (items (x ∷ xs)) x.item) xs

-- the part from a state on
unfoldable pub part_from : Part → List Numbered → Part
part_from p [] = p
part_from p (x ∷ xs) = part_from (next_part p (is_outer x) (items (x ∷ xs)) x.item) xs
