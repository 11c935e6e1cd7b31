-- The items of an address, a byte a step.
use Rattle.std.specs.Prelude.{ℕ, Bool, true, false, ◌&&◌, ◌==◌, not, List, [], ◌∷◌, if◌then◌else◌}
use Rattle.cb_scan.specs.Bytes.{slash, backslash, line_feed}
use Rattle.cb_tags.specs.Addresses.{is_escaped}

-- the bytes are whole items; `escaping` says that a `\` comes before them
unfoldable pub are_items : (escaping : Bool) → List ℕ → Bool
are_items escaping [] = not escaping
are_items true (b ∷ bs) = is_escaped b && are_items false bs
are_items false (b ∷ bs) =
    if b == backslash then are_items true bs
    else (not (b == slash) && not (b == line_feed) && are_items false bs)

-- what the bytes stand for
unfoldable pub unescaped : (escaping : Bool) → List ℕ → List ℕ
unescaped escaping [] = []
unescaped true (b ∷ bs) = b ∷ unescaped false bs
unescaped false (b ∷ bs) = if b == backslash then unescaped true bs else b ∷ unescaped false bs
