-- The rest of a line as slices.
use Rattle.std.specs.Prelude.{ℕ, List, ◌∷◌, Option, None, Some}
use denote.Ref.{Bor}
use Rattle.cb_session.specs.Commands.{words_in}

-- the rest of a line, if there is one
abbrev pub rest_of : Option (Bor (List ℕ)) → Option (List ℕ)
rest_of None = None
rest_of (Some rest) = Some rest.now

-- the words of the rest of a line
abbrev pub words_after : Option (Bor (List ℕ)) → List (List ℕ)
words_after rest = words_in (rest_of rest)

-- the words of a text by its first word and the rest
abbrev pub parts_of : List ℕ → Option (Bor (List ℕ)) → List (List ℕ)
parts_of word rest = word ∷ words_after rest
