-- Texts with a separator between two.
use Rattle.std.specs.Prelude.{◌++◌, ℕ, List, [], ◌∷◌}
use Rattle.std.specs.List.{flat_map}

-- texts, each behind a separator
abbrev pub with_separators : List ℕ → List (List ℕ) → List ℕ
with_separators between texts = flat_map (λ text. between ++ text) texts

-- texts with a separator between two
abbrev pub joined : List ℕ → List (List ℕ) → List ℕ
joined between [] = []
joined between (text ∷ texts) = text ++ with_separators between texts

-- a text, texts with a separator between two, and a text
abbrev pub list_text : List ℕ → List ℕ → List ℕ → List (List ℕ) → List ℕ
list_text head between tail texts = head ++ (joined between texts ++ tail)
