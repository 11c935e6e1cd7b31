-- The includes of short texts, computed.
use Rattle.std.specs.Prelude.{◌≡◌, ℕ, List, [], ◌∷◌, Option, Some, None, codes, map, refl}
use Rattle.std.specs.Option.{option_map}
use Rattle.cb_scan.specs.examples.Macros.{expanding}
use Rattle.cb_scan.specs.lex.Tokens.{bytes_of}
use Rattle.cb_scan.specs.rules.Uses.{includes}
use Rattle.cb_scan.specs.steps.Cut.{pieces}
use Rattle.cb_scan.specs.steps.Quote.{is_closed}

-- the headers of a text
abbrev headers : List ℕ → List (List ℕ)
headers text = map (λ i. bytes_of text i.header) (includes text (pieces text))

-- the names of the functions around them
abbrev scopes : List ℕ → List (Option (List ℕ))
scopes text = map (λ i. option_map (bytes_of text) i.scope) (includes text (pieces text))

-- `unfolding including` opens how includes are found
unfoldable pub including : Unit {0}
unfolding expanding includes is_closed
including = tt

pub quoted : headers (codes "#include \"a.h\"\n") ≡ codes "a.h" ∷ []
unfolding including
quoted = refl

pub in_brackets : headers (codes "# include /**/ < a > b>\n") ≡ codes " a " ∷ []
unfolding including
in_brackets = refl

-- an escaped quote does not close a string
pub escaped_quote : headers (codes "#include \"a\\\"b\"") ≡ codes "a\\\"b" ∷ []
unfolding including
escaped_quote = refl

-- a header that is empty or not closed is none
pub empty : headers (codes "#include \"\"\n#include <>\n") ≡ []
unfolding including
empty = refl

pub not_closed : headers (codes "#include \"a\n#include <b\n#include \"c\\\"\n") ≡ []
unfolding including
not_closed = refl

-- the third token decides
pub other_token : headers (codes "#include A <b>\n") ≡ []
unfolding including
other_token = refl

-- other directives and code include nothing
pub no_include : headers (codes "#import <a>\ninclude <b>\n") ≡ []
unfolding including
no_include = refl

pub in_function : scopes (codes "#include <a>\nf() {\n#include <b>\n}")
    ≡ None ∷ Some (codes "f") ∷ []
unfolding including
in_function = refl
