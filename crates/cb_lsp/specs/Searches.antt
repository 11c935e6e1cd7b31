-- The definitions of a session that a query names.
use Rattle.std.specs.Prelude.{ℕ, Bool, ◌&&◌, ◌++◌, nat_le, not, List, filter, length, take}
use Rattle.std.specs.Str.{bytes_eq}
use Rattle.cb_desk.specs.declared.rows.Format.TheVariants.{Extended}
use Rattle.cb_desk.specs.Tags.{tags}
use Rattle.cb_desk.specs.World.{World}
use Rattle.cb_index.specs.Rows.{tags_named}
use Rattle.cb_tags.specs.TagLines.{Tag}
use Rattle.cb_lsp.specs.Likes.{holds_like}
use Rattle.cb_lsp.specs.declared.symbols.TheConstants.{MOST_SYMBOLS}

-- a name holds the query, and is not it. A query of more than 255 bytes is sought as a whole name
-- alone
abbrev pub is_name_like : (query name : List ℕ) → Bool
is_name_like query name =
    nat_le (length query) 255 && (not (bytes_eq name query) && holds_like query name)

-- so does the name of a definition
abbrev pub is_like : List ℕ → Tag → Bool
is_like query t = is_name_like query t.name

-- the definitions whose name is the query, by file and place, and then those whose name holds it,
-- by name, file and place: the first of these
abbrev pub found_by : World → List ℕ → List Tag
found_by w query =
    take MOST_SYMBOLS (tags_named w.profile query w.files
    ++ filter (is_like query) (tags Extended w))
