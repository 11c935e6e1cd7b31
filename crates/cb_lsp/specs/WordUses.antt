-- What is shown of a word of a file, and the uses of its name that name the same.
use Rattle.std.specs.Prelude.{ℕ, Bool, false, ◌&&◌, List, filter, Option}
use Rattle.std.specs.Str.{bytes_eq}
use Rattle.cb_desk.specs.World.{World}
use Rattle.cb_index.specs.Rows.{Fact, tags_named, uses_of}
use Rattle.cb_names.specs.declared.space.Space.{Space}
use Rattle.cb_scan.specs.TextFacts.{TextFacts}
use Rattle.cb_scan.specs.declared.facts.Use.{Use}
use Rattle.cb_scan.specs.declared.lex.piece.Span.{Span}
use Rattle.cb_scan.specs.lex.Tokens.{bytes_of}
use Rattle.cb_tags.specs.TagLines.{Tag}
use Rattle.cb_lsp.specs.Closures.{is_in_closure}
use Rattle.cb_lsp.specs.Nearest.{kinds_at, shown}
use Rattle.cb_lsp.specs.References.{references}
use Rattle.cb_lsp.specs.Same.{is_same_at, listed, same_uses, sort_of}
use Rattle.cb_lsp.specs.declared.same.Sort.{Sort}

-- the definitions that are shown of a word, where its name has this space: declarations first, or not
abbrev pub word_shown : World → (name text : List ℕ) → Option Space → (declarations : Bool) → Span
    → List Tag
word_shown w name text space declarations word =
    let ts = tags_named w.profile (bytes_of text word) w.files in
    shown name (is_in_closure w name) (kinds_at space ts) declarations ts

-- what is asked about it
abbrev pub word_sort : World → (name text : List ℕ) → Option Space → Span → Sort
word_sort w name text space word = sort_of space (word_shown w name text space false word)

-- the uses of its name in all files of the reach that are of this sort, with the names of definitions
-- or without
abbrev pub references_in : World → (name text : List ℕ) → Sort → Span → (declarations : Bool)
    → List Fact
references_in w name text sort word declarations =
    let key = bytes_of text word in
    same_uses w sort key
    (references (tags_named w.profile key w.files) name declarations
    (uses_of w.profile key w.files))

-- those that name the same as the word
abbrev pub word_references : World → (name text : List ℕ) → Option Space → Span
    → (declarations : Bool) → List Fact
word_references w name text space word declarations =
    references_in w name text (word_sort w name text space word) word declarations

-- the uses of a name that are of a sort, in a text with these facts
abbrev pub same_in : Sort → TextFacts → (text name : List ℕ) → List Use
same_in sort facts text name =
    filter (λ (u : Use). bytes_eq (bytes_of text u.name) name
    && is_same_at sort (listed sort facts.defs text name) u.name.start) facts.uses

-- those in the file of a word that name the same
abbrev pub word_marks : World → (name text : List ℕ) → TextFacts → Option Space → Span → List Use
word_marks w name text facts space word =
    same_in (word_sort w name text space word) facts text (bytes_of text word)
