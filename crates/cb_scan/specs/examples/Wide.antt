-- The definitions of a text by the wide profile, as the other examples show them.
use Rattle.std.specs.Prelude.{ℕ, List, [], ◌++◌, Option, None, Some, codes, map, if◌then◌else◌}
use Rattle.cb_scan.specs.declared.facts.Kind.{Kind}
use Rattle.cb_scan.specs.declared.facts.Kind.TheVariants as kind
use Rattle.cb_scan.specs.declared.profile.Rules.TheVariants as rules
use Rattle.cb_scan.specs.declared.facts.Tag.{Tag}
use Rattle.cb_scan.specs.declared.facts.Def.{Def}
use Rattle.cb_scan.specs.Order.{in_order, put}
use Rattle.cb_scan.specs.Profiles.{definitions_by}
use Rattle.cb_scan.specs.examples.Macros.{expanding}
use Rattle.cb_scan.specs.lex.Tokens.{bytes_of}
use Rattle.cb_scan.specs.rules.wide.Attributes.{closing_len, outside_attributes}
use Rattle.cb_scan.specs.rules.wide.Bodies.{tag_around}
use Rattle.cb_scan.specs.rules.wide.Declarations.{declarations_from}
use Rattle.cb_scan.specs.rules.wide.Levels.{numbered, placed}
use Rattle.cb_scan.specs.rules.wide.Names.{after_pointer, called_name, from_free_name, is_trailing}
use Rattle.cb_scan.specs.rules.wide.Names.{last_of, tail_begin}
use Rattle.cb_scan.specs.rules.wide.Words.{attribute_words, reserved_role, specifier_words}
use Rattle.cb_scan.specs.rules.wide.Words.{statement_words}
use Rattle.cb_scan.specs.steps.Cut.{pieces}

-- the letter of a kind
abbrev letter : Kind → List ℕ
letter kind.Function = codes "f"
letter kind.Macro = codes "d"
letter kind.Typedef = codes "t"
letter kind.Struct = codes "s"
letter kind.Union = codes "u"
letter kind.Enum = codes "g"
letter kind.Enumerator = codes "e"
letter kind.Member = codes "m"
letter kind.Variable = codes "v"
letter kind.External = codes "x"
letter kind.Prototype = codes "p"

-- the word of a tag
abbrev word : Kind → List ℕ
word kind.Union = codes " union:"
word kind.Enum = codes " enum:"
word _ = codes " struct:"

-- a tag with its word
abbrev tag : List ℕ → Option Tag → List ℕ
tag text None = []
tag text (Some t) = word t.kind ++ bytes_of text t.name

-- a definition: its letter and name, `!` if it is static, and the tag around it
abbrev row : List ℕ → Def → List ℕ
row text d =
    letter d.kind ++ codes " " ++ bytes_of text d.name ++ (if d.local then codes " !" else [])
    ++ tag text d.tag

-- the definitions of a text
abbrev pub rows : List ℕ → List (List ℕ)
rows text = map (row text) (definitions_by rules.Prototypes text (pieces text))

-- `unfolding seeing` opens how they are found
unfoldable pub seeing : Unit {0}
unfolding expanding attribute_words specifier_words statement_words reserved_role placed numbered
    closing_len outside_attributes tag_around declarations_from called_name after_pointer
    from_free_name is_trailing last_of tail_begin in_order
    put
seeing = tt
