-- The parameter of a macro that a name token of its line names, and all tokens there that name it
-- (ISO C 2011, 6.10.3, found in tokens by this project's profile). The tokens are those of the line,
-- from the name of the macro on.
use Rattle.std.specs.Prelude.{◌<◌, ℕ, ◌+◌, ◌-◌, ◌^◌, Bool, false, ◌&&◌, ◌==◌, nat_lt, not, List, drop}
use Rattle.std.specs.Prelude.{find, length, map, if◌then◌else◌, Option, None, Some}
use Rattle.std.specs.List.{prefix_len, range_with_len}
use Rattle.std.specs.Option.{option_map}
use Rattle.cb_scan.specs.Bytes.{close_paren, open_paren}
use Rattle.cb_scan.specs.CodeTokens.{first_line}
use Rattle.cb_scan.specs.declared.lex.piece.Span.{Span}
use Rattle.cb_scan.specs.declared.lex.token.Role.{Role}
use Rattle.cb_scan.specs.declared.lex.token.Role.TheVariants.{Word, Mark, Str, Other}
use Rattle.cb_scan.specs.declared.lex.token.Token.{Token}
use Rattle.cb_scan.specs.declared.rules.wide.role.WideRole.{WideRole}
use Rattle.cb_scan.specs.declared.rules.wide.role.WideRole.TheVariants as wide
use Rattle.cb_scan.specs.lex.Tokens.{kind_is_name}
use Rattle.cb_names.specs.Accesses.{access}
use Rattle.cb_names.specs.Braces.{is_name_at}
use Rattle.cb_names.specs.FunctionNames.{arguments_of}
use Rattle.cb_names.specs.Labels.{index_at, is_same, span}
use Rattle.cb_names.specs.Locals.{LocalName, uses_where}
use Rattle.cb_names.specs.Pairs.{at, byte_of, is_at}
use Rattle.cb_names.specs.Spaces.{touches}
use Rattle.cb_names.specs.declared.local.LocalUse.{LocalUse}
use Rattle.cb_names.specs.declared.names.Arguments.{Arguments}
use Rattle.cb_names.specs.declared.word.Item.{Item}
use Rattle.cb_names.specs.declared.word.Word.TheVariants as word

-- ---- the tokens

-- what a token of the line is: reserved words are alike there, and so are numbers and characters
abbrev pub role_in_line : Role → WideRole
role_in_line (Word kind) = if kind_is_name kind then wide.Name else wide.Reserved
role_in_line (Mark b) = wide.Mark b
role_in_line Str = wide.Str
role_in_line Other = wide.Number

-- a span so many bytes further
abbrev pub moved : ℕ → Span → Span
moved n s = record { start = n + s.start; end = n + s.end }

-- a token of a line that begins at place n
abbrev pub line_item : ℕ → Token → Item
line_item n t = record {
  token = record {
    token = record {
      role = t.role;
      starts_line = t.starts_line;
      span = moved n t.span;
      line = t.line;
    };
    role = role_in_line t.role;
    counted = false;
  };
  word = word.Other;
}

-- it can be moved so far: places are below 2^32
abbrev pub IsMovable : ℕ → Token → Type 0
IsMovable n t = (t.span.start < t.span.end) × (n + t.span.end < 2 ^ 32)

-- those of the line of a text, from place n on
abbrev pub line_items : List ℕ → ℕ → List Item
line_items text n = map (line_item n) (first_line (drop n text))

-- ---- the parameter

-- the macro takes arguments: a `(` directly follows its name
abbrev pub takes_arguments : List Item → Bool
takes_arguments xs = is_at open_paren xs 1 && touches xs 0

-- the index of the first `)`
abbrev pub is_close : Item → Bool
is_close x = byte_of x.token.role == close_paren

abbrev pub list_end : List Item → ℕ
list_end xs = prefix_len (λ x. not (is_close x)) xs

-- index j names what index k names: a name behind that of the macro, with the same bytes
abbrev pub names_same : List ℕ → List Item → ℕ → ℕ → Bool
names_same text xs k j = nat_lt 0 j && is_name_at xs j && is_same text xs j k

-- it is among the names before the first `)`
abbrev pub declares_same : List ℕ → List Item → ℕ → ℕ → Bool
declares_same text xs k j = names_same text xs k j && nat_lt j (list_end xs)

-- the index that declares the parameter which index k names, if it names one
abbrev pub declared_at : List ℕ → List Item → ℕ → Option ℕ
declared_at text xs k = find (declares_same text xs k) (range_with_len 0 (length xs))

-- a token that names one
abbrev pub parameter_use : List ℕ → List Item → ℕ → ℕ → LocalUse
parameter_use text xs k j = record {
  name = span (at xs j);
  access = access xs (declares_same text xs k j) j;
  declares = declares_same text xs k j;
}

-- the parameter that index k names, which index j declares
abbrev pub parameter_of : List ℕ → List Item → (k j : ℕ) → LocalName
parameter_of text xs k j = record {
  definition = Some (span (at xs j));
  uses = uses_where (parameter_use text xs k) (names_same text xs k) (length xs);
  is_label = false;
}

-- ---- its line

-- a parameter, from where to where its line goes on from the name of the macro, and the names with
-- arguments behind that name
pub record ParameterName : Type 0 where
  pub name : LocalName
  pub extent : Span
  pub arguments : List Arguments

-- from the first of some tokens to the end of the last one
abbrev pub line_extent : List Item → Span
line_extent xs = record { start = (span (at xs 0)).start; end = (span (at xs (length xs - 1))).end }

abbrev pub parameter_by : List ℕ → List Item → (k j : ℕ) → ParameterName
parameter_by text xs k j = record {
  name = parameter_of text xs k j;
  extent = line_extent xs;
  arguments = arguments_of (drop 1 xs);
}

-- the parameter that is named at index k, if one is
abbrev pub parameter_named : List ℕ → List Item → ℕ → Option ParameterName
parameter_named text xs k =
    if takes_arguments xs && nat_lt 0 k && nat_lt k (length xs)
    then option_map (parameter_by text xs k) (declared_at text xs k) else None

-- the parameter that is named at a place of a text, if it is one of the macro whose name begins at
-- place n
abbrev pub parameter_at : List ℕ → (n place : ℕ) → Option ParameterName
parameter_at text n place =
    let xs = line_items text n in parameter_named text xs (index_at place xs)
