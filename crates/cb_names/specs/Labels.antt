-- The label that a name token names, and all tokens that name it (ISO C 2011, 6.2.1 and 6.8.1, found
-- in tokens by this project's profile). A label belongs to its function.
use Rattle.std.specs.Prelude.{ℕ, zero, suc, Bool, true, false, ◌&&◌, ◌||◌, nat_le, nat_lt, not, List, find}
use Rattle.std.specs.Prelude.{length, if◌then◌else◌, Option, None, Some}
use Rattle.std.specs.List.{prefix_len, range_with_len}
use Rattle.std.specs.Option.{option_map}
use Rattle.std.specs.Str.{bytes_eq}
use Rattle.cb_scan.specs.declared.lex.piece.Span.{Span}
use Rattle.cb_scan.specs.lex.Tokens.{bytes_of}
use Rattle.cb_scan.specs.rules.wide.Words.{is_wide_name}
use Rattle.cb_names.specs.Braces.{is_name_at}
use Rattle.cb_names.specs.Locals.{LocalName, uses_where}
use Rattle.cb_names.specs.Pairs.{at}
use Rattle.cb_names.specs.Statements.{is_label}
use Rattle.cb_names.specs.declared.local.Access.TheVariants.{Named}
use Rattle.cb_names.specs.declared.local.LocalUse.{LocalUse}
use Rattle.cb_names.specs.declared.word.Item.{Item}
use Rattle.cb_names.specs.declared.word.Word.{Word}
use Rattle.cb_names.specs.declared.word.Word.TheVariants as word

abbrev pub span : Item → Span
span x = x.token.token.span

-- a name token that holds a place or ends at it
abbrev pub is_touched : ℕ → Item → Bool
is_touched place x =
    is_wide_name x.token.role && nat_le (span x).start place && nat_le place (span x).end

-- the index of the first such token
abbrev pub index_at : ℕ → List Item → ℕ
index_at place xs = prefix_len (λ x. not (is_touched place x)) xs

abbrev pub is_goto : Word → Bool
is_goto word.Goto = true
is_goto _ = false

-- `goto` is directly before index k
unfoldable pub follows_goto : List Item → ℕ → Bool
follows_goto xs zero = false
follows_goto xs (suc k) = is_goto (at xs k).word

-- the name at index k names a label: it is one, or `goto` is directly before it
abbrev pub names_label : List Item → ℕ → ℕ → Bool
names_label xs b k = is_name_at xs k && (follows_goto xs k || is_label xs b k)

-- index k has these bytes
abbrev pub is_spelled : (text : List ℕ) → List Item → ℕ → (name : List ℕ) → Bool
is_spelled text xs k name = bytes_eq (bytes_of text (span (at xs k))) name

-- two tokens have the same bytes
abbrev pub is_same : List ℕ → List Item → ℕ → ℕ → Bool
is_same text xs j k = bytes_eq (bytes_of text (span (at xs j))) (bytes_of text (span (at xs k)))

-- a token that names a label, which is a label or not
abbrev pub label_use : List Item → Bool → ℕ → LocalUse
label_use xs is j = record { name = span (at xs j); access = Named; declares = is }

-- the label that the token at index k of a function names: each label with its name is a declaration
abbrev pub label_of : List ℕ → List Item → ℕ → ℕ → LocalName
label_of text xs b k = record {
  definition = option_map (λ j. span (at xs j))
      (find (λ j. is_label xs b j && is_same text xs j k) (range_with_len 0 (length xs)));
  uses = uses_where (λ j. label_use xs (is_label xs b j) j)
      (λ j. names_label xs b j && is_same text xs j k) (length xs);
  is_label = true;
}

-- the label that the token at index k names, if it names one
abbrev pub label_named : List ℕ → List Item → ℕ → ℕ → Option LocalName
label_named text xs b k =
    if nat_lt k (length xs) && names_label xs b k then Some (label_of text xs b k) else None
