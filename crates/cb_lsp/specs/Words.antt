-- The word at a place of a text.
use Rattle.std.specs.Prelude.{ℕ, ◌+◌, ◌-◌, List, take, drop, Option, Some, None}
use Rattle.std.specs.Prelude.{if◌then◌else◌}
use Rattle.std.specs.List.{prefix_len, suffix_len}
use Rattle.cb_scan.specs.declared.lex.piece.Span.{Span}
use Rattle.cb_scan.specs.lex.Lexeme.{is_word}
use Rattle.cb_scan.specs.lex.Reserved.{is_name}
use Rattle.cb_scan.specs.lex.Tokens.{bytes_of}

-- the longest run of letters, digits and `_` that holds a place or ends at it
abbrev pub run_at : List ℕ → ℕ → Span
run_at text place = record {
  start = place - suffix_len is_word (take place text);
  end = place + prefix_len is_word (drop place text);
}

-- the run, where it is a name
abbrev pub if_name : List ℕ → Span → Option Span
if_name text run = if is_name (bytes_of text run) then Some run else None

-- the word at a place
abbrev pub word_at : List ℕ → ℕ → Option Span
word_at text place = if_name text (run_at text place)
