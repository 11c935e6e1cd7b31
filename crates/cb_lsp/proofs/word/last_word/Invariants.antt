use Rattle.std.proofs.Common.{◌≡◌, ◌+◌, ◌-◌, ◌≤◌, length, take}
use Rattle.std.specs.List.{suffix_len}
use Rattle.cb_scan.specs.lex.Lexeme.{is_word}
use Rattle.cb_lsp.proofs.word.last_word.Given as goal

abbrev pub invariant-bytes : goal.invariant-bytes
invariant-bytes l = record {
  counted : suffix_len is_word l.text
      ≡ length l.text - l.end + suffix_len is_word (take l.end l.text);
  within : l.end ≤ length l.text;
}

abbrev pub decreases-bytes : goal.decreases-bytes
decreases-bytes l = l.end
