-- In each arm the words of the word's length are those that the table of the arm holds.
use Rattle.std.proofs.Common.{◌≡◌, ◌∙◌, ◌<◌, ℕ, List, length, nat_eq, nat_lt, arith, eq-eqb, lt-ltb}
use Rattle.std.specs.Prelude.{filter}
use Rattle.std.specs.List.{list_any}
use Rattle.std.specs.Str.{bytes_eq}
use Rattle.cb_scan.specs.lex.Reserved.{is_reserved, reserved_words}
use Rattle.cb_scan.proofs.WordLemmas.{among_by_length}
use Rattle.cb_scan.proofs.lex.name.is_reserved.Goals as goal

-- the words of a length, looked up
of_length : (n : ℕ) (word : List ℕ) → length word ≡ n
    → list_any (λ r. bytes_eq r word) (filter (λ r. nat_eq (length r) n) reserved_words) ≡ is_reserved word
unfolding is_reserved
of_length n word long = among_by_length (λ k. nat_eq k n) reserved_words word (eq-eqb (length word) n long)

pub returns-in-2 : goal.returns-in-2
unfolding reserved_words
returns-in-2 c = c.is_among.ensures ∙ of_length 2 c.args.word.now c.in-2.is

pub returns-in-3 : goal.returns-in-3
unfolding reserved_words
returns-in-3 c = c.is_among-in-3.ensures ∙ of_length 3 c.args.word.now c.in-3.is

pub returns-in-4 : goal.returns-in-4
unfolding reserved_words
returns-in-4 c = c.is_among-in-4.ensures ∙ of_length 4 c.args.word.now c.in-4.is

pub returns-in-5 : goal.returns-in-5
unfolding reserved_words
returns-in-5 c = c.is_among-in-5.ensures ∙ of_length 5 c.args.word.now c.in-5.is

pub returns-in-6 : goal.returns-in-6
unfolding reserved_words
returns-in-6 c = c.is_among-in-6.ensures ∙ of_length 6 c.args.word.now c.in-6.is

pub returns-in-7 : goal.returns-in-7
unfolding reserved_words
returns-in-7 c = c.is_among-in-7.ensures ∙ of_length 7 c.args.word.now c.in-7.is

pub returns-in-8 : goal.returns-in-8
unfolding reserved_words
returns-in-8 c = c.is_among-in-8.ensures ∙ of_length 8 c.args.word.now c.in-8.is

pub returns-in-0 : goal.returns-in-0
unfolding reserved_words
returns-in-0 c = of_length 0 c.args.word.now c.in-0.is

pub returns-in-1 : goal.returns-in-1
unfolding reserved_words
returns-in-1 c = of_length 1 c.args.word.now c.in-1.is

pub returns-in_default : goal.returns-in_default
unfolding reserved_words is_reserved
returns-in_default c = let long : 8 < length c.args.word.now =
    omega arith in c.is_among-in_default.ensures
    ∙ among_by_length (λ k. nat_lt 8 k) reserved_words c.args.word.now (lt-ltb 8 (length c.args.word.now) long)
