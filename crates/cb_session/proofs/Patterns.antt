-- A question that is read has a pattern.
use Rattle.std.proofs.Common.{◌≡◌, ℕ, Bool, true, false, cond, ◌||◌, List, [], ◌∷◌, Option, Some}
use Rattle.std.proofs.Common.{None, sym, subst, nat_lt, nat_eq, codes}
use Rattle.std.specs.List.{position}
use Rattle.std.specs.Str.{bytes_eq}
use Rattle.cb_session.specs.Commands.{words_in, cut_at, letter_q, end_of_transmission}
use Rattle.cb_session.specs.Commands.{tags_numbered, tags_words, drop_words, rename_words}
use Rattle.cb_session.specs.Commands.{mark_numbered, mark_words, to_text, want_of, field_line}
use Rattle.cb_session.specs.Commands.{digit_5, tag_numbered, tag_words, alone, number_in, is_space}
use Rattle.cb_session.specs.Commands.{is_digit, load_sized, load_words, query_of, command}
use Rattle.cb_session.specs.Commands.{command_line, short_line}
use Rattle.cb_session.specs.Models.{HasPattern}
use Rattle.cb_session.specs.Requests.{Request, refused, quit, change, undo, redo, rebuild}
use Rattle.cb_session.specs.Requests.{tags_file, listing, marks, stack, LineRequest, whole, block}
use Rattle.cb_desk.specs.declared.change.Refusal.TheVariants.{BadCount}
use Rattle.cb_desk.specs.declared.rows.Field.{Field}
use Rattle.cb_desk.specs.Answer.{field_of_digit}
use Rattle.cb_session.specs.declared.line.Purpose.{Purpose}
use Rattle.cb_session.specs.declared.line.Purpose.TheVariants.{Load, Reload}
use Rattle.cb_desk.specs.declared.rows.Format.TheVariants.{Plain, Extended}
use Rattle.cb_desk.specs.Step.{mark_all, pop}

abbrev IsPatterned : LineRequest → Type 0
IsPatterned (whole e) = HasPattern e
IsPatterned (block purpose name n) = Unit {0}

-- both choices do, and so the choice
IsPatterned-choice : (b : Bool) (x y : LineRequest) → IsPatterned x → IsPatterned y
    → IsPatterned (cond b x y)
IsPatterned-choice true x y p q = p
IsPatterned-choice false x y p q = q

load_sized-patterned : (limit : ℕ) (purpose : Purpose) (name : List ℕ) (n : Option ℕ)
    → IsPatterned (load_sized limit purpose name n)
load_sized-patterned limit purpose name None = tt
load_sized-patterned limit purpose name (Some n) = IsPatterned-choice (nat_lt limit n) _ _ tt tt

load_words-patterned : (limit : ℕ) (purpose : Purpose) (words : List (List ℕ))
    → IsPatterned (load_words limit purpose words)
load_words-patterned limit purpose [] = load_sized-patterned limit purpose [] (number_in [])
load_words-patterned limit purpose (name ∷ []) =
    load_sized-patterned limit purpose name (number_in [])
load_words-patterned limit purpose (name ∷ count ∷ []) =
    load_sized-patterned limit purpose name (number_in count)
load_words-patterned limit purpose (name ∷ count ∷ more ∷ others) = tt

query_of-patterned : (field : Option Field) (pattern : List ℕ) → HasPattern (query_of field pattern)
query_of-patterned None pattern = tt
query_of-patterned (Some field) [] = tt
query_of-patterned (Some field) (b ∷ bs) = λ e. cc

tags_numbered-patterned : (n : Option ℕ) → HasPattern (tags_numbered n)
tags_numbered-patterned None = tt
tags_numbered-patterned (Some n) =
    elim (nat_eq n 1) as (λ b. HasPattern
    (cond b (tags_file Plain) (cond (nat_eq n 2) (tags_file Extended) (refused BadCount)))) [
      | true ↦ tt
      | false ↦ elim (nat_eq n 2) as
          (λ b. HasPattern (cond b (tags_file Extended) (refused BadCount)))
          [ true ↦ tt | false ↦ tt ]
    ]

tags_words-patterned : (words : List (List ℕ)) → HasPattern (tags_words words)
tags_words-patterned [] = tt
tags_words-patterned (number ∷ []) = tags_numbered-patterned (number_in number)
tags_words-patterned (number ∷ more ∷ others) = tt

drop_words-patterned : (words : List (List ℕ)) → HasPattern (drop_words words)
drop_words-patterned [] = tt
drop_words-patterned (name ∷ []) = tt
drop_words-patterned (name ∷ more ∷ others) = tt

rename_words-patterned : (words : List (List ℕ)) → HasPattern (rename_words words)
rename_words-patterned [] = tt
rename_words-patterned (old ∷ []) = tt
rename_words-patterned (old ∷ new ∷ []) = tt
rename_words-patterned (old ∷ new ∷ more ∷ others) = tt

mark_numbered-patterned : (n : Option ℕ) → HasPattern (mark_numbered n)
mark_numbered-patterned None = tt
mark_numbered-patterned (Some n) = tt

mark_words-patterned : (words : List (List ℕ)) → HasPattern (mark_words words)
mark_words-patterned [] = tt
mark_words-patterned (number ∷ []) = mark_numbered-patterned (number_in number)
mark_words-patterned (number ∷ more ∷ others) = tt

to_text-patterned : (rest : Option (List ℕ)) → HasPattern (to_text rest)
to_text-patterned None = tt
to_text-patterned (Some text) = tt

tag_numbered-patterned : (name : List ℕ) (n : Option ℕ) → HasPattern (tag_numbered name n)
tag_numbered-patterned name None = tt
tag_numbered-patterned name (Some n) = tt

tag_words-patterned : (words : List (List ℕ)) → HasPattern (tag_words words)
tag_words-patterned [] = tt
tag_words-patterned (name ∷ []) = tt
tag_words-patterned (name ∷ number ∷ []) = tag_numbered-patterned name (number_in number)
tag_words-patterned (name ∷ number ∷ more ∷ others) = tt

alone-patterned : (e : Request) (words : List (List ℕ)) → HasPattern e → IsPatterned (alone e words)
alone-patterned e [] p = p
alone-patterned e (word ∷ words) p = tt

command-patterned : (limit : ℕ) (word : List ℕ) (rest : Option (List ℕ))
    → IsPatterned (command limit word rest)
unfolding command
command-patterned limit word rest =
    let words = words_in rest in
    IsPatterned-choice (bytes_eq word (codes "r")) _ _ (alone-patterned rebuild words tt)
    (IsPatterned-choice (bytes_eq word (codes ":load")) _ _ (load_words-patterned limit Load words)
    (IsPatterned-choice (bytes_eq word (codes ":reload")) _ _
    (load_words-patterned limit Reload words)
    (IsPatterned-choice (bytes_eq word (codes ":drop")) (whole (drop_words words)) _
    (drop_words-patterned words)
    (IsPatterned-choice (bytes_eq word (codes ":rename")) (whole (rename_words words)) _
    (rename_words-patterned words)
    (IsPatterned-choice (bytes_eq word (codes ":mark")) (whole (mark_words words)) _
    (mark_words-patterned words)
    (IsPatterned-choice (bytes_eq word (codes ":markall")) _ _
    (alone-patterned (change mark_all) words tt)
    (IsPatterned-choice (bytes_eq word (codes ":to")) (whole (to_text rest)) _
    (to_text-patterned rest)
    (IsPatterned-choice (bytes_eq word (codes ":tag")) (whole (tag_words words)) _
    (tag_words-patterned words)
    (IsPatterned-choice (bytes_eq word (codes ":pop")) _ _ (alone-patterned (change pop) words tt)
    (IsPatterned-choice (bytes_eq word (codes ":undo")) _ _ (alone-patterned undo words tt)
    (IsPatterned-choice (bytes_eq word (codes ":redo")) _ _ (alone-patterned redo words tt)
    (IsPatterned-choice (bytes_eq word (codes ":tags")) (whole (tags_words words)) _
    (tags_words-patterned words)
    (IsPatterned-choice (bytes_eq word (codes ":listing")) _ _ (alone-patterned listing words tt)
    (IsPatterned-choice (bytes_eq word (codes ":marks")) _ _ (alone-patterned marks words tt)
    (IsPatterned-choice (bytes_eq word (codes ":stack")) _ _
    (alone-patterned stack words tt) tt)))))))))))))))

want_of-patterned : (text : List ℕ) → HasPattern (want_of text)
want_of-patterned [] = tt
want_of-patterned (b ∷ bs) = tt

field_line-patterned : (b : ℕ) (bs : List ℕ) → HasPattern (field_line b bs)
field_line-patterned b bs =
    elim (nat_eq b digit_5) as
    (λ is. HasPattern (cond is (want_of bs) (query_of (field_of_digit b) bs))) [
      | true ↦ want_of-patterned bs
      | false ↦ query_of-patterned (field_of_digit b) bs
    ]

short_line-patterned : (limit : ℕ) (line : List ℕ) → IsPatterned (short_line limit line)
short_line-patterned limit [] = tt
short_line-patterned limit (b ∷ bs) =
    let parts = cut_at (b ∷ bs) (position is_space (b ∷ bs)) in
    IsPatterned-choice (nat_eq b letter_q || nat_eq b end_of_transmission) (whole quit) _ tt
    (IsPatterned-choice (is_digit b) (whole (field_line b bs)) (command_line limit (b ∷ bs))
    (field_line-patterned b bs) (command-patterned limit parts.0 parts.1))

-- the request of a line has its pattern
pub HasPattern-whole : (limit : ℕ) (line : List ℕ) (e : Request) → whole e ≡ short_line limit line
    → HasPattern e
HasPattern-whole limit line e h = subst IsPatterned (sym h) (short_line-patterned limit line)
