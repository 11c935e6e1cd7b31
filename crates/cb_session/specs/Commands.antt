-- What a line asks for. A command is a word and the rest of its line; single spaces part the words
-- of the rest.
use Rattle.std.specs.Prelude.{ℕ, ◌+◌, ◌==◌, Bool, ◌&&◌, ◌||◌, nat_le, nat_lt, List, [], ◌∷◌, length}
use Rattle.std.specs.Prelude.{take, drop, codes, Option, None, Some, if◌then◌else◌}
use Rattle.std.specs.List.{list_all, slice_split, position}
use Rattle.std.specs.Str.{bytes_eq}
use Rattle.std.specs.Str.Parse.{digits_value}
use Rattle.cb_scan.specs.Bytes.{space}
use Rattle.cb_desk.specs.declared.change.Refusal.TheVariants.{UnknownCommand, BadCount, NoPattern}
use Rattle.cb_desk.specs.declared.change.Refusal.TheVariants.{NoSuchField}
use Rattle.cb_desk.specs.declared.rows.Field.{Field}
use Rattle.cb_desk.specs.declared.rows.Format.TheVariants.{Plain, Extended}
use Rattle.cb_desk.specs.Answer.{field_of_digit}
use Rattle.cb_desk.specs.Step.{unload, rename, want, mark, mark_all, replace, tag, pop}
use Rattle.cb_session.specs.declared.input.TheConstants.{MOST_DIGITS}
use Rattle.cb_session.specs.declared.line.Purpose.{Purpose}
use Rattle.cb_session.specs.declared.line.Purpose.TheVariants.{Load, Reload}
use Rattle.cb_session.specs.Requests.{Request, query, change, undo, redo, rebuild, tags_file}
use Rattle.cb_session.specs.Requests.{listing, marks, stack, refused, nothing, quit}
use Rattle.cb_session.specs.Requests.{LineRequest, whole, block}

-- the letter that ends the session
abbrev pub letter_q : ℕ
letter_q = 113

-- the byte that ends input at a terminal
abbrev pub end_of_transmission : ℕ
end_of_transmission = 4

-- the byte between two words
abbrev pub is_space : ℕ → Bool
is_space b = b == space

-- 0 to 9 in ASCII
abbrev pub is_digit : ℕ → Bool
is_digit b = nat_le 48 b && nat_le b 57

-- 1 to 9 decimal digits
abbrev pub is_number : List ℕ → Bool
is_number word =
    nat_le 1 (length word) && nat_le (length word) MOST_DIGITS && list_all is_digit word

-- the number that they write; anything else is no number
abbrev pub number_in : List ℕ → Option ℕ
number_in word = if is_number word then Some (digits_value 10 word) else None

-- the words of the rest of a line; none where no space begins it
abbrev pub words_in : Option (List ℕ) → List (List ℕ)
words_in None = []
words_in (Some rest) = slice_split is_space rest

-- a load or a reload by its name and the number of bytes of its block, where a run allows at most
-- `limit` bytes in it
abbrev pub load_sized : ℕ → Purpose → List ℕ → Option ℕ → LineRequest
load_sized limit purpose name None = whole (refused BadCount)
load_sized limit purpose name (Some n) =
    if nat_lt limit n then whole (refused BadCount) else block purpose name n

-- `:load` and `:reload`: a missing word is empty, and a third word is too many
abbrev pub load_words : ℕ → Purpose → List (List ℕ) → LineRequest
load_words limit purpose [] = load_sized limit purpose [] (number_in [])
load_words limit purpose (name ∷ []) = load_sized limit purpose name (number_in [])
load_words limit purpose (name ∷ count ∷ []) = load_sized limit purpose name (number_in count)
load_words limit purpose (name ∷ count ∷ more ∷ others) = whole (refused UnknownCommand)

-- a tags file by its number: 1 is plain, 2 extended
abbrev pub tags_numbered : Option ℕ → Request
tags_numbered None = refused BadCount
tags_numbered (Some n) =
    if n == 1 then tags_file Plain else (if n == 2 then tags_file Extended else refused BadCount)

-- `:tags`: with no word it is plain, and one word is its number
abbrev pub tags_words : List (List ℕ) → Request
tags_words [] = tags_file Plain
tags_words (number ∷ []) = tags_numbered (number_in number)
tags_words (number ∷ more ∷ others) = refused UnknownCommand

-- `:drop`: a missing word is empty, and a second word is too many
abbrev pub drop_words : List (List ℕ) → Request
drop_words [] = change (unload [])
drop_words (name ∷ []) = change (unload name)
drop_words (name ∷ more ∷ others) = refused UnknownCommand

-- `:rename`, the old name first: a missing word is empty, and a third word is too many
abbrev pub rename_words : List (List ℕ) → Request
rename_words [] = change (rename [] [])
rename_words (old ∷ []) = change (rename old [])
rename_words (old ∷ new ∷ []) = change (rename old new)
rename_words (old ∷ new ∷ more ∷ others) = refused UnknownCommand

-- a mark by its number
abbrev pub mark_numbered : Option ℕ → Request
mark_numbered None = refused BadCount
mark_numbered (Some n) = change (mark n)

-- `:mark`: a missing number is none, and a second word is too many
abbrev pub mark_words : List (List ℕ) → Request
mark_words [] = refused BadCount
mark_words (number ∷ []) = mark_numbered (number_in number)
mark_words (number ∷ more ∷ others) = refused UnknownCommand

-- `:to`: the whole rest of the line is the text, and without a rest it is empty
abbrev pub to_text : Option (List ℕ) → Request
to_text None = change (replace [])
to_text (Some text) = change (replace text)

-- a push by its name and its number
abbrev pub tag_numbered : List ℕ → Option ℕ → Request
tag_numbered name None = refused BadCount
tag_numbered name (Some n) = change (tag name n)

-- `:tag`: a missing name is empty, a missing number is 1, and a third word is too many
abbrev pub tag_words : List (List ℕ) → Request
tag_words [] = change (tag [] 1)
tag_words (name ∷ []) = change (tag name 1)
tag_words (name ∷ number ∷ []) = tag_numbered name (number_in number)
tag_words (name ∷ number ∷ more ∷ others) = refused UnknownCommand

-- a command that is alone on its line
abbrev pub alone : Request → List (List ℕ) → LineRequest
alone r [] = whole r
alone r (word ∷ words) = whole (refused UnknownCommand)

-- a command by its word and the rest of its line, where a run allows at most `limit` bytes in a
-- block
unfoldable pub command : ℕ → List ℕ → Option (List ℕ) → LineRequest
command limit word rest =
    if bytes_eq word (codes "r") then alone rebuild (words_in rest)
    else (if bytes_eq word (codes ":load") then load_words limit Load (words_in rest)
    else (if bytes_eq word (codes ":reload") then load_words limit Reload (words_in rest)
    else (if bytes_eq word (codes ":drop") then whole (drop_words (words_in rest))
    else (if bytes_eq word (codes ":rename") then whole (rename_words (words_in rest))
    else (if bytes_eq word (codes ":mark") then whole (mark_words (words_in rest))
    else (if bytes_eq word (codes ":markall") then alone (change mark_all) (words_in rest)
    else (if bytes_eq word (codes ":to") then whole (to_text rest)
    else (if bytes_eq word (codes ":tag") then whole (tag_words (words_in rest))
    else (if bytes_eq word (codes ":pop") then alone (change pop) (words_in rest)
    else (if bytes_eq word (codes ":undo") then alone undo (words_in rest)
    else (if bytes_eq word (codes ":redo") then alone redo (words_in rest)
    else (if bytes_eq word (codes ":tags") then whole (tags_words (words_in rest))
    else (if bytes_eq word (codes ":listing") then alone listing (words_in rest)
    else (if bytes_eq word (codes ":marks") then alone marks (words_in rest)
    else (if bytes_eq word (codes ":stack") then alone stack (words_in rest)
    else whole (refused UnknownCommand))))))))))))))))

-- a text in two at its first space: what comes before it, and what comes after it, if there is a
-- space
abbrev pub cut_at : List ℕ → Option ℕ → List ℕ × Option (List ℕ)
cut_at text None = (text, None)
cut_at text (Some place) = (take place text, Some (drop (place + 1) text))

-- a command by its line
abbrev pub command_line : ℕ → List ℕ → LineRequest
command_line limit line =
    let parts = cut_at line (position is_space line) in command limit parts.0 parts.1

-- a query of a field, which has a pattern
abbrev pub query_of : Option Field → List ℕ → Request
query_of None pattern = refused NoSuchField
query_of (Some field) [] = refused NoPattern
query_of (Some field) (b ∷ bs) = query field (b ∷ bs)

-- the digit of field 5
abbrev pub digit_5 : ℕ
digit_5 = 53

-- a text that is wanted, which has a byte
abbrev pub want_of : List ℕ → Request
want_of [] = refused NoPattern
want_of (b ∷ bs) = change (want (b ∷ bs))

-- a field by its digit and what follows: field 5 wants a text, each other is a query
abbrev pub field_line : ℕ → List ℕ → Request
field_line b bs = if b == digit_5 then want_of bs else query_of (field_of_digit b) bs

-- what a line of at most 4,096 bytes asks for: nothing, the end, the field of its first digit, or a
-- command
abbrev pub short_line : ℕ → List ℕ → LineRequest
short_line limit [] = whole nothing
short_line limit (b ∷ bs) =
    if b == letter_q || b == end_of_transmission then whole quit
    else (if is_digit b then whole (field_line b bs)
    else command_line limit (b ∷ bs))
