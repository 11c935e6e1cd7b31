-- Pieces with their lines: a step of the list, its line, and that the pieces lie in the text.
use Rattle.std.proofs.Common.{◌≡◌, ◌+◌, ◌-◌, ◌<◌, ◌≤◌, ℕ, true, false, List, [], ◌∷◌, ◌++◌, length}
use Rattle.std.proofs.Common.{length-drop, length-take-le, take, drop, map, refl, sym, ap, subst}
use Rattle.std.proofs.Common.{◌∙◌, arith}
use Rattle.std.proofs.Math.Seq.{take-add}
use Rattle.std.proofs.lemmas.Bool.{and_parts}
use Rattle.std.proofs.lemmas.Bool.Decides.{nat_tests}
use Rattle.std.proofs.Common.{cond}
use Rattle.std.proofs.lemmas.List.{drop-drop, length-map, take_rest}
use Rattle.std.proofs.lemmas.List.Sums.{count_by-le-length, sum_by-append}
use Rattle.std.specs.List.{AllByRecursion, count_by, list_all, prefix_len}
use Rattle.cb_scan.specs.declared.lex.lined.Lined.{Lined}
use Rattle.cb_scan.specs.declared.lex.piece.Class.{Class}
use Rattle.cb_scan.specs.declared.lex.piece.Class.TheVariants.{Name, Number, Str, Chr, LineNote}
use Rattle.cb_scan.specs.declared.lex.piece.Class.TheVariants.{BlockNote, Blank, Newline, Byte}
use Rattle.cb_scan.specs.declared.lex.piece.Piece.{Piece}
use Rattle.cb_scan.specs.lex.Lexeme.{is_word, goes_on, all_go_on}
use Rattle.cb_scan.specs.Lines.{line_of}
use Rattle.cb_scan.specs.lex.Pieces.{LiesIn}
use Rattle.cb_scan.specs.steps.Cut.{class_at, length_in, number_len, piece_len, piece_at, pieces_at, pieces}
use Rattle.cb_scan.specs.steps.Lined.{is_feed, lined, Within, holds_feeds}
use Rattle.cb_scan.proofs.Prefixes.{Prefix, prefix_of, at_name, at_number, at_str, at_chr}
use Rattle.cb_scan.proofs.Prefixes.{at_line_comment, at_block_comment, at_blank, at_newline}
use Rattle.cb_scan.proofs.Prefixes.{at_byte}
use Rattle.cb_scan.proofs.Lengths.{list_all-prefix, all_go_on-counted}
use Rattle.cb_scan.proofs.PieceLists.{pieces-empty, pieces-step, pieces-lie, length-pieces}

feed-no_word : (b : ℕ) → is_word b ≡ true → is_feed b ≡ false
feed-no_word b t = grind (arith, nat_tests)

feed-not_on : (last b : ℕ) → goes_on last b ≡ true → is_feed b ≡ false
feed-not_on last b t = grind (arith, nat_tests)

words-no_feed : (xs : List ℕ) → list_all is_word xs ≡ true → count_by is_feed xs ≡ 0
words-no_feed [] t = refl
words-no_feed (x ∷ xs) t =
    let parts = and_parts (is_word x) (list_all is_word xs) t in
    let f = feed-no_word x parts.0 in
    let inner = words-no_feed xs parts.1 in
    grind (arith, nat_tests)

numbers-no_feed : (last : ℕ) (xs : List ℕ) → all_go_on last xs ≡ true → count_by is_feed xs ≡ 0
unfolding all_go_on
numbers-no_feed last [] t = refl
numbers-no_feed last (x ∷ xs) t =
    let parts = and_parts (goes_on last x) (all_go_on x xs) t in
    let f = feed-not_on last x parts.0 in
    let inner = numbers-no_feed x xs parts.1 in
    grind (arith, nat_tests)

no_feeds_in : (b : ℕ) (rest : List ℕ) (class : Class) → Prefix b rest class → holds_feeds class ≡ false
    → count_by is_feed (take (length_in class (b ∷ rest)) (b ∷ rest)) ≡ 0
unfolding length_in
no_feeds_in b rest Name (at_name t) bare =
    words-no_feed (take (prefix_len is_word (b ∷ rest)) (b ∷ rest)) (list_all-prefix is_word (b ∷ rest))
no_feeds_in b rest Number (at_number t) bare =
    numbers-no_feed 46 (take (number_len 46 (b ∷ rest)) (b ∷ rest)) (all_go_on-counted 46 (b ∷ rest))
no_feeds_in b rest Str (at_str t) bare = cc
no_feeds_in b rest Chr (at_chr t) bare = cc
no_feeds_in b rest LineNote (at_line_comment t) bare = cc
no_feeds_in b rest BlockNote (at_block_comment t) bare = cc
no_feeds_in b rest Blank (at_blank t) bare = cc
no_feeds_in b rest Newline (at_newline t) bare = cc
no_feeds_in b rest Byte (at_byte f) bare = grind (arith, nat_tests)

no_feeds_first : (rest : List ℕ) → 0 < length rest → holds_feeds (class_at rest) ≡ false
    → count_by is_feed (take (piece_len rest) rest) ≡ 0
no_feeds_first [] some bare = absurd (let x : ⊥ = omega arith in x)
no_feeds_first (b ∷ rest) some bare = no_feeds_in b rest (class_at (b ∷ rest)) (prefix_of b rest) bare

-- a piece of a class that holds no line feeds has none
pub no_feeds : (place : ℕ) (rest : List ℕ) (p : Piece) → 0 < length rest → p ≡ piece_at place rest
    → holds_feeds p.class ≡ false
    → count_by is_feed (take (p.span.end - place) rest) ≡ 0
no_feeds place rest p some e bare =
    let class : p.class ≡ class_at rest = ap (λ (q : Piece). q.class) e in
    let end : p.span.end ≡ place + piece_len rest = ap (λ (q : Piece). q.span.end) e in
    let size : p.span.end - place ≡ piece_len rest = omega arith in
    subst (λ n. count_by is_feed (take n rest) ≡ 0) (sym size)
    (no_feeds_first rest some (sym (ap holds_feeds class) ∙ bare))

-- the line at a later place, by the line feeds between
pub line-next : (text : List ℕ) (place end : ℕ) → place ≤ end
    → line_of text place + count_by is_feed (take (end - place) (take (length text - place) (drop place text)))
    ≡ line_of text end
line-next text place end le =
    let rest = take_rest text place in
    let long : place + (end - place) ≡ end = omega arith in
    let cut : take end text ≡ take place text ++ take (end - place) (drop place text) =
    ap (λ n. take n text) (sym long) ∙ take-add place (end - place) text in
    let sum : count_by is_feed (take end text)
    ≡ count_by is_feed (take place text) + count_by is_feed (take (end - place) (drop place text)) =
    ap (count_by is_feed) cut
    ∙ sum_by-append (λ b. cond (is_feed b) 1 0) (take place text) (take (end - place) (drop place text)) in
    let same : count_by is_feed (take (end - place) (take (length text - place) (drop place text)))
    ≡ count_by is_feed (take (end - place) (drop place text)) =
    ap (λ l. count_by is_feed (take (end - place) l)) rest in
    omega arith

pub line-small : (text : List ℕ) (place : ℕ) → place ≤ length text → line_of text place ≤ length text + 1
line-small text place le = omega (arith, count_by-le-length is_feed (take place text), length-take-le place text le)

-- the place and the line after a piece
pub line_after : (text : List ℕ) (place end line fed : ℕ) → place ≤ length text → place ≤ end
    → end ≤ place + length (take (length text - place) (drop place text))
    → line ≡ line_of text place
    → fed ≡ count_by is_feed (take (end - place) (take (length text - place) (drop place text)))
    → (end ≤ length text) × (line + fed ≡ line_of text end)
line_after text place end line fed start low high here between =
    let size : length (take (length text - place) (drop place text)) ≡ length text - place =
    ap length (take_rest text place) ∙ length-drop place text in
    let step = line-next text place end low in
    (omega arith, omega arith)

-- at the end nothing is left
pub lined-empty : (text : List ℕ) (place : ℕ) → length (take (length text - place) (drop place text)) ≡ 0
    → map (lined text) (pieces_at place (drop place text)) ≡ []
lined-empty text place e =
    ap (map (lined text)) (pieces-empty place (drop place text) (sym (ap length (take_rest text place)) ∙ e))

-- what a step leaves
pub lined-next : (text : List ℕ) (place line : ℕ) (p : Piece)
    → 0 < length (take (length text - place) (drop place text))
    → p ≡ piece_at place (take (length text - place) (drop place text)) → line ≡ line_of text place
    → map (lined text) (pieces_at place (drop place text))
    ≡ record { piece = p; line = line } ∷ map (lined text) (pieces_at p.span.end (drop p.span.end text))
unfolding lined
lined-next text place line p some e here =
    let rest = drop place text in
    let whole = take_rest text place in
    let n = piece_len rest in
    let first : p ≡ piece_at place rest = e ∙ ap (λ l. piece_at place l) whole in
    let end : p.span.end ≡ place + n = ap (λ (q : Piece). q.span.end) first in
    let make : Piece → ℕ → Lined = λ q k. record { piece = q; line = k } in
    let more : 0 < length rest = subst (λ (l : List ℕ). 0 < length l) whole some in
    ap (map (lined text)) (pieces-step place rest more)
    ∙ ap (λ l. lined text (piece_at place rest) ∷ map (lined text) l)
    (ap (λ l. pieces_at (place + n) l) (drop-drop n place text) ∙ ap (λ k. pieces_at k (drop k text)) (sym end))
    ∙ ap (λ l. l ∷ map (lined text) (pieces_at p.span.end (drop p.span.end text)))
    (ap (λ q. make q (line_of text place)) (sym first) ∙ ap (λ k. make p k) (sym here))

lined_within : (text : List ℕ) (ps : List Piece) → AllByRecursion (LiesIn text) ps
    → AllByRecursion (Within text) (map (lined text) ps)
unfolding lined
lined_within text [] h = tt
lined_within text (p ∷ ps) h = (h.0, lined_within text ps h.1)

-- the pieces lie in the text
pub lined-within : (text : List ℕ) → AllByRecursion (Within text) (map (lined text) (pieces text))
lined-within text = lined_within text (pieces text) (pieces-lie text)

pub length-lined : (text : List ℕ) → length (map (lined text) (pieces text)) ≤ length text
length-lined text = omega (arith, length-map (pieces text) (lined text), length-pieces 0 text)
