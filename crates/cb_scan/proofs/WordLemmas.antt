-- Words: what an identifier is by its first byte and the others, and that a word can only equal
-- words of its own length.
use Rattle.std.proofs.Common.{◌≡◌, ◌≤◌, ◌<◌, get_or, drop, arith, ℕ, Bool, true, false, List, []}
use Rattle.std.proofs.Common.{◌∷◌, length, refl, sym, ap, ◌∙◌}
use Rattle.std.specs.Prelude.{codes, filter, ◌||◌, ◌&&◌, cond}
use Rattle.std.specs.List.{list_all, list_any}
use Rattle.cb_scan.specs.declared.lex.token.WordKind.TheVariants.{Name}
use Rattle.cb_scan.specs.lex.Lexeme.{is_identifier, is_letter, is_word}
use Rattle.cb_scan.specs.lex.Reserved.{is_reserved, reserved_words}
use Rattle.cb_scan.specs.lex.Tokens.{word_of}
use Rattle.cb_scan.specs.steps.Words.{may_mean}
use Rattle.std.specs.Str.{bytes_eq}
use Rattle.std.proofs.lemmas.Bool.{false≢true, false_from_ne_true}
use Rattle.std.proofs.lemmas.Slice.Eq.{bytes_eq-Decides}

-- a test that the word's length passes fails at a word of another length
differs : (q : ℕ → Bool) (r word : List ℕ) → q (length word) ≡ true → q (length r) ≡ false → bytes_eq r word ≡ false
differs q r word long short =
    false_from_ne_true (bytes_eq r word)
    (λ same. false≢true (sym short ∙ ap (λ w. q (length w)) ((bytes_eq-Decides r word).0 same) ∙ long))

-- leaving a word out changes no look-up where the word fails the test
among_step : (p : List ℕ → Bool) (b : Bool) (r : List ℕ) (kept rs : List (List ℕ)) → (b ≡ false → p r ≡ false)
    → list_any p kept ≡ list_any p rs → list_any p (cond b (r ∷ kept) kept) ≡ (p r || list_any p rs)
among_step p true r kept rs fails same = ap (λ x. p r || x) same
among_step p false r kept rs fails same = rw (fails refl) same

-- the words that are left out of a look-up by length are none that the word equals
pub among_by_length : (q : ℕ → Bool) (words : List (List ℕ)) (word : List ℕ) → q (length word) ≡ true
    → list_any (λ r. bytes_eq r word) (filter (λ r. q (length r)) words) ≡ list_any (λ r. bytes_eq r word) words
among_by_length q [] word long = refl
among_by_length q (r ∷ rs) word long =
    among_step (λ w. bytes_eq w word) (q (length r)) r (filter (λ w. q (length w)) rs) rs (differs q r word long)
    (among_by_length q rs word long)

-- a word that fails a test is none that passes it
other : (p : List ℕ → Bool) (r word : List ℕ) → p r ≡ true → p word ≡ false → bytes_eq r word ≡ false
other p r word passes fails =
    false_from_ne_true (bytes_eq r word)
    (λ same. false≢true (sym fails ∙ ap p (sym ((bytes_eq-Decides r word).0 same)) ∙ passes))

other_way : (p : List ℕ → Bool) (r word : List ℕ) → p r ≡ true → p word ≡ false → bytes_eq word r ≡ false
other_way p r word passes fails =
    false_from_ne_true (bytes_eq word r)
    (λ same. false≢true (sym fails ∙ ap p ((bytes_eq-Decides word r).0 same) ∙ passes))

both : (a b : Bool) → (a && b) ≡ true → (a ≡ true) × (b ≡ true)
both true b all = (refl, all)
both false b all = absurd (false≢true all)

none_of : (p : List ℕ → Bool) (words : List (List ℕ)) (word : List ℕ) → list_all p words ≡ true → p word ≡ false
    → list_any (λ r. bytes_eq r word) words ≡ false
none_of p [] word all fails = refl
none_of p (r ∷ rs) word all fails =
    let parts = both (p r) (list_all p rs) all in
    ap (λ b. b || list_any (λ w. bytes_eq w word) rs) (other p r word parts.0 fails) ∙ none_of p rs word parts.1 fails

-- a word of another first byte or length than those that mean something is a name
pub no_meaning : (word : List ℕ) → may_mean word ≡ false → Name ≡ word_of word
unfolding word_of is_reserved reserved_words may_mean
no_meaning word fails =
    let reserved : is_reserved word ≡ false = none_of may_mean reserved_words word refl fails in
    let define : bytes_eq word (codes "define") ≡ false = other_way may_mean (codes "define") word refl fails in
    let include : bytes_eq word (codes "include") ≡ false = other_way may_mean (codes "include") word refl fails in
    rw (reserved, define, include) refl

-- an identifier by its first byte and the others
pub identifier-parts : (bs : List ℕ) → 1 ≤ length bs
    → (is_letter (get_or bs 0 0) && list_all is_word (drop 1 bs)) ≡ is_identifier bs
unfolding is_identifier
identifier-parts [] some = absurd (omega arith)
identifier-parts (b ∷ bs) some = refl

pub identifier-none : (bs : List ℕ) → length bs < 1 → false ≡ is_identifier bs
unfolding is_identifier
identifier-none [] none = refl
identifier-none (b ∷ bs) none = absurd (omega arith)
