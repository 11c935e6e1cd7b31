-- The list of pieces: step by step, as the pieces of its text, and as the only such list.
use Rattle.std.proofs.Common.{◌≡◌, ◌+◌, ◌-◌, ◌<◌, ◌≤◌, ◌==◌, ℕ, zero, suc, false, Some, List, []}
use Rattle.std.proofs.Common.{◌∷◌, length, length-drop, take, drop, refl, sym, ap, subst, ◌∙◌}
use Rattle.std.proofs.Common.{arith}
use Rattle.std.proofs.lemmas.Bool.Decides.{nat_tests}
use Rattle.std.proofs.lemmas.List.{drop-drop, take_rest}
use Rattle.std.specs.Iterator.{MakesProgress, item_count}
use Rattle.std.specs.List.{AllByRecursion}
use Rattle.cb_scan.specs.declared.lex.piece.Class.{Class}
use Rattle.cb_scan.specs.declared.lex.piece.Piece.{Piece}
use Rattle.cb_scan.specs.lex.Lexeme.{IsLexeme, Lexeme}
use Rattle.cb_scan.specs.lex.Pieces.{IsLongest, ArePiecesFrom, IsPieces, Adjoin, LiesIn}
use Rattle.cb_scan.specs.steps.Cut.{class_at, piece_len, piece_at, pieces_from, pieces_at, pieces}
use Rattle.cb_scan.proofs.Cuts.{piece-some, piece-within, piece-lexeme, lexeme-class, lexeme-longest}

-- a list with no elements
empty : (xs : List ℕ) → length xs ≡ 0 → xs ≡ []
empty [] e = refl
empty (x ∷ xs) e = absurd (let y : ⊥ = omega arith in y)

pieces_from-nil : (f place : ℕ) → pieces_from f place [] ≡ []
unfolding pieces_from
pieces_from-nil zero place = refl
pieces_from-nil (suc f) place = refl

pieces_from-same : (f g place : ℕ) (bs : List ℕ) → length bs ≤ f → length bs ≤ g
    → pieces_from f place bs ≡ pieces_from g place bs
unfolding pieces_from
pieces_from-same f g place [] a b = pieces_from-nil f place ∙ sym (pieces_from-nil g place)
pieces_from-same zero g place (x ∷ xs) a b = absurd (let y : ⊥ = omega arith in y)
pieces_from-same (suc f) zero place (x ∷ xs) a b = absurd (let y : ⊥ = omega arith in y)
pieces_from-same (suc f) (suc g) place (x ∷ xs) a b =
    let n = piece_len (x ∷ xs) in
    let some = piece-some (x ∷ xs) (omega arith) in
    let left = length-drop n (x ∷ xs) in
    ap (λ l. piece_at place (x ∷ xs) ∷ l)
    (pieces_from-same f g (place + n) (drop n (x ∷ xs)) (omega arith) (omega arith))

pub pieces-nil : (place : ℕ) → pieces_at place [] ≡ []
pieces-nil place = pieces_from-nil 0 place

pub pieces-empty : (place : ℕ) (bs : List ℕ) → length bs ≡ 0 → pieces_at place bs ≡ []
pieces-empty place bs e = ap (λ l. pieces_at place l) (empty bs e) ∙ pieces-nil place

-- the first piece, and those of what is left
pub pieces-step : (place : ℕ) (bs : List ℕ) → 0 < length bs
    → pieces_at place bs ≡ piece_at place bs ∷ pieces_at (place + piece_len bs) (drop (piece_len bs) bs)
unfolding pieces_from
pieces-step place [] some = absurd (let y : ⊥ = omega arith in y)
pieces-step place (x ∷ xs) more =
    let n = piece_len (x ∷ xs) in
    let some = piece-some (x ∷ xs) (omega arith) in
    let left = length-drop n (x ∷ xs) in
    ap (λ l. piece_at place (x ∷ xs) ∷ l)
    (pieces_from-same (length xs) (length (drop n (x ∷ xs))) (place + n) (drop n (x ∷ xs)) (omega arith)
    (omega arith))

length-pieces_from : (f place : ℕ) (bs : List ℕ) → length (pieces_from f place bs) ≤ length bs
unfolding pieces_from
length-pieces_from zero place bs = omega arith
length-pieces_from (suc f) place [] = omega arith
length-pieces_from (suc f) place (x ∷ xs) =
    let n = piece_len (x ∷ xs) in
    let some = piece-some (x ∷ xs) (omega arith) in
    let left = length-drop n (x ∷ xs) in
    let inner = length-pieces_from f (place + n) (drop n (x ∷ xs)) in
    omega arith

-- a text has at most as many pieces as bytes
pub length-pieces : (place : ℕ) (bs : List ℕ) → length (pieces_at place bs) ≤ length bs
length-pieces place bs = length-pieces_from (length bs) place bs

-- what is left of a text from a place on
pub record Left (text : List ℕ) (place : ℕ) (rest : List ℕ) : Type 0 where
  pub is : rest ≡ drop place text
  pub size : place + length rest ≡ length text

pub left_next : (text : List ℕ) (place : ℕ) (rest : List ℕ) (n : ℕ) → n ≤ length rest → Left text place rest
    → Left text (place + n) (drop n rest)
left_next text place rest n le h = record {
  is = ap (drop n) h.is ∙ drop-drop n place text;
  size = omega (arith, length-drop n rest, h.size);
}

pub left_all : (text : List ℕ) → Left text 0 text
left_all text = record { is = refl; size = omega arith }

are_from : (f : ℕ) (text : List ℕ) (place : ℕ) (rest : List ℕ) → length rest ≤ f → Left text place rest
    → ArePiecesFrom text place (pieces_from f place rest)
unfolding ArePiecesFrom pieces_from
are_from zero text place [] le h = omega (arith, h.size)
are_from zero text place (b ∷ bs) le h = absurd (let y : ⊥ = omega arith in y)
are_from (suc f) text place [] le h = omega (arith, h.size)
are_from (suc f) text place (b ∷ bs) le h =
    let rest = b ∷ bs in
    let n = piece_len rest in
    let some = piece-some rest (omega arith) in
    let within = piece-within rest (omega arith) in
    let left = length-drop n rest in
    let long : n ≡ place + n - place = omega arith in
    let lexeme : Lexeme (class_at rest) text place (place + n) =
    subst (λ l. IsLexeme (class_at rest) l (place + n - place)) h.is
    (subst (λ m. IsLexeme (class_at rest) rest m) long (piece-lexeme rest (omega arith))) in
    let longest : IsLongest text place (place + n) = λ class k l.
    let bound = lexeme-longest class rest (k - place)
    (subst (λ xs. IsLexeme class xs (k - place)) (sym h.is) l) in omega arith in (
      refl,
      lexeme,
      longest,
      are_from f text (place + n) (drop n rest) (omega arith)
          (left_next text place rest n within h),
    )

-- the computed pieces are the pieces
pub pieces-are : (text : List ℕ) → IsPieces text (pieces text)
pieces-are text = are_from (length text) text 0 text (omega arith) (left_all text)

lexeme-some : (class : Class) (text : List ℕ) (n : ℕ) → IsLexeme class text n → 0 < length text
unfolding class_at
lexeme-some class [] n h =
    let lone = subst (λ c. IsLexeme c [] n) (sym (lexeme-class class [] n h)) h in
    absurd (let y : ⊥ = omega (arith, lone.0) in y)
lexeme-some class (b ∷ bs) n h = omega arith

piece-same : (p : Piece) (place : ℕ) (rest : List ℕ) → p.class ≡ class_at rest → p.span.start ≡ place
    → p.span.end ≡ place + piece_len rest → p ≡ piece_at place rest
piece-same p place rest x y z =
    let make : Class → ℕ → ℕ → Piece = λ c s e. record { class = c; span = record { start = s; end = e } } in
    ap (λ c. make c p.span.start p.span.end) x ∙ ap (λ s. make (class_at rest) s p.span.end) y
    ∙ ap (λ e. make (class_at rest) place e) z

only_from : (f : ℕ) (text : List ℕ) (place : ℕ) (rest : List ℕ) (ps : List Piece) → length rest ≤ f
    → Left text place rest → ArePiecesFrom text place ps → ps ≡ pieces_from f place rest
unfolding ArePiecesFrom pieces_from
only_from f text place rest [] le h are =
    let none = empty rest (omega (arith, h.size)) in
    sym (ap (λ l. pieces_from f place l) none ∙ pieces_from-nil f place)
only_from f text place [] (p ∷ ps) le h are =
    let lexeme = subst (λ xs. IsLexeme p.class xs (p.span.end - place)) (sym h.is) are.1 in
    absurd (let y : ⊥ = omega (arith, lexeme-some p.class [] (p.span.end - place) lexeme) in y)
only_from zero text place (b ∷ bs) (p ∷ ps) le h are = absurd (let y : ⊥ = omega arith in y)
only_from (suc f) text place (b ∷ bs) (p ∷ ps) le h are =
    let rest = b ∷ bs in
    let n = piece_len rest in
    let some = piece-some rest (omega arith) in
    let within = piece-within rest (omega arith) in
    let left = length-drop n rest in
    let lexeme = subst (λ xs. IsLexeme p.class xs (p.span.end - place)) (sym h.is) are.1 in
    let low = lexeme-longest p.class rest (p.span.end - place) lexeme in
    let long : n ≡ place + n - place = omega arith in
    let mine : Lexeme (class_at rest) text place (place + n) =
    subst (λ l. IsLexeme (class_at rest) l (place + n - place)) h.is
    (subst (λ m. IsLexeme (class_at rest) rest m) long (piece-lexeme rest (omega arith))) in
    let high = are.2 (class_at rest) (place + n) mine in
    let end : p.span.end ≡ place + n = omega arith in
    let first = piece-same p place rest (sym (lexeme-class p.class rest (p.span.end - place) lexeme)) are.0 end in
    let more = subst (λ i. ArePiecesFrom text i ps) end are.3 in
    let inner = only_from f text (place + n) (drop n rest) ps (omega arith)
    (left_next text place rest n within h) more in
    ap (λ q. q ∷ ps) first ∙ ap (λ l. piece_at place rest ∷ l) inner

-- and no other list is
pub pieces-only : (text : List ℕ) (ps : List Piece) → IsPieces text ps → ps ≡ pieces text
pieces-only text ps are = only_from (length text) text 0 text ps (omega arith) (left_all text) are

adjoin_from : (f : ℕ) (text : List ℕ) (place : ℕ) (rest : List ℕ) → length rest ≤ f → Left text place rest
    → Adjoin place (length text) (pieces_from f place rest)
unfolding Adjoin pieces_from
adjoin_from zero text place [] le h = omega (arith, h.size)
adjoin_from zero text place (b ∷ bs) le h = absurd (let y : ⊥ = omega arith in y)
adjoin_from (suc f) text place [] le h = omega (arith, h.size)
adjoin_from (suc f) text place (b ∷ bs) le h =
    let rest = b ∷ bs in
    let n = piece_len rest in
    let some = piece-some rest (omega arith) in
    let within = piece-within rest (omega arith) in
    let left = length-drop n rest in (
      refl,
      omega arith,
      adjoin_from f text (place + n) (drop n rest) (omega arith)
          (left_next text place rest n within h),
    )

-- each begins where the one before it ends
pub pieces-adjoin : (text : List ℕ) → Adjoin 0 (length text) (pieces text)
pieces-adjoin text = adjoin_from (length text) text 0 text (omega arith) (left_all text)

lie_from : (f : ℕ) (text : List ℕ) (place : ℕ) (rest : List ℕ) → Left text place rest
    → AllByRecursion (LiesIn text) (pieces_from f place rest)
unfolding pieces_from
lie_from zero text place rest h = tt
lie_from (suc f) text place [] h = tt
lie_from (suc f) text place (b ∷ bs) h =
    let rest = b ∷ bs in
    let n = piece_len rest in
    let some = piece-some rest (omega arith) in
    let within = piece-within rest (omega arith) in
    let size = h.size in
    ((omega arith, omega arith), lie_from f text (place + n) (drop n rest) (left_next text place rest n within h))

-- the pieces lie in the text
pub pieces-lie : (text : List ℕ) → AllByRecursion (LiesIn text) (pieces text)
pieces-lie text = lie_from (length text) text 0 text (left_all text)

-- a step that gave the first of a list
pub gave_first : {A : Type 0} (can : List A → Type 0) → ((l : List A) → can l) → (s t : List A) (x : A) → s ≡ x ∷ t
    → MakesProgress can (item_count (λ rest. rest)) s (Some x) t
gave_first can always s t x e = record {
  on = λ _. (always t, tt, subst (λ l. length t < length l) (sym e) (omega arith));
  keeps = always t;
  rests = λ _. tt;
}

-- a test for no bytes that failed
pub some_left : (n : ℕ) → (n == 0) ≡ false → 0 < n
some_left n other = grind (arith, nat_tests)

-- what a step leaves: the piece p is the first, and the rest is cut after it
pub pieces-next : (place : ℕ) (rest : List ℕ) (p : Piece) → 0 < length rest → p ≡ piece_at place rest
    → pieces_at place rest ≡ p
    ∷ pieces_at p.span.end (take (length rest - (p.span.end - place)) (drop (p.span.end - place) rest))
pieces-next place rest p some e =
    let n = piece_len rest in
    let end : p.span.end ≡ place + n = ap (λ (q : Piece). q.span.end) e in
    let size : p.span.end - place ≡ n = omega arith in
    let cut : take (length rest - (p.span.end - place)) (drop (p.span.end - place) rest) ≡ drop n rest =
    take_rest rest (p.span.end - place) ∙ ap (λ k. drop k rest) size in
    pieces-step place rest some
    ∙ ap (λ l. piece_at place rest ∷ l)
    (sym (ap (λ k. pieces_at k (take (length rest - (p.span.end - place)) (drop (p.span.end - place) rest))) end
    ∙ ap (λ l. pieces_at (place + n) l) cut))
    ∙ ap (λ q. q ∷ pieces_at p.span.end (take (length rest - (p.span.end - place)) (drop (p.span.end - place) rest)))
    (sym e)
