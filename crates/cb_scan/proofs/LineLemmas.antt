-- What is gathered a piece at a time is what the logical lines give, line by line.
use Rattle.std.proofs.Common.{◌≡◌, ◌∙◌, ⊎_elim, ℕ, suc, Bool, true, false, List, [], ◌∷◌, ◌++◌}
use Rattle.std.proofs.Common.{length, refl, sym, ap, map, append_assoc, arith}
use Rattle.std.proofs.lemmas.Bool.{cases_Bool}
use Rattle.std.proofs.lemmas.List.{append-nil, length-map}
use Rattle.std.specs.Prelude.{cond, filter}
use Rattle.std.specs.List.{slice_split, onto_first, flat_map, zip}
use Rattle.cb_scan.specs.declared.rules.directives.Stage.{Stage}
use Rattle.cb_scan.specs.declared.rules.directives.Stage.TheVariants.{Start}
use Rattle.cb_scan.specs.declared.lex.piece.Piece.{Piece}
use Rattle.cb_scan.specs.declared.lex.token.Token.{Token}
use Rattle.cb_scan.specs.rules.Code.{is_newline, line_ends, logical_lines}
use Rattle.cb_scan.specs.lex.Tokens.{tokens, token_of, is_significant}
use Rattle.cb_scan.specs.steps.Directives.{next_stage, run, walk}
use Rattle.cb_scan.specs.steps.Lined.{lined}

-- the pieces of each line
abbrev pub parts : List Piece → List (List Piece)
parts ps = slice_split (λ (q : Piece). is_newline q.class) ps

-- there is a first part always
by_split : {X : Type 0} (test : X → Bool) (P : List (List X) → Type 0)
    → ((l : List X) (ls : List (List X)) → P (l ∷ ls)) → (xs : List X) → P (slice_split test xs)
by_split test P some [] = some [] []
by_split test P some (x ∷ xs) =
    elim (test x) as (λ b. P (cond b ([] ∷ slice_split test xs) (onto_first x (slice_split test xs)))) [
      | true ↦ some [] (slice_split test xs)
      | false ↦ onto (slice_split test xs)
    ]
  where
    onto : (ls : List (List _)) → P (onto_first x ls)
    onto [] = some (x ∷ []) []
    onto (l ∷ ls) = some (x ∷ l) ls

-- and a first end
by_ends : (P : List ℕ → Type 0) (last : ℕ) → ((e : ℕ) (es : List ℕ) → P (e ∷ es)) → (starts : List ℕ)
    → P (starts ++ last ∷ [])
by_ends P last some [] = some last []
by_ends P last some (e ∷ es) = some e (es ++ last ∷ [])

-- where the newlines begin
abbrev starts_of : List Piece → List ℕ
starts_of ps = map (λ (p : Piece). p.span.start) (filter (λ p. is_newline p.class) ps)

module _ {A : Type 0} (out : Stage → Token → List A) (finish : Stage → ℕ → List A) (text : List ℕ) where
  -- what a line gives that ends at a place
  abbrev pub of_line : List Token × ℕ → List A
  of_line line = run out (λ s. finish s line.1) Start line.0

  -- what some lines give
  abbrev pub each : List (List Piece) → List ℕ → List A
  each ls es = flat_map of_line (zip (map (tokens text) ls) es)

  -- the rest of a line and the lines after it
  rest : Stage → List (List Piece) → List ℕ → List A
  rest s [] es = []
  rest s (l ∷ ls) [] = []
  rest s (l ∷ ls) (e ∷ es) = run out (λ k. finish k e) s (tokens text l) ++ each ls es

  whole : (ls : List (List Piece)) (es : List ℕ) → rest Start ls es ≡ each ls es
  unfolding rest
  whole [] es = refl
  whole (l ∷ ls) [] = refl
  whole (l ∷ ls) (e ∷ es) = refl

  -- a piece that is no newline goes on a line
  goes_on : (s : Stage) (p : Piece) (l : List Piece) (e : ℕ) (b : Bool) → is_significant p.class ≡ b
      → run out (λ k. finish k e) s (tokens text (p ∷ l))
      ≡ cond b (out s (token_of text p) ++ run out (λ k. finish k e) (next_stage s (token_of text p)) (tokens text l))
      (run out (λ k. finish k e) s (tokens text l))
  goes_on s p l e b is =
      let those = filter (λ (q : Piece). is_significant q.class) l in
      ap (λ k. run out (λ k. finish k e) s (map (token_of text) (cond k (p ∷ those) those))) is
      ∙ elim b as (λ k. run out (λ k. finish k e) s (map (token_of text) (cond k (p ∷ those) those))
      ≡ cond k (out s (token_of text p) ++ run out (λ k. finish k e) (next_stage s (token_of text p)) (tokens text l))
      (run out (λ k. finish k e) s (tokens text l))) [
        | true ↦ refl
        | false ↦ refl
      ]

  -- also where its line is the first of some lines
  onto : (s : Stage) (p : Piece) (b : Bool) → is_significant p.class ≡ b
      → (l : List Piece) (ls : List (List Piece)) (e : ℕ) (es : List ℕ)
      → rest s ((p ∷ l) ∷ ls) (e ∷ es)
      ≡ cond b (out s (token_of text p) ++ rest (next_stage s (token_of text p)) (l ∷ ls) (e ∷ es))
      (rest s (l ∷ ls) (e ∷ es))
  unfolding rest
  onto s p b is l ls e es =
      let t = token_of text p in
      let later = run out (λ k. finish k e) (next_stage s t) (tokens text l) in
      let skipped = run out (λ k. finish k e) s (tokens text l) in
      ap (λ c. c ++ each ls es) (goes_on s p l e b is)
      ∙ elim b as (λ k. cond k (out s t ++ later) skipped ++ each ls es
      ≡ cond k (out s t ++ (later ++ each ls es)) (skipped ++ each ls es)) [
        | true ↦ append_assoc (out s t) later (each ls es)
        | false ↦ refl
      ]

  joins_first : (s : Stage) (p : Piece) (b : Bool) → is_significant p.class ≡ b → (ps : List Piece)
      → rest s (onto_first p (parts ps)) (line_ends text ps)
      ≡ cond b (out s (token_of text p) ++ rest (next_stage s (token_of text p)) (parts ps) (line_ends text ps))
      (rest s (parts ps) (line_ends text ps))
  joins_first s p b is ps =
      by_split (λ (q : Piece). is_newline q.class)
      (λ ls. rest s (onto_first p ls) (line_ends text ps)
      ≡ cond b (out s (token_of text p) ++ rest (next_stage s (token_of text p)) ls (line_ends text ps))
      (rest s ls (line_ends text ps)))
      (λ l ls.
      by_ends
      (λ es. rest s ((p ∷ l) ∷ ls) es
      ≡ cond b (out s (token_of text p) ++ rest (next_stage s (token_of text p)) (l ∷ ls) es) (rest s (l ∷ ls) es))
      (length text) (onto s p b is l ls) (starts_of ps))
      ps

  -- from a stage of the line on
  walk_rest : (s : Stage) (ps : List Piece)
      → walk out finish text s (map (lined text) ps) ≡ rest s (parts ps) (line_ends text ps)
  unfolding lined rest
  walk_rest s [] = sym (append-nil (finish s (length text)))
  walk_rest s (p ∷ ps) =
      let ss = parts ps in
      let t = token_of text p in
      let go = λ (k : Stage). walk out finish text k (map (lined text) ps) in
      let later = cond (is_significant p.class) (out s t ++ go (next_stage s t)) (go s) in
      let place = p.span.start in
      let both = λ (b : Bool). rest s (cond b ([] ∷ ss) (onto_first p ss))
      (map (λ (q : Piece). q.span.start)
      (cond b (p ∷ filter (λ q. is_newline q.class) ps) (filter (λ q. is_newline q.class) ps))
      ++ length text ∷ []) in
      ⊎_elim
      (λ is.
      ap (λ b. cond b (finish s place ++ go Start) later) is
      ∙ ap (λ c. finish s place ++ c) (walk_rest Start ps ∙ whole ss (line_ends text ps))
      ∙ ap both (sym is))
      (λ on.
      ap (λ b. cond b (finish s place ++ go Start) later) on
      ∙ (λ i. cond (is_significant p.class) (out s t ++ walk_rest (next_stage s t) ps i) (walk_rest s ps i))
      ∙ sym (joins_first s p (is_significant p.class) refl ps)
      ∙ ap both (sym on))
      (cases_Bool (is_newline p.class))

  -- all pieces
  pub walk_ended : (ps : List Piece)
      → walk out finish text Start (map (lined text) ps)
      ≡ flat_map of_line (zip (logical_lines text ps) (line_ends text ps))
  walk_ended ps = walk_rest Start ps ∙ whole (parts ps) (line_ends text ps)

-- ---- each line has one end
length_onto : (p : Piece) (ps : List Piece) → length (onto_first p (parts ps)) ≡ length (parts ps)
length_onto p ps = by_split (λ (q : Piece). is_newline q.class) (λ ls. length (onto_first p ls) ≡ length ls)
    (λ l ls. refl) ps

as_many : (text : List ℕ) (ps : List Piece) → length (parts ps) ≡ length (line_ends text ps)
as_many text [] = refl
as_many text (p ∷ ps) =
    elim (is_newline p.class) as (λ b. length (cond b ([] ∷ parts ps) (onto_first p (parts ps)))
    ≡ length (map (λ (q : Piece). q.span.start)
    (cond b (p ∷ filter (λ q. is_newline q.class) ps) (filter (λ q. is_newline q.class) ps)) ++ length text ∷ [])) [
      | true ↦ ap suc (as_many text ps)
      | false ↦ length_onto p ps ∙ as_many text ps
    ]

pub lines_as_many : (text : List ℕ) (ps : List Piece) → length (logical_lines text ps) ≡ length (line_ends text ps)
lines_as_many text ps = length-map (parts ps) (tokens text) ∙ as_many text ps

-- what does not depend on the ends
pub firsts : {A B C : Type 0} (f : A → List C) (ls : List A) (es : List B) → length ls ≡ length es
    → flat_map (λ (l : A × B). f l.0) (zip ls es) ≡ flat_map f ls
firsts f [] es same = refl
firsts f (l ∷ ls) [] same = absurd (omega (arith, same))
firsts f (l ∷ ls) (e ∷ es) same = ap (λ c. f l ++ c) (firsts f ls es (omega (arith, same)))

-- where the end of a line gives what its stage says
pub walk_lines : {A : Type 0} (out : Stage → Token → List A) (finish : Stage → List A) (text : List ℕ) (ps : List Piece)
    → walk out (λ s e. finish s) text Start (map (lined text) ps)
    ≡ flat_map (run out finish Start) (logical_lines text ps)
walk_lines out finish text ps =
    walk_ended out (λ s e. finish s) text ps
    ∙ firsts (run out finish Start) (logical_lines text ps) (line_ends text ps) (lines_as_many text ps)
