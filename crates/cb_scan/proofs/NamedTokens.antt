-- The tokens of a text that are names by their role are names of it.
use Rattle.std.proofs.Common.{◌≡◌, ◌∙◌, ◌-◌, ℕ, cond, sym, subst, arith, codes, refl, true, false}
use Rattle.std.proofs.Common.{List, [], ◌∷◌, map, take, drop}
use Rattle.std.specs.Prelude.{◌==◌, filter, not}
use Rattle.std.specs.List.{AllByRecursion, slice_split}
use Rattle.std.specs.Str.{bytes_eq}
use Rattle.std.proofs.lemmas.Bool.{true≢false}
use Rattle.cb_scan.specs.declared.facts.Def.{Def}
use Rattle.cb_scan.specs.declared.lex.piece.Class.{Class}
use Rattle.cb_scan.specs.declared.lex.piece.Class.TheVariants as class
use Rattle.cb_scan.specs.declared.lex.piece.Piece.{Piece}
use Rattle.cb_scan.specs.declared.lex.piece.Span.{Span}
use Rattle.cb_scan.specs.declared.lex.token.Token.{Token}
use Rattle.cb_scan.specs.Definitions.{IsNameOf, IsWithin}
use Rattle.cb_scan.specs.Bytes.{apostrophe}
use Rattle.cb_scan.specs.lex.Lexeme.{Lexeme, first_is, is_identifier}
use Rattle.cb_scan.specs.lex.Pieces.{ArePiecesFrom, LiesIn}
use Rattle.cb_scan.specs.lex.Reserved.{is_reserved}
use Rattle.cb_scan.specs.lex.Tokens.{bytes_of, is_name_token, is_significant, kind_is_name, role_by}
use Rattle.cb_scan.specs.lex.Tokens.{token_of, tokens, word_of}
use Rattle.cb_scan.specs.rules.Code.{code, is_directive, is_newline, logical_lines}
use Rattle.cb_scan.specs.rules.wide.Words.{attribute_words, is_among, is_wide_name, reserved_role}
use Rattle.cb_scan.specs.rules.wide.Words.{role_from, specifier_words, statement_words, wide_role}
use Rattle.cb_scan.specs.rules.wide.Words.{word_role}
use Rattle.cb_scan.specs.steps.Cut.{pieces}
use Rattle.cb_scan.proofs.PieceLists.{pieces-are, pieces-lie}
use Rattle.cb_scan.proofs.WithinLemmas.{AllOfAll, all-filter, all-joined, all-split}
use Rattle.cb_scan.proofs.NamedLists.{if-free}

-- ---- roles of words

-- a reserved word is no name
reserved-free : (bytes : List ℕ) → is_reserved bytes ≡ true → kind_is_name (word_of bytes) ≡ false
unfolding word_of
reserved-free bytes h =
    rw h (if-free kind_is_name (bytes_eq bytes (codes "typedef")) refl
    (if-free kind_is_name (bytes_eq bytes (codes "extern")) refl
    (if-free kind_is_name (bytes_eq bytes (codes "static")) refl
    (if-free kind_is_name (bytes_eq bytes (codes "struct")) refl
    (if-free kind_is_name (bytes_eq bytes (codes "union")) refl
    (if-free kind_is_name (bytes_eq bytes (codes "enum")) refl refl))))))

kind-free : (bytes : List ℕ) → kind_is_name (word_of bytes) ≡ true → is_reserved bytes ≡ false
kind-free bytes is =
    (elim (is_reserved bytes) as (λ t. is_reserved bytes ≡ t → t ≡ false) [
      | true ↦ λ h. absurd (true≢false (sym is ∙ reserved-free bytes h))
      | false ↦ λ h. refl
    ]) refl

reserved-wide : (bytes : List ℕ) → is_wide_name (reserved_role bytes) ≡ false
unfolding reserved_role
reserved-wide bytes =
    if-free is_wide_name (is_among attribute_words bytes) refl
    (if-free is_wide_name (is_among specifier_words bytes) refl
    (if-free is_wide_name (is_among statement_words bytes) refl refl))

reserved-role : (bytes : List ℕ) → is_reserved bytes ≡ true
    → is_wide_name (word_role (word_of bytes) bytes) ≡ false
unfolding word_of
reserved-role bytes h =
    rw h (if-free (λ k. is_wide_name (word_role k bytes)) (bytes_eq bytes (codes "typedef")) refl
    (if-free (λ k. is_wide_name (word_role k bytes)) (bytes_eq bytes (codes "extern")) refl
    (if-free (λ k. is_wide_name (word_role k bytes)) (bytes_eq bytes (codes "static")) refl
    (if-free (λ k. is_wide_name (word_role k bytes)) (bytes_eq bytes (codes "struct")) refl
    (if-free (λ k. is_wide_name (word_role k bytes)) (bytes_eq bytes (codes "union")) refl
    (if-free (λ k. is_wide_name (word_role k bytes)) (bytes_eq bytes (codes "enum")) refl
    (reserved-wide bytes)))))))

wide-free : (bytes : List ℕ) → is_wide_name (word_role (word_of bytes) bytes) ≡ true
    → is_reserved bytes ≡ false
wide-free bytes is =
    (elim (is_reserved bytes) as (λ t. is_reserved bytes ≡ t → t ≡ false) [
      | true ↦ λ h. absurd (true≢false (sym is ∙ reserved-role bytes h))
      | false ↦ λ h. refl
    ]) refl

-- ---- tokens

module _ (text : List ℕ) where
  -- a definition whose name is one
  abbrev pub IsDefNamed : Def → Type 0
  IsDefNamed d = IsNameOf text d.name

  -- a piece of the class of names is spelled as one
  abbrev IsSpelled : Piece → Type 0
  IsSpelled p = p.class ≡ class.Name → is_identifier (bytes_of text p.span) ≡ true

  spelled-from : (place : ℕ) (ps : List Piece) → ArePiecesFrom text place ps
      → AllByRecursion IsSpelled ps
  unfolding ArePiecesFrom
  spelled-from place [] are = tt
  spelled-from place (p ∷ ps) are = (
    λ is. subst (λ i. is_identifier (take (p.span.end - i) (drop i text)) ≡ true) (sym are.0)
        (subst (λ c. Lexeme c text place p.span.end) is are.1).1,
    spelled-from p.span.end ps are.3,
  )

  -- what is neither word, mark nor string is no name
  other-free : (s : Span)
      → is_wide_name (role_from (role_by class.Number text s) (bytes_of text s)) ≡ true
      → IsNameOf text s
  other-free s is =
      absurd (true≢false (sym is
      ∙ if-free is_wide_name (first_is (λ b. b == apostrophe) (bytes_of text s)) refl refl))

  -- a piece by its class
  by_class : (c : Class) (s : Span) → IsWithin text s
      → (c ≡ class.Name → is_identifier (bytes_of text s) ≡ true)
      → is_name_token (role_by c text s) ≡ true → IsNameOf text s
  by_class class.Name s within spelled is = (
    within,
    rw (spelled refl, kind-free (bytes_of text s) is) refl,
  )
  by_class class.Number s within spelled is = absurd (true≢false (sym is))
  by_class class.Str s within spelled is = absurd (true≢false (sym is))
  by_class class.Chr s within spelled is = absurd (true≢false (sym is))
  by_class class.LineNote s within spelled is = absurd (true≢false (sym is))
  by_class class.BlockNote s within spelled is = absurd (true≢false (sym is))
  by_class class.Blank s within spelled is = absurd (true≢false (sym is))
  by_class class.Newline s within spelled is = absurd (true≢false (sym is))
  by_class class.Byte s within spelled is = absurd (true≢false (sym is))

  -- a piece that lies in the text and is spelled by its class
  abbrev IsGood : Piece → Type 0
  IsGood p = LiesIn text p × IsSpelled p

  good : (ps : List Piece) → AllByRecursion (LiesIn text) ps → AllByRecursion IsSpelled ps
      → AllByRecursion IsGood ps
  good [] lie spelled = tt
  good (p ∷ ps) lie spelled = ((lie.0, spelled.0), good ps lie.1 spelled.1)

  -- the tokens of pieces, of logical lines and of the code
  of_pieces : (Q : Token → Type 0) → ((p : Piece) → IsGood p → Q (token_of text p)) → (ps : List Piece)
      → AllByRecursion IsGood ps → AllByRecursion Q (tokens text ps)
  of_pieces Q has [] all = tt
  of_pieces Q has (p ∷ ps) all =
      elim (is_significant p.class) as (λ b. AllByRecursion Q
      (map (token_of text) (cond b (p ∷ filter (λ q. is_significant q.class) ps)
      (filter (λ q. is_significant q.class) ps))))
      [ true ↦ (has p all.0, of_pieces Q has ps all.1) | false ↦ of_pieces Q has ps all.1 ]

  of_lines : (Q : Token → Type 0) → ((p : Piece) → IsGood p → Q (token_of text p))
      → (ls : List (List Piece)) → AllOfAll IsGood ls → AllOfAll Q (map (tokens text) ls)
  of_lines Q has [] all = tt
  of_lines Q has (l ∷ ls) all = (of_pieces Q has l all.0, of_lines Q has ls all.1)

  lines-have : (Q : Token → Type 0) → ((p : Piece) → IsGood p → Q (token_of text p))
      → AllOfAll Q (logical_lines text (pieces text))
  lines-have Q has =
      of_lines Q has (slice_split (λ p. is_newline p.class) (pieces text))
      (all-split IsGood (λ p. is_newline p.class) (pieces text)
      (good (pieces text) (pieces-lie text) (spelled-from 0 (pieces text) (pieces-are text))))

  code-has : (Q : Token → Type 0) → ((p : Piece) → IsGood p → Q (token_of text p))
      → AllByRecursion Q (code text (pieces text))
  code-has Q has =
      all-joined Q _ (all-filter (AllByRecursion Q) (λ l. not (is_directive l))
      (logical_lines text (pieces text)) (lines-have Q has))

  -- a token whose role is that of a name is one
  piece-sound : (p : Piece) → IsGood p → is_name_token (token_of text p).role ≡ true
      → IsNameOf text (token_of text p).span
  piece-sound p is = by_class p.class p.span (omega (arith, is.0.0), is.0.1) is.1

  pub lines-sound : AllOfAll (λ t. is_name_token t.role ≡ true → IsNameOf text t.span)
      (logical_lines text (pieces text))
  lines-sound = lines-have (λ t. is_name_token t.role ≡ true → IsNameOf text t.span) piece-sound

  pub code-sound : AllByRecursion (λ t. is_name_token t.role ≡ true → IsNameOf text t.span)
      (code text (pieces text))
  code-sound = code-has (λ t. is_name_token t.role ≡ true → IsNameOf text t.span) piece-sound

  -- and so is one whose role for the wide rules is
  by_wide_class : (c : Class) (s : Span) → IsWithin text s
      → (c ≡ class.Name → is_identifier (bytes_of text s) ≡ true)
      → is_wide_name (role_from (role_by c text s) (bytes_of text s)) ≡ true → IsNameOf text s
  by_wide_class class.Name s within spelled is = (
    within,
    rw (spelled refl, wide-free (bytes_of text s) is) refl,
  )
  by_wide_class class.Number s within spelled is = other-free s is
  by_wide_class class.Str s within spelled is = absurd (true≢false (sym is))
  by_wide_class class.Chr s within spelled is = other-free s is
  by_wide_class class.LineNote s within spelled is = other-free s is
  by_wide_class class.BlockNote s within spelled is = other-free s is
  by_wide_class class.Blank s within spelled is = other-free s is
  by_wide_class class.Newline s within spelled is = other-free s is
  by_wide_class class.Byte s within spelled is = absurd (true≢false (sym is))

  wide-sound : (p : Piece) → IsGood p → is_wide_name (wide_role text (token_of text p)) ≡ true
      → IsNameOf text (token_of text p).span
  wide-sound p is = by_wide_class p.class p.span (omega (arith, is.0.0), is.0.1) is.1

  pub code-wide : AllByRecursion (λ t. is_wide_name (wide_role text t) ≡ true
      → IsNameOf text t.span) (code text (pieces text))
  code-wide =
      code-has (λ t. is_wide_name (wide_role text t) ≡ true → IsNameOf text t.span) wide-sound
