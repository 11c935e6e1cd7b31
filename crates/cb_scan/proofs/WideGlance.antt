-- In a block, where nothing is to open, most tokens say nothing.
use Rattle.std.proofs.Common.{◌≡◌, ◌∙◌, ℕ, suc, Bool, true, false, List, None, refl, sym, ap}
use Rattle.std.proofs.Common.{[], ◌∷◌, ⊎_elim}
use Rattle.std.proofs.lemmas.Bool.{and_parts, cases_Bool, false≢true, not-true, true≢false}
use Rattle.std.specs.Prelude.{◌||◌, ◌==◌, not, if◌then◌else◌, take, codes}
use Rattle.std.specs.Str.{bytes_eq}
use Rattle.cb_scan.specs.declared.lex.token.Role.{Role}
use Rattle.cb_scan.specs.declared.lex.token.Role.TheVariants as role
use Rattle.cb_scan.specs.declared.lex.token.Token.{Token}
use Rattle.cb_scan.specs.declared.lex.token.WordKind.{WordKind}
use Rattle.cb_scan.specs.declared.lex.token.WordKind.TheVariants as kind
use Rattle.cb_scan.specs.declared.rules.wide.role.WideRole.{WideRole}
use Rattle.cb_scan.specs.declared.rules.wide.role.WideRole.TheVariants as wide
use Rattle.cb_scan.specs.declared.rules.wide.sight.Early.{Early}
use Rattle.cb_scan.specs.declared.rules.wide.sight.Early.TheVariants as early
use Rattle.cb_scan.specs.declared.rules.wide.sight.Phase.{Phase}
use Rattle.cb_scan.specs.declared.rules.wide.sight.Phase.TheVariants.{Clear, Word, Paren, Inside}
use Rattle.cb_scan.specs.declared.rules.wide.sight.Sight.{Sight}
use Rattle.cb_scan.specs.declared.rules.wide.token.WideToken.{WideToken}
use Rattle.cb_scan.specs.lex.Lexeme.{first_is}
use Rattle.cb_scan.specs.lex.Tokens.{bytes_of, is_mark}
use Rattle.cb_scan.specs.declared.rules.functions.Before.{Before}
use Rattle.cb_scan.specs.rules.wide.Words.{attribute_words, is_among, is_literal, is_sign, name_role}
use Rattle.cb_scan.specs.rules.wide.Words.{reserved_role, role_from, specifier_words}
use Rattle.cb_scan.specs.rules.wide.Words.{statement_words, word_role}
use Rattle.cb_scan.specs.declared.rules.wide.reader.Reader.{Reader}
use Rattle.cb_scan.specs.rules.wide.Attributes.{ends_attribute}
use Rattle.cb_scan.specs.steps.Functions.{before_after}
use Rattle.cb_scan.specs.steps.wide.Contents.{are_in_block}
use Rattle.cb_scan.specs.steps.wide.Pass.{Taken, take_first}
use Rattle.cb_scan.specs.steps.wide.Reading.{all_taken, is_mark_of_blocks, item_of, passed, read_on}
use Rattle.cb_scan.specs.steps.wide.Reading.{reader_after, taken_after, taken_on, turned}
use Rattle.cb_scan.specs.steps.wide.Sights.{early_past, early_past_other, early_past_paren}
use Rattle.cb_scan.specs.steps.wide.Sights.{early_past_role, early_past_word, idle_in, is_late}
use Rattle.cb_scan.specs.steps.wide.Sights.{is_passed, look}
use Rattle.cb_scan.specs.steps.wide.Sights.{look_in, paren_after, seen_after, sight_by, sight_closed}
use Rattle.cb_scan.specs.steps.wide.Tokens.{token_after}
use Rattle.cb_scan.proofs.WideSigns.{sign_of}

-- a token in a role
abbrev in_role : Token → Bool → WideRole → WideToken
in_role t c r = record { token = t; role = r; counted = c }

-- ---- one token
module _ (s : Sight) where
  still : (x : WideToken) (z : Sight) → seen_after None x ≡ z → is_sign 40 x.role ≡ false
      → is_literal x.role ≡ false → (e : Early) → is_late e ≡ false → look (sight_by e s) x ≡ z
  still x z seen sign literal early.Clear e = seen
  still x z seen sign literal early.Word e =
      (λ i. if sign i then idle_in (paren_after false) else seen_after None x) ∙ seen
  still x z seen sign literal early.Paren e =
      (λ i. if literal i then idle_in (Inside 0) else seen_after None x) ∙ seen
  still x z seen sign literal early.Late e = absurd (true≢false e)

  -- a string, a number or a character constant, which may be of an attribute
  still_other : (x : WideToken) → seen_after None x ≡ idle_in Clear → is_sign 40 x.role ≡ false
      → (e : Early) → is_late e ≡ false → is_late (early_past_other e) ≡ false
      → look (sight_by e s) x ≡ sight_by (early_past_other e) s
  still_other x seen sign early.Clear soon e = seen
  still_other x seen sign early.Word soon e =
      (λ i. if sign i then idle_in (paren_after false) else seen_after None x) ∙ seen
  still_other x seen sign early.Paren soon e = absurd (true≢false e)
  still_other x seen sign early.Late soon e = absurd (true≢false soon)

  -- a `(`
  still_open : (t : Token) (c : Bool) (b : ℕ) → (b == 40) ≡ true
      → (e : Early) → is_late e ≡ false
      → look (sight_by e s) (in_role t c (wide.Mark b)) ≡ sight_by (early_past_paren e) s
  still_open t c b is early.Clear e = refl
  still_open t c b is early.Word e =
      (λ i. if is i then idle_in (paren_after false)
      else seen_after None (in_role t c (wide.Mark b)))
  still_open t c b is early.Paren e = refl
  still_open t c b is early.Late e = absurd (true≢false e)

module _ (s : Sight) (t : Token) (c : Bool) (a : Early) (soon : is_late a ≡ false) where
  -- the sight after a token in this role
  Gives : WideRole → Early → Type 0
  Gives r z = look (sight_by a s) (in_role t c r) ≡ sight_by z s

  name : (bytes : List ℕ) → Gives (name_role bytes) early.Word
  unfolding Gives
  name bytes = elim (bytes_eq (take 2 bytes) (codes "__")) as
      (λ b. Gives (if b then wide.Underscored else wide.Name) early.Word) [
        | true ↦ still s (in_role t c wide.Underscored) (idle_in (Word false)) refl refl refl a soon
        | false ↦ still s (in_role t c wide.Name) (idle_in (Word false)) refl refl refl a soon
      ]

  reserved : (bytes : List ℕ)
      → is_late (if is_among attribute_words bytes then early.Late else early.Word) ≡ false
      → Gives (reserved_role bytes)
      (if is_among attribute_words bytes then early.Late else early.Word)
  unfolding Gives reserved_role
  reserved bytes = elim (is_among attribute_words bytes) as
      (λ b. is_late (if b then early.Late else early.Word) ≡ false
      → Gives (if b then wide.Attribute
      else (if is_among specifier_words bytes then wide.Specifier
      else (if is_among statement_words bytes then wide.Statement else wide.Reserved)))
      (if b then early.Late else early.Word)) [
        | true ↦ λ e. absurd (true≢false e)
        | false ↦ λ e. elim (is_among specifier_words bytes) as
            (λ b. Gives (if b then wide.Specifier
            else (if is_among statement_words bytes then wide.Statement else wide.Reserved))
            early.Word) [
              | true ↦
                  still s (in_role t c wide.Specifier) (idle_in (Word false)) refl refl refl a soon
              | false ↦ elim (is_among statement_words bytes) as
                  (λ b. Gives (if b then wide.Statement else wide.Reserved) early.Word) [
                    | true ↦ still s (in_role t c wide.Statement) (idle_in (Word false)) refl refl
                        refl a soon
                    | false ↦ still s (in_role t c wide.Reserved) (idle_in (Word false)) refl refl
                        refl a soon
                  ]
            ]
      ]

  word : (k : WordKind) (bytes : List ℕ) → is_late (early_past_word k bytes) ≡ false
      → Gives (word_role k bytes) (early_past_word k bytes)
  unfolding Gives
  word kind.Name bytes e = name bytes
  word kind.Define bytes e = name bytes
  word kind.Include bytes e = name bytes
  word kind.Typedef bytes e =
      still s (in_role t c wide.Typedef) (idle_in (Word false)) refl refl refl a soon
  word kind.Extern bytes e =
      still s (in_role t c wide.Extern) (idle_in (Word false)) refl refl refl a soon
  word kind.Static bytes e =
      still s (in_role t c wide.Static) (idle_in (Word false)) refl refl refl a soon
  word kind.Struct bytes e = absurd (true≢false e)
  word kind.Union bytes e = absurd (true≢false e)
  word kind.Enum bytes e = absurd (true≢false e)
  word kind.Reserved bytes e = reserved bytes e

  past : (r : Role) (bytes : List ℕ) → is_late (early_past_role a r bytes) ≡ false
      → Gives (role_from r bytes) (early_past_role a r bytes)
  unfolding Gives
  past (role.Word k) bytes e = word k bytes e
  past (role.Mark b) bytes e =
      let z : Bool → Early = λ o. if o then early_past_paren a else early.Clear in
      ⊎_elim
      (λ is. still_open s t c b is a soon ∙ ap (λ o. sight_by (z o) s) (sym is))
      (λ isnt.
      still s (in_role t c (wide.Mark b)) (idle_in Clear) refl isnt refl a soon
      ∙ ap (λ o. sight_by (z o) s) (sym isnt))
      (cases_Bool (b == 40))
  past role.Str bytes e = still_other s (in_role t c wide.Str) refl refl a soon e
  past role.Other bytes e =
      elim (first_is (λ b. b == 39) bytes) as
      (λ b. Gives (if b then wide.Character else wide.Number) (early_past_other a)) [
        | true ↦ still_other s (in_role t c wide.Character) refl refl a soon e
        | false ↦ still_other s (in_role t c wide.Number) refl refl a soon e
      ]

-- what is not late was not late before
soon_if : (b : Bool) (z : Early) → is_late (if b then early.Late else z) ≡ false → b ≡ false
soon_if true z e = absurd (true≢false e)
soon_if false z e = refl

pub glance_is : (text : List ℕ) (b : Before) (s : Sight) (t : Token) (e : Early)
    → is_late (early_past e t.role (bytes_of text t.span)) ≡ false
    → sight_by (early_past e t.role (bytes_of text t.span)) s
    ≡ look (sight_by e s) (token_after text b t)
unfolding Gives
glance_is text b s t e late =
    let bytes = bytes_of text t.span in
    let z = early_past_role e t.role bytes in
    let soon = soon_if (is_late e) z late in
    let is : early_past e t.role bytes ≡ z = (λ i. if soon i then early.Late else z) in
    ap (λ (u : Early). sight_by u s) is
    ∙ sym (past s t (token_after text b t).counted e soon t.role bytes (sym (ap is_late is) ∙ late))

-- ---- a token of an attribute
by_passed : (s : Sight) (x : WideToken) (r : Role) → is_sign 40 x.role ≡ is_mark 40 r
    → is_sign 41 x.role ≡ is_mark 41 r → (p : Phase) → is_passed p r ≡ true → look_in p s x ≡ s
by_passed s x r opens closes (Inside n) e =
    let parts = and_parts (not (is_mark 40 r)) (not (is_mark 41 r)) e in
    let no_open = opens ∙ not-true (is_mark 40 r) parts.0 in
    let no_close = closes ∙ not-true (is_mark 41 r) parts.1 in
    (λ i. if no_open i then record s { phase = Inside (suc n) }
    else (if no_close i then sight_closed n s else s))
by_passed s x r opens closes Clear e = absurd (false≢true e)
by_passed s x r opens closes (Word a) e = absurd (false≢true e)
by_passed s x r opens closes Paren e = absurd (false≢true e)

pub passed_is : (text : List ℕ) (b : Before) (s : Sight) (t : Token)
    → is_passed s.phase t.role ≡ true → s ≡ look s (token_after text b t)
passed_is text b s t e =
    sym (by_passed s (token_after text b t) t.role (sign_of text 40 t) (sign_of text 41 t) s.phase e)

-- ---- a token in a block
module _ (text : List ℕ) (r : Reader) (t : Taken) (token : Token)
    (block : are_in_block t.pass.levels ≡ true) (inner : is_mark_of_blocks token.role ≡ false)
  where
    ends_not : ends_attribute (item_of text r token).role ≡ false
    ends_not =
        (λ i. sign_of text 59 token i || sign_of text 123 token i || sign_of text 125 token i) ∙ inner

    pub read_glance : (z : Sight) → z ≡ look r.sight (item_of text r token)
        → record r { before = before_after r.before token; sight = z } ≡ reader_after text r t token
    read_glance z is =
        ap (λ (u : Sight). record (passed r token) { sight = u }) is
        ∙ sym (λ i. if ends_not i then turned (block i) (passed r token)
        else read_on (block i) (passed r token) (item_of text r token))

    pub taken_glance : t ≡ taken_after text r t token
    taken_glance = sym (λ i.
        if ends_not i then take_first (all_taken (block i) (passed r token) t)
        (item_of text r token ∷ []) (item_of text r token)
        else taken_on (block i) (passed r token) t (item_of text r token))
