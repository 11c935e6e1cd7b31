-- Inside a block the pass knows what a `{` would open, without holding tokens back.
use Rattle.std.proofs.Common.{◌≡◌, ◌∙◌, ℕ, zero, suc, Bool, true, false, List, [], ◌∷◌, refl, sym, ap}
use Rattle.std.proofs.Common.{Option, None, ⊎_elim}
use Rattle.std.proofs.lemmas.Bool.{cases_Bool, false≢true}
use Rattle.std.specs.Prelude.{◌&&◌, ◌||◌, not, cond, if◌then◌else◌}
use Rattle.std.specs.List.{AllByRecursion}
use Rattle.std.specs.Option.{option_map}
use Rattle.cb_scan.specs.declared.rules.wide.attribute.Attribute.TheVariants as attribute
use Rattle.cb_scan.specs.declared.rules.wide.opening.Opening.{Opening}
use Rattle.cb_scan.specs.declared.rules.wide.role.WideRole.{WideRole}
use Rattle.cb_scan.specs.declared.rules.wide.sight.Phase.{Phase}
use Rattle.cb_scan.specs.declared.rules.wide.sight.Phase.TheVariants.{Clear, Word, Paren, Inside}
use Rattle.cb_scan.specs.declared.rules.wide.sight.Sight.{Sight}
use Rattle.cb_scan.specs.declared.rules.wide.token.WideToken.{WideToken}
use Rattle.cb_scan.specs.rules.wide.Attributes.{begins_attribute, begins_with_literal, ends_attribute}
use Rattle.cb_scan.specs.rules.wide.Bodies.{body_kind}
use Rattle.cb_scan.specs.rules.wide.Words.{is_attribute_word, is_literal, is_sign, is_wide_name, is_wide_word}
use Rattle.cb_scan.specs.steps.wide.Attributes.{closed_after, inside_after, kept_from}
use Rattle.cb_scan.specs.steps.wide.Openings.{after_kind, next_opening, tagged}
use Rattle.cb_scan.specs.steps.wide.Sights.{look_along, look_inside, opening_along, paren_after}
use Rattle.cb_scan.specs.steps.wide.Sights.{seen_after, sight_closed, sight_opening, sight_start}
use Rattle.cb_scan.proofs.WideTails.{sign_is}

-- no brace and no `;`
abbrev pub IsInner : WideToken → Type 0
IsInner x = ends_attribute x.role ≡ false

abbrev sight_in : Phase → Option Opening → Option Opening → Sight
sight_in phase before opening = record { phase = phase; before = before; opening = opening }

-- ---- what begins an attribute

no_word_begins_none : (x : WideToken) (xs : List WideToken) → is_wide_word x.role ≡ false
    → begins_attribute (x ∷ xs) ≡ false
no_word_begins_none x [] isnt = refl
no_word_begins_none x (y ∷ ys) isnt =
    ap (λ b. b && is_sign 40 y.role && (is_attribute_word x.role || begins_with_literal ys)) isnt

-- what is kept from a token on that begins none, and from one that does
kept_none : (x : WideToken) (xs : List WideToken) → begins_attribute (x ∷ xs) ≡ false
    → kept_from attribute.Outside (x ∷ xs) ≡ x ∷ kept_from attribute.Outside xs
unfolding kept_from
kept_none x xs isnt =
    ap (λ b. if b then kept_from (if b then attribute.Begun else attribute.Outside) xs
    else x ∷ kept_from (if b then attribute.Begun else attribute.Outside) xs) isnt

kept_begun : (x y : WideToken) (xs : List WideToken) → begins_attribute (x ∷ y ∷ xs) ≡ true
    → ends_attribute y.role ≡ false
    → kept_from attribute.Outside (x ∷ y ∷ xs) ≡ kept_from (attribute.Inside 0) xs
unfolding kept_from
kept_begun x y xs is inner =
    ap (λ b. if b then kept_from (if b then attribute.Begun else attribute.Outside) (y ∷ xs)
    else x ∷ kept_from (if b then attribute.Begun else attribute.Outside) (y ∷ xs)) is
    ∙ ap (λ b. if not b then kept_from (if b then attribute.Outside else attribute.Inside 0) xs
    else y ∷ kept_from (if b then attribute.Outside else attribute.Inside 0) xs) inner

kept_inside : (n : ℕ) (x : WideToken) (xs : List WideToken) → ends_attribute x.role ≡ false
    → kept_from (attribute.Inside n) (x ∷ xs) ≡ kept_from (inside_after n x.role) xs
unfolding kept_from
kept_inside n x xs inner =
    ap (λ b. if not b then kept_from (if b then attribute.Outside else inside_after n x.role) xs
    else x ∷ kept_from (if b then attribute.Outside else inside_after n x.role) xs) inner

-- a `(` is no word, and opens nothing
paren_is_no_word : (x : WideToken) → is_sign 40 x.role ≡ true → is_wide_word x.role ≡ false
paren_is_no_word x is = ap is_wide_word (sign_is 40 x.role is)

paren_is_inner : (x : WideToken) → is_sign 40 x.role ≡ true → ends_attribute x.role ≡ false
paren_is_inner x is = ap ends_attribute (sign_is 40 x.role is)

paren_opens_none : (o : Option Opening) (x : WideToken) → is_sign 40 x.role ≡ true → next_opening o x ≡ None
paren_opens_none o x is =
    ap (λ r. after_kind (body_kind r) o x) (sign_is 40 x.role is)
    ∙ ap (λ r. cond (is_wide_name r) (option_map (tagged x) o) None) (sign_is 40 x.role is)

-- a literal leaves the parentheses of an attribute as they are
literal_stays : (r : WideRole) → is_literal r ≡ true → inside_after 0 r ≡ attribute.Inside 0
literal_stays r is =
    ⊎_elim
    (λ o. absurd (false≢true (sym (ap is_literal (sign_is 40 r o)) ∙ is)))
    (λ no. ⊎_elim
    (λ c. absurd (false≢true (sym (ap is_literal (sign_is 41 r c)) ∙ is)))
    (λ nc. ap (λ b. cond b (attribute.Inside 1) (cond (is_sign 41 r) attribute.Outside (attribute.Inside 0))) no
    ∙ ap (λ b. cond b attribute.Outside (attribute.Inside 0)) nc)
    (cases_Bool (is_sign 41 r)))
    (cases_Bool (is_sign 40 r))

third_false : (a b : Bool) → (a && b && (false || false)) ≡ false
third_false true true = refl
third_false true false = refl
third_false false b = refl

-- ---- a block up to a token

-- in each phase the sight stands for some tokens that are held back
record Sighted (q : List WideToken) : Type 0 where
  clear : (b o : Option Opening)
      → sight_opening (look_along (sight_in Clear b o) q)
      ≡ opening_along o (kept_from attribute.Outside q)
  word : (w : WideToken) (b : Option Opening) → is_wide_word w.role ≡ true
      → sight_opening (look_along (sight_in (Word (is_attribute_word w.role)) b (next_opening b w)) q)
      ≡ opening_along b (kept_from attribute.Outside (w ∷ q))
  paren : (w p : WideToken) (b o : Option Opening) → is_wide_word w.role ≡ true
      → is_attribute_word w.role ≡ false → is_sign 40 p.role ≡ true
      → sight_opening (look_along (sight_in Paren b o) q)
      ≡ opening_along b (kept_from attribute.Outside (w ∷ p ∷ q))
  inside : (n : ℕ) (b o : Option Opening)
      → sight_opening (look_along (sight_in (Inside n) b o) q)
      ≡ opening_along b (kept_from (attribute.Inside n) q)

at_end : Sighted []
unfolding look_along opening_along kept_from
at_end = record {
  clear = λ b o. refl;
  word = λ w b is. refl;
  paren = λ w p b o is isnt opens.
      sym (ap (opening_along b) (kept_none w (p ∷ [])
      (ap (λ a. is_wide_word w.role && is_sign 40 p.role && (a || false)) isnt
      ∙ third_false (is_wide_word w.role) (is_sign 40 p.role)))
      ∙ paren_opens_none (next_opening b w) p opens);
  inside = λ n b o. refl;
}

module _ (x : WideToken) (q : List WideToken) (inner : IsInner x) (rest : Sighted q) where
  -- after a token that is of no attribute so far
  afresh : (o : Option Opening) → sight_opening (look_along (seen_after o x) q)
      ≡ opening_along o (kept_from attribute.Outside (x ∷ q))
  unfolding opening_along
  afresh o =
      ⊎_elim
      (λ is.
      ap (λ b. sight_opening (look_along (sight_in (cond b (Word (is_attribute_word x.role)) Clear) o
      (next_opening o x)) q)) is
      ∙ rest.word x o is)
      (λ isnt.
      ap (λ b. sight_opening (look_along (sight_in (cond b (Word (is_attribute_word x.role)) Clear) o
      (next_opening o x)) q)) isnt
      ∙ rest.clear o (next_opening o x)
      ∙ sym (ap (opening_along o) (kept_none x q (no_word_begins_none x q isnt))))
      (cases_Bool (is_wide_word x.role))

  after_word : (w : WideToken) (b : Option Opening) → is_wide_word w.role ≡ true
      → sight_opening (look_along (sight_in (Word (is_attribute_word w.role)) b (next_opening b w)) (x ∷ q))
      ≡ opening_along b (kept_from attribute.Outside (w ∷ x ∷ q))
  unfolding look_along opening_along
  after_word w b is =
      let attr = is_attribute_word w.role in
      let literal = begins_with_literal q in
      ⊎_elim
      (λ opens.
      ap (λ o. sight_opening (look_along (cond o (sight_in (paren_after attr) b (next_opening b w))
      (seen_after (next_opening b w) x)) q)) opens
      ∙ ⊎_elim
      (λ is_attr.
      ap (λ a. sight_opening (look_along (sight_in (paren_after a) b (next_opening b w)) q)) is_attr
      ∙ rest.inside 0 b (next_opening b w)
      ∙ sym (ap (opening_along b) (kept_begun w x q
      (ap (λ c. c && is_sign 40 x.role && (attr || literal)) is
      ∙ ap (λ c. c && (attr || literal)) opens
      ∙ ap (λ c. c || literal) is_attr) inner)))
      (λ no_attr.
      ap (λ a. sight_opening (look_along (sight_in (paren_after a) b (next_opening b w)) q)) no_attr
      ∙ rest.paren w x b (next_opening b w) is no_attr opens)
      (cases_Bool attr))
      (λ other.
      ap (λ o. sight_opening (look_along (cond o (sight_in (paren_after attr) b (next_opening b w))
      (seen_after (next_opening b w) x)) q)) other
      ∙ afresh (next_opening b w)
      ∙ sym (ap (opening_along b) (kept_none w (x ∷ q)
      (ap (λ c. c && is_sign 40 x.role && (attr || literal)) is
      ∙ ap (λ c. c && (attr || literal)) other))))
      (cases_Bool (is_sign 40 x.role))

  after_paren : (w p : WideToken) (b o : Option Opening) → is_wide_word w.role ≡ true
      → is_attribute_word w.role ≡ false → is_sign 40 p.role ≡ true
      → sight_opening (look_along (sight_in Paren b o) (x ∷ q))
      ≡ opening_along b (kept_from attribute.Outside (w ∷ p ∷ x ∷ q))
  unfolding look_along opening_along
  after_paren w p b o is isnt opens =
      let begins : begins_attribute (w ∷ p ∷ x ∷ q) ≡ is_literal x.role =
      ap (λ c. c && is_sign 40 p.role && (is_attribute_word w.role || is_literal x.role)) is
      ∙ ap (λ c. c && (is_attribute_word w.role || is_literal x.role)) opens
      ∙ ap (λ c. c || is_literal x.role) isnt in
      ⊎_elim
      (λ literal.
      ap (λ l. sight_opening (look_along (cond l (sight_in (Inside 0) b o) (seen_after None x)) q)) literal
      ∙ rest.inside 0 b o
      ∙ sym (ap (opening_along b) (kept_begun w p (x ∷ q) (begins ∙ literal) (paren_is_inner p opens)
      ∙ kept_inside 0 x q inner
      ∙ ap (λ a. kept_from a q) (literal_stays x.role literal))))
      (λ other.
      ap (λ l. sight_opening (look_along (cond l (sight_in (Inside 0) b o) (seen_after None x)) q)) other
      ∙ afresh None
      ∙ ap (λ m. opening_along m (kept_from attribute.Outside (x ∷ q)))
      (sym (paren_opens_none (next_opening b w) p opens))
      ∙ sym (ap (opening_along b) (kept_none w (p ∷ x ∷ q) (begins ∙ other)
      ∙ ap (λ l. w ∷ l) (kept_none p (x ∷ q) (no_word_begins_none p (x ∷ q) (paren_is_no_word p opens))))))
      (cases_Bool (is_literal x.role))

  closes : (n : ℕ) (b o : Option Opening)
      → sight_opening (look_along (look_inside n (sight_in (Inside n) b o) x) q)
      ≡ opening_along b (kept_from (inside_after n x.role) q)
  closes n b o =
      ⊎_elim
      (λ opens.
      ap (λ e. sight_opening (look_along (cond e (sight_in (Inside (suc n)) b o)
      (cond (is_sign 41 x.role) (sight_closed n (sight_in (Inside n) b o)) (sight_in (Inside n) b o))) q)) opens
      ∙ rest.inside (suc n) b o
      ∙ sym (ap (λ e. opening_along b (kept_from (cond e (attribute.Inside (suc n))
      (cond (is_sign 41 x.role) (closed_after n) (attribute.Inside n))) q)) opens))
      (λ no_open.
      ap (λ e. sight_opening (look_along (cond e (sight_in (Inside (suc n)) b o)
      (cond (is_sign 41 x.role) (sight_closed n (sight_in (Inside n) b o)) (sight_in (Inside n) b o))) q)) no_open
      ∙ ⊎_elim
      (λ ends.
      ap (λ e. sight_opening (look_along (cond e (sight_closed n (sight_in (Inside n) b o))
      (sight_in (Inside n) b o)) q)) ends
      ∙ at_close n
      ∙ sym (ap (λ e. opening_along b (kept_from (cond e (closed_after n) (attribute.Inside n)) q)) ends))
      (λ stays.
      ap (λ e. sight_opening (look_along (cond e (sight_closed n (sight_in (Inside n) b o))
      (sight_in (Inside n) b o)) q)) stays
      ∙ rest.inside n b o
      ∙ sym (ap (λ e. opening_along b (kept_from (cond e (closed_after n) (attribute.Inside n)) q)) stays))
      (cases_Bool (is_sign 41 x.role))
      ∙ sym (ap (λ e. opening_along b (kept_from (cond e (attribute.Inside (suc n))
      (cond (is_sign 41 x.role) (closed_after n) (attribute.Inside n))) q)) no_open))
      (cases_Bool (is_sign 40 x.role))
    where
      at_close : (m : ℕ) → sight_opening (look_along (sight_closed m (sight_in (Inside m) b o)) q)
          ≡ opening_along b (kept_from (closed_after m) q)
      at_close zero = rest.clear b b
      at_close (suc m) = rest.inside m b o

sighted : (q : List WideToken) → AllByRecursion IsInner q → Sighted q
unfolding look_along
sighted [] all = at_end
sighted (x ∷ q) all =
    let rest = sighted q all.1 in
    record {
      clear = λ b o. afresh x q all.0 rest o;
      word = λ w b is. after_word x q all.0 rest w b is;
      paren = λ w p b o is isnt opens. after_paren x q all.0 rest w p b o is isnt opens;
      inside = λ n b o. closes x q all.0 rest n b o
          ∙ sym (ap (opening_along b) (kept_inside n x q all.0));
    }

-- from the beginning of a block
pub sight_is : (q : List WideToken) → AllByRecursion IsInner q
    → sight_opening (look_along sight_start q) ≡ opening_along None (kept_from attribute.Outside q)
sight_is q all = (sighted q all).clear None None
