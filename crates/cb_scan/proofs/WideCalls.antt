-- The pass finds the called name of a part.
use Rattle.std.proofs.Common.{◌≡◌, ◌∙◌, suc, ◌+◌, Bool, true, false, List, [], ◌∷◌, Option}
use Rattle.std.proofs.Common.{Some, None, refl, sym, ap, length, drop, arith, ⊎_elim}
use Rattle.std.proofs.lemmas.Bool.{cases_Bool, eqb-true, false≢true, le-leb}
use Rattle.std.specs.Prelude.{◌&&◌, ◌||◌, ◌==◌, cond, nat_le, take, if◌then◌else◌}
use Rattle.std.specs.List.{list_any, prefix_len}
use Rattle.std.specs.Option.{option_map, option_map_or, option_or}
use Rattle.cb_scan.specs.declared.rules.wide.called.Amount.TheVariants.{More}
use Rattle.cb_scan.specs.declared.rules.wide.called.CalledName.{CalledName}
use Rattle.cb_scan.specs.declared.rules.wide.called.Calls.{Calls}
use Rattle.cb_scan.specs.declared.rules.wide.called.Enclosed.{Enclosed}
use Rattle.cb_scan.specs.declared.rules.wide.role.WideRole.{WideRole}
use Rattle.cb_scan.specs.declared.rules.wide.role.WideRole.TheVariants as wide
use Rattle.cb_scan.specs.declared.rules.wide.token.WideToken.{WideToken}
use Rattle.cb_scan.specs.rules.wide.Levels.{Numbered, is_byte, is_outer, is_outer_byte}
use Rattle.cb_scan.specs.rules.wide.Names.{begins_with, called_inside, called_name, closes_and_opens}
use Rattle.cb_scan.specs.rules.wide.Names.{is_word, last_name, last_of, words_and_stars}
use Rattle.cb_scan.specs.rules.wide.Words.{is_sign, is_wide_name, is_wide_word}
use Rattle.cb_scan.specs.steps.wide.Ahead.{first_is}
use Rattle.cb_scan.specs.steps.wide.Along.{calls_from, items}
use Rattle.cb_scan.specs.steps.wide.Called.{after_enclosed, amount_after, call_of, enclosed_start}
use Rattle.cb_scan.specs.steps.wide.Called.{is_more, next_enclosed, no_calls}
use Rattle.cb_scan.proofs.WidePointers.{same_byte}

-- a word or a star
abbrev goes_on : Numbered → Bool
goes_on x = is_word x || is_byte 42 x

-- the words and stars that come first
words_true : (x : Numbered) (xs : List Numbered) → goes_on x ≡ true
    → words_and_stars (x ∷ xs) ≡ x ∷ words_and_stars xs
words_true x xs is =
    let one : 1 + prefix_len goes_on xs ≡ suc (prefix_len goes_on xs) = omega arith in
    ap (λ b. take (cond b (1 + prefix_len goes_on xs) 0) (x ∷ xs)) is
    ∙ ap (λ n. take n (x ∷ xs)) one

words_false : (x : Numbered) (xs : List Numbered) → goes_on x ≡ false → words_and_stars (x ∷ xs) ≡ []
words_false x xs isnt = ap (λ b. take (cond b (1 + prefix_len goes_on xs) 0) (x ∷ xs)) isnt

-- the state after some words, and the name that is called where they end
after_words : Enclosed → List Numbered → Enclosed
after_words e [] = e
after_words e (x ∷ xs) = after_words (next_enclosed e x.item) xs

called_then : Enclosed → List Numbered → Option CalledName
called_then e [] = None
called_then e (x ∷ xs) = call_of e (items (x ∷ xs)) x.item

-- the same along all tokens
inside : Enclosed → List Numbered → Option CalledName
inside e [] = None
inside e (x ∷ xs) =
    cond (goes_on x) (inside (next_enclosed e x.item) xs) (call_of e (items (x ∷ xs)) x.item)

inside_is : (e : Enclosed) (xs : List Numbered)
    → inside e xs
    ≡ called_then (after_words e (words_and_stars xs)) (drop (length (words_and_stars xs)) xs)
unfolding after_words called_then inside
inside_is e [] = refl
inside_is e (x ∷ xs) =
    let from : List Numbered → Option CalledName =
    λ ws. called_then (after_words e ws) (drop (length ws) (x ∷ xs)) in
    ⊎_elim
    (λ is.
    ap (λ b. cond b (inside (next_enclosed e x.item) xs) (call_of e (items (x ∷ xs)) x.item)) is
    ∙ inside_is (next_enclosed e x.item) xs
    ∙ sym (ap from (words_true x xs is)))
    (λ isnt.
    ap (λ b. cond b (inside (next_enclosed e x.item) xs) (call_of e (items (x ∷ xs)) x.item)) isnt
    ∙ sym (ap from (words_false x xs isnt)))
    (cases_Bool (goes_on x))

-- ---- what the state knows of the words

more_stays : (e : Enclosed) (ws : List Numbered) → e.amount ≡ More → (after_words e ws).amount ≡ More
unfolding after_words
more_stays e [] is = is
more_stays e (w ∷ ws) is = more_stays (next_enclosed e w.item) ws (ap amount_after is)

more_is : (ws : List Numbered) → is_more (after_words enclosed_start ws).amount ≡ nat_le 2 (length ws)
unfolding after_words
more_is [] = refl
more_is (v ∷ []) = refl
more_is (v ∷ w ∷ ws) =
    ap is_more (more_stays (next_enclosed (next_enclosed enclosed_start v.item) w.item) ws refl)
    ∙ sym (le-leb 2 (length (v ∷ w ∷ ws)) (omega arith))

-- the last of the words, if it is a name
abbrev if_name : Option WideToken → Option WideToken
if_name o = option_map_or (λ (x : WideToken). if is_wide_name x.role then Some x else None) o None

last_is : (e : Enclosed) (w : Numbered) (ws : List Numbered)
    → (after_words e (w ∷ ws)).last ≡ if_name (last_of (w ∷ ws))
unfolding after_words last_of
last_is e w [] = refl
last_is e w (v ∷ ws) = last_is (next_enclosed e w.item) v ws

or_together : (a b c : Bool) → ((a || b) || c) ≡ (a || (b || c))
or_together true b c = refl
or_together false b c = refl

starred_is : (e : Enclosed) (ws : List Numbered)
    → (after_words e ws).starred ≡ (e.starred || list_any (is_byte 42) ws)
unfolding after_words
starred_is e [] = elim (e.starred) as (λ b. b ≡ (b || false)) [ true ↦ refl | false ↦ refl ]
starred_is e (w ∷ ws) =
    starred_is (next_enclosed e w.item) ws
    ∙ or_together e.starred (is_sign 42 w.item.role) (list_any (is_byte 42) ws)

and_together : (a b c : Bool) → (a && b && c) ≡ (a && (b && c))
and_together true b c = refl
and_together false b c = refl

abbrev called_with : Bool → WideToken → CalledName
called_with s x = record { name = x; starred = s }

named_last : (s : Bool) (o : Option WideToken)
    → option_map (called_with s) (if_name o)
    ≡ option_map_or (λ (x : WideToken). if is_wide_name x.role
    then Some (called_with s x) else None) o None
named_last s None = refl
named_last s (Some x) =
    elim (is_wide_name x.role) as (λ b.
    option_map (called_with s) (if b then Some x else None)
    ≡ (if b then Some (called_with s x) else None))
    [ true ↦ refl | false ↦ refl ]

-- the name that is called after some words
abbrev meant : List Numbered → List Numbered → Option CalledName
meant ws rest = if nat_le 2 (length ws) && closes_and_opens rest then last_name ws else None

never : (b : Bool) (o : Option CalledName) → None ≡ (if b && false then o else None)
never true o = refl
never false o = refl

called_is : (ws rest : List Numbered) → called_then (after_words enclosed_start ws) rest ≡ meant ws rest
unfolding called_then after_words last_of
called_is ws [] = never (nat_le 2 (length ws)) (last_name ws)
called_is [] (x ∷ xs) = refl
called_is (w ∷ ws) (x ∷ xs) =
    let e = after_words enclosed_start (w ∷ ws) in
    let out : Option CalledName = option_map (called_with e.starred) e.last in
    ap (λ b. if is_more e.amount && is_byte 41 x && b then out else None) (same_byte 40 xs)
    ∙ ap (λ b. if b && is_byte 41 x && begins_with 40 xs then out else None) (more_is (w ∷ ws))
    ∙ ap (λ b. if b then out else None)
    (and_together (nat_le 2 (length (w ∷ ws))) (is_byte 41 x) (begins_with 40 xs))
    ∙ ap (λ o. if nat_le 2 (length (w ∷ ws)) && closes_and_opens (x ∷ xs)
    then option_map (called_with e.starred) o else None)
    (last_is enclosed_start w ws)
    ∙ ap (λ s. if nat_le 2 (length (w ∷ ws)) && closes_and_opens (x ∷ xs)
    then option_map (called_with s) (if_name (last_of (w ∷ ws))) else None)
    (starred_is enclosed_start (w ∷ ws))
    ∙ ap (λ o. if nat_le 2 (length (w ∷ ws)) && closes_and_opens (x ∷ xs) then o else None)
    (named_last (list_any (is_byte 42) (w ∷ ws)) (last_of (w ∷ ws)))

inside_start : (xs : List Numbered) → inside enclosed_start xs ≡ called_inside xs
inside_start xs =
    inside_is enclosed_start xs
    ∙ called_is (words_and_stars xs) (drop (length (words_and_stars xs)) xs)

-- ---- the pass

found : (e : Option Enclosed) (f : CalledName) (xs : List Numbered)
    → (calls_from (record { enclosed = e; found = Some f }) xs).found ≡ Some f
unfolding calls_from
found e f [] = refl
found e f (x ∷ xs) = found e f xs

-- a `(` is no word and no `)`
paren_is_no_word : (r : WideRole) → is_sign 40 r ≡ true → (is_wide_word r || is_sign 42 r) ≡ false
paren_is_no_word (wide.Mark x) is = ap (λ b. b == 42) (eqb-true x 40 is)
paren_is_no_word wide.Name is = absurd (false≢true is)
paren_is_no_word wide.Underscored is = absurd (false≢true is)
paren_is_no_word wide.Struct is = absurd (false≢true is)
paren_is_no_word wide.Union is = absurd (false≢true is)
paren_is_no_word wide.Enum is = absurd (false≢true is)
paren_is_no_word wide.Typedef is = absurd (false≢true is)
paren_is_no_word wide.Extern is = absurd (false≢true is)
paren_is_no_word wide.Static is = absurd (false≢true is)
paren_is_no_word wide.Specifier is = absurd (false≢true is)
paren_is_no_word wide.Attribute is = absurd (false≢true is)
paren_is_no_word wide.Statement is = absurd (false≢true is)
paren_is_no_word wide.Reserved is = absurd (false≢true is)
paren_is_no_word wide.Str is = refl
paren_is_no_word wide.Number is = refl
paren_is_no_word wide.Character is = refl

paren_closes_none : (r : WideRole) → is_sign 40 r ≡ true → is_sign 41 r ≡ false
paren_closes_none (wide.Mark x) is = ap (λ b. b == 41) (eqb-true x 40 is)
paren_closes_none wide.Name is = refl
paren_closes_none wide.Underscored is = refl
paren_closes_none wide.Struct is = refl
paren_closes_none wide.Union is = refl
paren_closes_none wide.Enum is = refl
paren_closes_none wide.Typedef is = refl
paren_closes_none wide.Extern is = refl
paren_closes_none wide.Static is = refl
paren_closes_none wide.Specifier is = refl
paren_closes_none wide.Attribute is = refl
paren_closes_none wide.Statement is = refl
paren_closes_none wide.Reserved is = refl
paren_closes_none wide.Str is = refl
paren_closes_none wide.Number is = refl
paren_closes_none wide.Character is = refl

and_right : (a b : Bool) → (a && b) ≡ true → b ≡ true
and_right true b is = is
and_right false b is = absurd (false≢true is)

not_called : (a c : Bool) (o : Option CalledName) → (if a && false && c then o else None) ≡ None
not_called true c o = refl
not_called false c o = refl

-- at a `(` nothing is called
none_inside : (e : Enclosed) (x : Numbered) (xs : List Numbered) → is_byte 40 x ≡ true
    → inside e (x ∷ xs) ≡ None
unfolding inside
none_inside e x xs is =
    let out : Option CalledName = option_map (called_with e.starred) e.last in
    ap (λ b. cond b (inside (next_enclosed e x.item) xs) (call_of e (items (x ∷ xs)) x.item))
    (paren_is_no_word x.item.role is)
    ∙ ap (λ b. if is_more e.amount && b && first_is 40 (items xs) then out else None)
    (paren_closes_none x.item.role is)
    ∙ not_called (is_more e.amount) (first_is 40 (items xs)) out

-- outside of such parentheses, and inside
record Calling (xs : List Numbered) : Type 0 where
  none : (calls_from no_calls xs).found ≡ called_name xs
  some : (e : Enclosed)
      → (calls_from (record { enclosed = Some e; found = None }) xs).found
      ≡ option_or (inside e xs) (called_name xs)

-- the state after a `(`
abbrev opened : Calls
opened = record { enclosed = Some enclosed_start; found = None }

step_none : (x : Numbered) (xs : List Numbered) → Calling xs
    → (calls_from no_calls (x ∷ xs)).found ≡ called_name (x ∷ xs)
unfolding calls_from called_name
step_none x xs all =
    elim (is_outer_byte 40 x) as (λ b. (calls_from (cond b opened no_calls) xs).found
    ≡ option_or (cond b (called_inside xs) None) (called_name xs)) [
      | true ↦ all.some enclosed_start ∙ ap (λ o. option_or o (called_name xs)) (inside_start xs)
      | false ↦ all.none
    ]

-- a token inside that is no such `(`
step_inner : (e : Enclosed) (x : Numbered) (xs : List Numbered) → Calling xs
    → (calls_from (after_enclosed (Some e) (items (x ∷ xs)) x.item) xs).found
    ≡ option_or (inside e (x ∷ xs)) (called_name xs)
unfolding inside
step_inner e x xs all =
    elim (goes_on x) as (λ b. (calls_from (cond b
    (record { enclosed = Some (next_enclosed e x.item); found = None })
    (record { enclosed = None; found = call_of e (items (x ∷ xs)) x.item })) xs).found
    ≡ option_or (cond b (inside (next_enclosed e x.item) xs) (call_of e (items (x ∷ xs)) x.item))
    (called_name xs)) [
      | true ↦ all.some (next_enclosed e x.item)
      | false ↦ elim (call_of e (items (x ∷ xs)) x.item) as (λ o.
          (calls_from (record { enclosed = None; found = o }) xs).found ≡ option_or o (called_name xs)) [
            | None ↦ all.none
            | Some f ↦ found None f xs
          ]
    ]

step_some : (e : Enclosed) (x : Numbered) (xs : List Numbered) → Calling xs
    → (calls_from (record { enclosed = Some e; found = None }) (x ∷ xs)).found
    ≡ option_or (inside e (x ∷ xs)) (called_name (x ∷ xs))
unfolding calls_from called_name
step_some e x xs all =
    ⊎_elim
    (λ is.
    ap (λ b. (calls_from (cond b opened (after_enclosed (Some e) (items (x ∷ xs)) x.item)) xs).found) is
    ∙ all.some enclosed_start
    ∙ ap (λ o. option_or o (called_name xs)) (inside_start xs)
    ∙ ap (λ b. option_or (cond b (called_inside xs) None) (called_name xs)) (sym is)
    ∙ ap (λ o. option_or o (called_name (x ∷ xs)))
    (sym (none_inside e x xs (and_right (is_outer x) (is_byte 40 x) is))))
    (λ isnt.
    ap (λ b. (calls_from (cond b opened (after_enclosed (Some e) (items (x ∷ xs)) x.item)) xs).found) isnt
    ∙ step_inner e x xs all
    ∙ ap (λ b. option_or (inside e (x ∷ xs)) (option_or (cond b (called_inside xs) None) (called_name xs)))
    (sym isnt))
    (cases_Bool (is_outer_byte 40 x))

calling : (xs : List Numbered) → Calling xs
unfolding calls_from called_name inside
calling [] = record { none = refl; some = λ e. refl }
calling (x ∷ xs) = record {
  none = step_none x xs (calling xs);
  some = λ e. step_some e x xs (calling xs);
}

-- the pass over a part
pub calls_are : (xs : List Numbered) → (calls_from no_calls xs).found ≡ called_name xs
calls_are xs = (calling xs).none
