-- The state that folds the tokens of a head knows what the rule on functions asks of the whole
-- list.
use Rattle.std.proofs.Common.{◌≡◌, ◌∙◌, Bool, true, false, List, [], ◌∷◌, ◌++◌, Option, Some, None, refl, sym, ap, fold}
use Rattle.std.specs.Prelude.{◌||◌, ◌&&◌, not, if◌then◌else◌}
use Rattle.std.proofs.Math.Bool.{or-false}
use Rattle.std.specs.List.{list_any, last_or}
use Rattle.std.specs.Option.{is_none, option_map, option_to_list}
use Rattle.cb_scan.specs.declared.rules.heads.Head.{Head}
use Rattle.cb_scan.specs.declared.lex.token.Token.{Token}
use Rattle.cb_scan.specs.declared.facts.Def.{Def}
use Rattle.cb_scan.specs.declared.rules.heads.Listing.TheVariants.{Nothing, Open, Name, Closed, Whole, Other}
use Rattle.cb_scan.specs.lex.Tokens.{is_any_word, is_mark, is_name_token, is_typedef, is_static}
use Rattle.cb_scan.specs.rules.Heads.{Signature, begins_with_typedef, called_name, defined_name}
use Rattle.cb_scan.specs.rules.Heads.{ends_in_declarator, may_define, signed}
use Rattle.cb_scan.specs.rules.OldStyle.{after_called, begins_with_word, is_declaration, is_opening, lists_names}
use Rattle.cb_scan.specs.steps.Heads.{add, called_after, declares, def_of, defined, empty_head}
use Rattle.cb_scan.specs.steps.Heads.{is_whole, listing_after, may_end, opened, opens}

or_assoc : (a b c : Bool) → ((a || b) || c) ≡ (a || (b || c))
or_assoc true b c = refl
or_assoc false b c = refl

-- the flags gather what any token has
equals_of : (st : Head) (h : List Token)
    → (fold add st h).has_equals ≡ (st.has_equals || list_any (λ (t : Token). is_mark 61 t.role) h)
equals_of st [] = sym (or-false st.has_equals)
equals_of st (t ∷ h) = equals_of (add st t) h ∙ or_assoc st.has_equals (is_mark 61 t.role) _

static_of : (st : Head) (h : List Token)
    → (fold add st h).has_static ≡ (st.has_static || list_any (λ (t : Token). is_static t.role) h)
static_of st [] = sym (or-false st.has_static)
static_of st (t ∷ h) = static_of (add st t) h ∙ or_assoc st.has_static (is_static t.role) _

last_of : (st : Head) (h : List Token) → (fold add st h).last ≡ last_or st.last h
last_of st [] = refl
last_of st (t ∷ h) = last_of (add st t) h

-- once there is a token, the first one is settled
typedef_kept : (st : Head) (h : List Token) → is_none st.last ≡ false
    → (fold add st h).begins_with_typedef ≡ st.begins_with_typedef
typedef_kept st [] some = refl
typedef_kept st (t ∷ h) some =
    typedef_kept (add st t) h refl ∙ ap (λ b. if b then is_typedef t.role else st.begins_with_typedef) some

typedef_of : (h : List Token) → (fold add empty_head h).begins_with_typedef ≡ begins_with_typedef h
typedef_of [] = refl
typedef_of (t ∷ h) = typedef_kept (add empty_head t) h refl

-- once there is a called name, it stays
called_kept : (st : Head) (name : Token) (h : List Token) → st.called ≡ Some name → (fold add st h).called ≡ Some name
called_kept st name [] is = is
called_kept st name (t ∷ h) is = called_kept (add st t) name h (ap (λ c. called_after c st.last t) is)

-- until then it is that of the last token and what follows
called_of : (st : Head) (last : Option Token) (h : List Token) → st.called ≡ None → st.last ≡ last
    → (fold add st h).called ≡ called_name (option_to_list last ++ h)
unfolding called_name
called_of st None [] none is = none
called_of st (Some n) [] none is = none
called_of st None (t ∷ h) none is = called_of (add st t) (Some t) h ((λ i. called_after (none i) (is i) t)) refl
called_of st (Some n) (t ∷ h) none is =
    let after : (add st t).called ≡ (if is_name_token n.role && is_mark 40 t.role then Some n else None) =
    (λ i. called_after (none i) (is i) t) in
    elim (is_name_token n.role && is_mark 40 t.role) as (λ b. (add st t).called ≡ (if b then Some n else None)
    → (fold add st (t ∷ h)).called ≡ (if b then Some n else called_name (t ∷ h))) [
      | true ↦ λ e. called_kept (add st t) n h e
      | false ↦ λ e. called_of (add st t) (Some t) h e refl
    ] after

ends_of : (h : List Token) → may_end (last_or None h) ≡ ends_in_declarator h
unfolding ends_in_declarator
ends_of [] = refl
ends_of (t ∷ []) = refl
ends_of (t ∷ u ∷ h) = ends_of (u ∷ h)

-- the first token of all is settled once there is one
word_kept : (st : Head) (h : List Token) → is_none st.last ≡ false
    → (fold add st h).begins_with_word ≡ st.begins_with_word
word_kept st [] some = refl
word_kept st (t ∷ h) some =
    word_kept (add st t) h refl ∙ ap (λ b. if b then is_any_word t.role else st.begins_with_word) some

word_of : (h : List Token) → (fold add empty_head h).begins_with_word ≡ begins_with_word h
word_of [] = refl
word_of (t ∷ h) = word_kept (add empty_head t) h refl

-- ---- the list of names behind the called name
other_stays : (st : Head) (h : List Token) → st.listing ≡ Other → is_whole (fold add st h).listing ≡ false
other_stays st [] is = ap is_whole is
other_stays st (t ∷ h) is = other_stays (add st t) h (ap (λ l. listing_after l st.last t) is)

whole_stays : (st : Head) (h : List Token) → st.listing ≡ Whole → is_whole (fold add st h).listing ≡ true
whole_stays st [] is = ap is_whole is
whole_stays st (t ∷ h) is = whole_stays (add st t) h (ap (λ l. listing_after l st.last t) is)

closed_of : (st : Head) (h : List Token) → st.listing ≡ Closed
    → is_whole (fold add st h).listing ≡ begins_with_word h
closed_of st [] is = ap is_whole is
closed_of st (t ∷ h) is =
    elim (is_any_word t.role) as (λ b. (add st t).listing ≡ (if b then Whole else Other)
    → is_whole (fold add (add st t) h).listing ≡ b) [
      | true ↦ λ e. whole_stays (add st t) h e
      | false ↦ λ e. other_stays (add st t) h e
    ] (ap (λ l. listing_after l st.last t) is)

names_of : (st : Head) (h : List Token) → st.listing ≡ Open → is_whole (fold add st h).listing ≡ lists_names h
unfolding lists_names
names_of st [] is = ap is_whole is
names_of st (t ∷ []) is =
    ap (λ l. is_whole (listing_after l st.last t)) is
    ∙ elim (is_name_token t.role) as (λ b. is_whole (if b then Name else Other) ≡ false) [ true ↦ refl | false ↦ refl ]
names_of st (t ∷ u ∷ h) is =
    elim (is_name_token t.role) as (λ b. (add st t).listing ≡ (if b then Name else Other)
    → is_whole (fold add (add st t) (u ∷ h)).listing
    ≡ (b && (if is_mark 44 u.role then lists_names h else is_mark 41 u.role && begins_with_word h))) [
      | true ↦ λ e. elim (is_mark 44 u.role) as (λ b.
          (add (add st t) u).listing ≡ (if b then Open else (if is_mark 41 u.role then Closed else Other))
          → is_whole (fold add (add (add st t) u) h).listing
          ≡ (if b then lists_names h else is_mark 41 u.role && begins_with_word h)) [
            | true ↦ λ f. names_of (add (add st t) u) h f
            | false ↦ λ f. elim (is_mark 41 u.role) as (λ b.
                (add (add st t) u).listing ≡ (if b then Closed else Other)
                → is_whole (fold add (add (add st t) u) h).listing ≡ (b && begins_with_word h)) [
                  | true ↦ λ g. closed_of (add (add st t) u) h g
                  | false ↦ λ g. other_stays (add (add st t) u) h g
                ] f
          ] (ap (λ l. listing_after l (Some t) u) e)
      | false ↦ λ e. other_stays (add st t) (u ∷ h) e
    ] (ap (λ l. listing_after l st.last t) is)

-- until a name is called, it is that of the last token and what follows
listing_of : (st : Head) (last : Option Token) (h : List Token) → st.listing ≡ Nothing → st.last ≡ last
    → is_whole (fold add st h).listing ≡ lists_names (after_called (option_to_list last ++ h))
unfolding after_called lists_names
listing_of st None [] none is = ap is_whole none
listing_of st (Some n) [] none is = ap is_whole none
listing_of st None (t ∷ h) none is =
    listing_of (add st t) (Some t) h ((λ i. listing_after (none i) (is i) t)) refl
listing_of st (Some n) (t ∷ h) none is =
    let after : (add st t).listing ≡ (if is_name_token n.role && is_mark 40 t.role then Open else Nothing) =
    (λ i. listing_after (none i) (is i) t) in
    elim (is_name_token n.role && is_mark 40 t.role) as (λ b. (add st t).listing ≡ (if b then Open else Nothing)
    → is_whole (fold add (add st t) h).listing ≡ lists_names (if b then h else after_called (t ∷ h))) [
      | true ↦ λ e. names_of (add st t) h e
      | false ↦ λ e. listing_of (add st t) (Some t) h e refl
    ] after

-- ---- all that the rules ask
-- the definition of a function with that signature
abbrev pub signature_def : Signature → Def
signature_def s = def_of s.local s.name

-- whether it is static
static_is : (h : List Token) → (fold add empty_head h).has_static ≡ list_any (λ (t : Token). is_static t.role) h
static_is h = static_of empty_head h

by_name : (h : List Token) (o : Option Token)
    → option_map (def_of (list_any (λ (t : Token). is_static t.role) h)) o ≡ option_map signature_def (signed h o)
by_name h None = refl
by_name h (Some name) = refl

-- what the called name names
pub opened_of : (h : List Token)
    → opened (fold add empty_head h) ≡ option_map signature_def (signed h (called_name h))
opened_of h = (λ i. option_map (def_of (static_is h i)) (called_of empty_head None h refl refl i))
    ∙ by_name h (called_name h)

-- the called name
pub called_is : (h : List Token) → (fold add empty_head h).called ≡ called_name h
called_is h = called_of empty_head None h refl refl

-- a head that is a function's, by a name
pub named_of : (h : List Token) (o : Option Token)
    → (if not (fold add empty_head h).begins_with_typedef && not (fold add empty_head h).has_equals
    && may_end (fold add empty_head h).last
    then option_map (def_of (fold add empty_head h).has_static) o else None)
    ≡ option_map signature_def (signed h (if may_define h then o else None))
named_of h o =
    (λ i. if not (typedef_of h i) && not (equals_of empty_head h i)
    && (ap may_end (last_of empty_head h) ∙ ends_of h) i
    then option_map (def_of (static_is h i)) o else None)
    ∙ ap (λ (d : Option Def). if may_define h then d else None) (by_name h o)
    ∙ elim (may_define h) as (λ b. (if b then option_map signature_def (signed h o) else None)
    ≡ option_map signature_def (signed h (if b then o else None))) [ true ↦ refl | false ↦ refl ]

-- what a head defines
pub defined_of : (h : List Token)
    → defined (fold add empty_head h) ≡ option_map signature_def (signed h (defined_name h))
defined_of h =
    named_of h (fold add empty_head h).called
    ∙ ap (λ o. option_map signature_def (signed h (if may_define h then o else None))) (called_is h)

-- whether tokens open a function in the old style, and whether they are a declaration
pub opens_of : (h : List Token) → opens (fold add empty_head h) ≡ is_opening h
opens_of h = λ i. not (typedef_of h i) && not (equals_of empty_head h i)
    && listing_of empty_head None h refl refl i

pub declares_of : (h : List Token) → declares (fold add empty_head h) ≡ is_declaration h
declares_of h = λ i. word_of h i && not (typedef_of h i) && not (equals_of empty_head h i)
