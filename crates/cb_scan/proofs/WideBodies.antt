-- The pass opens the bodies of the rules, with their tags, and finds what they define.
use Rattle.std.proofs.Common.{◌≡◌, ◌∙◌, ℕ, zero, suc, ◌+◌, ◌<◌, ◌≤◌, Bool, true, false, List, [], ◌∷◌, ◌++◌}
use Rattle.std.proofs.Common.{refl, sym, ap, subst, arith, add-one, append_assoc, drop, map, length, ⊎_elim}
use Rattle.std.proofs.Common.{Option, Some, None}
use Rattle.std.proofs.lemmas.Bool.{cases_Bool, eq-eqb, eqb-true, false_from_ne_true}
use Rattle.std.proofs.lemmas.List.{append-nil, reverse-append}
use Rattle.std.proofs.lemmas.List.Concat.{flat_map-append}
use Rattle.std.proofs.lemmas.List.Folds.{find-append}
use Rattle.std.specs.Prelude.{◌||◌, ◌==◌, cond, reverse, take, if◌then◌else◌}
use Rattle.std.specs.List.{flat_map, range_with_len}
use Rattle.std.specs.List.Sorted.{IsPermutation}
use Rattle.std.specs.Option.{is_some, option_map, option_map_or, option_or}
use Rattle.cb_scan.specs.declared.facts.Kind.{Kind}
use Rattle.cb_scan.specs.declared.lex.token.Token.{Token}
use Rattle.cb_scan.specs.declared.facts.Tag.{Tag}
use Rattle.cb_scan.specs.declared.facts.Def.{Def}
use Rattle.cb_scan.specs.declared.facts.Kind.TheVariants as kind
use Rattle.cb_scan.specs.declared.rules.wide.level.Level.{Level}
use Rattle.cb_scan.specs.declared.rules.wide.level.Level.TheVariants.{Block, Enumerators, Members}
use Rattle.cb_scan.specs.declared.rules.wide.opening.Opening.{Opening}
use Rattle.cb_scan.specs.declared.rules.wide.token.WideToken.{WideToken}
use Rattle.cb_scan.specs.rules.wide.Bodies.{Body, before, bodies, body_after, body_at, body_in, first_kind}
use Rattle.cb_scan.specs.rules.wide.Bodies.{first_token, is_enumeration, names_first, placed_at, tag_around}
use Rattle.cb_scan.specs.rules.wide.Bodies as rules
use Rattle.cb_scan.specs.rules.wide.Bodies.{enumerators, opens_body}
use Rattle.cb_scan.specs.rules.wide.Declarations.{body_declarations, naming_parts}
use Rattle.cb_scan.specs.rules.wide.Kinds.{content_defs, def_in, enumerator_defs, member_defs, member_of}
use Rattle.cb_scan.specs.rules.wide.Kinds.{tag_defs}
use Rattle.cb_scan.specs.rules.wide.Levels.{Placed, around_after, level_inside, placed}
use Rattle.cb_scan.specs.rules.wide.Words.{is_sign}
use Rattle.cb_scan.specs.steps.wide.Contents.{contents_from, level_defs, next_level, tag_inside}
use Rattle.cb_scan.specs.steps.wide.Declarations.{declaration_start}
use Rattle.cb_scan.specs.steps.wide.Enumerators.{enumeration_start}
use Rattle.cb_scan.specs.steps.wide.Levels.{member_tag, opened, or_around}
use Rattle.cb_scan.specs.steps.wide.Openings as openings
use Rattle.cb_scan.specs.steps.wide.Openings.{first, next_opening, opening_after, opening_tag, tags_from}
use Rattle.cb_scan.specs.steps.wide.Openings.{the_opening}
use Rattle.cb_scan.proofs.WideContents.{enumerators_of_level, members_of_level}
use Rattle.cb_scan.proofs.WideOpenings.{opening_next}
use Rattle.cb_scan.proofs.WideStack.{goes_on_places}
use Rattle.cb_scan.proofs.WideStack.{Open, Rise, content, goes_on, levels, next_opens}
use Rattle.cb_scan.proofs.WideStack.{next_are_places, opens_from, places, stack_is}

-- ---- bodies, one token after the other

-- the body that a token opens, after these, the nearest first
abbrev pub body_here : List WideToken → Placed → List Body
body_here before p = if p.item.counted then body_after p before else []

abbrev pub bodies_from : List WideToken → List Placed → List Body
bodies_from before [] = []
bodies_from before (p ∷ ps) = body_here before p ++ bodies_from (p.item ∷ before) ps

at_next : (k : ℕ) (ps : List Placed) (q : Placed) (qs : List Placed) → drop k ps ≡ q ∷ qs → placed_at ps k ≡ q
at_next zero [] q qs e = ap (λ l. placed_at l 0) e
at_next (suc k) [] q qs e = ap (λ l. placed_at l 0) e
at_next zero (p ∷ ps) q qs e = ap (λ l. placed_at l 0) e
at_next (suc k) (p ∷ ps) q qs e = at_next k ps q qs e

drop_next : (k : ℕ) (ps : List Placed) → drop 1 (drop k ps) ≡ drop (suc k) ps
drop_next zero [] = refl
drop_next (suc k) [] = refl
drop_next zero (p ∷ ps) = refl
drop_next (suc k) (p ∷ ps) = drop_next k ps

take_next : (k : ℕ) (ps : List Placed) (q : Placed) (qs : List Placed) → drop k ps ≡ q ∷ qs
    → take (suc k) ps ≡ take k ps ++ (q ∷ [])
take_next zero [] q qs e = ap (take 1) e
take_next (suc k) [] q qs e = ap (take 1) e
take_next zero (p ∷ ps) q qs e = ap (take 1) e
take_next (suc k) (p ∷ ps) q qs e = ap (λ l. p ∷ l) (take_next k ps q qs e)

before_next : (k : ℕ) (ps : List Placed) (q : Placed) (qs : List Placed) → drop k ps ≡ q ∷ qs
    → before ps (suc k) ≡ q.item ∷ before ps k
before_next k ps q qs e =
    ap (λ l. map (λ (p : Placed). p.item) (reverse l)) (take_next k ps q qs e)
    ∙ ap (map (λ (p : Placed). p.item)) (reverse-append (take k ps) (q ∷ []))

by_index : (ps : List Placed) (k : ℕ) (rest : List Placed) → drop k ps ≡ rest
    → flat_map (body_at ps) (range_with_len k (length rest)) ≡ bodies_from (before ps k) rest
by_index ps k [] left = refl
by_index ps k (q ∷ qs) left =
    ap (λ p. body_here (before ps k) p ++ flat_map (body_at ps) (range_with_len (k + 1) (length qs)))
    (at_next k ps q qs left)
    ∙ ap (λ j. body_here (before ps k) q ++ flat_map (body_at ps) (range_with_len j (length qs))) (add-one k)
    ∙ ap (λ l. body_here (before ps k) q ++ l)
    (by_index ps (suc k) qs (sym (drop_next k ps) ∙ ap (drop 1) left))
    ∙ ap (λ l. body_here (before ps k) q ++ bodies_from l qs) (before_next k ps q qs left)

pub bodies_are : (ps : List Placed) → bodies ps ≡ bodies_from [] ps
bodies_are ps = by_index ps 0 ps refl

-- ---- a body by its place

-- what a `{` opens, if it opens a body
abbrev pub body_of_kind : Placed → List WideToken → Option Kind → Option Body
body_of_kind p names kind = option_map (λ (k : Kind). record {
  kind = k;
  tag = first_token names;
  place = p.item.token.span.start;
  around = p.around;
}) kind

abbrev pub body_opened : List WideToken → Placed → Option Body
body_opened before p =
    body_of_kind p (names_first before) (first_kind (drop (length (names_first before)) before))

-- it is in its place
by_place : (p : Placed) (names : List WideToken) (k : Option Kind) (more : List Body)
    → body_in more p.item.token.span.start ≡ None
    → body_in (rules.body_of p names k ++ more) p.item.token.span.start ≡ body_of_kind p names k
by_place p names None more none = none
by_place p names (Some k) more none =
    ap (λ b. cond b (body_of_kind p names (Some k)) (body_in more p.item.token.span.start))
    (eq-eqb p.item.token.span.start p.item.token.span.start refl)

-- and in no other
not_at : (p : Placed) (names : List WideToken) (k : Option Kind) (place : ℕ)
    → (p.item.token.span.start == place) ≡ false → body_in (rules.body_of p names k) place ≡ None
not_at p names None place other = refl
not_at p names (Some k) place other = ap (λ b. cond b (body_of_kind p names (Some k)) None) other

unequal : (p q : ℕ) → p < q → (p == q) ≡ false
unequal p q less = false_from_ne_true (p == q) (λ e. let same : p ≡ q = eqb-true p q e in absurd (omega arith))

unequal_back : (p q : ℕ) → q < p → (p == q) ≡ false
unequal_back p q less = false_from_ne_true (p == q) (λ e. let same : p ≡ q = eqb-true p q e in absurd (omega arith))

here_not_at : (before : List WideToken) (p : Placed) (place : ℕ)
    → (p.item.token.span.start == place) ≡ false → body_in (body_here before p) place ≡ None
here_not_at before p place other =
    elim (p.item.counted) as (λ b. body_in (cond b (body_after p before) []) place ≡ None) [
      | true ↦ not_at p (names_first before) (first_kind (drop (length (names_first before)) before)) place other
      | false ↦ refl
    ]

none_of_both : (place : ℕ) (bs cs : List Body) → body_in bs place ≡ None → body_in cs place ≡ None
    → body_in (bs ++ cs) place ≡ None
none_of_both place bs cs no_b no_c =
    find-append (λ (b : Body). b.place == place) bs cs
    ∙ ap (λ o. option_or o (body_in cs place)) no_b
    ∙ no_c

-- no body that is to come has a place before
none_to_come : (place n : ℕ) (before : List WideToken) (around : List ℕ) (xs : List WideToken)
    → place < n → Rise n xs → body_in (bodies_from before (placed around xs)) place ≡ None
unfolding placed
none_to_come place n before around [] less rise = refl
none_to_come place n before around (x ∷ xs) less rise =
    let le = rise.0 in
    let here : Placed = record { item = x; around = around } in
    none_of_both place (body_here before here) (bodies_from (x ∷ before) (placed (around_after x around) xs))
    (here_not_at before here place (unequal_back x.token.span.start place (omega arith)))
    (none_to_come place (suc x.token.span.start) (x ∷ before) (around_after x around) xs (omega arith) rise.1.1)

-- ---- tags

-- each open level has the tag of the rules around its members
abbrev Tagged : List Body → List Open → Type 0
Tagged bs [] = Unit {0}
Tagged bs (o ∷ os) = (member_tag o.level ≡ tag_around bs (o.place ∷ places os)) × Tagged bs os

same_tag : (l : Level) (xs : List WideToken) (x : WideToken) → member_tag (next_level l xs x) ≡ member_tag l
same_tag (Members tag d) xs x = refl
same_tag (Enumerators tag e) xs x = refl
same_tag Block xs x = refl

inside_is : (bs : List Body) (os : List Open) → Tagged bs os → tag_inside (levels os) ≡ tag_around bs (places os)
unfolding tag_around
inside_is bs [] tagged = refl
inside_is bs (o ∷ os) tagged = tagged.0

tagged_on : (bs : List Body) (os : List Open) (xs : List WideToken) (x : WideToken) → Tagged bs os
    → Tagged bs (goes_on os xs x)
tagged_on bs [] xs x tagged = tt
tagged_on bs (o ∷ os) xs x tagged = (same_tag o.level xs x ∙ tagged.0, tagged.1)

tagged_rest : (bs : List Body) (os : List Open) → Tagged bs os → Tagged bs (drop 1 os)
tagged_rest bs [] tagged = tt
tagged_rest bs (o ∷ os) tagged = tagged.1

-- the tag of an opening is that of its body
first_is : (xs : List WideToken) (kind : Kind)
    → openings.tag_of (the_opening kind (first xs))
    ≡ option_map_or (λ (t : Token). Some (record { kind = kind; name = t.span })) (first_token xs) None
first_is [] kind = refl
first_is (x ∷ xs) kind = refl

or_around_is : (own around : Option Tag) → or_around own around ≡ option_map_or (λ tag. Some tag) own around
or_around_is None around = refl
or_around_is (Some tag) around = refl

-- a new level has the tag that the rules say
tag_opened : (bs : List Body) (around : Option Tag) (p : Placed) (names : List WideToken) (k : Option Kind)
    → around ≡ tag_around bs p.around
    → body_in bs p.item.token.span.start ≡ body_of_kind p names k
    → member_tag (opened (option_map (λ kind. the_opening kind (first names)) k) around)
    ≡ tag_around bs (p.item.token.span.start ∷ p.around)
unfolding tag_around
tag_opened bs around p names None is found =
    ap (λ o. option_map_or (λ (b : Body). if is_enumeration b.kind then None
    else option_map_or (λ tag. Some tag) (rules.tag_of b) (tag_around bs p.around)) o None) (sym found)
tag_opened bs around p names (Some k) is found =
    elim (is_enumeration k) as (λ b.
    member_tag (cond b (Enumerators (openings.tag_of (the_opening k (first names))) enumeration_start)
    (Members (or_around (openings.tag_of (the_opening k (first names))) around) declaration_start))
    ≡ cond b None (option_map_or (λ tag. Some tag)
    (option_map_or (λ (t : Token). Some (record { kind = k; name = t.span })) (first_token names) None)
    (tag_around bs p.around))) [
      | true ↦ refl
      | false ↦ or_around_is (openings.tag_of (the_opening k (first names))) around
          ∙ ap (λ o. option_map_or (λ tag. Some tag) o around) (first_is names k)
          ∙ ap (option_map_or (λ tag. Some tag)
          (option_map_or (λ (t : Token). Some (record { kind = k; name = t.span })) (first_token names) None)) is
    ]
    ∙ ap (λ o. option_map_or (λ (b : Body). if is_enumeration b.kind then None
    else option_map_or (λ tag. Some tag) (rules.tag_of b) (tag_around bs p.around)) o None) (sym found)

-- the body that a token opens is the one in its place
pub found_here : (bs past : List Body) (before : List WideToken) (around : List ℕ) (n : ℕ) (x : WideToken)
    (xs : List WideToken)
    → bs ≡ past ++ (body_here before (record { item = x; around = around })
    ++ bodies_from (x ∷ before) (placed (around_after x around) xs))
    → ((place : ℕ) → n ≤ place → body_in past place ≡ None) → Rise n (x ∷ xs) → x.counted ≡ true
    → body_in bs x.token.span.start ≡ body_opened before (record { item = x; around = around })
found_here bs past before around n x xs all none rise counted =
    let le = rise.0 in
    let p : Placed = record { item = x; around = around } in
    let after = around_after x around in
    let future = bodies_from (x ∷ before) (placed after xs) in
    let names = names_first before in
    let kind = first_kind (drop (length names) before) in
    ap (λ l. body_in l x.token.span.start) all
    ∙ find-append (λ (b : Body). b.place == x.token.span.start) past (body_here before p ++ future)
    ∙ ap (λ f. option_or f (body_in (body_here before p ++ future) x.token.span.start))
    (none x.token.span.start le)
    ∙ ap (λ b. body_in (cond b (body_after p before) [] ++ future) x.token.span.start) counted
    ∙ by_place p names kind future
    (none_to_come x.token.span.start (suc x.token.span.start) (x ∷ before) after xs (omega arith) rise.1.1)

-- ---- what a body defines

block_defs : (xs : List WideToken) → level_defs Block xs ≡ []
unfolding level_defs
block_defs [] = refl
block_defs (x ∷ xs) = block_defs xs

module _ (bs : List Body) (ps : List Placed) (around : Option Tag) (p : Placed) (names : List WideToken)
    (is : around ≡ tag_around bs p.around) where
  abbrev inner : List WideToken
  inner = level_inside p.item.token.span.start ps

  new_content : (k : Option Kind) → body_in bs p.item.token.span.start ≡ body_of_kind p names k
      → level_defs (opened (option_map (λ kind. the_opening kind (first names)) k) around) inner
      ≡ flat_map (content_defs bs ps) (rules.body_of p names k)
  new_content None found = block_defs inner
  new_content (Some k) found =
      let own = openings.tag_of (the_opening k (first names)) in
      let body : Body = record {
        kind = k;
        tag = first_token names;
        place = p.item.token.span.start;
        around = p.around;
      } in
      let made : Bool → Level = λ b.
      cond b (Enumerators own enumeration_start) (Members (or_around own around) declaration_start) in
      let said : Bool → List Def = λ b. cond b (enumerator_defs ps body) (member_defs bs ps body) in
      ⊎_elim
      (λ enum.
      ap (λ b. level_defs (made b) inner) enum
      ∙ enumerators_of_level own inner
      ∙ ap (λ t. map (def_in kind.Enumerator t) (enumerators inner)) (first_is names k)
      ∙ sym (append-nil (enumerator_defs ps body))
      ∙ sym (ap (λ b. said b ++ []) enum))
      (λ other.
      let tag : or_around own around ≡ tag_around bs (p.item.token.span.start ∷ p.around) =
      sym (ap (λ b. member_tag (made b)) other) ∙ tag_opened bs around p names (Some k) is found in
      ap (λ b. level_defs (made b) inner) other
      ∙ members_of_level (or_around own around) inner
      ∙ ap (λ t. flat_map (member_of t) (flat_map naming_parts (body_declarations inner))) tag
      ∙ sym (append-nil (member_defs bs ps body))
      ∙ sym (ap (λ b. said b ++ []) other))
      (cases_Bool (is_enumeration k))

-- ---- all bodies

module _ (bs : List Body) (ps : List Placed) where
  contents_are : (past : List Body) (before : List WideToken) (os : List Open) (n : ℕ) (xs : List WideToken)
      → bs ≡ past ++ bodies_from before (placed (places os) xs)
      → ((place : ℕ) → n ≤ place → body_in past place ≡ None) → Rise n xs → Tagged bs os
      → flat_map (content ps) (opens_from (opening_after before) os xs)
      ≡ flat_map (content_defs bs ps) (bodies_from before (placed (places os) xs))
  unfolding placed opens_from
  contents_are past before os n [] all none rise tagged = refl
  contents_are past before os n (x ∷ xs) all none rise tagged =
      let le = rise.0 in
      let o = opening_after before in
      let os′ = next_opens o os (x ∷ xs) x in
      let after = around_after x (places os) in
      let p : Placed = record { item = x; around = places os } in
      let here = body_here before p in
      let future = bodies_from (x ∷ before) (placed after xs) in
      let after_is : places os′ ≡ after = next_are_places o os (x ∷ xs) x in
      let names = names_first before in
      let kind = first_kind (drop (length names) before) in
      let inside = inside_is bs os tagged in
      let found : x.counted ≡ true → body_in bs x.token.span.start ≡ body_opened before p =
      found_here bs past before (places os) n x xs all none rise in
      let new : Open = record { place = x.token.span.start; level = opened o (tag_inside (levels os)) } in
      let tagged′ : Tagged bs os′ = elim (x.counted) as (λ b.
      (b ≡ true → body_in bs x.token.span.start ≡ body_of_kind p names kind)
      → Tagged bs (cond b (new ∷ goes_on os (x ∷ xs) x)
      (if is_sign 125 x.role then (if x.token.starts_line then [] else drop 1 os) else goes_on os (x ∷ xs) x))) [
        | true ↦ λ f. (
          tag_opened bs (tag_inside (levels os)) p names kind inside (f refl)
              ∙ ap (λ a. tag_around bs (x.token.span.start ∷ a)) (sym (goes_on_places os (x ∷ xs) x)),
          tagged_on bs os (x ∷ xs) x tagged,
        )
        | false ↦ λ f. elim (is_sign 125 x.role) as (λ b. Tagged bs
            (cond b (if x.token.starts_line then [] else drop 1 os) (goes_on os (x ∷ xs) x))) [
              | true ↦ elim (x.token.starts_line) as (λ b. Tagged bs (cond b [] (drop 1 os)))
                  [ true ↦ tt | false ↦ tagged_rest bs os tagged ]
              | false ↦ tagged_on bs os (x ∷ xs) x tagged
            ]
      ] found in
      let rest : flat_map (content ps) (opens_from (next_opening o x) os′ xs)
      ≡ flat_map (content_defs bs ps) future =
      ap (λ z. flat_map (content ps) (opens_from z os′ xs)) (opening_next x before)
      ∙ contents_are (past ++ here) (x ∷ before) os′ (suc x.token.span.start) xs
      (all ∙ sym (append_assoc past here future)
      ∙ ap (λ a. (past ++ here) ++ bodies_from (x ∷ before) (placed a xs)) (sym after_is))
      (λ place above. none_of_both place past here (none place (omega arith))
      (here_not_at before p place (unequal x.token.span.start place (omega arith))))
      rise.1.1 tagged′
      ∙ ap (λ a. flat_map (content_defs bs ps) (bodies_from (x ∷ before) (placed a xs))) after_is in
      elim (x.counted) as (λ b. (b ≡ true → body_in bs x.token.span.start ≡ body_of_kind p names kind)
      → flat_map (content ps) (cond b (new ∷ []) [] ++ opens_from (next_opening o x) os′ xs)
      ≡ flat_map (content_defs bs ps) (cond b (body_after p before) [] ++ future)) [
        | true ↦ λ f.
            ap (λ l. l ++ flat_map (content ps) (opens_from (next_opening o x) os′ xs))
            (new_content bs ps (tag_inside (levels os)) p names inside kind (f refl))
            ∙ ap (λ l. flat_map (content_defs bs ps) (body_after p before) ++ l) rest
            ∙ sym (flat_map-append (content_defs bs ps) (body_after p before) future)
        | false ↦ λ f. rest
      ] found

-- ---- what a `{` opens

-- the pass and the rules agree on which braces open bodies, from a state on
abbrev pub Opens : List Body → Option Opening → List WideToken → Type 0
Opens bs o [] = Unit {0}
Opens bs o (x ∷ xs) =
    (x.counted ≡ true → opens_body bs x.token.span.start ≡ is_some o) × Opens bs (next_opening o x) xs

any_is_found : (bs : List Body) (place : ℕ) → opens_body bs place ≡ is_some (body_in bs place)
any_is_found [] place = refl
any_is_found (b ∷ bs) place =
    elim (b.place == place) as (λ e. (e || opens_body bs place) ≡ is_some (cond e (Some b) (body_in bs place)))
    [ true ↦ refl | false ↦ any_is_found bs place ]

some_kind : (p : Placed) (names : List WideToken) (k : Option Kind) → is_some (body_of_kind p names k)
    ≡ is_some (option_map (λ kind. the_opening kind (first names)) k)
some_kind p names None = refl
some_kind p names (Some k) = refl

module _ (bs : List Body) where
  opens_are : (past : List Body) (before : List WideToken) (around : List ℕ) (n : ℕ) (xs : List WideToken)
      → bs ≡ past ++ bodies_from before (placed around xs)
      → ((place : ℕ) → n ≤ place → body_in past place ≡ None) → Rise n xs
      → Opens bs (opening_after before) xs
  unfolding placed
  opens_are past before around n [] all none rise = tt
  opens_are past before around n (x ∷ xs) all none rise =
      let le = rise.0 in
      let p : Placed = record { item = x; around = around } in
      let after = around_after x around in
      let here = body_here before p in
      let names = names_first before in (
        (λ counted. any_is_found bs x.token.span.start
            ∙ ap is_some (found_here bs past before around n x xs all none rise counted)
            ∙ some_kind p names (first_kind (drop (length names) before))),
        subst (λ o. Opens bs o xs) (sym (opening_next x before))
            (opens_are (past ++ here) (x ∷ before) after (suc x.token.span.start) xs
            (all ∙ sym (append_assoc past here (bodies_from (x ∷ before) (placed after xs))))
            (λ place above. none_of_both place past here (none place (omega arith))
            (here_not_at before p place (unequal x.token.span.start place (omega arith))))
            rise.1.1),
      )

pub opens_of_all : (xs : List WideToken) → Rise 0 xs → Opens (bodies (placed [] xs)) None xs
opens_of_all xs rise =
    let ps = placed [] xs in
    opens_are (bodies ps) [] [] [] 0 xs (bodies_are ps) (λ place above. refl) rise

-- ---- tags
tag_here : (p : Placed) (names : List WideToken) (k : Option Kind)
    → flat_map tag_defs (rules.body_of p names k)
    ≡ opening_tag (option_map (λ kind. the_opening kind (first names)) k)
tag_here p names None = refl
tag_here p [] (Some k) = refl
tag_here p (x ∷ names) (Some k) = refl

tags_are : (before : List WideToken) (around : List ℕ) (xs : List WideToken)
    → flat_map tag_defs (bodies_from before (placed around xs)) ≡ tags_from (opening_after before) xs
unfolding placed tags_from
tags_are before around [] = refl
tags_are before around (x ∷ xs) =
    let p : Placed = record { item = x; around = around } in
    let names = names_first before in
    let future = bodies_from (x ∷ before) (placed (around_after x around) xs) in
    let rest : flat_map tag_defs future ≡ tags_from (next_opening (opening_after before) x) xs =
    tags_are (x ∷ before) (around_after x around) xs
    ∙ ap (λ o. tags_from o xs) (sym (opening_next x before)) in
    elim (x.counted) as (λ b. flat_map tag_defs (cond b (body_after p before) [] ++ future)
    ≡ cond b (opening_tag (opening_after before)) []
    ++ tags_from (next_opening (opening_after before) x) xs) [
      | true ↦ flat_map-append tag_defs (body_after p before) future
          ∙ ap (λ l. l ++ flat_map tag_defs future) (tag_here p names (first_kind (drop (length names) before)))
          ∙ ap (λ l. opening_tag (opening_after before) ++ l) rest
      | false ↦ rest
    ]

pub tags_of_all : (xs : List WideToken)
    → flat_map tag_defs (bodies (placed [] xs)) ≡ tags_from None xs
tags_of_all xs = ap (flat_map tag_defs) (bodies_are (placed [] xs)) ∙ tags_are [] [] xs

-- ---- the pass over all levels
pub contents_of_all : (xs : List WideToken) → Rise 0 xs
    → IsPermutation (contents_from None [] xs)
    (flat_map (content_defs (bodies (placed [] xs)) (placed [] xs)) (bodies (placed [] xs)))
contents_of_all xs rise =
    let ps = placed [] xs in
    subst (IsPermutation (contents_from None [] xs))
    (contents_are (bodies ps) ps [] [] [] 0 xs (bodies_are ps) (λ place above. refl) rise tt
    ∙ ap (flat_map (content_defs (bodies ps) ps)) (sym (bodies_are ps)))
    (stack_is None [] 0 xs rise tt)
