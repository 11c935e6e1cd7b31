-- What holds along all tokens of the code, by what is known of a token of it.
use Rattle.std.proofs.Common.{◌≡◌, ◌∙◌, ℕ, ◌<◌, ◌≤◌, Bool, true, false, List, [], ◌∷◌, ◌++◌}
use Rattle.std.proofs.Common.{Option, None, refl, sym, ap, subst, arith, length, append_assoc}
use Rattle.std.proofs.Common.{⊎_elim}
use Rattle.std.proofs.lemmas.Bool.{cases_Bool}
use Rattle.std.proofs.lemmas.List.{append-nil}
use Rattle.std.specs.Prelude.{◌&&◌, not, if◌then◌else◌}
use Rattle.std.specs.List.{AllByRecursion}
use Rattle.cb_scan.specs.declared.lex.token.Token.{Token}
use Rattle.cb_scan.specs.declared.rules.wide.attribute.Attribute.TheVariants.{Outside}
use Rattle.cb_scan.specs.declared.rules.wide.opening.Opening.{Opening}
use Rattle.cb_scan.specs.declared.rules.wide.reader.Reader.{Reader}
use Rattle.cb_scan.specs.declared.rules.wide.reader.TheConstants.{FULL}
use Rattle.cb_scan.specs.declared.rules.wide.sight.Sight.{Sight}
use Rattle.cb_scan.specs.declared.rules.wide.token.WideToken.{WideToken}
use Rattle.cb_scan.specs.lex.Tokens.{is_mark}
use Rattle.cb_scan.specs.rules.wide.Attributes.{ends_attribute, without_attributes}
use Rattle.cb_scan.specs.rules.wide.Levels.{wide_tokens}
use Rattle.cb_scan.specs.steps.Functions.{before_after, is_after_linkage}
use Rattle.cb_scan.specs.steps.wide.Attributes.{kept_from}
use Rattle.cb_scan.specs.steps.wide.Contents.{are_in_block}
use Rattle.cb_scan.specs.steps.wide.Lists.{Lists}
use Rattle.cb_scan.specs.steps.wide.Pass.{Taken, pass_start, take_all}
use Rattle.cb_scan.specs.steps.wide.Pass.{take_first}
use Rattle.cb_scan.specs.steps.wide.Reading.{held, item_of, passed, reader_after}
use Rattle.cb_scan.specs.steps.wide.Reading.{taken_after, taken_at_end, all_taken, opened_by}
use Rattle.cb_scan.specs.steps.wide.Reading.{read_next, read_on, reader_start, released}
use Rattle.cb_scan.specs.steps.wide.Reading.{taken_next, taken_on, the_taken, turned, with_bare}
use Rattle.cb_scan.specs.steps.wide.Sights.{look, look_along, opening_along, sight_opening}
use Rattle.cb_scan.specs.steps.wide.Sights.{sight_start}
use Rattle.cb_scan.specs.steps.wide.Tokens.{tokens_from}
use Rattle.cb_scan.proofs.FunctionsRise.{all_implied}
use Rattle.cb_scan.proofs.WideAttributes.{kept_from_start}
use Rattle.cb_scan.proofs.WideBlocks.{IsDeep, IsRead, deep_next, in_block}
use Rattle.cb_scan.proofs.WideHeld.{emptied_is, held_before, held_is}
use Rattle.cb_scan.proofs.WideRuns.{kept_all, kept_run, run_is}
use Rattle.cb_scan.proofs.WideSegments.{IsInner, ends_none}
use Rattle.cb_scan.proofs.WideSights as sights
use Rattle.cb_scan.proofs.WideSigns.{no_signs, sign_of}
use Rattle.cb_scan.proofs.WideTaken.{IsOutside, deep_all, kept_inner, left_few, left_inner, left_of}
use Rattle.cb_scan.proofs.WideTaken.{none_opened, outside_taken, taken_of}
use Rattle.cb_scan.proofs.WideTokens.{tokens_are}
use Rattle.cb_scan.proofs.WithinLemmas.{all-append}

look_more : (z : Sight) (s : List WideToken) (x : WideToken)
    → look_along z (s ++ x ∷ []) ≡ look (look_along z s) x
unfolding look_along
look_more z [] x = refl
look_more z (y ∷ s) x = look_more (look z y) s x

-- the same is found, and the same body is open
pub record IsSame (t u : Taken) : Type 0 where
  pub lists_are : t.lists ≡ u.lists
  pub body_is : t.pass.body ≡ u.pass.body

-- between equal states
pub moved : {t u v w : Taken} → t ≡ u → IsSame u v → v ≡ w → IsSame t w
moved is all be = record {
  lists_are = ap (λ (z : Taken). z.lists) is ∙ all.lists_are ∙ ap (λ (z : Taken). z.lists) be;
  body_is = ap (λ (z : Taken). z.pass.body) is ∙ all.body_is ∙ ap (λ (z : Taken). z.pass.body) be;
}

-- what a `{` would open is not found
unopened_same : (t : Taken) (o : Option Opening) → IsSame t (opened_by o t)
unopened_same t o = record { lists_are = refl; body_is = refl }

-- outside of blocks few tokens are held back
record IsOuter (r : Reader) (t : Taken) : Type 0 where
  few_raw : length r.window.raw ≤ 2
  few_bare : length r.window.bare < FULL
  raw_inner : AllByRecursion IsInner r.window.raw
  bare_inner : AllByRecursion IsInner r.window.bare
  state : IsOutside t

-- nothing is held back
record IsEmpty (r : Reader) : Type 0 where
  no_raw : r.window.raw ≡ []
  no_bare : r.window.bare ≡ []
  no_attribute : r.attribute ≡ Outside

-- inside a block nothing is, and the sight has been along these tokens
record IsAlong (r : Reader) (t : Taken) (s : List WideToken) : Type 0 where
  empty : IsEmpty r
  inside : are_in_block t.pass.levels ≡ true
  deep : IsDeep t.pass
  unopened : t.pass.opening ≡ None
  inner : AllByRecursion IsInner s
  sight_is : r.sight ≡ look_along sight_start s

-- the tokens that are still to come
abbrev pub coming : List ℕ → Reader → List Token → List WideToken
coming text r ts = tokens_from text r.before ts

-- those after the next one
abbrev pub later : List ℕ → Reader → Token → List Token → List WideToken
later text r token ts = tokens_from text (before_after r.before token) ts

-- a property of a reader, what it has taken, the tokens to come, and the bare tokens that are held
-- back or to come: it holds at the end, and before a token if it holds after it
module _ (text : List ℕ) (Holds : Reader → Taken → List Token → List WideToken → Type 0)
    (at_end : (r : Reader) (t : Taken) (s : List WideToken)
    → IsSame (taken_at_end r t) (take_all t s) → Holds r t [] s)
    (at_mark : (r : Reader) (t : Taken) (token : Token) (ts : List Token) (s : List WideToken)
    → AllByRecursion IsInner s → ends_attribute (item_of text r token).role ≡ true
    → taken_after text r t token
    ≡ take_first (take_all t s) (item_of text r token ∷ []) (item_of text r token)
    → Holds (reader_after text r t token) (taken_after text r t token) ts
    (without_attributes (later text r token ts))
    → Holds r t (token ∷ ts)
    (s ++ item_of text r token ∷ without_attributes (later text r token ts)))
    (within : (r : Reader) (t : Taken) (token : Token) (ts : List Token)
    (bare rest : List WideToken) → AllByRecursion IsInner bare
    → IsInner (item_of text r token) → taken_after text r t token ≡ taken_of t bare
    → Holds (reader_after text r t token) (taken_after text r t token) ts (left_of bare ++ rest)
    → Holds r t (token ∷ ts) (bare ++ rest)) where
  -- from the tokens to come on
  record HoldsFrom (ts : List Token) : Type 0 where
    outer : (r : Reader) (t : Taken) → IsOuter r t
        → Holds r t ts (r.window.bare ++ kept_from r.attribute (r.window.raw ++ coming text r ts))
    along : (r : Reader) (t : Taken) (s : List WideToken) → IsAlong r t s
        → Holds r t ts (without_attributes (s ++ coming text r ts))

  -- where nothing is held back, in a block or outside
  fresh : (ts : List Token) → HoldsFrom ts → (r : Reader) (t : Taken) → IsEmpty r
      → r.sight ≡ sight_start → t.pass.opening ≡ None → IsDeep t.pass
      → Holds r t ts (without_attributes (coming text r ts))
  unfolding look_along
  fresh ts reads r t empty clear unopened deep =
      ⊎_elim
      (λ is. reads.along r t [] (record {
        empty = empty;
        inside = is;
        deep = deep;
        unopened = unopened;
        inner = tt;
        sight_is = clear;
      }))
      (λ isnt.
      subst (Holds r t ts)
      ((λ i. empty.no_bare i
      ++ kept_from (empty.no_attribute i) (empty.no_raw i ++ coming text r ts))
      ∙ kept_from_start (coming text r ts))
      (reads.outer r t (record {
        few_raw = subst (λ l. length l ≤ 2) (sym empty.no_raw) (omega arith);
        few_bare = subst (λ l. length l < FULL) (sym empty.no_bare) (omega arith);
        raw_inner = subst (AllByRecursion IsInner) (sym empty.no_raw) tt;
        bare_inner = subst (AllByRecursion IsInner) (sym empty.no_bare) tt;
        state = record { outside = isnt; deep = deep };
      })))
      (cases_Bool (are_in_block t.pass.levels))

  -- ---- one token
  module _ (token : Token) (ts : List Token) (reads : HoldsFrom ts) (r : Reader) where
    abbrev item : WideToken
    item = item_of text r token

    abbrev before_next : Reader
    before_next = passed r token

    abbrev rest : List WideToken
    rest = later text r token ts

    is_read : IsRead item
    is_read = sign_of text 125 token

    is_inner : ends_attribute item.role ≡ false → IsInner item
    is_inner isnt =
        let none = no_signs item.role isnt in
        let no_open : is_mark 123 token.role ≡ false = sym (sign_of text 123 token) ∙ none.1 in
        record {
          no_semicolon = none.0;
          no_open = none.1;
          no_close = none.2;
          no_mark = sym (sign_of text 125 token) ∙ none.2;
          uncounted = ap (λ b. b && not (is_after_linkage r.before)) no_open;
        }

    -- the states after it, in a block or not
    reader_is : (t : Taken) (b e : Bool) → are_in_block t.pass.levels ≡ b
        → ends_attribute item.role ≡ e
        → reader_after text r t token
        ≡ (if e then turned b before_next else read_on b before_next item)
    reader_is t b e is ends =
        (λ i. read_next (is i) before_next item)
        ∙ ap (λ c. if c then turned b before_next else read_on b before_next item) ends

    taken_is : (t : Taken) (b e : Bool) → are_in_block t.pass.levels ≡ b
        → ends_attribute item.role ≡ e
        → taken_after text r t token
        ≡ (if e then take_first (all_taken b before_next t) (item ∷ []) item
        else taken_on b before_next t item)
    taken_is t b e is ends =
        (λ i. taken_next (is i) before_next t item)
        ∙ ap (λ c. if c then take_first (all_taken b before_next t) (item ∷ []) item
        else taken_on b before_next t item) ends

    -- after a `;` or a brace nothing is held back
    turned_from : (t u : Taken) (q : Reader) → ends_attribute item.role ≡ true → IsDeep u.pass
        → IsEmpty q → q.before ≡ before_after r.before token → q.sight ≡ sight_start
        → reader_after text r t token ≡ q
        → taken_after text r t token ≡ take_first u (item ∷ []) item
        → Holds (reader_after text r t token) (taken_after text r t token) ts
        (without_attributes rest)
    turned_from t u q ends deep empty before clear reader taken =
        subst (λ z. Holds z (taken_after text r t token) ts (without_attributes rest)) (sym reader)
        (subst (λ v. Holds q v ts (without_attributes rest)) (sym taken)
        (subst (λ b. Holds q (take_first u (item ∷ []) item) ts
        (without_attributes (tokens_from text b ts))) before
        (fresh ts reads q (take_first u (item ∷ []) item) empty clear
        (none_opened u.pass.opening item ends)
        (deep_next u.pass (item ∷ []) item is_read deep))))

    -- outside of blocks
    outer_mark : (t : Taken) → IsOuter r t → ends_attribute item.role ≡ true
        → Holds r t (token ∷ ts)
        (r.window.bare ++ kept_from r.attribute (r.window.raw ++ item ∷ rest))
    outer_mark t is ends =
        let s = kept_from r.attribute r.window.raw in
        let held_back = r.window.bare ++ s in
        let all : AllByRecursion IsInner held_back =
        all-append IsInner r.window.bare s is.bare_inner (kept_inner r.attribute r.window.raw is.raw_inner) in
        let taken = taken_is t false true is.state.outside ends in
        subst (Holds r t (token ∷ ts))
        (append_assoc r.window.bare s (item ∷ without_attributes rest)
        ∙ ap (λ l. r.window.bare ++ (s ++ item ∷ l)) (sym (kept_from_start rest))
        ∙ ap (λ l. r.window.bare ++ l) (sym (kept_run item rest ends r.attribute r.window.raw)))
        (at_mark r t token ts held_back all ends taken
        (turned_from t (take_all t held_back) (turned false before_next) ends
        (deep_all t held_back all is.state.deep)
        (record { no_raw = refl; no_bare = refl; no_attribute = refl }) refl refl
        (reader_is t false true is.state.outside ends) taken))

    outer_inner : (t : Taken) → IsOuter r t → ends_attribute item.role ≡ false
        → Holds r t (token ∷ ts)
        (r.window.bare ++ kept_from r.attribute (r.window.raw ++ item ∷ rest))
    outer_inner t is isnt =
        let h = held before_next item in
        let facts = held_is (before_after r.before token) r.sight r.attribute r.window.bare item rest
        (is_inner isnt) is.few_bare is.bare_inner r.window.raw is.few_raw is.raw_inner in
        let e : Reader = with_bare h (left_of h.window.bare) in
        let u = taken_of t h.window.bare in
        let same_before : h.before ≡ before_after r.before token = held_before before_next item in
        let reader : reader_after text r t token ≡ e =
        reader_is t false false is.state.outside isnt ∙ emptied_is h in
        let taken : taken_after text r t token ≡ u = taken_is t false false is.state.outside isnt in
        let bare = kept_from h.attribute (h.window.raw ++ rest) in
        subst (Holds r t (token ∷ ts))
        (facts.kept
        ∙ ap (λ l. r.window.bare ++ kept_from r.attribute l) (append_assoc r.window.raw (item ∷ []) rest))
        (within r t token ts h.window.bare bare facts.bare_inner (is_inner isnt) taken
        (subst (λ z. Holds z (taken_after text r t token) ts (left_of h.window.bare ++ bare)) (sym reader)
        (subst (λ v. Holds e v ts (left_of h.window.bare ++ bare)) (sym taken)
        (subst (λ b. Holds e u ts
        (left_of h.window.bare ++ kept_from h.attribute (h.window.raw ++ tokens_from text b ts))) same_before
        (reads.outer e u (record {
          few_raw = facts.few_raw;
          few_bare = left_few h.window.bare facts.few_bare;
          raw_inner = facts.raw_inner;
          bare_inner = left_inner h.window.bare facts.bare_inner;
          state = outside_taken t h.window.bare facts.bare_inner is.state;
        }))))))

    -- inside a block
    along_mark : (t : Taken) (s : List WideToken) → IsAlong r t s
        → ends_attribute item.role ≡ true
        → Holds r t (token ∷ ts) (without_attributes (s ++ item ∷ rest))
    along_mark t s is ends =
        let u = opened_by (sight_opening r.sight) t in
        let bare = without_attributes s in
        let bare_inner : AllByRecursion IsInner bare = kept_all IsInner 0 s is.inner in
        let unmarked : AllByRecursion sights.IsInner s =
        all_implied IsInner sights.IsInner ends_none s is.inner in
        let opening : opening_along t.pass.opening bare ≡ sight_opening r.sight =
        (λ i. opening_along (is.unopened i) (sym (kept_from_start s) i))
        ∙ sym (sights.sight_is s unmarked)
        ∙ ap sight_opening (sym is.sight_is) in
        let all_is : take_all t bare ≡ u =
        in_block t bare bare_inner is.inside is.deep ∙ ap (λ o. opened_by o t) opening in
        let taken = taken_is t true true is.inside ends in
        subst (Holds r t (token ∷ ts)) (sym (run_is item rest ends s))
        (at_mark r t token ts bare bare_inner ends
        (taken ∙ ap (λ v. take_first v (item ∷ []) item) (sym all_is))
        (turned_from t u (turned true before_next) ends is.deep (record {
          no_raw = is.empty.no_raw;
          no_bare = is.empty.no_bare;
          no_attribute = is.empty.no_attribute;
        }) refl refl (reader_is t true true is.inside ends) taken))

    along_inner : (t : Taken) (s : List WideToken) → IsAlong r t s
        → ends_attribute item.role ≡ false
        → Holds r t (token ∷ ts) (without_attributes (s ++ item ∷ rest))
    along_inner t s is isnt =
        let q = read_on true before_next item in
        let bare = without_attributes ((s ++ item ∷ []) ++ rest) in
        let reader : reader_after text r t token ≡ q = reader_is t true false is.inside isnt in
        let taken : taken_after text r t token ≡ t = taken_is t true false is.inside isnt in
        subst (λ l. Holds r t (token ∷ ts) (without_attributes l))
        (append_assoc s (item ∷ []) rest)
        (within r t token ts [] bare tt (is_inner isnt) taken
        (subst (λ z. Holds z (taken_after text r t token) ts bare) (sym reader)
        (subst (λ v. Holds q v ts bare) (sym taken)
        (reads.along q t (s ++ item ∷ []) (record {
          empty = record {
            no_raw = is.empty.no_raw;
            no_bare = is.empty.no_bare;
            no_attribute = is.empty.no_attribute;
          };
          inside = is.inside;
          deep = is.deep;
          unopened = is.unopened;
          inner = all-append IsInner s (item ∷ []) is.inner (is_inner isnt, tt);
          sight_is = ap (λ z. look z item) is.sight_is ∙ sym (look_more sight_start s item);
        })))))

  -- ---- the code

  holds_at_end : HoldsFrom []
  unfolding tokens_from
  holds_at_end = record {
    outer = λ r t is.
        let held_back = r.window.bare ++ kept_from r.attribute r.window.raw in
        let same : taken_at_end r t ≡ take_all t held_back =
        ap (λ b. if b then t else take_all t held_back) is.state.outside in
        subst (λ l. Holds r t [] (r.window.bare ++ kept_from r.attribute l)) (sym (append-nil r.window.raw))
        (at_end r t held_back (moved same (unopened_same (take_all t held_back)
        (take_all t held_back).pass.opening) refl));
    along = λ r t s is.
        let bare = without_attributes (s ++ []) in
        let all : AllByRecursion IsInner (s ++ []) = all-append IsInner s [] is.inner tt in
        at_end r t bare
        (moved (ap (λ b. if b then t else take_all t (released r).window.bare) is.inside)
        (unopened_same t (opening_along t.pass.opening bare))
        (sym (in_block t bare (kept_all IsInner 0 (s ++ []) all) is.inside is.deep)));
  }

  holds_from : (ts : List Token) → HoldsFrom ts
  unfolding tokens_from
  holds_from [] = holds_at_end
  holds_from (token ∷ ts) =
      let reads = holds_from ts in
      record {
        outer = λ r t is.
            ⊎_elim (outer_mark token ts reads r t is) (outer_inner token ts reads r t is)
            (cases_Bool (ends_attribute (item_of text r token).role));
        along = λ r t s is.
            ⊎_elim (along_mark token ts reads r t s is) (along_inner token ts reads r t s is)
            (cases_Bool (ends_attribute (item_of text r token).role));
      }

  -- from the beginning of the code
  pub holds_at_start : (ts : List Token) (l : Lists)
      → Holds reader_start (the_taken pass_start l) ts
      (without_attributes (wide_tokens text ts))
  holds_at_start ts l =
      subst (λ xs. Holds reader_start (the_taken pass_start l) ts (without_attributes xs))
      (tokens_are text ts)
      (fresh ts (holds_from ts) reader_start (the_taken pass_start l)
      (record { no_raw = refl; no_bare = refl; no_attribute = refl }) refl refl refl)
