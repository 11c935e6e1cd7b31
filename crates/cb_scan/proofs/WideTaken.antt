-- What the pass over the bare tokens takes up to a mark, and a token at a time.
use Rattle.std.proofs.Common.{◌≡◌, ◌≢◌, ◌∙◌, ◌<◌, ◌≤◌, true, false, List, [], ◌∷◌}
use Rattle.std.proofs.Common.{◌++◌, Option, None, Some, refl, sym, ap, arith, drop, length}
use Rattle.std.proofs.lemmas.Bool.{eqb-false, eqb-true, true≢false}
use Rattle.std.specs.Prelude.{◌==◌, if◌then◌else◌}
use Rattle.std.specs.List.{AllByRecursion}
use Rattle.std.specs.Option.{is_some, option_map}
use Rattle.cb_scan.specs.declared.facts.Kind.{Kind}
use Rattle.cb_scan.specs.declared.rules.wide.attribute.Attribute.{Attribute}
use Rattle.cb_scan.specs.declared.rules.wide.level.Level.{Level}
use Rattle.cb_scan.specs.declared.rules.wide.level.Level.TheVariants.{Block, Enumerators, Members}
use Rattle.cb_scan.specs.declared.rules.wide.opening.Opening.{Opening}
use Rattle.cb_scan.specs.declared.rules.wide.pass.Pass.{Pass}
use Rattle.cb_scan.specs.declared.rules.wide.reader.TheConstants.{FULL}
use Rattle.cb_scan.specs.declared.rules.wide.token.WideToken.{WideToken}
use Rattle.cb_scan.specs.rules.wide.Attributes.{ends_attribute}
use Rattle.cb_scan.specs.rules.wide.Bodies.{body_kind}
use Rattle.cb_scan.specs.steps.wide.Ahead.{seen, up_to_mark}
use Rattle.cb_scan.specs.steps.wide.Attributes.{kept_from, leaves_out, next_attribute}
use Rattle.cb_scan.specs.steps.wide.Contents.{are_in_block, closed_by, first_goes_on, tag_inside}
use Rattle.cb_scan.specs.steps.wide.Levels.{opened}
use Rattle.cb_scan.specs.steps.wide.Openings.{after_kind, next_opening, tagged}
use Rattle.cb_scan.specs.steps.wide.Pass.{Taken, next_pass, take_all}
use Rattle.cb_scan.specs.steps.wide.Pass.{take_first}
use Rattle.cb_scan.specs.steps.wide.Reading.{first_taken}
use Rattle.cb_scan.proofs.WideBlocks.{IsDeep, IsRead, deep_next}
use Rattle.cb_scan.proofs.WideFive.{lists_five, pass_five}
use Rattle.cb_scan.proofs.WidePass.{lists_seen, pass_seen}
use Rattle.cb_scan.proofs.WideSeen.{mark_fails, mark_is_no_name}
use Rattle.cb_scan.proofs.WideSegments.{IsInner}

-- ---- up to a `;` or a brace

pub first_seen : (t : Taken) (x : WideToken) (xs : List WideToken)
    → take_first t (x ∷ xs) x ≡ take_first t (seen (x ∷ xs)) x
first_seen t x xs = λ i. record {
  pass = pass_seen t.pass x xs i;
  lists = lists_seen t.lists t.pass x xs i;
}

module _ (q : WideToken) (rest : List WideToken) (ends : ends_attribute q.role ≡ true) where
  seen_before : (s : List WideToken) → up_to_mark (s ++ q ∷ rest) ≡ up_to_mark s
  seen_before [] = ap (λ b. if b then [] else q ∷ up_to_mark rest) ends
  seen_before (x ∷ s) = ap (λ l. if ends_attribute x.role then [] else x ∷ l) (seen_before s)

  -- what is taken before it does not look at it, nor it at what is beyond
  taken_before : (t : Taken) (x : WideToken) (s : List WideToken)
      → take_first t (x ∷ (s ++ q ∷ rest)) x ≡ take_first t (x ∷ s) x
  taken_before t x s =
      first_seen t x (s ++ q ∷ rest)
      ∙ ap (λ l. take_first t (x ∷ (if ends_attribute x.role then [] else l)) x) (seen_before s)
      ∙ sym (first_seen t x s)

  taken_alone : (t : Taken) → take_first t (q ∷ rest) q ≡ take_first t (q ∷ []) q
  taken_alone t =
      first_seen t q rest
      ∙ ap (λ b. take_first t (q ∷ (if b then [] else up_to_mark rest)) q) ends

  pub taken_to_mark : (t : Taken) (s : List WideToken)
      → take_all t (s ++ q ∷ rest)
      ≡ take_all (take_first (take_all t s) (q ∷ []) q) rest
  unfolding take_all
  taken_to_mark t [] = ap (λ u. take_all u rest) (taken_alone t)
  taken_to_mark t (x ∷ s) =
      ap (λ u. take_all u (s ++ q ∷ rest)) (taken_before t x s)
      ∙ taken_to_mark (take_first t (x ∷ s) x) s

-- ---- a token at a time

-- what is taken of the tokens that are held back, and what is left of them
abbrev pub taken_of : Taken → List WideToken → Taken
taken_of t bare = if length bare == FULL then first_taken t bare else t

abbrev pub left_of : List WideToken → List WideToken
left_of bare = if length bare == FULL then drop 1 bare else bare

-- of so many tokens the first looks at no more than five
taken_full : (t : Taken) (bare rest : List WideToken) → length bare ≡ FULL
    → take_all t (bare ++ rest) ≡ take_all (first_taken t bare) (drop 1 bare ++ rest)
unfolding take_all
taken_full t (a ∷ b ∷ c ∷ d ∷ e ∷ s) rest full = λ i. take_all (record {
  pass = pass_five a b c d e s rest t.pass i;
  lists = lists_five a b c d e s rest t.lists t.pass i;
}) (b ∷ c ∷ d ∷ e ∷ (s ++ rest))
taken_full t [] rest full = absurd (omega arith)
taken_full t (a ∷ []) rest full = absurd (omega arith)
taken_full t (a ∷ b ∷ []) rest full = absurd (omega arith)
taken_full t (a ∷ b ∷ c ∷ []) rest full = absurd (omega arith)
taken_full t (a ∷ b ∷ c ∷ d ∷ []) rest full = absurd (omega arith)

pub taken_left : (t : Taken) (bare rest : List WideToken)
    → take_all t (bare ++ rest) ≡ take_all (taken_of t bare) (left_of bare ++ rest)
taken_left t bare rest =
    (elim (length bare == FULL) as (λ b. (length bare == FULL) ≡ b → take_all t (bare ++ rest)
    ≡ take_all (if b then first_taken t bare else t) ((if b then drop 1 bare else bare) ++ rest)) [
      | true ↦ λ e. taken_full t bare rest (eqb-true (length bare) FULL e)
      | false ↦ λ e. refl
    ]) refl

fewer : (bare : List WideToken) → length bare ≡ FULL → length (drop 1 bare) < FULL
fewer [] full = omega arith
fewer (x ∷ s) full = omega arith

pub left_few : (bare : List WideToken) → length bare ≤ FULL → length (left_of bare) < FULL
left_few bare few =
    (elim (length bare == FULL) as (λ b. (length bare == FULL) ≡ b
    → length (if b then drop 1 bare else bare) < FULL) [
      | true ↦ λ e. fewer bare (eqb-true (length bare) FULL e)
      | false ↦ λ e. let other : length bare ≢ FULL = eqb-false (length bare) FULL e in omega arith
    ]) refl

pub left_inner : (bare : List WideToken) → AllByRecursion IsInner bare
    → AllByRecursion IsInner (left_of bare)
left_inner [] all = tt
left_inner (x ∷ s) all = elim (length (x ∷ s) == FULL) as
    (λ b. AllByRecursion IsInner (if b then s else x ∷ s)) [ true ↦ all.1 | false ↦ all ]

-- ---- what stays as it is

read_inner : (x : WideToken) → IsInner x → IsRead x
read_inner x inner = inner.no_close ∙ sym inner.no_mark

goes_on_block : (ls : List Level) (xs : List WideToken) (x : WideToken)
    → are_in_block (first_goes_on ls xs x) ≡ are_in_block ls
goes_on_block [] xs x = refl
goes_on_block (Block ∷ ls) xs x = refl
goes_on_block (Members tag d ∷ ls) xs x = refl
goes_on_block (Enumerators tag e ∷ ls) xs x = refl

-- a token that is no `;` and no brace leads into no block and out of none
block_kept : (p : Pass) (xs : List WideToken) (x : WideToken) → IsInner x
    → are_in_block (next_pass p xs x).levels ≡ are_in_block p.levels
block_kept p xs x inner =
    (λ i. are_in_block (if inner.uncounted i
    then opened p.opening (tag_inside p.levels) ∷ first_goes_on p.levels xs x
    else (if inner.no_close i then closed_by x p.levels else first_goes_on p.levels xs x)))
    ∙ goes_on_block p.levels xs x

-- the state is as deep as there are levels, and in a block or not
pub record IsOutside (t : Taken) : Type 0 where
  pub outside : are_in_block t.pass.levels ≡ false
  pub deep : IsDeep t.pass

outside_first : (t : Taken) (bare : List WideToken) → AllByRecursion IsInner bare → IsOutside t
    → IsOutside (first_taken t bare)
outside_first t [] all is = is
outside_first t (x ∷ s) all is = record {
  outside = block_kept t.pass (x ∷ s) x all.0 ∙ is.outside;
  deep = deep_next t.pass (x ∷ s) x (read_inner x all.0) is.deep;
}

pub outside_taken : (t : Taken) (bare : List WideToken) → AllByRecursion IsInner bare → IsOutside t
    → IsOutside (taken_of t bare)
outside_taken t bare all is = elim (length bare == FULL) as
    (λ b. IsOutside (if b then first_taken t bare else t))
    [ true ↦ outside_first t bare all is | false ↦ is ]

pub deep_all : (t : Taken) (s : List WideToken) → AllByRecursion IsInner s → IsDeep t.pass
    → IsDeep (take_all t s).pass
unfolding take_all
deep_all t [] all deep = deep
deep_all t (x ∷ s) all deep =
    deep_all (take_first t (x ∷ s) x) s all.1
    (deep_next t.pass (x ∷ s) x (read_inner x all.0) deep)

pub kept_inner : (a : Attribute) (s : List WideToken) → AllByRecursion IsInner s
    → AllByRecursion IsInner (kept_from a s)
unfolding kept_from
kept_inner a [] all = tt
kept_inner a (x ∷ s) all =
    let later = kept_inner (next_attribute a (x ∷ s)) s all.1 in
    elim (leaves_out a (x ∷ s)) as (λ b. AllByRecursion IsInner
    (if b then kept_from (next_attribute a (x ∷ s)) s
    else x ∷ kept_from (next_attribute a (x ∷ s)) s)) [ true ↦ later | false ↦ (all.0, later) ]

-- nothing can be opened after a `;` or a brace
pub none_opened : (o : Option Opening) (x : WideToken) → ends_attribute x.role ≡ true
    → next_opening o x ≡ None
none_opened o x ends =
    (λ i. after_kind (no_kind i) o x)
    ∙ ap (λ b. if b then option_map (tagged x) o else None) (mark_is_no_name x.role ends)
  where
    none_of : (k : Option Kind) → is_some k ≡ false → k ≡ None
    none_of None is = refl
    none_of (Some k) is = absurd (true≢false is)

    no_kind : body_kind x.role ≡ None
    no_kind = none_of (body_kind x.role)
        (mark_fails (λ r. is_some (body_kind r)) x.role refl refl refl ends)
