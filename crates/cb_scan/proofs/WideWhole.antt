-- The tokens of the code are read one after the other, and what is found is what the pass over all
-- bare tokens finds at once.
use Rattle.std.proofs.Common.{◌≡◌, ◌∙◌, ℕ, true, List, [], ◌∷◌, ◌++◌}
use Rattle.std.proofs.Common.{refl, sym, ap}
use Rattle.std.specs.List.{AllByRecursion}
use Rattle.cb_scan.specs.declared.lex.token.Token.{Token}
use Rattle.cb_scan.specs.declared.rules.wide.reader.Reader.{Reader}
use Rattle.cb_scan.specs.declared.rules.wide.token.WideToken.{WideToken}
use Rattle.cb_scan.specs.rules.wide.Attributes.{ends_attribute, without_attributes}
use Rattle.cb_scan.specs.rules.wide.Levels.{wide_tokens}
use Rattle.cb_scan.specs.steps.wide.Lists.{Lists}
use Rattle.cb_scan.specs.steps.wide.Pass.{Taken, pass_start, take_all}
use Rattle.cb_scan.specs.steps.wide.Pass.{take_first}
use Rattle.cb_scan.specs.steps.wide.Reading.{item_of, reader_after}
use Rattle.cb_scan.specs.steps.wide.Reading.{taken_after, taken_at_end}
use Rattle.cb_scan.specs.steps.wide.Reading.{reader_start}
use Rattle.cb_scan.specs.steps.wide.Reading.{the_taken}
use Rattle.cb_scan.proofs.WideInduction.{IsSame, holds_at_start, later, moved}
use Rattle.cb_scan.proofs.WideSegments.{IsInner}
use Rattle.cb_scan.proofs.WideTaken.{left_of}
use Rattle.cb_scan.proofs.WideTaken.{taken_left, taken_of}
use Rattle.cb_scan.proofs.WideTaken.{taken_to_mark}

-- all of the code is read, from a state on
unfoldable pub read_all : List ℕ → Reader → Taken → List Token → Taken
read_all text r t [] = taken_at_end r t
read_all text r t (token ∷ ts) =
    read_all text (reader_after text r t token) (taken_after text r t token) ts

module _ (text : List ℕ) where
  -- what is held back and what is to come are taken in the end
  TakesAll : Reader → Taken → List Token → List WideToken → Type 0
  TakesAll r t ts bare = IsSame (read_all text r t ts) (take_all t bare)

  at_end : (r : Reader) (t : Taken) (s : List WideToken)
      → IsSame (taken_at_end r t) (take_all t s) → TakesAll r t [] s
  unfolding read_all TakesAll
  at_end r t s same = same

  at_mark : (r : Reader) (t : Taken) (token : Token) (ts : List Token) (s : List WideToken)
      → AllByRecursion IsInner s → ends_attribute (item_of text r token).role ≡ true
      → taken_after text r t token
      ≡ take_first (take_all t s) (item_of text r token ∷ []) (item_of text r token)
      → TakesAll (reader_after text r t token) (taken_after text r t token) ts
      (without_attributes (later text r token ts))
      → TakesAll r t (token ∷ ts)
      (s ++ item_of text r token ∷ without_attributes (later text r token ts))
  unfolding read_all TakesAll
  at_mark r t token ts s all ends taken same =
      let rest = without_attributes (later text r token ts) in
      moved refl same
      (ap (λ u. take_all u rest) taken
      ∙ sym (taken_to_mark (item_of text r token) rest ends t s))

  within : (r : Reader) (t : Taken) (token : Token) (ts : List Token)
      (bare rest : List WideToken) → AllByRecursion IsInner bare
      → IsInner (item_of text r token) → taken_after text r t token ≡ taken_of t bare
      → TakesAll (reader_after text r t token) (taken_after text r t token) ts
      (left_of bare ++ rest)
      → TakesAll r t (token ∷ ts) (bare ++ rest)
  unfolding read_all TakesAll
  within r t token ts bare rest all inner taken same =
      moved refl same
      (ap (λ u. take_all u (left_of bare ++ rest)) taken ∙ sym (taken_left t bare rest))

  -- from the beginning of the code
  pub whole_is : (ts : List Token) (l : Lists)
      → IsSame (read_all text reader_start (the_taken pass_start l) ts)
      (take_all (the_taken pass_start l) (without_attributes (wide_tokens text ts)))
  unfolding TakesAll
  whole_is = holds_at_start text TakesAll at_end at_mark within
