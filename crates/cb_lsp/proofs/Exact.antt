-- The edits of a name that is changed replace its uses and no other byte.
use Rattle.std.proofs.Common.{◌≡◌, ◌∙◌, ◌≤◌, ◌+◌, ◌-◌, max, ℕ, suc, Bool, true}
use Rattle.std.proofs.Common.{List, [], ◌∷◌, ◌++◌, map, length, take, drop, ap, sym, subst}
use Rattle.std.proofs.Common.{refl, arith, length-append, length-drop, take-append-drop}
use Rattle.std.proofs.Common.{append_assoc}
use Rattle.std.proofs.lemmas.List.{drop-append-le, drop-drop, drop_all, length-take, reverse-append}
use Rattle.std.proofs.lemmas.List.{take-append-le, take-take}
use Rattle.std.proofs.Math.Seq.{take-add}
use Rattle.std.specs.Prelude.{Option, Some}
use Rattle.std.specs.List.{AllByRecursion}
use Rattle.std.specs.Str.{bytes_eq}
use Rattle.bstr.specs.Text.{part}
use Rattle.cb_desk.proofs.PlaceLemmas.{same-name}
use Rattle.cb_desk.proofs.Valid.{all-both, all-passed}
use Rattle.cb_desk.specs.World.{File, text_of_file}
use Rattle.cb_index.specs.Rows.{Fact, tags_named, uses_of}
use Rattle.cb_scan.proofs.WithinLemmas.{all-filter, all-take}
use Rattle.cb_scan.specs.Definitions.{IsNameOf}
use Rattle.cb_scan.specs.Order.{AreOrdered}
use Rattle.cb_scan.specs.declared.lex.piece.Span.{Span}
use Rattle.cb_scan.specs.lex.Tokens.{bytes_of}
use Rattle.cb_wire.specs.declared.list.TheConstants.{MOST_ELEMENTS}
use Rattle.cb_wire.specs.declared.units.Encoding.{Encoding}
use Rattle.cb_wire.specs.Edits.{edit_of}
use Rattle.cb_wire.specs.Positions.{place, position}
use Rattle.cb_wire.proofs.Positions.{place-again}
use Rattle.cb_wire.proofs.SameFronts.{places-kept}
use Rattle.cb_lsp.specs.Changes as change
use Rattle.cb_lsp.specs.Changes.{TextChange, replaced, splice, text_with}
use Rattle.cb_lsp.specs.Clients.{Client}
use Rattle.cb_lsp.specs.Exact.{Edit, IsRenamed, Makes, RenamesAreExact, last_first}
use Rattle.cb_lsp.specs.Meaning.{reaches}
use Rattle.cb_lsp.specs.Places.{range_of}
use Rattle.cb_lsp.specs.Ranges.{IsUseIn, span_of}
use Rattle.cb_lsp.specs.References.{uses_reached}
use Rattle.cb_lsp.specs.Renames.{use_edit, uses_in}
use Rattle.cb_lsp.specs.Same.{is_same}
use Rattle.cb_lsp.specs.WordUses.{references_in}
use Rattle.cb_lsp.specs.Sync.{text_through}
use Rattle.cb_lsp.proofs.NamePlaces.{HasPlaces, name-places}
use Rattle.cb_lsp.proofs.NamedUses.{references-named}
use Rattle.cb_lsp.proofs.RenameSteps.{ordered-take}
use Rattle.cb_lsp.proofs.Undeclared.{ordered-filter}
use Rattle.cb_lsp.proofs.UsesApart.{AreApart, uses-apart}

-- ---- one name of a text

-- what stands before a name, the name, and what stands behind it
cut-name : (text old : List ℕ) (at p : ℕ) → at ≤ p → bytes_of text (span_of old p) ≡ old
    → drop at text ≡ part at p text ++ (old ++ drop (p + length old) text)
cut-name text old at p up is =
    let more : at + (p - at) ≡ p = omega arith in
    let long : p + length old - p ≡ length old = omega arith in
    sym (take-append-drop (p - at) (drop at text))
    ∙ ap (λ t. part at p text ++ t) (drop-drop (p - at) at text ∙ ap (λ n. drop n text) more
    ∙ sym (take-append-drop (length old) (drop p text))
    ∙ (λ i. (ap (λ n. take n (drop p text)) (sym long) ∙ is) i
    ++ drop-drop (length old) p text i))

-- the front of a text up to a place and from there to a later one
front-part : (text : List ℕ) (at p : ℕ) → at ≤ p → take at text ++ part at p text ≡ take p text
front-part text at p up =
    let more : at + (p - at) ≡ p = omega arith in
    sym (take-add at (p - at) text) ∙ ap (λ n. take n text) more

through-append : (e : Encoding) (o : Option (List ℕ)) (xs ys : List TextChange)
    → text_through e o (xs ++ ys) ≡ text_through e (text_through e o xs) ys
unfolding text_through
through-append e o [] ys = refl
through-append e o (x ∷ xs) ys = through-append e (text_with e x o) xs ys

through-one : (e : Encoding) (o : Option (List ℕ)) (x : TextChange)
    → text_through e o (x ∷ []) ≡ text_with e x o
unfolding text_through
through-one e o x = refl

-- the last change of edits is the first edit
through-first : (e : Encoding) (o : Option (List ℕ)) (x : Edit) (xs : List Edit)
    → text_through e o (last_first (x ∷ xs))
    ≡ text_with e (change.part x.range x.new) (text_through e o (last_first xs))
through-first e o x xs =
    ap (text_through e o)
    (reverse-append (change.part x.range x.new ∷ [])
    (map (λ (y : Edit). change.part y.range y.new) xs))
    ∙ through-append e o (last_first xs) (change.part x.range x.new ∷ [])
    ∙ through-one e (text_through e o (last_first xs)) (change.part x.range x.new)

-- a new name, where all that stands behind the old one was changed already
module _ (e : Encoding) (text new more : List ℕ) (name : Span) (within : name.end ≤ length text)
    (places : HasPlaces e text name) where
  front : length (take name.end text) ≡ name.end
  front = omega (arith, within, length-take name.end text)

  same-front : take name.end text ≡ take name.end (take name.end text ++ more)
  same-front =
      sym (take-append-le name.end (take name.end text) more (omega (arith, front))
      ∙ take-take name.end name.end text (omega arith))

  long : name.end ≤ length (take name.end text ++ more)
  long = omega (arith, front, length-append (take name.end text) more)

  start-kept : place e (take name.end text ++ more) (position e text name.start) ≡ name.start
  start-kept =
      (places-kept e text (take name.end text ++ more) name.start name.end places.some within long
      same-front places.first).0

  end-kept : place e (take name.end text ++ more) (position e text name.end) ≡ name.end
  end-kept =
      let last = name.end - 1 in
      let ends : suc last ≡ name.end = omega (arith, places.some) in
      subst (λ n. place e (take name.end text ++ more) (position e text n) ≡ n) ends
      (places-kept e text (take name.end text ++ more) last name.end
      (omega (arith, places.some)) within long same-front places.last).1

  spliced : splice e (take name.end text ++ more) (range_of e text name.start name.end) new
      ≡ take name.start text ++ (new ++ more)
  spliced =
      let bytes = take name.end text ++ more in
      let most : max name.start name.end ≡ name.end = omega (arith, places.some) in
      (λ i. replaced (start-kept i) (max (start-kept i) (end-kept i)) new bytes)
      ∙ ap (λ n. replaced name.start n new bytes) most
      ∙ (λ i. head i ++ (new ++ tail i))
    where
      head : take name.start (take name.end text ++ more) ≡ take name.start text
      head =
          take-append-le name.start (take name.end text) more (omega (arith, front, places.some))
          ∙ take-take name.start name.end text (omega (arith, places.some))

      tail : drop name.end (take name.end text ++ more) ≡ more
      tail =
          drop-append-le name.end (take name.end text) more (omega (arith, front))
          ∙ ap (λ t. t ++ more) (drop_all name.end (take name.end text) (omega (arith, front)))

-- ---- the uses of a name in a file

-- a use of a name in a file
abbrev IsHere : List File → (old file : List ℕ) → Fact → Type 0
IsHere files old file u = IsUseIn files old u × (u.file ≡ file)

module _ (c : Client) (files : List File) (old new file : List ℕ) where
  -- the edit of a use there
  abbrev edit_at : Fact → Edit
  edit_at u = record {
    range = range_of c.encoding (text_of_file files file) u.place (u.place + length old);
    new = new;
  }

  edits-are : (us : List Fact) → AllByRecursion (IsHere files old file) us
      → map (use_edit c files new) us
      ≡ map (λ (x : Edit). edit_of x.range x.new) (map edit_at us)
  edits-are [] here = refl
  edits-are (u ∷ us) here =
      λ i. edit_of (range_of c.encoding (text_of_file files (here.0.1 i)) u.place
      (u.place + length (here.0.0.0 i))) new ∷ edits-are us here.1 i

  -- what the edits of uses, from a place on, make of the text
  Exact : ℕ → List Fact → Type 0
  Exact at us =
      (after : List ℕ)
      × Makes c.encoding (text_of_file files file) at (map edit_at us) after
      × (text_through c.encoding (Some (text_of_file files file)) (last_first (map edit_at us))
      ≡ Some (take at (text_of_file files file) ++ after))
      × IsRenamed old new at (map (λ (u : Fact). u.place) us)
      (drop at (text_of_file files file)) after

  no-more : (at : ℕ) → Exact at []
  unfolding Exact text_through
  no-more at =
      let text = text_of_file files file in
      (drop at text, refl, ap Some (sym (take-append-drop at text)), refl)

  -- one more use
  one-more : (at : ℕ) (u : Fact) (us : List Fact) → IsHere files old file u → at ≤ u.place
      → Exact (u.place + length old) us → Exact at (u ∷ us)
  unfolding Exact
  one-more at u us here up rest =
      let e = c.encoding in
      let text = text_of_file files file in
      let p = u.place in
      let end = p + length old in
      let named = subst (λ f. IsNameOf (text_of_file files f) (span_of old p)
      × (bytes_of (text_of_file files f) (span_of old p) ≡ old)) here.1 here.0.1 in
      let within : end ≤ length text = named.0.0.1 in
      let places = name-places e text (span_of old p) named.0 in
      let start = place-again e text p places.start in
      let stop = place-again e text end places.end in
      let kept = part at p text in
      let long : p ≡ at + length kept = omega (
        arith,
        within,
        length-take (p - at) (drop at text),
        length-drop at text,
      ) in
      let after = kept ++ (new ++ rest.0) in (
        after,
        (
          rest.0,
          omega (arith, start),
          omega (arith, start, stop),
          ap (λ n. part at n text ++ (new ++ rest.0)) (sym start),
          subst (λ n. Makes e text n (map edit_at us) rest.0) (sym stop) rest.1,
        ),
        through-first e (Some text) (edit_at u) (map edit_at us)
            ∙ ap (text_with e (change.part (range_of e text p end) new)) rest.2
            ∙ ap Some (spliced e text new rest.0 (span_of old p) within places
            ∙ ap (λ t. t ++ (new ++ rest.0)) (sym (front-part text at p up))
            ∙ append_assoc (take at text) kept (new ++ rest.0)),
        (kept, drop end text, rest.0, long, cut-name text old at p up named.1, refl, rest.3),
      )

  -- the uses behind a use begin no earlier than it ends
  abbrev After : ℕ → Fact → Type 0
  After at u = at ≤ u.place

  later : (u : Fact) (us : List Fact) → IsHere files old file u
      → AllByRecursion (IsHere files old file) us → AllByRecursion (AreApart u) us
      → AllByRecursion (After (u.place + length old)) us
  later u [] here all apart = tt
  later u (v ∷ vs) here all apart = (
    subst (λ n. u.place + length n ≤ v.place) here.0.0 (apart.0 (here.1 ∙ sym all.0.1)),
    later u vs here all.1 apart.1,
  )

  exact : (at : ℕ) (us : List Fact) → AllByRecursion (IsHere files old file) us
      → AllByRecursion (After at) us → AreOrdered AreApart us → Exact at us
  unfolding AreOrdered
  exact at [] here up apart = no-more at
  exact at (u ∷ us) here up apart =
      one-more at u us here.0 up.0
      (exact (u.place + length old) us here.1 (later u us here.0 here.1 apart.0) apart.1)

  from-start : (us : List Fact) → AllByRecursion (After 0) us
  from-start [] = tt
  from-start (u ∷ us) = (omega arith, from-start us)

  -- the uses in the file among those of a name
  uses-here : (us : List Fact) → AllByRecursion (IsUseIn files old) us
      → AllByRecursion (IsHere files old file) (uses_in file us)
  uses-here us named =
      let here : Fact → Bool = λ (u : Fact). bytes_eq u.file file in
      all-both (IsUseIn files old) (λ (u : Fact). here u ≡ true) (IsHere files old file)
      (uses_in file us) (λ u is h. (is, same-name u.file file h))
      (all-filter (IsUseIn files old) here us named) (all-passed here us)

  in-file : (us : List Fact) → AllByRecursion (IsUseIn files old) us → AreOrdered AreApart us
      → Exact 0 (uses_in file us)
  in-file us named apart =
      exact 0 (uses_in file us) (uses-here us named) (from-start (uses_in file us))
      (ordered-filter AreApart (λ (u : Fact). bytes_eq u.file file) us apart)

-- ---- all edits

pub renames_are_exact : RenamesAreExact
unfolding Exact
renames_are_exact c w name text new sort word file up is =
    let key : List ℕ = bytes_of text word in
    let ts = tags_named w.profile key w.files in
    let all = references_in w name text sort word true in
    let us = take MOST_ELEMENTS all in
    let named : AllByRecursion (IsUseIn w.files key) us =
    all-take (IsUseIn w.files key) MOST_ELEMENTS all
    (references-named w name text sort word true up is) in
    let apart : AreOrdered AreApart us =
    ordered-take AreApart MOST_ELEMENTS all
    (ordered-filter AreApart (is_same w sort key) (uses_reached ts name (uses_of w.profile key w.files))
    (ordered-filter AreApart (λ (u : Fact). reaches ts name u.file) (uses_of w.profile key w.files)
    (uses-apart w.profile key w.files up))) in
    let made = in-file c w.files key new file us named apart in (
      map (edit_at c w.files key new file) (uses_in file us),
      made.0,
      edits-are c w.files key new file (uses_in file us)
          (uses-here c w.files key new file us named),
      made.1,
      made.2,
      made.3,
    )
