-- Which text a name has among files, before and after a change, and the places that stay valid.
use Rattle.std.proofs.Common.{◌≡◌, ◌∙◌, sym, ap, refl, subst, ℕ, zero, suc, ◌≤◌, Bool, true, false}
use Rattle.std.proofs.Common.{not, ◌||◌, cond, List, [], ◌∷◌, ◌++◌, filter, map, length, take, Some}
use Rattle.std.proofs.Common.{slice_get, bytes_eq, nat_cmp, is_lt, Less, arith, IsTrue}
use Rattle.std.specs.List.{AllByRecursion}
use Rattle.std.specs.Cmp.Lexicographic.{slice_cmp}
use Rattle.std.proofs.lemmas.Slice.Eq.{bytes_eq-Decides}
use Rattle.std.proofs.lemmas.Map.Text.{is_eq-slice_cmp}
use Rattle.std.specs.List.Sorted.{IsStrictlySortedBy}
use Rattle.cb_scan.specs.declared.profile.Profile.{Profile}
use Rattle.cb_scan.specs.declared.facts.Def.{Def}
use Rattle.cb_scan.specs.Profiles.{facts_in}
use Rattle.cb_scan.specs.Lines.{IsLineOf}
use Rattle.bstr.specs.Text.{lines_of, without_terminator}
use Rattle.std.proofs.lemmas.List.{length-map}
use Rattle.cb_scan.proofs.FactsWithin.{facts_lie}
use Rattle.cb_scan.proofs.LineTable.{lines-few}
use Rattle.cb_tags.specs.Names.{is_file_name}
use Rattle.cb_desk.specs.Answer.{defines}
use Rattle.cb_desk.specs.World.{File, Place, is_named, has_file, text_of_file, IsAscending}
use Rattle.cb_desk.specs.World.{IsPlaceOf}
use Rattle.cb_desk.specs.Files.{is_before, with_file, without_file}
use Rattle.cb_desk.specs.Places.{is_in, without_places, renamed_place, renamed_places, nth}
use Rattle.cb_desk.specs.Stack.{places_in, places}
use Rattle.cb_desk.proofs.Placed.{by_name}
use Rattle.cb_desk.proofs.Valid.{all-along, all-both, all-filter, all-join, all-passed}

pub same-name : (a b : List ℕ) → bytes_eq a b ≡ true → a ≡ b
same-name a b e = (bytes_eq-Decides a b).0 e

pub name-same : (a : List ℕ) → bytes_eq a a ≡ true
name-same a = (bytes_eq-Decides a a).1 refl

-- a name that is not there has no text
pub no-text : (files : List File) (name : List ℕ) → has_file files name ≡ false
    → text_of_file files name ≡ []
unfolding text_of_file
no-text [] name e = refl
no-text (f ∷ files) name e =
    (elim (is_named name f) as
    (λ b. b || has_file files name ≡ false → cond b f.bytes (text_of_file files name) ≡ []) [
      | true ↦ λ k. cc
      | false ↦ λ k. no-text files name k
    ]) e

-- the first list that has the name has its text
text-join : (xs ys : List File) (name : List ℕ)
    → text_of_file (xs ++ ys) name
    ≡ cond (has_file xs name) (text_of_file xs name) (text_of_file ys name)
unfolding text_of_file
text-join [] ys name = refl
text-join (x ∷ xs) ys name =
    elim (is_named name x) as (λ b. cond b x.bytes (text_of_file (xs ++ ys) name)
    ≡ cond (b || has_file xs name) (cond b x.bytes (text_of_file xs name)) (text_of_file ys name)) [
      | true ↦ refl
      | false ↦ text-join xs ys name
    ]

-- a filter that keeps, or drops, all files of a name
has-kept : (p : File → Bool) (kept : Bool) (name : List ℕ)
    → ((f : File) → is_named name f ≡ true → p f ≡ kept) → (files : List File)
    → has_file (filter p files) name ≡ cond kept (has_file files name) false
has-kept p kept name all [] =
    elim kept as (λ b. false ≡ cond b false false) [ true ↦ refl | false ↦ refl ]
has-kept p kept name all (f ∷ files) =
    (elim (is_named name f) as (λ b. is_named name f ≡ b
    → has_file (cond (p f) (f ∷ filter p files) (filter p files)) name
    ≡ cond kept (b || has_file files name) false) [
      | true ↦ λ e. rw (all f e) ((elim kept as (λ k. kept ≡ k
          → has_file (cond k (f ∷ filter p files) (filter p files)) name ≡ cond k true false) [
            | true ↦ λ h. rw e refl
            | false ↦ λ h. has-kept p kept name all files ∙ rw h refl
          ]) refl)
      | false ↦ λ e. elim (p f) as
          (λ b. has_file (cond b (f ∷ filter p files) (filter p files)) name
          ≡ cond kept (has_file files name) false) [
            | true ↦ rw e (has-kept p kept name all files)
            | false ↦ has-kept p kept name all files
          ]
    ]) refl

text-kept : (p : File → Bool) (name : List ℕ) → ((f : File) → is_named name f ≡ true → p f ≡ true)
    → (files : List File) → text_of_file (filter p files) name ≡ text_of_file files name
unfolding text_of_file
text-kept p name all [] = refl
text-kept p name all (f ∷ files) =
    (elim (is_named name f) as (λ b. is_named name f ≡ b
    → text_of_file (cond (p f) (f ∷ filter p files) (filter p files)) name
    ≡ cond b f.bytes (text_of_file files name)) [
      | true ↦ λ e. rw (all f e, e) refl
      | false ↦ λ e. elim (p f) as (λ b. text_of_file
          (cond b (f ∷ filter p files) (filter p files)) name ≡ text_of_file files name) [
            | true ↦ rw e (text-kept p name all files)
            | false ↦ text-kept p name all files
          ]
    ]) refl

-- ---- one file more
side : (f : File) (name : List ℕ) (g : File) → is_named name g ≡ true
    → is_before f g ≡ is_lt (slice_cmp nat_cmp name f.name)
side f name g e = ap (λ n. is_lt (slice_cmp nat_cmp n f.name)) (same-name g.name name e)

-- another name has the text that it had
pub text-with : (f : File) (files : List File) (name : List ℕ) → is_named name f ≡ false
    → text_of_file (with_file f files) name ≡ text_of_file files name
unfolding text_of_file
text-with f files name other =
    text-join (filter (is_before f) files) (f ∷ filter (λ g. not (is_before f g)) files) name
    ∙ rw other (
    (elim (is_lt (slice_cmp nat_cmp name f.name)) as (λ b. is_lt (slice_cmp nat_cmp name f.name) ≡ b
    → cond (has_file (filter (is_before f) files) name)
    (text_of_file (filter (is_before f) files) name)
    (text_of_file (filter (λ g. not (is_before f g)) files) name) ≡ text_of_file files name) [
      | true ↦ λ h.
          let has : has_file (filter (is_before f) files) name ≡ has_file files name =
          has-kept (is_before f) true name (λ g e. side f name g e ∙ h) files in
          let text : text_of_file (filter (is_before f) files) name ≡ text_of_file files name =
          text-kept (is_before f) name (λ g e. side f name g e ∙ h) files in
          let out : has_file (filter (λ g. not (is_before f g)) files) name ≡ false =
          has-kept (λ g. not (is_before f g)) false name
          (λ g e. ap not (side f name g e ∙ h)) files in
          rw (has, text, no-text (filter (λ g. not (is_before f g)) files) name out) (
          (elim (has_file files name) as (λ b. has_file files name ≡ b
          → cond b (text_of_file files name) [] ≡ text_of_file files name) [
            | true ↦ λ k. refl
            | false ↦ λ k. sym (no-text files name k)
          ]) refl
          )
      | false ↦ λ h.
          let has : has_file (filter (is_before f) files) name ≡ false =
          has-kept (is_before f) false name (λ g e. side f name g e ∙ h) files in
          rw has
          (text-kept (λ g. not (is_before f g)) name (λ g e. ap not (side f name g e ∙ h)) files)
    ]) refl
    )

-- the new name has the new text
pub text-with-here : (f : File) (files : List File) → has_file files f.name ≡ false
    → text_of_file (with_file f files) f.name ≡ f.bytes
unfolding text_of_file
text-with-here f files fresh =
    let out : has_file (filter (is_before f) files) f.name ≡ false =
    (elim (is_lt (slice_cmp nat_cmp f.name f.name)) as (λ b. is_lt (slice_cmp nat_cmp f.name f.name)
    ≡ b → has_file (filter (is_before f) files) f.name ≡ false) [
      | true ↦ λ h. has-kept (is_before f) true f.name (λ g e. side f f.name g e ∙ h) files ∙ fresh
      | false ↦ λ h. has-kept (is_before f) false f.name (λ g e. side f f.name g e ∙ h) files
    ]) refl in
    text-join (filter (is_before f) files) (f ∷ filter (λ g. not (is_before f g)) files) f.name
    ∙ rw (out, name-same f.name) refl

-- ---- one file less
-- a name has the text that it had where another one is taken away
pub text-without : (files : List File) (gone name : List ℕ) → bytes_eq name gone ≡ false
    → text_of_file (without_file gone files) name ≡ text_of_file files name
text-without files gone name other =
    text-kept (λ f. not (is_named gone f)) name
    (λ f e. rw (same-name f.name name e, other) refl) files

pub text-small : (most : ℕ) (files : List File) (name : List ℕ)
    → AllByRecursion (λ (f : File). length f.bytes ≤ most) files
    → length (text_of_file files name) ≤ most
unfolding text_of_file
text-small most [] name all = omega arith
text-small most (f ∷ files) name all =
    elim (is_named name f) as (λ b. length (cond b f.bytes (text_of_file files name)) ≤ most)
    [ true ↦ all.0 | false ↦ text-small most files name all.1 ]

-- ---- places
-- a place's file is there
pub place-there : (files : List File) (p : Place) → IsPlaceOf files p → has_file files p.file ≡ true
place-there files p is =
    (elim (has_file files p.file) as (λ b. has_file files p.file ≡ b → b ≡ true) [
      | true ↦ λ e. refl
      | false ↦ λ e. let none : IsLineOf [] p.line =
          subst (λ text. IsLineOf text p.line) (no-text files p.file e) is in
          let few = lines-few [] in
          let same = length-map (lines_of []) without_terminator in
          absurd (omega (arith, none.0, none.1, few, same))
    ]) refl

-- a name that is there is none that is not
pub other-name : (files : List File) (there gone : List ℕ) → has_file files there ≡ true
    → has_file files gone ≡ false → bytes_eq gone there ≡ false
other-name files there gone e k =
    (elim (bytes_eq gone there) as (λ b. bytes_eq gone there ≡ b → b ≡ false) [
      | true ↦ λ h. let same = same-name gone there h in let has : has_file files gone ≡ true =
          rw same e in cc
      | false ↦ λ h. refl
    ]) refl

not-true : (b : Bool) → not b ≡ true → b ≡ false
not-true true e = cc
not-true false e = refl

-- a name that is there is a file name where all are
pub name-good : (files : List File) (name : List ℕ) → has_file files name ≡ true
    → AllByRecursion (λ (f : File). IsTrue (is_file_name f.name)) files → is_file_name name ≡ true
name-good [] name there all = cc
name-good (f ∷ files) name there all =
    (elim (is_named name f) as
    (λ b. is_named name f ≡ b → b || has_file files name ≡ true → is_file_name name ≡ true) [
      | true ↦ λ h _. subst (λ n. is_file_name n ≡ true) (same-name f.name name h) all.0
      | false ↦ λ _ e. name-good files name e all.1
    ]) refl there

-- a file that was taken away is not there
pub is-gone : (files : List File) (name : List ℕ) → has_file (without_file name files) name ≡ false
is-gone files name = has-kept (λ f. not (is_named name f)) false name (λ f e. ap not e) files

-- a file that is not there is not there without another one
pub still-gone : (files : List File) (gone name : List ℕ) → has_file files name ≡ false
    → has_file (without_file gone files) name ≡ false
still-gone files gone name e =
    has-kept (λ f. not (is_named gone f)) (not (bytes_eq name gone)) name
    (λ f h. ap (λ n. not (bytes_eq n gone)) (same-name f.name name h)) files
    ∙ rw e (elim (not (bytes_eq name gone)) as (λ b. cond b false false ≡ false)
    [ true ↦ refl | false ↦ refl ])

-- the files in which that of the old name has the new one
abbrev pub moved : List File → List ℕ → List ℕ → List File
moved files old new =
    with_file (record { name = new; bytes = text_of_file files old }) (without_file old files)

-- a relation of a text and a line
abbrev pub IsAt : (List ℕ → ℕ → Type 0) → List File → Place → Type 0
IsAt R files p = R (text_of_file files p.file) p.line

-- places whose lines are so and so, which only lines that are there can be
module _ (R : List ℕ → ℕ → Type 0)
    (lies : (text : List ℕ) (n : ℕ) → R text n → IsLineOf text n) where
  there : (files : List File) (p : Place) → IsAt R files p → has_file files p.file ≡ true
  there files p is = place-there files p (lies (text_of_file files p.file) p.line is)

  -- one file more leaves places as they are
  pub places-with : (files : List File) (f : File) (places : List Place)
      → has_file files f.name ≡ false → AllByRecursion (IsAt R files) places
      → AllByRecursion (IsAt R (with_file f files)) places
  places-with files f places fresh all =
      all-along (IsAt R files) (IsAt R (with_file f files)) places
      (λ p is. subst (λ text. R text p.line) (sym
      (text-with f files p.file (other-name files p.file f.name (there files p is) fresh))) is)
      all

  -- one file less leaves the places of the others as they are
  pub places-without : (files : List File) (name : List ℕ) (places : List Place)
      → AllByRecursion (IsAt R files) places
      → AllByRecursion (IsAt R (without_file name files)) (without_places name places)
  places-without files name places all =
      all-both (λ (p : Place). not (is_in name p) ≡ true) (IsAt R files)
      (IsAt R (without_file name files)) (without_places name places)
      (λ p kept is.
      subst (λ text. R text p.line) (sym (text-without files name p.file (not-true _ kept))) is)
      (all-passed (λ (p : Place). not (is_in name p)) places)
      (all-filter (IsAt R files) (λ (p : Place). not (is_in name p)) places all)

  module _ (files : List File) (old new : List ℕ) (fresh : has_file files new ≡ false) where
    place-renamed : (p : Place) → IsAt R files p
        → IsAt R (moved files old new) (renamed_place old new p)
    place-renamed p is =
        (elim (bytes_eq p.file old) as (λ b. bytes_eq p.file old ≡ b
        → IsAt R (moved files old new) (cond b (record p { file = new }) p)) [
          | true ↦ λ e.
              subst (λ text. R text p.line) (ap (text_of_file files) (same-name p.file old e)
              ∙ sym (text-with-here (record { name = new; bytes = text_of_file files old })
              (without_file old files) (still-gone files old new fresh))) is
          | false ↦ λ e.
              subst (λ text. R text p.line)
              (sym (text-with (record { name = new; bytes = text_of_file files old })
              (without_file old files) p.file (other-name files p.file new (there files p is) fresh)
              ∙ text-without files old p.file e)) is
        ]) refl

    -- the places of a file go with its name, and the others stay
    pub places-renamed : (places : List Place) → AllByRecursion (IsAt R files) places
        → AllByRecursion (IsAt R (moved files old new)) (renamed_places old new places)
    places-renamed [] all = tt
    places-renamed (p ∷ places) all = (place-renamed p all.0, places-renamed places all.1)

-- ---- places of definitions
less-differs : (f g : File) → by_name f g ≡ Less → is_named g.name f ≡ false
less-differs f g e = sym (is_eq-slice_cmp f.name g.name) ∙ rw e refl

-- each of files that ascend is the one of its name
pub own-texts : (files : List File) → IsAscending files
    → AllByRecursion (λ (f : File). text_of_file files f.name ≡ f.bytes) files
unfolding IsStrictlySortedBy text_of_file
own-texts [] up = tt
own-texts (f ∷ files) up = (
  rw (name-same f.name) refl,
  all-both (λ (g : File). by_name f g ≡ Less) (λ (g : File). text_of_file files g.name ≡ g.bytes)
      (λ (g : File). text_of_file (f ∷ files) g.name ≡ g.bytes) files
      (λ g below own. rw (less-differs f g below) own) up.0 (own-texts files up.1),
)

module _ (by : Profile) (files : List File) (name : List ℕ) where
  frames-of : (f : File) → text_of_file files f.name ≡ f.bytes → (ds : List Def)
      → AllByRecursion (λ (d : Def). IsLineOf f.bytes d.line) ds
      → AllByRecursion (IsPlaceOf files)
      (map (λ (d : Def). record { file = f.name; line = d.line }) ds)
  frames-of f own [] all = tt
  frames-of f own (d ∷ ds) all =
      (subst (λ text. IsLineOf text d.line) (sym own) all.0, frames-of f own ds all.1)

  places-of : (some : List File) → AllByRecursion
      (λ (f : File). text_of_file files f.name ≡ f.bytes) some
      → AllByRecursion (IsPlaceOf files) (places by some name)
  places-of [] own = tt
  places-of (f ∷ some) own =
      all-join (IsPlaceOf files) (places_in by name f) (places by some name)
      (frames-of f own.0 (filter (defines f.bytes name) (facts_in by f.bytes).defs)
      (all-filter (λ (d : Def). IsLineOf f.bytes d.line) (defines f.bytes name)
      (facts_in by f.bytes).defs (facts_lie by f.bytes).lines))
      (places-of some own.1)

pub at-place : {X : Type 0} (P : X → Type 0) (xs : List X) (i : ℕ) (x : X) → AllByRecursion P xs
    → slice_get xs i ≡ Some x → P x
at-place P [] i x all e = cc
at-place P (y ∷ xs) zero x all e = let same : y ≡ x = cc in subst P same all.0
at-place P (y ∷ xs) (suc i) x all e = at-place P xs i x all.1 e

-- the nth place of a name is a line that is there
pub nth-place : (by : Profile) (files : List File) (name : List ℕ) (n : ℕ) (f : Place) → IsAscending
    files
    → nth n (places by files name) ≡ Some f → IsPlaceOf files f
nth-place by files name zero f up e = cc
nth-place by files name (suc n) f up e =
    at-place (IsPlaceOf files) (places by files name) n f
    (places-of by files name files (own-texts files up)) e

pub all-take : {X : Type 0} (P : X → Type 0) (n : ℕ) (xs : List X) → AllByRecursion P xs
    → AllByRecursion P (take n xs)
all-take P zero xs all = tt
all-take P (suc n) [] all = tt
all-take P (suc n) (x ∷ xs) all = (all.0, all-take P n xs all.1)
