-- The uses of a name that is asked for stand where they say.
use Rattle.std.proofs.Common.{◌≡◌, ℕ, Bool, not, true, false, List, filter, subst, sym}
use Rattle.std.specs.List.{AllByRecursion}
use Rattle.std.specs.Str.{bytes_eq}
use Rattle.cb_desk.proofs.PlaceLemmas.{same-name}
use Rattle.cb_desk.proofs.Valid.{all-both, all-passed}
use Rattle.cb_desk.specs.World.{File, IsAscending, World}
use Rattle.cb_index.specs.Rows.{Fact, file_uses_of, tags_named, use_in, uses_of}
use Rattle.cb_scan.proofs.FactsWithin.{facts_lie}
use Rattle.cb_scan.proofs.NamedLists.{all-flat, all-made}
use Rattle.cb_scan.proofs.WithinLemmas.{all-filter}
use Rattle.cb_scan.specs.Definitions.{IsNameOf, IsWithin}
use Rattle.cb_scan.specs.Profiles.{facts_in}
use Rattle.cb_scan.specs.declared.facts.Use.{Use}
use Rattle.cb_scan.specs.declared.lex.piece.Span.{Span}
use Rattle.cb_scan.specs.declared.profile.Profile.{Profile}
use Rattle.cb_scan.specs.lex.Reserved.{is_name}
use Rattle.cb_scan.specs.lex.Tokens.{bytes_of}
use Rattle.cb_tags.specs.TagLines.{Tag}
use Rattle.cb_lsp.specs.Same.{is_same}
use Rattle.cb_lsp.specs.WordUses.{references_in}
use Rattle.cb_lsp.specs.declared.same.Sort.{Sort}
use Rattle.cb_lsp.specs.Meaning.{reaches}
use Rattle.cb_lsp.specs.Ranges.{IsUseIn, StandsIn}
use Rattle.cb_lsp.specs.References.{is_declaration, references, uses_reached}
use Rattle.cb_lsp.proofs.NamedTags.{IsOwn, name-stands, own-texts}

module _ (files : List File) (p : Profile) (name : List ℕ) (is : is_name name ≡ true) where
  -- a use of the name, which lies in the text of its file
  use-named : (f : File) → IsOwn files f → (u : Use)
      → IsWithin f.bytes u.name × (name ≡ bytes_of f.bytes u.name)
      → IsUseIn files name (use_in f u)
  use-named f own u met = (
    sym met.1,
    subst (λ n. StandsIn files f.name n u.name.start) (sym met.1)
        (name-stands files f own u.name
        (met.0, subst (λ n. is_name n ≡ true) met.1 is)),
  )

  file-named : (f : File) → IsOwn files f
      → AllByRecursion (IsUseIn files name) (file_uses_of p name f)
  file-named f own =
      let test : Use → Bool = λ (u : Use). bytes_eq name (bytes_of f.bytes u.name) in
      let uses : List Use = (facts_in p f.bytes).uses in
      all-made (λ (u : Use). IsWithin f.bytes u.name × (name ≡ bytes_of f.bytes u.name))
      (IsUseIn files name) (use_in f) (use-named f own) (filter test uses)
      (all-both _ (λ (u : Use). test u ≡ true)
      (λ (u : Use). IsWithin f.bytes u.name × (name ≡ bytes_of f.bytes u.name))
      (filter test uses)
      (λ u lies same. (lies.0, same-name name (bytes_of f.bytes u.name) same))
      (all-filter _ test uses (facts_lie p f.bytes).uses) (all-passed test uses))

  uses-named : (fs : List File) → AllByRecursion (IsOwn files) fs
      → AllByRecursion (IsUseIn files name) (uses_of p name fs)
  unfolding uses_of
  uses-named fs own =
      all-flat (IsOwn files) (IsUseIn files name) (file_uses_of p name) file-named fs own

asked-have : (P : Fact → Type 0) (ts : List Tag) (from : List ℕ) (declarations : Bool)
    (us : List Fact) → AllByRecursion P us → AllByRecursion P (references ts from declarations us)
asked-have P ts from true us all = all-filter P (λ (u : Fact). reaches ts from u.file) us all
asked-have P ts from false us all =
    all-filter P (λ (u : Fact). not (is_declaration ts u)) (uses_reached ts from us)
    (all-filter P (λ (u : Fact). reaches ts from u.file) us all)

pub references-named : (w : World) (name text : List ℕ) (sort : Sort) (word : Span)
    (declarations : Bool) → IsAscending w.files → IsNameOf text word
    → AllByRecursion (IsUseIn w.files (bytes_of text word))
    (references_in w name text sort word declarations)
references-named w name text sort word declarations up named =
    let key : List ℕ = bytes_of text word in
    all-filter (IsUseIn w.files key) (is_same w sort key) _
    (asked-have (IsUseIn w.files key) (tags_named w.profile key w.files) name declarations
    (uses_of w.profile key w.files)
    (uses-named w.files w.profile key named.1 w.files (own-texts w.files up)))
