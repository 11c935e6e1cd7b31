-- The names of what is shown of a word and of what a query finds stand where they say.
use Rattle.std.proofs.Common.{◌≡◌, ◌∙◌, ◌+◌, ◌-◌, ℕ, List, [], ◌∷◌, ap, arith, cond, drop, Less}
use Rattle.std.proofs.Common.{Bool, length, length-drop, map, refl, subst, sym, Option}
use Rattle.std.specs.List.{AllByRecursion, flat_map}
use Rattle.std.specs.Str.{bytes_eq}
use Rattle.std.proofs.lemmas.List.{length-take}
use Rattle.std.proofs.lemmas.Map.Text.{is_eq-slice_cmp}
use Rattle.std.specs.Cmp.Lexicographic.{slice_cmp}
use Rattle.std.specs.List.Sorted.{IsStrictlySortedBy}
use Rattle.std.specs.Ordering.{is_eq, nat_cmp}
use Rattle.cb_desk.proofs.PlaceLemmas.{name-same}
use Rattle.cb_desk.specs.Tags.{tag_key, tags}
use Rattle.cb_desk.specs.Tags as desk
use Rattle.cb_desk.specs.World.{File, IsAscending, World, text_of_file}
use Rattle.cb_desk.specs.declared.rows.Format.TheVariants.{Extended}
use Rattle.cb_index.specs.Rows.{file_tags_named, tag_in, tags_named}
use Rattle.cb_scan.proofs.FactsWithin.{all_in_order}
use Rattle.cb_scan.proofs.NamedDefs.{defs-named}
use Rattle.cb_scan.proofs.NamedLists.{all-flat, all-made}
use Rattle.cb_scan.proofs.WithinLemmas.{all-append, all-filter, all-take}
use Rattle.cb_scan.specs.Definitions.{IsNameOf, IsWithin}
use Rattle.cb_scan.specs.Profiles.{facts_in}
use Rattle.cb_scan.specs.declared.facts.Def.{Def}
use Rattle.cb_scan.specs.declared.lex.piece.Span.{Span}
use Rattle.cb_scan.specs.declared.profile.Profile.{Profile}
use Rattle.cb_scan.specs.lex.Tokens.{bytes_of}
use Rattle.cb_lsp.specs.WordUses.{word_shown}
use Rattle.cb_lsp.proofs.NearestShown.{shown-all}
use Rattle.cb_lsp.specs.Closures.{is_in_closure}
use Rattle.cb_names.specs.declared.space.Space.{Space}
use Rattle.cb_lsp.specs.Ranges.{IsNamedIn, StandsIn, span_of}
use Rattle.cb_lsp.specs.Searches.{found_by, is_like}
use Rattle.cb_lsp.specs.declared.symbols.TheConstants.{MOST_SYMBOLS}

-- ---- each file has its own name
later-texts : (f : File) (fs gs : List File)
    → AllByRecursion (λ (g : File). slice_cmp nat_cmp f.name g.name ≡ Less) gs
    → AllByRecursion (λ (g : File). text_of_file fs g.name ≡ g.bytes) gs
    → AllByRecursion (λ (g : File). text_of_file (f ∷ fs) g.name ≡ g.bytes) gs
unfolding text_of_file
later-texts f fs [] up own = tt
later-texts f fs (g ∷ gs) up own = (
  ap (λ b. cond b f.bytes (text_of_file fs g.name))
      (sym (is_eq-slice_cmp f.name g.name) ∙ ap is_eq up.0) ∙ own.0,
  later-texts f fs gs up.1 own.1,
)

pub own-texts : (fs : List File) → IsAscending fs
    → AllByRecursion (λ (f : File). text_of_file fs f.name ≡ f.bytes) fs
unfolding text_of_file IsStrictlySortedBy
own-texts [] up = tt
own-texts (f ∷ fs) up = (
  ap (λ b. cond b f.bytes (text_of_file fs f.name)) (name-same f.name),
  later-texts f fs fs up.0 (own-texts fs up.1),
)

-- ---- a definition of a file

-- where its name is, by the length of the name
span-is : (text : List ℕ) (s : Span) → IsWithin text s
    → s ≡ record { start = s.start; end = s.start + length (bytes_of text s) }
span-is text s within =
    let long : s.end ≡ s.start + length (bytes_of text s) = omega (
      arith,
      within.0,
      within.1,
      length-take (s.end - s.start) (drop s.start text),
      length-drop s.start text,
    ) in
    ap (λ end. record { start = s.start; end = end }) long

module _ (files : List File) where
  -- the text of the name of the file is that of the file
  abbrev pub IsOwn : File → Type 0
  IsOwn f = text_of_file files f.name ≡ f.bytes

  pub name-stands : (f : File) → IsOwn f → (s : Span) → IsNameOf f.bytes s
      → StandsIn files f.name (bytes_of f.bytes s) s.start
  name-stands f own s named =
      let name = bytes_of f.bytes s in
      subst (λ text. IsNameOf text (span_of name s.start)
      × (bytes_of text (span_of name s.start) ≡ name)) (sym own)
      (subst (λ t. IsNameOf f.bytes t × (bytes_of f.bytes t ≡ name))
      (span-is f.bytes s named.0) (named, refl))

  tag-named : (f : File) → IsOwn f → (d : Def) → IsNameOf f.bytes d.name
      → IsNamedIn files (tag_in f d)
  tag-named f own d named = name-stands f own d.name named

  module _ (p : Profile) where
    file-named : (f : File) → IsOwn f → (ds : List Def)
        → AllByRecursion (λ (d : Def). IsNameOf f.bytes d.name) ds
        → AllByRecursion (IsNamedIn files) (map (tag_in f) ds)
    file-named f own =
        all-made (λ (d : Def). IsNameOf f.bytes d.name) (IsNamedIn files) (tag_in f)
        (tag-named f own)

    -- those of a name, and all
    named-named : (name : List ℕ) (fs : List File) → AllByRecursion IsOwn fs
        → AllByRecursion (IsNamedIn files) (tags_named p name fs)
    unfolding tags_named
    named-named name fs own =
        all-flat IsOwn (IsNamedIn files) (file_tags_named p name)
        (λ f is. file-named f is _ (all-filter (λ (d : Def). IsNameOf f.bytes d.name)
        (λ (d : Def). bytes_eq name (bytes_of f.bytes d.name)) (facts_in p f.bytes).defs
        (defs-named p f.bytes))) fs own

    all-named : (fs : List File) → AllByRecursion IsOwn fs
        → AllByRecursion (IsNamedIn files) (flat_map (desk.file_tags p) fs)
    all-named fs own =
        all-flat IsOwn (IsNamedIn files) (desk.file_tags p)
        (λ f is. file-named f is (facts_in p f.bytes).defs (defs-named p f.bytes)) fs own

-- ---- what is shown of a word
pub shown-named : (w : World) (name text : List ℕ) (space : Option Space) (ds : Bool)
    (word : Span) → IsAscending w.files
    → AllByRecursion (IsNamedIn w.files) (word_shown w name text space ds word)
shown-named w name text space ds word order =
    shown-all (IsNamedIn w.files) name (is_in_closure w name) _ ds (tags_named w.profile (bytes_of text word) w.files)
    (named-named w.files w.profile (bytes_of text word) w.files (own-texts w.files order))

-- ---- what a query finds
pub found-named : (w : World) (query : List ℕ) → IsAscending w.files
    → AllByRecursion (IsNamedIn w.files) (found_by w query)
unfolding tags
found-named w query order =
    let own = own-texts w.files order in
    all-take (IsNamedIn w.files) MOST_SYMBOLS _
    (all-append (IsNamedIn w.files) (tags_named w.profile query w.files) _
    (named-named w.files w.profile query w.files own)
    (all-filter (IsNamedIn w.files) (is_like query) (tags Extended w)
    (all_in_order (tag_key Extended) (IsNamedIn w.files) _
    (all-named w.files w.profile w.files own))))
