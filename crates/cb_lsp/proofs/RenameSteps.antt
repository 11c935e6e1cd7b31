-- How a name is changed, step by step.
use Rattle.std.proofs.Common.{◌≡◌, ◌∙◌, ◌≤◌, not, sym, ap, subst, refl, ℕ, zero, suc, Bool}
use Rattle.std.proofs.Common.{true, false, List, [], ◌∷◌, length, map, take, arith}
use Rattle.std.proofs.lemmas.List.{take_all}
use Rattle.std.specs.Prelude.{◌-◌, codes}
use Rattle.std.specs.List.{AllByRecursion}
use Rattle.std.specs.Str.{bytes_eq}
use Rattle.json.specs.Json.{Json, null, string, object, no_members, member}
use Rattle.cb_desk.specs.World.{File, World}
use Rattle.cb_index.proofs.FactOrderLemmas.{by_place}
use Rattle.cb_index.specs.FactOrder.{ComesBefore, NamesAscend}
use Rattle.cb_index.specs.Rows.{Fact, uses_of}
use Rattle.cb_index.specs.declared.entry.FactKind.TheVariants.{Uses}
use Rattle.cb_scan.specs.Order.{AreOrdered}
use Rattle.cb_tags.specs.TagLines.{Tag}
use Rattle.cb_wire.specs.declared.list.TheConstants.{MOST_ELEMENTS}
use Rattle.cb_wire.specs.declared.message.Id.{Id}
use Rattle.cb_wire.specs.Edits.{edit_text, edits_of}
use Rattle.cb_wire.specs.Lists.{list_text}
use Rattle.cb_wire.specs.Messages.{id_json}
use Rattle.cb_wire.specs.Replies.{result_body}
use Rattle.cb_wire.specs.Trees.{result_reply}
use Rattle.cb_wire.specs.Values.{value_text}
use Rattle.cb_wire.proofs.EditTexts.{edits-reply}
use Rattle.cb_lsp.specs.Clients.{Client}
use Rattle.cb_lsp.specs.Meaning.{reaches}
use Rattle.cb_lsp.specs.References.{is_declaration, references, uses_reached}
use Rattle.cb_lsp.specs.Same.{is_same, same_uses}
use Rattle.cb_lsp.specs.declared.same.Sort.{Sort}
use Rattle.cb_lsp.specs.Renames.{all_edits, file_edits, files_of}
use Rattle.cb_lsp.specs.Symbols.{place_of_use}
use Rattle.cb_lsp.specs.steps.Located.{Locating}
use Rattle.cb_lsp.specs.steps.References.{UsesAreByPlace}
use Rattle.cb_lsp.specs.steps.Renames.{is_last_of, texts_of_uses}
use Rattle.cb_lsp.proofs.EditGroups.{edits-by-file, files-have-edits}
use Rattle.cb_lsp.proofs.Undeclared.{ordered-filter}

-- ---- the last use of a file

pub last-some : (file : List ℕ) (most : ℕ) (us rest : List Fact) (u : Fact) → (most ≡ 0 → ⊥)
    → us ≡ u ∷ rest → not (bytes_eq u.file file) ≡ is_last_of file (take most us)
last-some file zero us rest u some is = absurd (some refl)
last-some file (suc n) us rest u some is = ap (λ vs. is_last_of file (take (suc n) vs)) (sym is)

pub last-none : (file : List ℕ) (most : ℕ) (us : List Fact) → us ≡ []
    → true ≡ is_last_of file (take most us)
last-none file zero us is = refl
last-none file (suc n) us is = ap (λ vs. is_last_of file (take (suc n) vs)) (sym is)

-- ---- the next edit

-- an edit by the location where it is
abbrev location_uri : Json → List ℕ
location_uri (object (member k (string uri) ms)) = uri
location_uri _ = []

abbrev location_range : Json → Json
location_range (object (member k j (member l range ms))) = range
location_range _ = null

abbrev pub edit_at : (opens closes : Bool) → (new : List ℕ) → Json → List ℕ
edit_at opens closes new l =
    edit_text opens closes (location_uri l)
    (object (member (codes "range") (location_range l)
    (member (codes "newText") (string new) no_members)))

pub next-edit : (old now : Locating) (new : List ℕ) (opens closes : Bool) (most n : ℕ)
    (us rest : List Fact) (u : Fact) (l : Json)
    → now ≡ old → most ≡ suc n → us ≡ u ∷ rest
    → l ≡ place_of_use old.client old.files u → closes ≡ is_last_of u.file (take n rest)
    → texts_of_uses old.client old.files new opens (take most us)
    ≡ edit_at opens closes new l
    ∷ texts_of_uses now.client now.files new closes (take n rest)
unfolding texts_of_uses
next-edit old now new opens closes most n us rest u l same more is place last =
    (λ i. texts_of_uses old.client old.files new opens (take (more i) (is i)))
    ∙ (λ i. edit_at opens (sym last i) new (sym place i)
    ∷ texts_of_uses (sym same i).client (sym same i).files new (sym last i) (take n rest))

pub no-edit : (c : Client) (files : List File) (new : List ℕ) (opens : Bool) (most : ℕ)
    (us : List Fact) → us ≡ [] → texts_of_uses c files new opens (take most us) ≡ []
unfolding texts_of_uses
no-edit c files new opens zero us is = refl
no-edit c files new opens (suc n) us is =
    ap (λ vs. texts_of_uses c files new opens (take (suc n) vs)) is

pub no-more-edits : (c : Client) (files : List File) (new : List ℕ) (opens : Bool) (most : ℕ)
    (us : List Fact) → most ≡ 0 → texts_of_uses c files new opens (take most us) ≡ []
unfolding texts_of_uses
no-more-edits c files new opens most us is =
    ap (λ n. texts_of_uses c files new opens (take n us)) is

pub one-less : (n : ℕ) → (n ≡ 0 → ⊥) → n ≡ suc (n - 1)
one-less zero some = absurd (some refl)
one-less (suc n) some = omega arith

-- ---- uses in order

all-take : {X : Type 0} (P : X → Type 0) (n : ℕ) (xs : List X) → AllByRecursion P xs
    → AllByRecursion P (take n xs)
all-take P zero xs all = tt
all-take P (suc n) [] all = tt
all-take P (suc n) (x ∷ xs) all = (all.0, all-take P n xs all.1)

pub ordered-take : (R : Fact → Fact → Type 0) (n : ℕ) (us : List Fact) → AreOrdered R us
    → AreOrdered R (take n us)
unfolding AreOrdered
ordered-take R zero us order = tt
ordered-take R (suc n) [] order = tt
ordered-take R (suc n) (u ∷ us) order = (all-take (R u) n us order.0, ordered-take R n us order.1)

asked-by-place : (ts : List Tag) (from : List ℕ) (declarations : Bool) (us : List Fact)
    → UsesAreByPlace us → UsesAreByPlace (references ts from declarations us)
asked-by-place ts from true us order =
    ordered-filter ComesBefore (λ (u : Fact). reaches ts from u.file) us order
asked-by-place ts from false us order =
    ordered-filter ComesBefore (λ (u : Fact). not (is_declaration ts u)) (uses_reached ts from us)
    (ordered-filter ComesBefore (λ (u : Fact). reaches ts from u.file) us order)

pub same-by-place : (w : World) (sort : Sort) (ts : List Tag) (from name : List ℕ) (declarations : Bool)
    → NamesAscend w.files
    → UsesAreByPlace (same_uses w sort name (references ts from declarations (uses_of w.profile name w.files)))
same-by-place w sort ts from name declarations up =
    ordered-filter ComesBefore (is_same w sort name) _
    (asked-by-place ts from declarations (uses_of w.profile name w.files)
    (by_place w.profile Uses name w.files up))

-- ---- all edits

take-few : {X : Type 0} (n : ℕ) (xs : List X) → length (take n xs) ≤ n
take-few zero xs = omega arith
take-few (suc n) [] = omega arith
take-few (suc n) (x ∷ xs) = omega (arith, take-few n xs)

texts-length : (c : Client) (files : List File) (new : List ℕ) (opens : Bool) (us : List Fact)
    → length (texts_of_uses c files new opens us) ≡ length us
unfolding texts_of_uses
texts-length c files new opens [] = refl
texts-length c files new opens (u ∷ us) =
    ap suc (texts-length c files new (is_last_of u.file us) us)

all-taken : (c : Client) (files : List File) (new : List ℕ) (n : ℕ) (us : List Fact)
    → take n (texts_of_uses c files new true (take n us))
    ≡ texts_of_uses c files new true (take n us)
all-taken c files new n us =
    take_all n (texts_of_uses c files new true (take n us))
    (subst (λ m. m ≤ n) (sym (texts-length c files new true (take n us))) (take-few n us))

made : (id : Id) (c : Client) (files : List File) (new : List ℕ) (first : List Fact)
    → UsesAreByPlace first
    → result_body id (list_text (codes "{\"changes\":{") (codes ",") (codes "}}")
    (texts_of_uses c files new true first))
    ≡ value_text (result_reply (id_json id)
    (edits_of (map (file_edits c files new first) (files_of first))))
made id c files new first order =
    ap (λ ts. result_body id (list_text (codes "{\"changes\":{") (codes ",") (codes "}}") ts))
    (edits-by-file c files new first order)
    ∙ edits-reply id (map (file_edits c files new first) (files_of first))
    (files-have-edits c files new first order)

pub edits-written : (id : Id) (c : Client) (files : List File) (new : List ℕ) (us : List Fact)
    (l : Locating) → UsesAreByPlace us → l ≡ record { client = c; files = files }
    → result_body id (list_text (codes "{\"changes\":{") (codes ",") (codes "}}")
    (take MOST_ELEMENTS
    (texts_of_uses l.client l.files new true (take MOST_ELEMENTS us))))
    ≡ value_text (result_reply (id_json id) (all_edits c files new us))
edits-written id c files new us l order is =
    ap (λ ts. result_body id (list_text (codes "{\"changes\":{") (codes ",") (codes "}}") ts))
    (all-taken l.client l.files new MOST_ELEMENTS us)
    ∙ ap (λ (k : Locating). result_body id (list_text (codes "{\"changes\":{") (codes ",")
    (codes "}}") (texts_of_uses k.client k.files new true (take MOST_ELEMENTS us)))) is
    ∙ made id c files new (take MOST_ELEMENTS us) (ordered-take ComesBefore MOST_ELEMENTS us order)
