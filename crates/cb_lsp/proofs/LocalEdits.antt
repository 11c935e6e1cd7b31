-- The edits of a local, one after another.
use Rattle.std.proofs.Common.{◌≡◌, ◌∙◌, ◌≤◌, ℕ, zero, suc, Bool, true, false, List, [], ◌∷◌, length, map, take}
use Rattle.std.proofs.Common.{ap, arith, refl, subst, sym, append-nil}
use Rattle.std.proofs.lemmas.List.{take_all}
use Rattle.std.specs.Prelude.{codes}
use Rattle.std.specs.List.{AllByRecursion}
use Rattle.json.specs.Json.{Json}
use Rattle.cb_names.specs.declared.local.LocalUse.{LocalUse}
use Rattle.cb_wire.specs.declared.list.TheConstants.{MOST_ELEMENTS}
use Rattle.cb_wire.specs.declared.message.Id.{Id}
use Rattle.cb_wire.specs.Edits.{HasEdits, edit_text, edits_of, edits_texts, file_texts, texts_from}
use Rattle.cb_wire.specs.Lists.{list_text}
use Rattle.cb_wire.specs.Messages.{id_json}
use Rattle.cb_wire.specs.Replies.{result_body}
use Rattle.cb_wire.specs.Trees.{result_reply}
use Rattle.cb_wire.specs.Uris.{uri_of}
use Rattle.cb_wire.specs.Values.{value_text}
use Rattle.cb_wire.proofs.EditTexts.{edits-reply}
use Rattle.cb_lsp.specs.Clients.{Client}
use Rattle.cb_lsp.specs.LocalRenames.{edits_if, local_edit, local_edits}
use Rattle.cb_lsp.specs.steps.LocalRenames.{ends}

-- the next one, and those behind it
pub next-local : (edit : LocalUse → Json) (opens : Bool) (uri : List ℕ) (u : LocalUse) (us : List LocalUse)
    → file_texts opens uri (map edit (u ∷ us))
    ≡ edit_text opens (ends us) uri (edit u) ∷ file_texts false uri (map edit us)
unfolding texts_from
next-local edit opens uri u [] = refl
next-local edit opens uri u (v ∷ vs) = refl

texts-length : (opens : Bool) (uri : List ℕ) (j : Json) (js : List Json)
    → length (texts_from opens uri j js) ≡ suc (length js)
unfolding texts_from
texts-length opens uri j [] = refl
texts-length opens uri j (k ∷ ks) = ap suc (texts-length false uri k ks)

file-length : (uri : List ℕ) (js : List Json) → length (file_texts true uri js) ≡ length js
file-length uri [] = refl
file-length uri (j ∷ js) = texts-length true uri j js

few-left : {X Y : Type 0} (f : X → Y) (n : ℕ) (xs : List X) → length (map f (take n xs)) ≤ n
few-left f zero xs = omega arith
few-left f (suc n) [] = omega arith
few-left f (suc n) (x ∷ xs) = omega (arith, few-left f n xs)

-- of the one file, if it has some
of-file : (uri : List ℕ) (js : List Json) → edits_texts (edits_if uri js) ≡ file_texts true uri js
of-file uri [] = refl
of-file uri (j ∷ js) = append-nil (texts_from true uri j js)

have-edits : (uri : List ℕ) (js : List Json) → AllByRecursion HasEdits (edits_if uri js)
have-edits uri [] = tt
have-edits uri (j ∷ js) = ((λ e. subst (λ l. elim l as (λ _. Type 0) [ [] ↦ ⊥ | k ∷ ks ↦ Unit {0} ]) e tt), tt)

pub local-written : (id : Id) (c : Client) (name text new : List ℕ) (us : List LocalUse)
    → result_body id (list_text (codes "{\"changes\":{") (codes ",") (codes "}}")
    (take MOST_ELEMENTS (file_texts true (uri_of c.root name)
    (map (local_edit c text new) (take MOST_ELEMENTS us)))))
    ≡ value_text (result_reply (id_json id) (edits_of (local_edits c name text new us)))
local-written id c name text new us =
    let uri = uri_of c.root name in
    let js = map (local_edit c text new) (take MOST_ELEMENTS us) in
    ap (λ ts. result_body id (list_text (codes "{\"changes\":{") (codes ",") (codes "}}") ts))
    (take_all MOST_ELEMENTS (file_texts true uri js)
    (subst (λ n. n ≤ MOST_ELEMENTS) (sym (file-length uri js)) (few-left (local_edit c text new) MOST_ELEMENTS us))
    ∙ sym (of-file uri js))
    ∙ edits-reply id (edits_if uri js) (have-edits uri js)
