-- The texts of edits, one after another, are that of all edits by file.
use Rattle.std.proofs.Common.{◌≡◌, ℕ, Bool, true, false, List, [], ◌∷◌, ◌++◌, map}
use Rattle.std.proofs.Common.{◌≤◌, Some, arith, refl, sym, ap, ◌∙◌, append_assoc, append-nil}
use Rattle.std.specs.Prelude.{All, codes}
use Rattle.std.specs.List.{AllByRecursion}
use Rattle.std.proofs.lemmas.Grind.{flat_map-append}
use Rattle.json.specs.Json.{Json, array, document}
use Rattle.json.specs.Print.{escape, escape_byte}
use Rattle.json.specs.Tree.{HasNumbers, MembersHaveNumbers, depth, members_depth}
use Rattle.cb_wire.specs.declared.message.Id.{Id}
use Rattle.cb_wire.specs.declared.position.Range.{Range}
use Rattle.cb_wire.specs.Edits.{FileEdits, HasEdits, changes_of, edit_of, edit_text}
use Rattle.cb_wire.specs.Edits.{edits_front, edits_of, edits_texts, file_texts, text_if, texts_from}
use Rattle.cb_wire.specs.Lists.{joined, list_text, with_separators}
use Rattle.cb_wire.specs.Messages.{id_json}
use Rattle.cb_wire.specs.Replies.{result_body}
use Rattle.cb_wire.specs.Trees.{result_reply, result_tree}
use Rattle.cb_wire.specs.Values.{FitsWords, items_of, range_tree, value_text}
use Rattle.cb_wire.proofs.Arrays.{items-depth, items-numbers, range-numbers}
use Rattle.cb_wire.proofs.Printed.{array-then, comma, members_then, text_then, value_text-is}
use Rattle.cb_wire.proofs.Printed.{value_text-then}
use Rattle.cb_wire.proofs.Trees.{result-reads, result-text}

-- ---- one edit

-- an edit, before a text
edit-then : (r : Range) (new rest : List ℕ)
    → codes "{\"range\":" ++ (value_text (range_tree r) ++ (codes ",\"newText\":\""
    ++ (escape new ++ (codes "\"}" ++ rest)))) ≡ value_text (edit_of r new) ++ rest
unfolding escape_byte
edit-then r new rest =
    ap (λ t. codes "{\"range\":" ++ t)
    (value_text-then (range_tree r) (codes ",\"newText\":\"" ++ (escape new ++ (codes "\"}" ++ rest))))
    ∙ sym (value_text-then (edit_of r new) rest)

-- the front of an edit, in three parts
front-then : (opens : Bool) (uri rest : List ℕ)
    → text_if opens (codes "\"") ++ (text_if opens (escape uri)
    ++ (text_if opens (codes "\":[") ++ rest)) ≡ edits_front opens uri ++ rest
front-then false uri rest = refl
front-then true uri rest =
    ap (λ t. codes "\"" ++ t) (sym (append_assoc (escape uri) (codes "\":[") rest))

pub edit-parts : (opens closes : Bool) (uri new a b c d : List ℕ) (r : Range)
    → a ≡ text_if opens (codes "\"") → b ≡ text_if opens (escape uri)
    → c ≡ text_if opens (codes "\":[") → d ≡ text_if closes (codes "]")
    → a ++ (b ++ (c ++ (codes "{\"range\":" ++ (value_text (range_tree r)
    ++ (codes ",\"newText\":\"" ++ (escape new ++ (codes "\"}" ++ (d ++ []))))))))
    ≡ edit_text opens closes uri (edit_of r new)
edit-parts opens closes uri new a b c d r a-is b-is c-is d-is =
    (λ i. a-is i ++ (b-is i ++ (c-is i ++ (edit-then r new (append-nil d i) i))))
    ∙ front-then opens uri (value_text (edit_of r new) ++ d)
    ∙ ap (λ e. edits_front opens uri ++ (value_text (edit_of r new) ++ e)) d-is

-- ---- the edits of a file

-- those behind one, each behind a comma
behind : (uri : List ℕ) (j : Json) (js : List Json)
    → with_separators (codes ",") (texts_from false uri j js)
    ≡ with_separators (codes ",") (map value_text (j ∷ js)) ++ codes "]"
unfolding texts_from
behind uri j [] = ap (λ t. 44 ∷ t)
    (append-nil (value_text j ++ codes "]") ∙ ap (λ t. t ++ codes "]") (sym (append-nil (value_text j))))
behind uri j (k ∷ ks) =
    let more = with_separators (codes ",") (map value_text (k ∷ ks)) in
    ap (λ t. 44 ∷ t)
    ((λ i. append-nil (value_text j) i ++ behind uri k ks i)
    ∙ sym (append_assoc (value_text j) more (codes "]")))

-- all edits of a file
file-text : (uri : List ℕ) (j : Json) (js : List Json)
    → joined (codes ",") (texts_from true uri j js)
    ≡ edits_front true uri ++ (joined (codes ",") (map value_text (j ∷ js)) ++ codes "]")
unfolding texts_from
file-text uri j [] =
    append-nil (edit_text true true uri j)
    ∙ ap (λ t. edits_front true uri ++ (t ++ codes "]")) (sym (append-nil (value_text j)))
file-text uri j (k ∷ ks) =
    let more = with_separators (codes ",") (map value_text (k ∷ ks)) in
    append_assoc (edits_front true uri) (value_text j ++ [])
    (with_separators (codes ",") (texts_from false uri k ks))
    ∙ ap (λ t. edits_front true uri ++ t)
    ((λ i. append-nil (value_text j) i ++ behind uri k ks i)
    ∙ sym (append_assoc (value_text j) more (codes "]")))

-- the member of a file, before a text
member-then : (uri : List ℕ) (j : Json) (js : List Json) (rest : List ℕ)
    → 34 ∷ (escape uri ++ 34 ∷ 58 ∷ text_then (array (items_of (j ∷ js))) rest)
    ≡ joined (codes ",") (texts_from true uri j js) ++ rest
member-then uri j js rest =
    let all = joined (codes ",") (map value_text (j ∷ js)) in
    ap (λ t. 34 ∷ (escape uri ++ 34 ∷ 58 ∷ t))
    (array-then (j ∷ js) rest ∙ ap (λ t. 91 ∷ t) (sym (append_assoc all (codes "]") rest)))
    ∙ ap (λ t. 34 ∷ t) (sym (append_assoc (escape uri) (codes "\":[") ((all ++ codes "]") ++ rest)))
    ∙ sym (append_assoc (edits_front true uri) (all ++ codes "]") rest)
    ∙ ap (λ t. t ++ rest) (sym (file-text uri j js))

-- ---- more files

-- texts, with a comma before the first one or without
abbrev texts_after : Bool → List (List ℕ) → List ℕ
texts_after false texts = joined (codes ",") texts
texts_after true texts = with_separators (codes ",") texts

-- those of a file, and then others
file-after : (after : Bool) (uri : List ℕ) (j : Json) (js : List Json) (texts : List (List ℕ))
    → texts_after after (texts_from true uri j js ++ texts)
    ≡ comma after (joined (codes ",") (texts_from true uri j js)
    ++ with_separators (codes ",") texts)
unfolding texts_from
file-after false uri j [] texts =
    ap (λ t. t ++ with_separators (codes ",") texts) (sym (append-nil (edit_text true true uri j)))
file-after false uri j (k ∷ ks) texts =
    let first = edit_text true false uri j in
    let rest = texts_from false uri k ks in
    ap (λ t. first ++ t) (flat_map-append (λ t. codes "," ++ t) rest texts)
    ∙ sym (append_assoc first (with_separators (codes ",") rest)
    (with_separators (codes ",") texts))
file-after true uri j [] texts =
    ap (λ t. 44 ∷ (t ++ with_separators (codes ",") texts))
    (sym (append-nil (edit_text true true uri j)))
file-after true uri j (k ∷ ks) texts =
    let first = edit_text true false uri j in
    let rest = texts_from false uri k ks in
    ap (λ t. 44 ∷ (first ++ t)) (flat_map-append (λ t. codes "," ++ t) rest texts)
    ∙ ap (λ t. 44 ∷ t) (sym (append_assoc first (with_separators (codes ",") rest)
    (with_separators (codes ",") texts)))

comma-append : (after : Bool) (a b : List ℕ) → comma after (a ++ b) ≡ comma after a ++ b
comma-append true a b = refl
comma-append false a b = refl

-- a file that has an edit, before the members of others
one-file : (after : Bool) (uri : List ℕ) (es : List Json) (more rest : List ℕ)
    (texts : List (List ℕ)) → (es ≡ [] → ⊥)
    → more ≡ with_separators (codes ",") texts ++ rest
    → comma after (34 ∷ (escape uri ++ 34 ∷ 58 ∷ text_then (array (items_of es)) more))
    ≡ texts_after after (file_texts true uri es ++ texts) ++ rest
one-file after uri [] more rest texts some is = absurd (some refl)
one-file after uri (j ∷ js) more rest texts some is =
    let here = joined (codes ",") (texts_from true uri j js) in
    let others = with_separators (codes ",") texts in
    ap (comma after) (member-then uri j js more ∙ ap (λ t. here ++ t) is
    ∙ sym (append_assoc here others rest))
    ∙ comma-append after (here ++ others) rest
    ∙ ap (λ t. t ++ rest) (sym (file-after after uri j js texts))

changes-then : (after : Bool) (fs : List FileEdits) (rest : List ℕ)
    → AllByRecursion HasEdits fs
    → members_then after (changes_of fs) rest
    ≡ texts_after after (edits_texts fs) ++ 125 ∷ rest
changes-then false [] rest p = refl
changes-then true [] rest p = refl
changes-then after (f ∷ fs) rest p =
    one-file after f.uri f.edits (members_then true (changes_of fs) rest) (125 ∷ rest)
    (edits_texts fs) p.0 (changes-then true fs rest p.1)

-- edits of files, each of which has one
pub edits-text : (fs : List FileEdits) → AllByRecursion HasEdits fs
    → value_text (edits_of fs)
    ≡ list_text (codes "{\"changes\":{") (codes ",") (codes "}}") (edits_texts fs)
unfolding escape_byte
edits-text fs p =
    value_text-is (edits_of fs)
    ∙ ap (λ t. codes "{\"changes\":" ++ (123 ∷ t)) (changes-then false fs (codes "}") p)

-- ---- they read back

pub edit-numbers : (r : Range) (new : List ℕ) → FitsWords r → HasNumbers (edit_of r new)
edit-numbers r new p = (range-numbers r p, (tt, tt))

pub edits-reply : (id : Id) (fs : List FileEdits) → AllByRecursion HasEdits fs
    → result_body id
    (list_text (codes "{\"changes\":{") (codes ",") (codes "}}") (edits_texts fs))
    ≡ value_text (result_reply (id_json id) (edits_of fs))
edits-reply id fs p =
    ap (result_body id) (sym (edits-text fs p)) ∙ result-text id (edits_of fs)

abbrev AreNumbered : List FileEdits → Type 0
AreNumbered fs = AllByRecursion (λ (f : FileEdits). All HasNumbers f.edits) fs

abbrev AreShallow : List FileEdits → Type 0
AreShallow fs = AllByRecursion (λ (f : FileEdits). All (λ j. depth j ≤ 3) f.edits) fs

changes-numbers : (fs : List FileEdits) → AreNumbered fs → MembersHaveNumbers (changes_of fs)
changes-numbers [] p = tt
changes-numbers (f ∷ fs) p = (items-numbers f.edits p.0, changes-numbers fs p.1)

changes-depth : (fs : List FileEdits) → AreShallow fs → members_depth (changes_of fs) ≤ 4
changes-depth [] p = omega arith
changes-depth (f ∷ fs) p =
    omega (arith, items-depth f.edits 3 p.0, changes-depth fs p.1)

pub edits-read : (id : Id) (fs : List FileEdits) → HasNumbers (id_json id)
    → AllByRecursion HasEdits fs
    → AreNumbered fs → AreShallow fs
    → document (result_body id
    (list_text (codes "{\"changes\":{") (codes ",") (codes "}}") (edits_texts fs)))
    ≡ Some (result_tree id (edits_of fs))
edits-read id fs numbered p numbers shallow =
    ap (λ t. document (result_body id t)) (sym (edits-text fs p))
    ∙ result-reads id (edits_of fs) numbered ((changes-numbers fs numbers, tt))
    (omega (arith, changes-depth fs shallow))
