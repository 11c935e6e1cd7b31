-- Lists, an element at a time.
use Rattle.std.proofs.Common.{◌≡◌, ℕ, zero, suc, ◌+◌, ◌≤◌, List, [], ◌∷◌, ◌++◌, length, map, take}
use Rattle.std.proofs.Common.{refl, sym, ap, ap₂, ◌∙◌, subst}
use Rattle.std.proofs.Common.{arith, append_assoc, append-nil, length-append}
use Rattle.std.specs.Prelude.{codes}
use Rattle.std.proofs.lemmas.Grind.{flat_map-append}
use Rattle.json.specs.Print.{escape, escape_byte}
use Rattle.cb_tags.specs.Writers.{Writer}
use Rattle.cb_tags.specs.Writing.{PutsAll, PutsPrefix}
use Rattle.cb_tags.proofs.Prefixes.{PutsAll-after, PutsAll-none, PutsPrefix-after, PutsPrefix-more}
use Rattle.cb_wire.specs.declared.message.Id.{Id}
use Rattle.cb_wire.specs.Lists.{joined, with_separators}
use Rattle.cb_wire.specs.Replies.{result_body, result_front, result_head}
use Rattle.cb_wire.specs.Texts.{frame, frame_head}

-- a text of which something is left was written up to that
pub record Left (old new : Writer) (left all : List ℕ) : Type 0 where
  pub so_far : List ℕ
  pub wrote : PutsAll old new so_far
  pub rest : so_far ++ left ≡ all

pub left-none : (out : Writer) (all : List ℕ) → Left out out all all
left-none out all = record { so_far = []; wrote = PutsAll-none out; rest = refl }

pub left-more : (old mid new : Writer) (left rest all text : List ℕ) → left ≡ text ++ rest
    → Left old mid left all → PutsAll mid new text → Left old new rest all
left-more old mid new left rest all text step w p = record {
  so_far = w.so_far ++ text;
  wrote = PutsAll-after old mid new w.so_far text w.wrote p;
  rest = append_assoc w.so_far text rest ∙ ap (λ l. w.so_far ++ l) (sym step) ∙ w.rest;
}

pub left-fault : (old mid new : Writer) (left rest all text : List ℕ) → left ≡ text ++ rest
    → Left old mid left all → PutsPrefix mid new text → PutsPrefix old new all
left-fault old mid new left rest all text step w p =
    subst (PutsPrefix old new) (ap (λ l. w.so_far ++ l) (sym step) ∙ w.rest)
    (PutsPrefix-after old mid new w.so_far (text ++ rest) w.wrote
    (PutsPrefix-more mid new text rest p))

pub left-all : (old new : Writer) (left all : List ℕ) → left ≡ [] → Left old new left all
    → PutsAll old new all
left-all old new left all none w =
    subst (PutsAll old new)
    (sym (append-nil w.so_far) ∙ ap (λ l. w.so_far ++ l) (sym none) ∙ w.rest) w.wrote

-- a reply, whose result was counted
pub result-framed : (id : Id) (text : List ℕ) (n : ℕ) → n ≡ length text
    → result_head id n ++ (text ++ codes "}") ≡ frame (result_body id text)
result-framed id text n is =
    let front = result_front id in
    let end = text ++ codes "}" in
    append_assoc (frame_head (length front + n + 1)) front end
    ∙ ap (λ m. frame_head m ++ (front ++ end))
    (omega (
      arith,
      is,
      length-append front end,
      length-append text (codes "}"),
    ))

escape-behind : (between : List ℕ) (texts : List (List ℕ))
    → escape (with_separators between texts)
    ≡ with_separators (escape between) (map escape texts)
escape-behind between [] = refl
escape-behind between (t ∷ texts) =
    flat_map-append escape_byte (between ++ t) (with_separators between texts)
    ∙ ap₂ (λ a b. a ++ b) (flat_map-append escape_byte between t) (escape-behind between texts)

-- texts in one string of JSON
pub escape-joined : (between : List ℕ) (texts : List (List ℕ))
    → escape (joined between texts) ≡ joined (escape between) (map escape texts)
escape-joined between [] = refl
escape-joined between (t ∷ texts) =
    flat_map-append escape_byte t (with_separators between texts)
    ∙ ap (λ l. escape t ++ l) (escape-behind between texts)

-- no more are taken than asked for
pub take-few : (n : ℕ) (texts : List (List ℕ)) → length (take n texts) ≤ n
take-few zero texts = omega arith
take-few (suc n) [] = omega arith
take-few (suc n) (text ∷ texts) = omega (arith, take-few n texts)
