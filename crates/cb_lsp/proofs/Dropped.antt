-- A message that is dropped: what is written, and what it leaves.
use Rattle.std.proofs.Common.{◌≡◌, ◌∙◌, ap, refl, subst, sym, List, [], ◌∷◌, ◌++◌, Bool, false}
use Rattle.std.proofs.Common.{flat_map}
use Rattle.std.specs.Prelude.{Ok, Err, Option, None, Some, Result}
use Rattle.std.specs.List.{AllByRecursion}
use Rattle.std.proofs.lemmas.Grind.{flat_map-append}
use Rattle.json.specs.Json.{Json}
use Rattle.cb_tags.specs.declared.sink.WriteFault.{WriteFault}
use Rattle.cb_tags.specs.Writers.{Writer}
use Rattle.cb_tags.specs.Writing.{PutsAll, PutsPrefix}
use Rattle.cb_tags.proofs.Prefixes.{PutsAll-after, PutsPrefix-after, PutsPrefix-more}
use Rattle.cb_wire.specs.Texts.{frame}
use Rattle.cb_wire.specs.Values.{value_text}
use Rattle.cb_lsp.specs.Bodies.{Does, IsOf, IsValue, Takes, TakesBody, Turn, is_last, outcome}
use Rattle.cb_lsp.specs.Bodies.{or_else, refused, taken, written_text}
use Rattle.cb_lsp.specs.Documents.{Document, Looked}
use Rattle.cb_lsp.specs.Messages.{Message, Outcome, Serving, all_lost, dropped, named_lost}
use Rattle.cb_lsp.specs.steps.Told.{lost_text}
use Rattle.cb_lsp.specs.steps.Turns.{IsJson, TakesJson, going_on, some_last}

pub written-after : (first next : List Json)
    → written_text first ++ written_text next ≡ written_text (first ++ next)
written-after first next = sym (flat_map-append (λ j. frame (value_text j)) first next)

-- what is told of each document that is lost
pub named-text : (ds : List Document) → flat_map lost_text ds ≡ written_text (named_lost ds)
named-text [] = refl
named-text (d ∷ ds) =
    ap (λ t. lost_text d ++ t) (named-text ds) ∙ written-after _ (named_lost ds)

-- a message is written, and then all documents are lost
pub then-lost : (s next : Serving) (j : Json) (old between new : Writer)
    (r : Result (Unit {0}) WriteFault) → PutsAll old between (written_text (j ∷ []))
    → Does (all_lost s) next between new r → Does (dropped s j) next old new r
then-lost s next j old between new (Ok u) put does = (
  does.0,
  subst (PutsAll old new) (written-after (j ∷ []) (named_lost s.work.documents))
      (PutsAll-after old between new (written_text (j ∷ []))
      (written_text (named_lost s.work.documents)) put does.1),
)
then-lost s next j old between new (Err e) put does = (
  tt,
  subst (PutsPrefix old new) (written-after (j ∷ []) (named_lost s.work.documents))
      (PutsPrefix-after old between new (written_text (j ∷ []))
      (written_text (named_lost s.work.documents)) put does.1),
)

-- the message is not written
pub first-fails : (s : Serving) (j : Json) (old new : Writer)
    → PutsPrefix old new (written_text (j ∷ []))
    → PutsPrefix old new (written_text (dropped s j).written)
first-fails s j old new put =
    subst (PutsPrefix old new) (written-after (j ∷ []) (named_lost s.work.documents))
    (PutsPrefix-more old new (written_text (j ∷ []))
    (written_text (named_lost s.work.documents)) put)

-- a turn in which a message is dropped
pub takes-drop : (finds : Looked → Type 0) (t : Turn) (j : Json) (s next : Serving)
    (old new : Writer) (r : Result (Unit {0}) WriteFault) → dropped s j ≡ outcome s t
    → is_last t ≡ false → Does (dropped s j) next old new r
    → Takes finds t s next old new (going_on r)
takes-drop finds t j s next old new (Ok u) is last does = (
  (
    subst (λ (x : Outcome). (next ≡ x.server) × PutsAll old new (written_text x.written)) is does,
    subst (λ (x : Outcome). AllByRecursion finds x.read) is tt,
  ),
  sym last,
)
takes-drop finds t j s next old new (Err e) is last does = (
  (
    (tt, subst (λ (x : Outcome). PutsPrefix old new (written_text x.written)) is does.1),
    tt,
  ),
  tt,
)

pub drops : (finds : Looked → Type 0) (P : Message → Type 0) (t : Turn) (j : Json)
    (s next : Serving) (old new : Writer) (r : Result (Unit {0}) WriteFault)
    (goes : Result Bool WriteFault) → IsOf P t → dropped s j ≡ outcome s t → is_last t ≡ false
    → goes ≡ going_on r → Does (dropped s j) next old new r
    → TakesBody finds P s next old new goes
drops finds P t j s next old new r goes p is last going does = (
  t,
  p,
  subst (Takes finds t s next old new) (sym going)
      (takes-drop finds t j s next old new r is last does),
)

-- the same of a body that is JSON, or is not
pub some-taken : (finds : Looked → Type 0) (j : Option Json) (s next : Serving) (old new : Writer)
    (r : Result Bool WriteFault) (result : Result (Option Bool) WriteFault)
    → result ≡ some_last r → TakesBody finds (IsJson j) s next old new r
    → TakesJson finds j s next old new result
some-taken finds j s next old new (Ok last) result is takes =
    subst (TakesJson finds j s next old new) (sym is) takes
some-taken finds j s next old new (Err fault) result is takes =
    subst (TakesJson finds j s next old new) (sym is) takes

-- a body whose message is also known otherwise
pub weaker : (finds : Looked → Type 0) (P Q : Message → Type 0) (s next : Serving) (old new : Writer)
    (r : Result Bool WriteFault) → ((m : Message) → P m → Q m)
    → TakesBody finds P s next old new r → TakesBody finds Q s next old new r
weaker finds P Q s next old new r more (taken m o, p, takes) = (taken m o, more m p, takes)
weaker finds P Q s next old new r more (refused, p, takes) = (refused, tt, takes)

pub json-value : (j : Option Json) (m : Message) → IsJson j m → IsValue j m
json-value None m is = absurd is
json-value (Some v) m is = is

pub json-or-else : (j other : Option Json) (m : Message) → IsJson j m → IsValue (or_else j other) m
json-or-else None other m is = absurd is
json-or-else (Some v) other m is = is
