-- What is done in turn, one at a time: what was written and read so far.
use Rattle.std.proofs.Common.{◌≡◌, ◌∙◌, ◌++◌, Bool, List, [], ◌∷◌, refl, ap, sym, subst}
use Rattle.std.proofs.Common.{append_assoc}
use Rattle.std.specs.Prelude.{OnOk, Result, Ok, Err}
use Rattle.std.specs.List.{AllByRecursion}
use Rattle.json.specs.Json.{Json}
use Rattle.cb_tags.specs.Writers.{Writer}
use Rattle.cb_tags.specs.Writing.{Puts, PutsAll, PutsPrefix}
use Rattle.cb_tags.proofs.Prefixes.{Puts-after, PutsAll-none, PutsPrefix-more}
use Rattle.cb_lsp.specs.Bodies.{DoesBy, written_text}
use Rattle.cb_lsp.specs.Documents.{Looked, Oracle, Reading}
use Rattle.cb_lsp.specs.Messages.{Outcome, Serving, and_then}
use Rattle.cb_lsp.specs.steps.Works.{one_event}
use Rattle.cb_lsp.proofs.Answered.{by-same}
use Rattle.cb_lsp.proofs.Dropped.{written-after}
use Rattle.cb_lsp.proofs.Notices.{quiet}

pub all-joined : (finds : Looked → Type 0) (xs ys : List Looked) → AllByRecursion finds xs
    → AllByRecursion finds ys → AllByRecursion finds (xs ++ ys)
all-joined finds [] ys all more = more
all-joined finds (x ∷ xs) ys all more = (all.0, all-joined finds xs ys all.1 more)

joined-if : {A E : Type 0} (r : Result A E) (finds : Looked → Type 0) (xs ys : List Looked)
    → AllByRecursion finds xs → OnOk r (AllByRecursion finds ys)
    → OnOk r (AllByRecursion finds (xs ++ ys))
joined-if (Ok a) finds xs ys all more = all-joined finds xs ys all more
joined-if (Err e) finds xs ys all more = tt

-- what was written and read, and the server that it left
abbrev pub so : Serving → List Json → List Looked → Outcome
so s written read = record { server = s; written = written; read = read }

and-then-more : (first o last : Outcome)
    → and_then first (and_then o last) ≡ and_then (and_then first o) last
and-then-more first o last = λ i.
    so last.server (sym (append_assoc first.written o.written last.written) i)
    (sym (append_assoc first.read o.read last.read) i)

-- after what was written and read an outcome more; and one behind which the writer has failed
done-after : {A E : Type 0} (finds : Looked → Type 0) (s next : Serving) (written : List Json)
    (read : List Looked) (before between after : Writer) (o : Outcome) (r : Result A E)
    → PutsAll before between (written_text written) → AllByRecursion finds read
    → DoesBy finds o next between after r
    → DoesBy finds (and_then (so s written read) o) next before after r
done-after finds s next written read before between after o r put all does = (
  (
    does.0.0,
    subst (Puts before after r) (written-after written o.written)
        (Puts-after before between after r (written_text written) (written_text o.written) put
        does.0.1),
  ),
  joined-if r finds read o.read all does.1,
)

failed-before : (A B E : Type 0) (finds : Looked → Type 0) (o last : Outcome) (now : Serving)
    (before after : Writer) (e : E) → DoesBy {A = A} finds o now before after (Err e)
    → DoesBy {A = B} finds (and_then o last) now before after (Err e)
failed-before A B E finds o last now before after e does = (
  (
    tt,
    subst (PutsPrefix before after) (written-after o.written last.written)
        (PutsPrefix-more before after (written_text o.written) (written_text last.written)
        does.0.1),
  ),
  tt,
)

-- what is decided for one, before what is decided for more
abbrev pub first_of_all : (m n : Bool) → Reading → Oracle → Oracle
first_of_all m n f more = record { refusals = m ∷ n ∷ more.refusals; found = f ∷ more.found }

-- up to those that are left, all was done; whatever is decided for those
abbrev pub DoneSo : {L : Type 0} → (all : Oracle → Serving → L → Outcome)
    → (finds : Looked → Type 0) → (start now : Serving) → (before after : Writer) → (xs left : L)
    → Type 0
DoneSo all finds start now before after xs left =
    (written : List Json) × (read : List Looked) × PutsAll before after (written_text written)
    × AllByRecursion finds read
    × ((more : Oracle) → (o : Oracle)
    × (all o start xs ≡ and_then (so now written read) (all more now left)))

pub done-none : {L : Type 0} (all : Oracle → Serving → L → Outcome) (finds : Looked → Type 0)
    (s : Serving) (w : Writer) (xs : L) → DoneSo all finds s s w w xs xs
done-none all finds s w xs = ([], [], PutsAll-none w, tt, λ more. (more, refl))

-- none is left
pub done-ends : {A E L : Type 0} (all : Oracle → Serving → L → Outcome) (finds : Looked → Type 0)
    (start now next : Serving) (before between after : Writer) (xs left end : L) (o : Oracle)
    (r : Result A E) → left ≡ end → DoneSo all finds start now before between xs left
    → DoesBy finds (all o now end) next between after r
    → (p : Oracle) × DoesBy finds (all p start xs) next before after r
done-ends all finds start now next before between after xs left end o r none so_far does =
    let p = so_far.4 o in (
      p.0,
      by-same finds (all p.0 start xs) (and_then (so now so_far.0 so_far.1) (all o now end)) next
          before after r
          (sym (p.1 ∙ ap (λ ls. and_then (so now so_far.0 so_far.1) (all o now ls)) none))
          (done-after finds now next so_far.0 so_far.1 before between after (all o now end) r
          so_far.2 so_far.3 does),
    )

-- one at a time, each of which is decided first
module _ {X L : Type 0} (cons : X → L → L) (step : Oracle → Serving → X → Outcome)
    (all : Oracle → Serving → L → Outcome)
    (first : (m n : Bool) (f : Reading) (more : Oracle) (s : Serving) (x : X) (left : L)
    → all (first_of_all m n f more) s (cons x left) ≡ and_then (step (one_event m n f) s x)
    (all more (step (one_event m n f) s x).server left))
    (finds : Looked → Type 0) (start mid now : Serving) (before between after : Writer)
    (xs left : L) (x : X) (m n : Bool) (f : Reading)
    (so_far : DoneSo all finds start mid before between xs (cons x left))
  where
    abbrev o : Outcome
    o = step (one_event m n f) mid x

    -- whatever is decided for more
    with-one : (more : Oracle) → (p : Oracle) × (all p start xs
        ≡ and_then (and_then (so mid so_far.0 so_far.1) o) (all more o.server left))
    with-one more =
        let p = so_far.4 (first_of_all m n f more) in (
          p.0,
          p.1 ∙ ap (and_then (so mid so_far.0 so_far.1)) (first m n f more mid x left)
              ∙ and-then-more (so mid so_far.0 so_far.1) o (all more o.server left),
        )

    -- one more, by its outcome
    pub done-more : {A E : Type 0} (r : Result A E) (a : A) → r ≡ Ok a
        → DoesBy finds o now between after r → DoneSo all finds start now before after xs left
    done-more {E = E} r a ok result =
        let does = done-after {E = E} finds mid now so_far.0 so_far.1 before between after o (Ok a) so_far.2
        so_far.3 (subst (DoesBy finds o now between after) ok result) in (
          so_far.0 ++ o.written,
          so_far.1 ++ o.read,
          does.0.1,
          does.1,
          λ more.
              let p = with-one more in (
                p.0,
                p.1 ∙ ap (λ s. and_then (so s (so_far.0 ++ o.written) (so_far.1 ++ o.read))
                    (all more s left)) (sym does.0.0),
              ),
        )

    -- the writer fails at it
    pub done-fails : {A B E : Type 0} (r : Result A E) (last : Result B E) (e : E)
        → r ≡ Err e → last ≡ Err e → DoesBy finds o now between after r
        → (p : Oracle) × DoesBy finds (all p start xs) now before after last
    done-fails {A = A} {B = B} {E = E} r last e err same result =
        let does = done-after {A = A} finds mid now so_far.0 so_far.1 before between after o (Err e) so_far.2
        so_far.3 (subst (DoesBy finds o now between after) err result) in
        let p = with-one quiet in
        let whole = and_then (so mid so_far.0 so_far.1) o in (
          p.0,
          subst (DoesBy finds (all p.0 start xs) now before after) (sym same)
              (by-same {A = B} finds (all p.0 start xs) (and_then whole (all quiet o.server left)) now before
              after (Err e) (sym p.1)
              (failed-before A B E finds whole (all quiet o.server left) now before after e does)),
        )
