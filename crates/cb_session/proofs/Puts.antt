-- Texts that a writer has taken, and faults that were passed on.
use Rattle.std.proofs.Common.{◌≡◌, List, [], ◌∷◌, ◌++◌, Result, Ok, Err, ℕ, sym, subst}
use Rattle.std.proofs.Common.{append_assoc, append-nil, ap, ◌∙◌}
use Rattle.std.specs.Prelude.{IsErrAnd}
use Rattle.std.specs.List.{flat_map}
use Rattle.cb_session.specs.declared.input.Fault.{Fault}
use Rattle.cb_session.specs.declared.input.Fault.TheVariants.{Write}
use Rattle.cb_tags.specs.Writers.{Writer}
use Rattle.cb_tags.specs.Writing.{PutsAll, PutsPrefix}
use Rattle.cb_tags.proofs.Prefixes.{PutsAll-after, PutsPrefix-after, PutsPrefix-more}
use Rattle.cb_session.specs.Writing.{Puts}

-- the fault of a writer that was passed on
pub Puts-fault : {A : Type 0} (old new : Writer) (r : Result A Fault) (fault : Fault)
    (text : List ℕ) → IsErrAnd r (λ e. e ≡ fault) → fault ≡ Write
    → PutsPrefix old new text → Puts old new r text
Puts-fault old new (Ok x) fault text e w p = absurd e
Puts-fault old new (Err x) fault text e w p = (p, e ∙ w)

-- the fault of a writer that was passed on, before another text
pub Puts-unfinished : {A : Type 0} (old new : Writer) (r : Result A Fault) (fault : Fault)
    (text more : List ℕ) → IsErrAnd r (λ e. e ≡ fault) → fault ≡ Write
    → PutsPrefix old new text → Puts old new r (text ++ more)
Puts-unfinished old new r fault text more e w p =
    Puts-fault old new r fault (text ++ more) e w (PutsPrefix-more old new text more p)

-- one text, and then a call that writes the next
pub Puts-after : {A : Type 0} (old mid new : Writer) (r : Result A Fault) (text more : List ℕ)
    → PutsAll old mid text → Puts mid new r more
    → Puts old new r (text ++ more)
Puts-after old mid new (Ok x) text more p q = (PutsAll-after old mid new text more p q.0, q.1)
Puts-after old mid new (Err x) text more p q = (PutsPrefix-after old mid new text more p q.0, q.1)

-- elements written one after another: those before the ones that are left
pub record Written {X : Type 0} (f : X → List ℕ) (old out : Writer)
    (left all : List X) : Type 0 where
  pub so_far : List ℕ
  pub wrote : PutsAll old out so_far
  pub rest : so_far ++ flat_map f left ≡ flat_map f all

-- the next element
pub Written-more : {X : Type 0} (f : X → List ℕ) (old out new : Writer) (left rest all : List X)
    (x : X) → Written f old out left all
    → left ≡ x ∷ rest → PutsAll out new (f x) → Written f old new rest all
Written-more f old out new left rest all x s is wrote = record {
  so_far = s.so_far ++ f x;
  wrote = PutsAll-after old out new s.so_far (f x) s.wrote wrote;
  rest =
      append_assoc s.so_far (f x) (flat_map f rest) ∙ ap (λ l. s.so_far ++ flat_map f l) (sym is)
      ∙ s.rest;
}

-- an element that could not be written
pub Written-fault : {X A : Type 0} (f : X → List ℕ) (old out new : Writer) (left rest all : List X)
    (x : X) (r : Result A Fault) (fault : Fault)
    → Written f old out left all → left ≡ x ∷ rest → IsErrAnd r (λ e. e ≡ fault) → fault ≡ Write
    → PutsPrefix out new (f x)
    → Puts old new r (flat_map f all)
Written-fault f old out new left rest all x r fault s is e why p =
    let whole : s.so_far ++ (f x ++ flat_map f rest) ≡ flat_map f all =
    ap (λ l. s.so_far ++ flat_map f l) (sym is) ∙ s.rest in
    subst (λ l. Puts old new r l) whole
    (Puts-fault old new r fault _ e why
    (PutsPrefix-after old out new s.so_far (f x ++ flat_map f rest) s.wrote
    (PutsPrefix-more out new (f x) (flat_map f rest) p)))

-- no element is left
pub Written-all : {X : Type 0} (f : X → List ℕ) (old out : Writer) (left all : List X)
    → Written f old out left all → left ≡ []
    → PutsAll old out (flat_map f all)
Written-all f old out left all s none =
    subst (λ l. PutsAll old out l)
    (sym (append-nil s.so_far) ∙ ap (λ l. s.so_far ++ flat_map f l) (sym none) ∙ s.rest) s.wrote

-- a first text, and then elements one after another, of which these are left
abbrev pub WrittenAfter : {X : Type 0} → List ℕ → (X → List ℕ) → Writer → Writer
    → List X → List X → Type 0
WrittenAfter first f old out left all =
    (mid : Writer) × PutsAll old mid first × Written f mid out left all

pub WrittenAfter-more : {X : Type 0} (first : List ℕ) (f : X → List ℕ) (old out new : Writer)
    (left rest all : List X) (x : X)
    → WrittenAfter first f old out left all → left ≡ x ∷ rest → PutsAll out new (f x)
    → WrittenAfter first f old new rest all
WrittenAfter-more first f old out new left rest all x s is wrote =
    (s.0, s.1, Written-more f s.0 out new left rest all x s.2 is wrote)

pub WrittenAfter-fault : {X A : Type 0} (first : List ℕ) (f : X → List ℕ) (old out new : Writer)
    (left rest all : List X) (x : X) (r : Result A Fault) (fault : Fault)
    → WrittenAfter first f old out left all → left ≡ x ∷ rest → IsErrAnd r (λ e. e ≡ fault)
    → fault ≡ Write → PutsPrefix out new (f x)
    → Puts old new r (first ++ flat_map f all)
WrittenAfter-fault first f old out new left rest all x r fault s is e why p =
    Puts-after old s.0 new r first (flat_map f all) s.1
    (Written-fault f s.0 out new left rest all x r fault s.2 is e why p)

pub WrittenAfter-all : {X : Type 0} (first : List ℕ) (f : X → List ℕ) (old out : Writer)
    (left all : List X) → WrittenAfter first f old out left all
    → left ≡ [] → PutsAll old out (first ++ flat_map f all)
WrittenAfter-all first f old out left all s none =
    PutsAll-after old s.0 out first (flat_map f all) s.1 (Written-all f s.0 out left all s.2 none)
