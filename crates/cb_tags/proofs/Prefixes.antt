-- Texts, and prefixes of them, that a writer has taken.
use Rattle.std.proofs.Common.{arith, ◌≡◌, ◌≢◌, ℕ, zero, suc, ◌+◌, ◌<◌, ◌≤◌, true, List, [], ◌∷◌}
use Rattle.std.proofs.Common.{◌++◌, length, take, drop, get_or, Option, None, Some, Result, Ok, Err}
use Rattle.std.proofs.Common.{refl, sym, ap, ◌∙◌, subst, append_assoc, append-nil, take-append-drop}
use Rattle.std.specs.Prelude.{IsErrAnd}
use Rattle.std.specs.List.{flat_map}
use Rattle.std.proofs.lemmas.Bool.{false≢true}
use Rattle.std.proofs.lemmas.Grind.{flat_map-append}
use Rattle.std.proofs.lemmas.List.{take_more}
use Rattle.std.proofs.Math.Seq.{take-add, drop-cons}
use Rattle.std.specs.Io.KnownBytes.{Appends, Keeps}
use Rattle.std.proofs.KnownBytes.{Appends-trans, Appends-nil, Appends-kept, Keeps-trans}
use Rattle.cb_tags.specs.Writers.{Writer, TakesBytes}
use Rattle.cb_tags.specs.Writing.{AppendsPrefix, PutsAll, PutsPrefix, Puts}

-- a prefix of a text is one of each longer text
pub AppendsPrefix-more : (a b : Option (List ℕ)) (text more : List ℕ) → AppendsPrefix a b text
    → AppendsPrefix a b (text ++ more)
AppendsPrefix-more a b text more p =
    (p.0, p.1 ++ more, ap (λ t. t ++ more) p.2 ∙ append_assoc p.0 p.1 more, p.3)

-- a whole text, and then a prefix of another
pub AppendsPrefix-after : (a b c : Option (List ℕ)) (text more : List ℕ) → Appends a b text
    → AppendsPrefix b c more → AppendsPrefix a c (text ++ more)
AppendsPrefix-after a b c text more p q = (
  text ++ q.0,
  q.1,
  ap (λ t. text ++ t) q.2 ∙ sym (append_assoc text q.0 q.1),
  Appends-trans a b c text q.0 p q.3,
)

-- a whole text is a prefix of it
pub AppendsPrefix-whole : (a b : Option (List ℕ)) (text : List ℕ) → Appends a b text
    → AppendsPrefix a b text
AppendsPrefix-whole a b text p = (text, [], sym (append-nil text), p)

-- a text of no bytes leaves the known bytes as they were
Keeps-none : (a b : Option (List ℕ)) → Appends a b [] → Keeps a b
Keeps-none None b p = tt
Keeps-none (Some x) None p = absurd p
Keeps-none (Some x) (Some y) p = p ∙ append-nil x

-- a text with a first byte is not empty
cons≢nil : (x : ℕ) (xs : List ℕ) → x ∷ xs ≢ []
cons≢nil x xs = λ e. cc

-- nothing was written
pub PutsAll-none : (w : Writer) → PutsAll w w []
PutsAll-none w = (refl, λ h. absurd (h refl), Appends-nil w.bytes, λ e. refl)

-- one text, and then another
pub PutsAll-after : (old mid new : Writer) (text more : List ℕ) → PutsAll old mid text
    → PutsAll mid new more → PutsAll old new (text ++ more)
PutsAll-after old mid new [] more p q = (
  q.0 ∙ p.0,
  λ h. sym p.0 ∙ q.1 h,
  Appends-trans old.bytes mid.bytes new.bytes [] more p.2 q.2,
  λ e. q.3 e ∙ p.3 refl,
)
PutsAll-after old mid new (x ∷ xs) more p q = (
  q.0 ∙ p.0,
  λ h. p.1 (cons≢nil x xs),
  Appends-trans old.bytes mid.bytes new.bytes
      (x ∷ xs) more p.2 q.2,
  λ e. absurd (cons≢nil x (xs ++ more) e),
)

-- a prefix of a text is one of each longer text
pub PutsPrefix-more : (old new : Writer) (text more : List ℕ) → PutsPrefix old new text
    → PutsPrefix old new (text ++ more)
PutsPrefix-more old new text more p =
    (p.0, p.1, AppendsPrefix-more old.bytes new.bytes text more p.2)

-- a whole text, and then a prefix of another
pub PutsPrefix-after : (old mid new : Writer) (text more : List ℕ) → PutsAll old mid text
    → PutsPrefix mid new more → PutsPrefix old new (text ++ more)
PutsPrefix-after old mid new [] more p q = (
  q.0,
  λ h. let k = q.1 (p.0 ∙ h) in (
    Keeps-trans old.bytes mid.bytes new.bytes
        (Keeps-none old.bytes mid.bytes p.2) k.0,
    k.1 ∙ p.3 refl,
  ),
  AppendsPrefix-after old.bytes mid.bytes new.bytes [] more p.2 q.2,
)
PutsPrefix-after old mid new (x ∷ xs) more p q = (
  q.0,
  λ h. absurd (false≢true (sym (p.1 (cons≢nil x xs)) ∙ h)),
  AppendsPrefix-after old.bytes mid.bytes new.bytes (x ∷ xs) more p.2 q.2,
)

-- the writer failed at once
pub PutsPrefix-none : (old new : Writer) (text : List ℕ) → new.failed ≡ true
    → Keeps old.bytes new.bytes → new.pending ≡ old.pending → PutsPrefix old new text
PutsPrefix-none old new text f k same = (
  f,
  λ h. (k, same),
  ([], text, refl, Appends-kept old.bytes old.bytes new.bytes [] (Appends-nil old.bytes) k),
)

-- the fault of a writer that was passed on
pub Puts-fault : {A E : Type 0} (old new : Writer) (r : Result A E) (fault : E → Type 0)
    (text : List ℕ) → IsErrAnd r fault → PutsPrefix old new text → Puts old new r text
Puts-fault old new (Ok x) fault text e p = absurd e
Puts-fault old new (Err x) fault text e p = p

-- one text, and then a call that writes the next
pub Puts-after : {A E : Type 0} (old mid new : Writer) (r : Result A E) (text more : List ℕ)
    → PutsAll old mid text → Puts mid new r more → Puts old new r (text ++ more)
Puts-after old mid new (Ok x) text more p q = PutsAll-after old mid new text more p q
Puts-after old mid new (Err x) text more p q = PutsPrefix-after old mid new text more p q

-- some bytes are no empty text
take-some : (n : ℕ) (xs : List ℕ) → 1 ≤ n → n ≤ length xs → take n xs ≢ []
take-some zero xs p q = let none : ⊥ = omega (arith, p) in absurd none
take-some (suc n) [] p q = let none : ⊥ = omega (arith, q) in absurd none
take-some (suc n) (x ∷ xs) p q = cons≢nil x (take n xs)

-- the next bytes of a text
pub PutsAll-next : (old mid new : Writer) (text : List ℕ) (at n : ℕ)
    → PutsAll old mid (take at text) → TakesBytes mid new (Ok n) (drop at text)
    → PutsAll old new (take (at + n) text)
PutsAll-next old mid new text at n p q =
    subst (λ t. PutsAll old new t) (sym (take-add at n text))
    (PutsAll-after old mid new (take at text) (take n (drop at text)) p
    (q.1 ∙ sym q.0, λ h. q.0, q.4, λ e. absurd (take-some n (drop at text) q.2 q.3 e)))

-- a text of which the first bytes were written, and nothing after them
pub PutsPrefix-stopped : (old mid new : Writer) (text : List ℕ) (at : ℕ)
    → PutsAll old mid (take at text)
    → (new.failed ≡ true) × Keeps mid.bytes new.bytes × (new.pending ≡ mid.pending)
    → PutsPrefix old new text
PutsPrefix-stopped old mid new text at p q =
    subst (λ t. PutsPrefix old new t) (take-append-drop at text)
    (PutsPrefix-after old mid new (take at text) (drop at text) p
    (PutsPrefix-none mid new (drop at text) q.0 q.1 q.2))

-- the texts of the elements of a list: those before an element, that of the element, those after it
pub flat_map-at : {X : Type 0} (f : X → List ℕ) (xs : List X) (i : ℕ) (d : X) → i < length xs
    → flat_map f xs ≡ flat_map f (take i xs) ++ (f (get_or xs i d) ++ flat_map f (drop (suc i) xs))
flat_map-at f xs i d h =
    ap (flat_map f) (sym (take-append-drop i xs)) ∙ flat_map-append f (take i xs) (drop i xs)
    ∙ ap (λ t. flat_map f (take i xs) ++ flat_map f t) (drop-cons xs i d h)

-- the text of the next element
pub PutsAll-element : {X : Type 0} (f : X → List ℕ) (old mid new : Writer) (xs : List X) (i : ℕ)
    (d : X) → i < length xs
    → PutsAll old mid (flat_map f (take i xs)) → PutsAll mid new (f (get_or xs i d))
    → PutsAll old new (flat_map f (take (i + 1) xs))
PutsAll-element f old mid new xs i d h p q =
    let e : flat_map f (take (i + 1) xs) ≡ flat_map f (take i xs) ++ f (get_or xs i d) =
    ap (flat_map f) (take_more xs i d h) ∙ flat_map-append f (take i xs) (get_or xs i d ∷ [])
    ∙ ap (λ t. flat_map f (take i xs) ++ t) (append-nil (f (get_or xs i d))) in
    subst (λ t. PutsAll old new t) (sym e)
    (PutsAll-after old mid new (flat_map f (take i xs)) (f (get_or xs i d)) p q)

-- a prefix of the text of the next element
pub PutsPrefix-element : {X : Type 0} (f : X → List ℕ) (old mid new : Writer) (xs : List X) (i : ℕ)
    (d : X) → i < length xs
    → PutsAll old mid (flat_map f (take i xs)) → PutsPrefix mid new (f (get_or xs i d))
    → PutsPrefix old new (flat_map f xs)
PutsPrefix-element f old mid new xs i d h p q =
    subst (λ t. PutsPrefix old new t) (sym (flat_map-at f xs i d h))
    (PutsPrefix-after old mid new (flat_map f (take i xs))
    (f (get_or xs i d) ++ flat_map f (drop (suc i) xs)) p
    (PutsPrefix-more mid new (f (get_or xs i d)) (flat_map f (drop (suc i) xs)) q))
