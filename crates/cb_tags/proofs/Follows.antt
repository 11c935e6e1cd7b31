-- What holds whatever follows the bytes that were read, from call to call.
use Rattle.std.proofs.Common.{◌≡◌, ℕ, List, [], ◌∷◌, ◌++◌, Option, Some, None, Ok, Err, refl, sym}
use Rattle.std.proofs.Common.{ap, ◌∙◌, subst, append_assoc, append-nil}
use Rattle.std.specs.Io.KnownBytes.{Consumes, IsAtEnd}
use Rattle.std.proofs.KnownBytes.{Consumes-nil, Consumes-trans, Consumes-kept}
use Rattle.cb_tags.specs.declared.feed.ReadFault.{ReadFault}
use Rattle.cb_tags.specs.declared.feed.Stage.{Stage}
use Rattle.cb_tags.specs.declared.feed.Stage.TheVariants.{Open, Ended, Failed}
use Rattle.cb_tags.specs.Readers.{Reader, GivesByte, HasRead, MayFollow, WhateverFollows}
use Rattle.cb_tags.specs.Readers.{leaving}

-- bytes that are known twice are the same
pub Some-same : (xs ys : List ℕ) → Some xs ≡ Some ys → xs ≡ ys
Some-same xs ys e = cc

-- nothing was read
pub HasRead-nothing : (feed : Reader) → HasRead feed feed []
HasRead-nothing feed = (Consumes-nil feed.bytes, λ e. (refl, e))

-- some bytes, and then some more
pub HasRead-trans : (a b c : Reader) (xs ys : List ℕ) → HasRead a b xs → HasRead b c ys
    → HasRead a c (xs ++ ys)
HasRead-trans a b c xs ys p q = (
  Consumes-trans a.bytes b.bytes c.bytes xs ys p.0 q.0,
  λ e. let none = p.1 e in let more = q.1 none.1 in (ap (λ l. l ++ ys) none.0 ∙ more.0, more.1),
)

-- one byte
open_or_ended : (A : Type 0) (s : Stage) → s ≡ Open → s ≡ Ended → A
open_or_ended A s p q = cc

pub HasRead-byte : (old new : Reader) (b : ℕ) → GivesByte old new (Ok (Some b))
    → HasRead old new (b ∷ [])
HasRead-byte old new b k =
    (k.2, λ e. open_or_ended ((b ∷ [] ≡ []) × (new.stage ≡ Ended)) old.stage k.0 e)

-- the end of input
Consumes-end : (old new : Option (List ℕ)) → IsAtEnd old → new ≡ Some [] → Consumes old new []
Consumes-end None new p e = tt
Consumes-end (Some xs) None p e = cc
Consumes-end (Some xs) (Some ys) p e = cc

pub HasRead-end : (old new : Reader) → GivesByte old new (Ok None) → HasRead old new []
HasRead-end old new k = (Consumes-end old.bytes new.bytes k.2 k.3, λ e. (refl, k.1))

-- a fault
pub HasRead-fault : (old new : Reader) (fault : ReadFault) → GivesByte old new (Err fault)
    → HasRead old new []
HasRead-fault old new fault k = (
  Consumes-kept old.bytes old.bytes new.bytes [] (Consumes-nil old.bytes) k.2,
  λ e. absurd (k.0 e),
)

-- bytes after which none were read
pub HasRead-stop : (a b c : Reader) (xs : List ℕ) → HasRead a b xs → HasRead b c [] → HasRead a c xs
HasRead-stop a b c xs p q = subst (HasRead a c) (append-nil xs) (HasRead-trans a b c xs [] p q)

-- what may follow some bytes may follow where they begin
MayFollow-bytes : (old new : Reader) (read rest : List ℕ) → HasRead old new read
    → MayFollow new rest → MayFollow old (read ++ rest)
MayFollow-bytes old new read rest p m = λ e.
    let none = p.1 e in ap (λ l. l ++ rest) none.0 ∙ m none.1

-- nothing was read
pub Follows-nothing : (feed : Reader) (P : List ℕ → Reader → Type 0)
    → ((bytes : List ℕ) (left : Reader) → left.bytes ≡ Some bytes → P bytes left)
    → WhateverFollows feed feed P
Follows-nothing feed P f = ([], HasRead-nothing feed, λ rest m. f rest (leaving feed rest) refl)

-- what follows from what holds
pub Follows-so : (old new : Reader) (P Q : List ℕ → Reader → Type 0) → WhateverFollows old new P
    → ((bytes : List ℕ) (left : Reader) → P bytes left → Q bytes left) → WhateverFollows old new Q
Follows-so old new P Q w f = (w.0, w.1, λ rest m. f (w.0 ++ rest) (leaving new rest) (w.2 rest m))

-- one call, and then another, whose input is what the first has left
pub Follows-then : (a b c : Reader) (P Q R : List ℕ → Reader → Type 0) → WhateverFollows a b P
    → WhateverFollows b c Q
    → ((bytes more : List ℕ) (left : Reader) → P bytes (leaving b more) → Q more left
    → R bytes left) → WhateverFollows a c R
Follows-then a b c P Q R p q f = (
  p.0 ++ q.0,
  HasRead-trans a b c p.0 q.0 p.1 q.1,
  λ rest m.
      let more = q.0 ++ rest in
      subst (λ l. R l (leaving c rest)) (sym (append_assoc p.0 q.0 rest))
      (f (p.0 ++ more) more (leaving c rest) (p.2 more (MayFollow-bytes b c q.0 rest q.1 m))
      (q.2 rest m)),
)

-- bytes up to the end of input, which nothing follows
pub Follows-ended : (old mid new : Reader) (read : List ℕ) (P : List ℕ → Reader → Type 0)
    → HasRead old mid read → GivesByte mid new (Ok None)
    → P read (leaving new []) → WhateverFollows old new P
Follows-ended old mid new read P h k p = (
  read,
  HasRead-stop old mid new read h (HasRead-end mid new k),
  λ rest m.
      let alone : P (read ++ []) (leaving new []) =
      subst (λ l. P l (leaving new [])) (sym (append-nil read)) p in
      subst (λ l. P (read ++ l) (leaving new l)) (sym (m k.1)) alone,
)

-- bytes up to a fault
pub Follows-failed : (old mid new : Reader) (read : List ℕ) (fault : ReadFault)
    (P : List ℕ → Reader → Type 0) → HasRead old mid read
    → GivesByte mid new (Err fault)
    → ((bytes : List ℕ) (left : Reader) → left.stage ≡ Failed → P bytes left)
    → WhateverFollows old new P
Follows-failed old mid new read fault P h k f = (
  read,
  HasRead-stop old mid new read h (HasRead-fault mid new fault k),
  λ rest m. f (read ++ rest) (leaving new rest) k.1,
)
