-- What elements of lists have, and what is there in an option.
use Rattle.std.proofs.Common.{◌≡◌, refl, sym, subst, cond, Bool, true, false, List, [], ◌∷◌, map}
use Rattle.std.proofs.Common.{Option, Some, None}
use Rattle.std.specs.Prelude.{◌&&◌, filter, if◌then◌else◌, reverse, slice_get}
use Rattle.std.specs.List.{AllByRecursion, flat_map}
use Rattle.std.specs.Option.{MatchOption, option_map, option_map_or, option_or, option_to_list}
use Rattle.std.proofs.lemmas.Bool.{true≢false}
use Rattle.std.proofs.lemmas.List.{reverse-append}
use Rattle.cb_scan.proofs.WithinLemmas.{all-append}

-- ---- tests
pub and-first : (a b : Bool) → (a && b) ≡ true → a ≡ true
and-first true b is = refl
and-first false b is = is

pub and-second : (a b : Bool) → (a && b) ≡ true → b ≡ true
and-second true b is = is
and-second false b is = absurd (true≢false (sym is))

-- a test that two values fail, one of them fails
pub if-free : {X : Type 0} (p : X → Bool) (b : Bool) {x y : X} → p x ≡ false → p y ≡ false
    → p (if b then x else y) ≡ false
if-free p true e f = e
if-free p false e f = f

-- ---- lists

-- what each has under a condition that each keeps
pub all-met : {X : Type 0} (R N : X → Type 0) (xs : List X) → AllByRecursion (λ x. R x → N x) xs
    → AllByRecursion R xs → AllByRecursion N xs
all-met R N [] has met = tt
all-met R N (x ∷ xs) has met = (has.0 met.0, all-met R N xs has.1 met.1)

-- what is made of elements, one or many of each
module _ {X Y : Type 0} (P : X → Type 0) (Q : Y → Type 0) where
  pub all-made : (f : X → Y) → ((x : X) → P x → Q (f x)) → (xs : List X) → AllByRecursion P xs
      → AllByRecursion Q (map f xs)
  all-made f has [] all = tt
  all-made f has (x ∷ xs) all = (has x all.0, all-made f has xs all.1)

  pub all-flat : (f : X → List Y) → ((x : X) → P x → AllByRecursion Q (f x)) → (xs : List X)
      → AllByRecursion P xs → AllByRecursion Q (flat_map f xs)
  all-flat f has [] all = tt
  all-flat f has (x ∷ xs) all =
      all-append Q (f x) (flat_map f xs) (has x all.0) (all-flat f has xs all.1)

pub each-flat : {X Y : Type 0} (Q : Y → Type 0) (f : X → List Y)
    → ((x : X) → AllByRecursion Q (f x)) → (xs : List X) → AllByRecursion Q (flat_map f xs)
each-flat Q f has [] = tt
each-flat Q f has (x ∷ xs) = all-append Q (f x) (flat_map f xs) (has x) (each-flat Q f has xs)

pub each-made : {X Y : Type 0} (Q : Y → Type 0) (f : X → Y) → ((x : X) → Q (f x)) → (xs : List X)
    → AllByRecursion Q (map f xs)
each-made Q f has [] = tt
each-made Q f has (x ∷ xs) = (has x, each-made Q f has xs)

-- what a filter keeps passes its test
pub tested : {X : Type 0} (test : X → Bool) (xs : List X)
    → AllByRecursion (λ x. test x ≡ true) (filter test xs)
tested test [] = tt
tested test (x ∷ xs) =
    (elim (test x) as (λ b. test x ≡ b
    → AllByRecursion (λ x. test x ≡ true) (cond b (x ∷ filter test xs) (filter test xs)))
    [ true ↦ λ is. (is, tested test xs) | false ↦ λ _. tested test xs ]) refl

pub all-reverse : {X : Type 0} (Q : X → Type 0) (xs : List X) → AllByRecursion Q xs
    → AllByRecursion Q (reverse xs)
all-reverse Q [] all = tt
all-reverse Q (x ∷ xs) all =
    subst (AllByRecursion Q) (sym (reverse-append (x ∷ []) xs))
    (all-append Q (reverse xs) (x ∷ []) (all-reverse Q xs all.1) (all.0, tt))

-- the first element
pub first-has : {X : Type 0} (Q : X → Type 0) (xs : List X) → AllByRecursion Q xs
    → MatchOption (slice_get xs 0) (Unit {0}) Q
first-has Q [] all = tt
first-has Q (x ∷ xs) all = all.0

pub front-has : {X Y : Type 0} (Q : Y → Type 0) (f : X → Y) (xs : List X)
    → AllByRecursion (λ x. Q (f x)) xs → MatchOption (option_map f (slice_get xs 0)) (Unit {0}) Q
front-has Q f [] all = tt
front-has Q f (x ∷ xs) all = all.0

-- ---- options

-- what an option has under a condition that it keeps
pub if-met : {X : Type 0} (R N : X → Type 0) (o : Option X)
    → MatchOption o (Unit {0}) (λ x. R x → N x) → MatchOption o (Unit {0}) R
    → MatchOption o (Unit {0}) N
if-met R N None has met = tt
if-met R N (Some x) has met = has met

-- a list with what is there
pub listed-has : {X Y : Type 0} (P : X → Type 0) (Q : Y → Type 0) (f : X → Y)
    → ((x : X) → P x → Q (f x)) → (o : Option X) (rest : List Y) → MatchOption o (Unit {0}) P
    → AllByRecursion Q rest → AllByRecursion Q (option_map_or (λ x. f x ∷ []) o rest)
listed-has P Q f has None rest p q = q
listed-has P Q f has (Some x) rest p q = (has x p, tt)

pub alone-has : {X : Type 0} (P : X → Type 0) (o : Option X) → MatchOption o (Unit {0}) P
    → AllByRecursion P (option_to_list o)
alone-has P None p = tt
alone-has P (Some x) p = (p, tt)

-- what is made of what is there
pub made-has : {X Y : Type 0} (P : Y → Type 0) (test : X → Bool) (make : X → Y)
    → ((x : X) → test x ≡ true → P (make x)) → (o : Option X)
    → MatchOption (option_map_or (λ x. if test x then Some (make x) else None) o None) (Unit {0}) P
made-has P test make has None = tt
made-has P test make has (Some x) =
    (elim (test x) as (λ b. test x ≡ b
    → MatchOption (if b then Some (make x) else None) (Unit {0}) P)
    [ true ↦ λ is. has x is | false ↦ λ _. tt ]) refl

pub or-has : {X : Type 0} (P : X → Type 0) (a b : Option X) → MatchOption a (Unit {0}) P
    → MatchOption b (Unit {0}) P → MatchOption (option_or a b) (Unit {0}) P
or-has P None b p q = q
or-has P (Some x) b p q = p

pub mapped-has : {X Y : Type 0} (P : X → Type 0) (Q : Y → Type 0) (f : X → Y)
    → ((x : X) → P x → Q (f x)) → (o : Option X) (rest : Option Y) → MatchOption o (Unit {0}) P
    → MatchOption rest (Unit {0}) Q
    → MatchOption (option_map_or (λ x. Some (f x)) o rest) (Unit {0}) Q
mapped-has P Q f has None rest p q = q
mapped-has P Q f has (Some x) rest p q = has x p

pub unless-has : {X Y : Type 0} (P : X → Type 0) (Q : Y → Type 0) (test : X → Bool) (f : X → Y)
    → ((x : X) → P x → Q (f x)) → (o : Option X) (rest : Option Y) → MatchOption o (Unit {0}) P
    → MatchOption rest (Unit {0}) Q
    → MatchOption (option_map_or (λ x. if test x then None else Some (f x)) o rest) (Unit {0}) Q
unless-has P Q test f has None rest p q = q
unless-has P Q test f has (Some x) rest p q =
    elim (test x) as (λ b. MatchOption (if b then None else Some (f x)) (Unit {0}) Q)
    [ true ↦ tt | false ↦ has x p ]
