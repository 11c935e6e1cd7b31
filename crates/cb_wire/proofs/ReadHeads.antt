-- A head that is read byte by byte is the head of the stream.
use Rattle.std.proofs.Common.{◌≡◌, ◌≢◌, ℕ, suc, ◌+◌, ◌-◌, ◌<◌, ◌≤◌, List, [], ◌∷◌, ◌++◌, length}
use Rattle.std.proofs.Common.{Some, None, Ok, refl, sym, ap, ◌∙◌, arith}
use Rattle.std.proofs.Common.{append_assoc, append-nil, length-append}
use Rattle.cb_tags.specs.Readers.{Reader, GivesByte, HasRead, WhateverFollows}
use Rattle.cb_tags.proofs.Follows.{HasRead-byte, HasRead-trans, Follows-ended}
use Rattle.cb_wire.specs.declared.head.TheConstants.{MOST_HEAD}
use Rattle.cb_wire.specs.declared.head.Line.{Line}
use Rattle.cb_wire.specs.declared.head.Step.{Step}
use Rattle.cb_wire.specs.declared.head.Step.TheVariants.{On, End, Bad}
use Rattle.cb_wire.specs.declared.head.HeadRead.TheVariants.{Ended as EndedInside}
use Rattle.cb_wire.specs.declared.head.HeadRead.TheVariants.{Bad as NoHead, Whole}
use Rattle.cb_wire.specs.Heads.{Head, head, head_after, head_from, next}
use Rattle.cb_wire.specs.steps.ReadHeads.{EndsKnown, ReadsHead}

-- bytes of a head that were read and kept, and how far the last line is
pub record Kept (old new : Reader) (line : Line) (kept : List ℕ) (read : ℕ) : Type 0 where
  pub taken : HasRead old new kept
  pub count : length kept ≡ read
  pub more : (rest : List ℕ) → head (kept ++ rest) ≡ head_from (MOST_HEAD - read) line kept rest

-- a byte more
step : (old mid : Reader) (line : Line) (kept : List ℕ) (read b : ℕ) → Kept old mid line kept read
    → read < MOST_HEAD → (rest : List ℕ)
    → head ((kept ++ b ∷ []) ++ rest)
    ≡ head_after (next line b) (λ more. head_from (MOST_HEAD - (read + 1)) more (kept ++ b ∷ []) rest)
    (kept ++ b ∷ []) rest
unfolding head_from
step old mid line kept read b k small rest =
    let left : MOST_HEAD - read ≡ suc (MOST_HEAD - (read + 1)) = omega arith in
    ap head (append_assoc kept (b ∷ []) rest) ∙ k.more (b ∷ rest)
    ∙ ap (λ n. head_from n line kept (b ∷ rest)) left

module _ (old mid new : Reader) (line : Line) (kept : List ℕ) (read b : ℕ)
    (k : Kept old mid line kept read) (small : read < MOST_HEAD)
    (gives : GivesByte mid new (Ok (Some b)))
  where
    abbrev stepped : Step → List ℕ → Head
    stepped s rest =
        head_after s (λ more. head_from (MOST_HEAD - (read + 1)) more (kept ++ b ∷ []) rest)
        (kept ++ b ∷ []) rest

    taken : HasRead old new (kept ++ b ∷ [])
    taken = HasRead-trans old mid new kept (b ∷ []) k.taken (HasRead-byte mid new b gives)

    pub Kept-byte : (more : Line) → next line b ≡ On more → Kept old new more (kept ++ b ∷ []) (read + 1)
    Kept-byte more is = record {
      taken = taken;
      count = omega (arith, length-append kept (b ∷ []), k.count);
      more = λ rest. step old mid line kept read b k small rest
          ∙ ap (λ s. stepped s rest) is;
    }

    pub head-whole : next line b ≡ End
        → WhateverFollows old new (λ bytes left. ReadsHead bytes left (kept ++ b ∷ []) (Ok Whole))
    head-whole is = (
      kept ++ b ∷ [],
      taken,
      λ rest m. (
        rest,
        step old mid line kept read b k small rest
            ∙ ap (λ s. stepped s rest) is,
        refl,
      ),
    )

    pub head-broken : next line b ≡ Bad
        → WhateverFollows old new (λ bytes left. ReadsHead bytes left (kept ++ b ∷ []) (Ok NoHead))
    head-broken is = (
      kept ++ b ∷ [],
      taken,
      λ rest m.
          step old mid line kept read b k small rest
          ∙ ap (λ s. stepped s rest) is,
    )

-- a reader that gave a byte is not at the end
pub Open-ends : (old new : Reader) (b : ℕ) → GivesByte old new (Ok (Some b)) → EndsKnown new
Open-ends old new b k = λ e. let no = sym k.1 ∙ e in cc

-- the most bytes, and no end
pub head-long : (old new : Reader) (line : Line) (kept : List ℕ) (read : ℕ)
    → Kept old new line kept read → MOST_HEAD ≤ read
    → WhateverFollows old new (λ bytes left. ReadsHead bytes left kept (Ok NoHead))
unfolding head_from
head-long old new line kept read k all = (
  kept,
  k.taken,
  λ rest m.
      let none : MOST_HEAD - read ≡ 0 = omega arith in
      k.more rest ∙ ap (λ n. head_from n line kept rest) none,
)

-- the end of input
module _ (old mid new : Reader) (line : Line) (kept : List ℕ) (read : ℕ)
    (k : Kept old mid line kept read) (gives : GivesByte mid new (Ok None))
  where
    no_bytes : (xs : List ℕ) → length xs ≡ 0 → xs ≡ []
    no_bytes [] h = refl
    no_bytes (x ∷ xs) h = absurd (omega arith)

    pub head-ended : read ≢ 0 → read < MOST_HEAD
        → WhateverFollows old new (λ bytes left. ReadsHead bytes left kept (Ok EndedInside))
    unfolding head_from
    head-ended some small =
        let left : MOST_HEAD - read ≡ suc (MOST_HEAD - (read + 1)) = omega arith in
        Follows-ended old mid new kept (λ bytes left. ReadsHead bytes left kept (Ok EndedInside))
        k.taken gives (
          λ none. some (sym k.count ∙ ap length none),
          ap head (sym (append-nil kept)) ∙ k.more []
              ∙ ap (λ n. head_from n line kept []) left,
        )
