-- What turns leave, one after another.
use Rattle.std.proofs.Common.{◌≡◌, ℕ, ◌+◌, false, List, [], ◌∷◌, ◌++◌, length, Some}
use Rattle.std.proofs.Common.{None, Ok, Err, refl, sym, ap, ◌∙◌, subst, append-nil, append_assoc}
use Rattle.std.specs.Io.KnownBytes.{Appends}
use Rattle.std.specs.List.{AllByRecursion}
use Rattle.std.proofs.KnownBytes.{Appends-nil, Appends-trans}
use Rattle.std.proofs.lemmas.List.{length-append}
use Rattle.cb_tags.proofs.Follows.{Follows-nothing, Follows-so, Follows-then, Some-same}
use Rattle.cb_tags.specs.declared.sink.WriteFault.{WriteFault}
use Rattle.cb_tags.specs.Readers.{Reader, WhateverFollows, leaving}
use Rattle.cb_tags.specs.Writers.{Writer}
use Rattle.cb_tags.specs.Writing.{AppendsPrefix}
use Rattle.cb_wire.specs.Frames.{first}
use Rattle.cb_lsp.specs.declared.run.RunFault.TheVariants.{ManyMessages, Write}
use Rattle.cb_lsp.specs.declared.turn.Ending.{Ending}
use Rattle.cb_lsp.specs.Messages.{Serving}
use Rattle.cb_lsp.specs.Bodies.{Turn, after, is_last, read_in, reply_text}
use Rattle.cb_lsp.specs.Documents.{Looked}
use Rattle.cb_lsp.specs.Endings.{IsEnd, IsNext, LeavesTurn}
use Rattle.cb_lsp.specs.Runs.{HandsOn, Leads, LeavesRun, most_messages, output}

-- so many turns have led a run so far
abbrev pub Led : (finds : Looked → Type 0) → List ℕ → (s next : Serving) → Reader → Writer → Writer → ℕ → Type 0
Led finds bytes s next left old new n =
    (ts : List Turn) × (rest : List ℕ) × Leads finds bytes s ts rest next × (left.bytes ≡ Some rest)
    × (length ts ≡ n) × Appends old.bytes new.bytes (output s ts) × HandsOn old new

-- one turn more
Leads-more : (finds : Looked → Type 0) (bytes : List ℕ) (s : Serving) (ts : List Turn) (t : Turn) (mid rest : List ℕ)
    (next last : Serving) → Leads finds bytes s ts mid next → IsNext (first mid) t rest
    → is_last t ≡ false → last ≡ after next t → AllByRecursion finds (read_in next t)
    → Leads finds bytes s (ts ++ t ∷ []) rest last
    × (output s (ts ++ t ∷ []) ≡ output s ts ++ reply_text next t)
unfolding Leads output
Leads-more finds bytes s [] t mid rest next last l n e a r = (
  (
    rest,
    subst (λ b. IsNext (first b) t rest) l.0 n,
    e,
    subst (λ x. AllByRecursion finds (read_in x t)) l.1 r,
    (refl, a ∙ ap (λ x. after x t) l.1),
  ),
  append-nil (reply_text s t) ∙ ap (λ x. reply_text x t) (sym l.1),
)
Leads-more finds bytes s (u ∷ ts) t mid rest next last l n e a r =
    let more = Leads-more finds l.0 (after s u) ts t mid rest next last l.4 n e a r in (
      (l.0, l.1, l.2, l.3, more.0),
      ap (λ o. reply_text s u ++ o) more.1
          ∙ sym (append_assoc (reply_text s u) (output (after s u) ts) (reply_text next t)),
    )

Led-start : (finds : Looked → Type 0) (bytes : List ℕ) (s : Serving) (left : Reader) (out : Writer)
    → left.bytes ≡ Some bytes → Led finds bytes s s left out out 0
unfolding Leads output
Led-start finds bytes s left out e = ([], bytes, (refl, refl), e, refl, Appends-nil out.bytes, λ p. p)

Led-more : (finds : Looked → Type 0) (bytes more : List ℕ) (s mid next : Serving) (at left : Reader)
    (old between new : Writer) (n : ℕ) → at.bytes ≡ Some more → Led finds bytes s mid at old between n
    → LeavesTurn finds (first more) mid next left between new (Ok None)
    → Led finds bytes s next left old new (n + 1)
Led-more finds bytes more s mid next at left old between new n e led turn =
    let ts = led.0 in
    let t = turn.0 in
    let same : led.1 ≡ more = Some-same led.1 more (sym led.3 ∙ e) in
    let is : IsNext (first led.1) t turn.1 =
    subst (λ b. IsNext (first b) t turn.1) (sym same) turn.2 in
    let all = Leads-more finds bytes s ts t led.1 turn.1 mid next led.2 is turn.3 turn.5
    turn.8 in (
      ts ++ t ∷ [],
      turn.1,
      all.0,
      turn.4,
      length-append ts (t ∷ []) ∙ ap (λ k. k + 1) led.4,
      subst (Appends old.bytes new.bytes) (sym all.1)
          (Appends-trans old.bytes between.bytes new.bytes (output s ts) (reply_text mid t) led.5
          turn.6),
      λ p. turn.7,
    )

Led-ends : (finds : Looked → Type 0) (bytes more : List ℕ) (s mid next : Serving) (at left : Reader)
    (old between new : Writer) (n : ℕ) (how : Ending) → at.bytes ≡ Some more
    → Led finds bytes s mid at old between n
    → LeavesTurn finds (first more) mid next left between new (Ok (Some how))
    → LeavesRun finds bytes s next left old new (Ok how)
Led-ends finds bytes more s mid next at left old between new n how e led turn =
    let ts = led.0 in
    let same : led.1 ≡ more = Some-same led.1 more (sym led.3 ∙ e) in
    let ends : IsEnd (first led.1) mid left how =
    subst (λ b. IsEnd (first b) mid left how) (sym same) turn.0 in (
      ts,
      led.1,
      subst (Leads finds bytes s ts led.1) (sym turn.1) led.2,
      subst (λ x. IsEnd (first led.1) x left how) (sym turn.1) ends,
      subst (Appends old.bytes new.bytes) (append-nil (output s ts))
          (Appends-trans old.bytes between.bytes new.bytes (output s ts) [] led.5 turn.2),
      λ p. turn.3 ∙ led.6 p,
    )

Led-fails : (finds : Looked → Type 0) (bytes more : List ℕ) (s mid next : Serving) (at left : Reader)
    (old between new : Writer) (n : ℕ) (fault : WriteFault) → at.bytes ≡ Some more
    → Led finds bytes s mid at old between n
    → LeavesTurn finds (first more) mid next left between new (Err fault)
    → LeavesRun finds bytes s next left old new (Err Write)
Led-fails finds bytes more s mid next at left old between new n fault e led turn =
    let ts = led.0 in
    let t = turn.1.0 in
    let rest = turn.1.1 in
    let part = turn.1.3 in
    let same : led.1 ≡ more = Some-same led.1 more (sym led.3 ∙ e) in
    let is : IsNext (first led.1) t rest =
    subst (λ b. IsNext (first b) t rest) (sym same) turn.1.2 in
    let all : AppendsPrefix old.bytes new.bytes (output s ts ++ reply_text mid t) = (
      output s ts ++ part.0,
      part.1,
      ap (λ l. output s ts ++ l) part.2 ∙ sym (append_assoc (output s ts) part.0 part.1),
      Appends-trans old.bytes between.bytes new.bytes (output s ts) part.0 led.5 part.3,
    ) in
    (ts, led.1, mid, led.2, turn.0, (t, rest, is, all))

-- ---- whatever follows

pub Follows-start : (finds : Looked → Type 0) (feed : Reader) (s : Serving) (out : Writer)
    → WhateverFollows feed feed (λ bytes left. Led finds bytes s s left out out 0)
Follows-start finds feed s out =
    Follows-nothing feed (λ bytes left. Led finds bytes s s left out out 0)
    (λ bytes left. Led-start finds bytes s left out)

pub Follows-more : (finds : Looked → Type 0) (a b c : Reader) (s mid next : Serving) (old between new : Writer) (n : ℕ)
    → WhateverFollows a b (λ bytes left. Led finds bytes s mid left old between n)
    → WhateverFollows b c
    (λ bytes left. LeavesTurn finds (first bytes) mid next left between new (Ok None))
    → WhateverFollows a c (λ bytes left. Led finds bytes s next left old new (n + 1))
Follows-more finds a b c s mid next old between new n p q =
    Follows-then a b c (λ bytes left. Led finds bytes s mid left old between n)
    (λ bytes left. LeavesTurn finds (first bytes) mid next left between new (Ok None))
    (λ bytes left. Led finds bytes s next left old new (n + 1)) p q
    (λ bytes more left. Led-more finds bytes more s mid next (leaving b more) left old between new n refl)

pub Follows-ends : (finds : Looked → Type 0) (a b c : Reader) (s mid next : Serving) (old between new : Writer) (n : ℕ)
    (how : Ending) → WhateverFollows a b (λ bytes left. Led finds bytes s mid left old between n)
    → WhateverFollows b c
    (λ bytes left. LeavesTurn finds (first bytes) mid next left between new (Ok (Some how)))
    → WhateverFollows a c (λ bytes left. LeavesRun finds bytes s next left old new (Ok how))
Follows-ends finds a b c s mid next old between new n how p q =
    Follows-then a b c (λ bytes left. Led finds bytes s mid left old between n)
    (λ bytes left. LeavesTurn finds (first bytes) mid next left between new (Ok (Some how)))
    (λ bytes left. LeavesRun finds bytes s next left old new (Ok how)) p q
    (λ bytes more left.
    Led-ends finds bytes more s mid next (leaving b more) left old between new n how refl)

pub Follows-fails : (finds : Looked → Type 0) (a b c : Reader) (s mid next : Serving) (old between new : Writer) (n : ℕ)
    (fault : WriteFault) → WhateverFollows a b (λ bytes left. Led finds bytes s mid left old between n)
    → WhateverFollows b c
    (λ bytes left. LeavesTurn finds (first bytes) mid next left between new (Err fault))
    → WhateverFollows a c (λ bytes left. LeavesRun finds bytes s next left old new (Err Write))
Follows-fails finds a b c s mid next old between new n fault p q =
    Follows-then a b c (λ bytes left. Led finds bytes s mid left old between n)
    (λ bytes left. LeavesTurn finds (first bytes) mid next left between new (Err fault))
    (λ bytes left. LeavesRun finds bytes s next left old new (Err Write)) p q
    (λ bytes more left.
    Led-fails finds bytes more s mid next (leaving b more) left old between new n fault refl)

pub Follows-most : (finds : Looked → Type 0) (a b : Reader) (s next : Serving) (old new : Writer) (n : ℕ)
    → n ≡ most_messages → WhateverFollows a b (λ bytes left. Led finds bytes s next left old new n)
    → WhateverFollows a b (λ bytes left. LeavesRun finds bytes s next left old new (Err ManyMessages))
Follows-most finds a b s next old new n most w =
    Follows-so a b (λ bytes left. Led finds bytes s next left old new n)
    (λ bytes left. LeavesRun finds bytes s next left old new (Err ManyMessages)) w
    (λ bytes left led. (led.0, led.1, led.2, led.3, led.4 ∙ most, led.5, led.6))
