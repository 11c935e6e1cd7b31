-- A message that is read is the first of the stream.
use Rattle.std.proofs.Common.{◌≡◌, ◌≢◌, ℕ, ◌<◌, ◌≤◌, true, false, List, [], ◌∷◌, ◌++◌, length}
use Rattle.std.proofs.Common.{take, drop, Option, Some, None, Result, Ok, Err, refl, sym, ap, ◌∙◌}
use Rattle.std.proofs.Common.{subst}
use Rattle.std.proofs.Common.{arith, nat_lt}
use Rattle.std.specs.Io.KnownBytes.{Consumes}
use Rattle.cb_tags.specs.Readers.{Reader, WhateverFollows}
use Rattle.cb_tags.proofs.Follows.{Follows-so, Follows-then, Some-same}
use Rattle.cb_wire.specs.declared.frame.Frame.{Frame}
use Rattle.cb_wire.specs.declared.frame.FrameError.{FrameError}
use Rattle.cb_wire.specs.Fields.{content_length}
use Rattle.cb_wire.specs.Frames.{First, ReadsFrame, bad_header, body, cut_off, first}
use Rattle.cb_wire.specs.Frames.{first_body, nothing}
use Rattle.cb_wire.specs.Frames.{of_head, of_length}
use Rattle.cb_wire.specs.Heads.{head, head_from, whole, bad, ended}
use Rattle.cb_wire.specs.declared.frame.TheConstants.{MOST_BODY}
use Rattle.cb_wire.specs.declared.frame.Frame.TheVariants.{Body, TooLarge, OutOfMemory, End}
use Rattle.cb_wire.specs.declared.frame.FrameError.TheVariants.{BadHeader, InputEnded, Read}
use Rattle.cb_wire.specs.declared.head.HeadRead.TheVariants.{End as AtEnd, Ended as EndedInside}
use Rattle.cb_wire.specs.declared.head.HeadRead.TheVariants.{Bad as NoHead, Whole}
use Rattle.cb_wire.specs.steps.ReadBodies.{ReadsBody, Skips}
use Rattle.cb_wire.specs.steps.ReadHeads.{EndsKnown, ReadsHead}
use Rattle.std.specs.Prelude.{IsErrAnd}
use Rattle.std.specs.Borrow.{Bor}
use Rattle.std.proofs.lemmas.Bool.{cond-true, cond-false}
use Rattle.std.proofs.lemmas.Bool.Decides.{nat_tests}
use Rattle.cb_tags.specs.declared.feed.Stage.TheVariants.{Failed}
use Rattle.cb_tags.specs.declared.feed.ReadFault.{ReadFault}

-- known bytes that were consumed are a front of what was known
Consumes-known : (old new : Option (List ℕ)) (bs xs : List ℕ) → Consumes old new bs → old ≡ Some xs
    → (ys : List ℕ) × (new ≡ Some ys) × (xs ≡ bs ++ ys)
Consumes-known None new bs xs p e = cc
Consumes-known (Some a) None bs xs p e = absurd p
Consumes-known (Some a) (Some b) bs xs p e = (b, refl, cc)

-- what holds whatever follows holds where the bytes are known
pub Follows-known : (old new : Reader) (P : List ℕ → Reader → Type 0) → WhateverFollows old new P
    → EndsKnown new → (bytes : List ℕ) → old.bytes ≡ Some bytes → P bytes new
Follows-known old new P w ends bytes e =
    let k = Consumes-known old.bytes new.bytes w.0 bytes w.1.0 e in
    let at = w.2 k.0 (λ stage. Some-same k.0 [] (sym k.1 ∙ ends stage)) in
    subst (λ l. P l new) (sym k.2)
    (subst (λ b. P (w.0 ++ k.0) (record { bytes = b; stage = new.stage })) (sym k.1) at)

-- a stream that begins with a head
pub first-whole : (bytes read rest : List ℕ) → head bytes ≡ whole read rest
    → first bytes ≡ of_length (content_length read) rest
unfolding first head_from
first-whole [] read rest e = cc
first-whole (b ∷ bs) read rest e = ap of_head e

pub first-bad : (bytes : List ℕ) → head bytes ≡ bad → first bytes ≡ bad_header
unfolding first head_from
first-bad [] e = cc
first-bad (b ∷ bs) e = ap of_head e

pub first-ended : (bytes : List ℕ) → bytes ≢ [] → head bytes ≡ ended → first bytes ≡ cut_off
unfolding first
first-ended [] some e = absurd (some refl)
first-ended (b ∷ bs) some e = ap of_head e

pub first-nothing : (bytes : List ℕ) → bytes ≡ [] → first bytes ≡ nothing
unfolding first
first-nothing [] e = refl
first-nothing (b ∷ bs) e = cc

-- a body with so many bytes, or the end of input before
module _ (count : ℕ) (bytes : List ℕ) (left : Reader) where
  abbrev behind : First
  behind = first_body count bytes

  there : count ≤ length bytes → nat_lt (length bytes) count ≡ false
  there p = grind (arith, nat_tests)

  large : MOST_BODY < count → nat_lt MOST_BODY count ≡ true
  large p = grind (arith, nat_tests)

  small : count ≤ MOST_BODY → nat_lt MOST_BODY count ≡ false
  small p = grind (arith, nat_tests)

  missing : length bytes < count → nat_lt (length bytes) count ≡ true
  missing p = grind (arith, nat_tests)

  kept-whole : count ≤ MOST_BODY → count ≤ length bytes
      → behind ≡ body (take count bytes) (drop count bytes)
  kept-whole few p = cond-false _ _ _ (there p) ∙ cond-false _ _ _ (small few)

  pub body-large : MOST_BODY < count → Skips count bytes left (Ok true)
      → ReadsFrame behind left (Ok TooLarge)
  body-large many s =
      (drop count bytes, cond-false _ _ _ (there s.0) ∙ cond-true _ _ _ (large many), s.1)

  pub body-refused : count ≤ MOST_BODY → Skips count bytes left (Ok true)
      → ReadsFrame behind left (Ok OutOfMemory)
  body-refused few s = (take count bytes, drop count bytes, kept-whole few s.0, s.1)

  pub body-read : (kept : List ℕ) (lent : Bor (List ℕ)) → lent.now ≡ kept → count ≤ MOST_BODY
      → ReadsBody count bytes left kept (Ok true) → ReadsFrame behind left (Ok (Body lent))
  body-read kept lent same few s = (
    drop count bytes,
    kept-whole few s.1.0 ∙ ap (λ l. body l (drop count bytes)) (sym (same ∙ s.0)),
    s.1.1,
  )

  pub body-ended : length bytes < count → ReadsFrame behind left (Err InputEnded)
  body-ended p = cond-true _ _ _ (missing p)

-- a fault of the reader
pub frame-failed : (f : First) (left : Reader) (r : Result Frame FrameError)
    → IsErrAnd r (λ e. e ≡ Read) → left.stage ≡ Failed → ReadsFrame f left r
frame-failed f left (Ok x) e p = absurd e
frame-failed f left (Err x) e p = subst (λ y. ReadsFrame f left (Err y)) (sym e) p

-- a head, and then its body
pub frame-then : (old mid new : Reader) (kept : List ℕ) (count : ℕ) (r : Result Frame FrameError)
    → Some count ≡ content_length kept
    → WhateverFollows old mid (λ bytes left. ReadsHead bytes left kept (Ok Whole))
    → WhateverFollows mid new (λ bytes left. ReadsFrame (first_body count bytes) left r)
    → WhateverFollows old new (λ bytes left. ReadsFrame (first bytes) left r)
frame-then old mid new kept count r is p q =
    Follows-then old mid new (λ bytes left. ReadsHead bytes left kept (Ok Whole))
    (λ bytes left. ReadsFrame (first_body count bytes) left r)
    (λ bytes left. ReadsFrame (first bytes) left r) p q
    (λ bytes more left h b.
    let same : more ≡ h.0 = Some-same more h.0 h.2 in
    let at : first bytes ≡ first_body count more =
    first-whole bytes kept h.0 h.1 ∙ ap (λ o. of_length o h.0) (sym is)
    ∙ ap (first_body count) (sym same) in
    subst (λ f. ReadsFrame f left r) (sym at) b)

-- a head without a body
pub frame-none : (old mid : Reader) (kept : List ℕ) → None ≡ content_length kept
    → WhateverFollows old mid (λ bytes left. ReadsHead bytes left kept (Ok Whole))
    → WhateverFollows old mid (λ bytes left. ReadsFrame (first bytes) left (Err BadHeader))
frame-none old mid kept is p =
    Follows-so old mid (λ bytes left. ReadsHead bytes left kept (Ok Whole))
    (λ bytes left. ReadsFrame (first bytes) left (Err BadHeader)) p
    (λ bytes left h. first-whole bytes kept h.0 h.1 ∙ ap (λ o. of_length o h.0) (sym is))

pub frame-end : (old new : Reader) (kept : List ℕ)
    → WhateverFollows old new (λ bytes left. ReadsHead bytes left kept (Ok AtEnd))
    → WhateverFollows old new (λ bytes left. ReadsFrame (first bytes) left (Ok End))
frame-end old new kept p =
    Follows-so old new (λ bytes left. ReadsHead bytes left kept (Ok AtEnd))
    (λ bytes left. ReadsFrame (first bytes) left (Ok End)) p
    (λ bytes left h. (first-nothing bytes h.0, h.1))

pub frame-ended : (old new : Reader) (kept : List ℕ)
    → WhateverFollows old new (λ bytes left. ReadsHead bytes left kept (Ok EndedInside))
    → WhateverFollows old new (λ bytes left. ReadsFrame (first bytes) left (Err InputEnded))
frame-ended old new kept p =
    Follows-so old new (λ bytes left. ReadsHead bytes left kept (Ok EndedInside))
    (λ bytes left. ReadsFrame (first bytes) left (Err InputEnded)) p
    (λ bytes left h. first-ended bytes h.0 h.1)

pub frame-bad : (old new : Reader) (kept : List ℕ)
    → WhateverFollows old new (λ bytes left. ReadsHead bytes left kept (Ok NoHead))
    → WhateverFollows old new (λ bytes left. ReadsFrame (first bytes) left (Err BadHeader))
frame-bad old new kept p =
    Follows-so old new (λ bytes left. ReadsHead bytes left kept (Ok NoHead))
    (λ bytes left. ReadsFrame (first bytes) left (Err BadHeader)) p
    (λ bytes left h. first-bad bytes h)

pub frame-fault : (old new : Reader) (kept : List ℕ) (fault : ReadFault) (r : Result Frame FrameError)
    → IsErrAnd r (λ e. e ≡ Read)
    → WhateverFollows old new (λ bytes left. ReadsHead bytes left kept (Err fault))
    → WhateverFollows old new (λ bytes left. ReadsFrame (first bytes) left r)
frame-fault old new kept fault r e p =
    Follows-so old new (λ bytes left. ReadsHead bytes left kept (Err fault))
    (λ bytes left. ReadsFrame (first bytes) left r) p
    (λ bytes left h. frame-failed (first bytes) left r e h)
