-- Reading that a fault of the reader cuts: no request is whole in what was read.
use Rattle.std.proofs.Common.{◌≡◌, ◌≢◌, ◌≤◌, ℕ, Bool, true, false, cond, List, [], ◌∷◌, ◌++◌}
use Rattle.std.proofs.Common.{length, take, drop, Result, Ok, Err, refl, sym, ap, ◌∙◌, subst, arith}
use Rattle.std.proofs.Common.{nat_lt, append_assoc}
use Rattle.std.specs.Prelude.{IfErr}
use Rattle.std.proofs.lemmas.List.{drop_all, length-append, take-append-drop}
use Rattle.cb_desk.specs.declared.change.Refusal.TheVariants.{InputEnded}
use Rattle.cb_tags.specs.declared.feed.ReadFault.{ReadFault}
use Rattle.cb_tags.specs.declared.feed.Stage.{Stage}
use Rattle.cb_tags.specs.declared.feed.Stage.TheVariants.{Ended, Failed}
use Rattle.cb_session.specs.declared.input.Fault.{Fault}
use Rattle.cb_session.specs.declared.input.Fault.TheVariants.{Read}
use Rattle.cb_session.specs.declared.input.Input.{Input}
use Rattle.cb_session.specs.declared.input.LineRead.{LineRead}
use Rattle.cb_session.specs.declared.input.LineRead.TheVariants.{Line}
use Rattle.cb_session.specs.declared.line.Purpose.{Purpose}
use Rattle.cb_session.specs.Commands.{short_line}
use Rattle.cb_tags.specs.Readers.{Reader, GivesByte, WhateverFollows}
use Rattle.cb_session.specs.Inputs.{First, HoldNone, change_with, first, line_asks, with_block}
use Rattle.cb_session.specs.Reading.{IsReadFault, IsUnread}
use Rattle.cb_session.specs.Requests.{LineRequest, block, change, refused, whole}
use Rattle.cb_session.specs.steps.Lines.{ReadsLine, StopsBefore}
use Rattle.cb_tags.proofs.Follows.{HasRead-fault, HasRead-stop, HasRead-trans, Some-same}
use Rattle.cb_session.proofs.Streams.{IsPlain-push, Seen, last_line}

some_bytes : (xs : List ℕ) (x : ℕ) → xs ++ x ∷ [] ≢ []
some_bytes [] x = λ e. cc
some_bytes (y ∷ ys) x = λ e. cc

-- bytes after which one byte more leaves nothing begin with no whole request
none_whole : (limit x : ℕ) (read : List ℕ) → (first limit (read ++ x ∷ [])).rest ≡ []
    → HoldNone limit read
none_whole limit x read none n e is =
    let back : take n read ++ (drop n read ++ x ∷ []) ≡ read ++ x ∷ [] =
    sym (append_assoc (take n read) (drop n read) (x ∷ []))
    ∙ ap (λ l. l ++ x ∷ []) (take-append-drop n read) in
    some_bytes (drop n read) x
    (sym (ap (λ f. f.rest) (is (drop n read ++ x ∷ [])))
    ∙ ap (λ l. (first limit l).rest) back ∙ none)

-- a block takes all that is left, where that is no more than it wants
none_left : (b : Bool) (f : First) → f.rest ≡ []
    → First.rest (cond b (record { request = refused InputEnded; rest = [] }) f) ≡ []
none_left true f e = refl
none_left false f e = e

no_block : (purpose : Purpose) (name : List ℕ) (count : ℕ) (bytes : List ℕ) → length bytes ≤ count
    → (with_block (block purpose name count) bytes).rest ≡ []
no_block purpose name count bytes few =
    none_left (nat_lt (length bytes) count)
    (record {
      request = change (change_with purpose name (take count bytes));
      rest = drop count bytes;
    })
    (drop_all count bytes few)

no_rest : (l : LineRequest) → (with_block l []).rest ≡ []
no_rest (whole e) = refl
no_rest (block purpose name count) = no_block purpose name count [] (omega arith)

-- a line that is cut
Unread-bytes : (limit : ℕ) (line : List ℕ) (old mid new : Reader) (read : ℕ) (fault : ReadFault)
    → Seen old mid line read → GivesByte mid new (Err fault) → IsUnread limit old new
Unread-bytes limit line old mid new read fault s k = (
  s.bytes,
  HasRead-stop old mid new s.bytes s.taken (HasRead-fault mid new fault k),
  none_whole limit 0 s.bytes
      (ap (λ f. f.rest) (last_line limit (s.bytes ++ 0 ∷ []) (IsPlain-push s.bytes 0 s.plain refl)
      (some_bytes s.bytes 0))
      ∙ no_rest (line_asks limit (s.bytes ++ 0 ∷ []))),
)

pub Unread-line : (limit : ℕ) (line : List ℕ) (old mid new : Reader) (read : ℕ) (fault : ReadFault)
    (r : Result LineRead Fault)
    → Seen old mid line read → GivesByte mid new (Err fault)
    → IfErr r (λ fault. fault ≡ Read → IsUnread limit old new)
Unread-line limit line old mid new read fault (Ok x) s k = tt
Unread-line limit line old mid new read fault (Err x) s k = λ is.
    Unread-bytes limit line old mid new read fault s k

not_ended : (s : Stage) → s ≡ Failed → s ≡ Ended → ⊥
not_ended s p q = cc

-- a block that is cut
Unread-block : (limit : ℕ) (line : List ℕ) (old mid new : Reader) (purpose : Purpose)
    (name : List ℕ) (count : ℕ)
    → short_line limit line ≡ block purpose name count
    → WhateverFollows old mid (λ bytes left. ReadsLine limit bytes left line (Ok Line))
    → StopsBefore count mid new → new.stage ≡ Failed → IsUnread limit old new
Unread-block limit line old mid new purpose name count asks w h failed =
    let still : mid.stage ≡ Ended → ⊥ = λ e. not_ended new.stage failed (h.1.1 e).1 in
    let is = w.2 (h.0 ++ 0 ∷ []) (λ e. absurd (still e)) in
    let short = h.2 in (
      w.0 ++ h.0,
      HasRead-trans old mid new w.0 h.0 w.1 h.1,
      none_whole limit 0 (w.0 ++ h.0)
          (ap (λ l. (first limit l).rest) (append_assoc w.0 h.0 (0 ∷ []))
          ∙ ap (λ f. f.rest) (is.1 ∙ ap (λ l. with_block l is.0) asks
          ∙ ap (with_block (block purpose name count)) (sym (Some-same (h.0 ++ 0 ∷ []) is.0 is.2)))
          ∙ no_block purpose name count (h.0 ++ 0 ∷ [])
          (omega (arith, short, length-append h.0 (0 ∷ [])))),
    )

pub Unread-change : (limit : ℕ) (line : List ℕ) (old mid new : Reader) (purpose : Purpose)
    (name : List ℕ) (count : ℕ) (r : Result Input Fault)
    → short_line limit line ≡ block purpose name count
    → WhateverFollows old mid (λ bytes left. ReadsLine limit bytes left line (Ok Line))
    → IfErr r (λ fault. fault ≡ Read → StopsBefore count mid new) → IfErr r (IsReadFault mid new)
    → IfErr r (λ fault. fault ≡ Read → IsUnread limit old new)
Unread-change limit line old mid new purpose name count (Ok x) asks w h k = tt
Unread-change limit line old mid new purpose name count (Err fault) asks w h k = λ is.
    Unread-block limit line old mid new purpose name count asks w (h is)
    (subst (IsReadFault mid new) is k)
