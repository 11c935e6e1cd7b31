-- The first input of a stream, by its line.
use Rattle.std.proofs.Common.{◌≡◌, ℕ, List, [], Some, Result, Ok, Err, refl, sym, ap, ◌∙◌, subst}
use Rattle.cb_session.specs.declared.input.Fault.{Fault}
use Rattle.cb_session.specs.declared.input.Fault.TheVariants.{Read, Write, Memory, LongLine}
use Rattle.cb_session.specs.declared.input.Fault.TheVariants.{ManyLines}
use Rattle.cb_session.specs.declared.input.Input.{Input}
use Rattle.cb_session.specs.declared.input.LineRead.TheVariants.{End, Line, Long}
use Rattle.cb_desk.specs.declared.change.Refusal.TheVariants.{LineTooLong}
use Rattle.cb_session.specs.Commands.{short_line}
use Rattle.cb_tags.specs.Readers.{Reader, WhateverFollows, leaving}
use Rattle.cb_session.specs.Inputs.{First, first, with_block}
use Rattle.cb_session.specs.Reading.{Reads}
use Rattle.cb_session.specs.Requests.{Request, LineRequest, whole, quit, refused}
use Rattle.cb_session.specs.steps.Lines.{ReadsLine}
use Rattle.cb_session.proofs.Blocks.{IsRead}
use Rattle.cb_tags.proofs.Follows.{Some-same, Follows-then}

IsRead-same : (f : First) (rest : List ℕ) (asked : Request) (new : Reader)
    → f ≡ record { request = asked; rest = rest } → new.bytes ≡ Some rest → IsRead f asked new
IsRead-same f rest asked new e left = subst (λ x. IsRead x asked new) (sym e) (refl, left)

-- the end of input
pub Reads-end : (limit : ℕ) (bytes line : List ℕ) (new : Reader)
    → ReadsLine limit bytes new line (Ok End) → IsRead (first limit bytes) quit new
Reads-end limit bytes line new is = IsRead-same (first limit bytes) [] quit new is.0 is.1

-- a line that no command can have
pub Reads-long : (limit : ℕ) (bytes line : List ℕ) (new : Reader)
    → ReadsLine limit bytes new line (Ok Long)
    → IsRead (first limit bytes) (refused LineTooLong) new
Reads-long limit bytes line new is =
    IsRead-same (first limit bytes) is.0 (refused LineTooLong) new is.1 is.2

-- a line that asks for something by itself
pub Reads-whole : (limit : ℕ) (bytes line : List ℕ) (new : Reader) (asked : Request)
    → short_line limit line ≡ whole asked → ReadsLine limit bytes new line (Ok Line)
    → IsRead (first limit bytes) asked new
Reads-whole limit bytes line new asked e is =
    IsRead-same (first limit bytes) is.0 asked new (is.1 ∙ ap (λ l. with_block l is.0) e) is.2

-- a line with a block after it
Reads-with_block : (limit : ℕ) (bytes more line : List ℕ) (mid new : Reader) (asked : LineRequest)
    (r : Result Input Fault) → short_line limit line ≡ asked
    → mid.bytes ≡ Some more → ReadsLine limit bytes mid line (Ok Line)
    → Reads (with_block asked more) new r → Reads (first limit bytes) new r
Reads-with_block limit bytes more line mid new asked r e left is reads =
    let rest : is.0 ≡ more = Some-same is.0 more (sym is.2 ∙ left) in
    subst (λ f. Reads f new r)
    (sym (is.1 ∙ ap (λ l. with_block l is.0) e ∙ ap (with_block asked) rest)) reads

pub Follows-with_block : (limit : ℕ) (line : List ℕ) (old mid new : Reader) (asked : LineRequest)
    (r : Result Input Fault) → short_line limit line ≡ asked
    → WhateverFollows old mid (λ bytes left. ReadsLine limit bytes left line (Ok Line))
    → WhateverFollows mid new (λ bytes left. Reads (with_block asked bytes) left r)
    → WhateverFollows old new (λ bytes left. Reads (first limit bytes) left r)
Follows-with_block limit line old mid new asked r e p q =
    Follows-then old mid new (λ bytes left. ReadsLine limit bytes left line (Ok Line))
    (λ bytes left. Reads (with_block asked bytes) left r)
    (λ bytes left. Reads (first limit bytes) left r) p q
    (λ bytes more left.
    Reads-with_block limit bytes more line (leaving mid more) left asked r e refl)

-- no line could be read
pub Reads-no_line : (limit : ℕ) (bytes line : List ℕ) (new : Reader) (fault : Fault)
    → ReadsLine limit bytes new line (Err fault) → Reads (first limit bytes) new (Err fault)
Reads-no_line limit bytes line new Read is = is
Reads-no_line limit bytes line new LongLine is = is
Reads-no_line limit bytes line new Memory is = absurd is
Reads-no_line limit bytes line new Write is = absurd is
Reads-no_line limit bytes line new ManyLines is = absurd is
