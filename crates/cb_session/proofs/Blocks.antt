-- Requests with a block.
use Rattle.std.proofs.Common.{◌≡◌, ℕ, ◌<◌, ◌≤◌, Bool, true, false, cond, List, [], length, take}
use Rattle.std.proofs.Common.{drop, Some, Err, refl, sym, ap, ◌∙◌, subst, arith, nat_lt}
use Rattle.std.proofs.lemmas.Bool.Decides.{nat_tests}
use Rattle.std.specs.Global.{Global}
use Rattle.cb_desk.specs.declared.change.Refusal.TheVariants.{InputEnded}
use Rattle.cb_desk.specs.Step.{Step}
use Rattle.cb_session.specs.declared.input.Fault.{Fault}
use Rattle.cb_session.specs.declared.input.Fault.TheVariants.{Read, Write, Memory, LongLine}
use Rattle.cb_session.specs.declared.input.Fault.TheVariants.{ManyLines}
use Rattle.cb_session.specs.declared.line.Purpose.{Purpose}
use Rattle.cb_session.specs.declared.line.Purpose.TheVariants.{Load, Reload}
use Rattle.cb_tags.specs.Readers.{Reader}
use Rattle.cb_session.specs.Inputs.{First, change_with, with_block}
use Rattle.cb_session.specs.Reading.{Reads, has_block}
use Rattle.cb_session.specs.Requests.{Request, block, change, refused}
use Rattle.cb_session.specs.steps.Lines.{ReadsBlock}

-- what is left of the input where a block ends, and where the input ends in it
abbrev cut_short : First
cut_short = record { request = refused InputEnded; rest = [] }

abbrev read_whole : Step → List ℕ → First
read_whole s rest = record { request = change s; rest = rest }

-- what `Reads` says of an input that was read, by its request
abbrev pub IsRead : First → Request → Reader → Type 0
IsRead f asked new = (asked ≡ f.request) × (new.bytes ≡ Some f.rest)

-- a request with a block has one, whether the input fills it or not
has-either : (b : Bool) (s : Step) (rest : List ℕ) → has_block (change s) ≡ true
    → has_block (First.request (cond b cut_short (read_whole s rest))) ≡ true
has-either true s rest has = refl
has-either false s rest has = has

brings : (purpose : Purpose) (name bytes : List ℕ)
    → has_block (change (change_with purpose name bytes)) ≡ true
brings Load name bytes = refl
brings Reload name bytes = refl

-- a block was not read, for want of memory or by a fault of the reader
pub Reads-no_block : (purpose : Purpose) (name bytes : List ℕ) (count : ℕ)
    (new : Reader) (fault : Fault)
    → ReadsBlock {A = Global} count bytes new (Err fault)
    → Reads (with_block (block purpose name count) bytes) new (Err fault)
Reads-no_block purpose name bytes count new Read is = is
Reads-no_block purpose name bytes count new Memory is =
    has-either (nat_lt (length bytes) count) (change_with purpose name (take count bytes))
    (drop count bytes) (brings purpose name (take count bytes))
Reads-no_block purpose name bytes count new Write is = absurd is
Reads-no_block purpose name bytes count new LongLine is = absurd is
Reads-no_block purpose name bytes count new ManyLines is = absurd is

-- a block was read
pub Reads-block : (purpose : Purpose) (name bytes items : List ℕ) (count : ℕ) (new : Reader)
    (asked : Request) → asked ≡ change (change_with purpose name items)
    → (count ≤ length bytes) × (items ≡ take count bytes) × (new.bytes ≡ Some (drop count bytes))
    → IsRead (with_block (block purpose name count) bytes) asked new
Reads-block purpose name bytes items count new asked e is =
    let whole = read_whole (change_with purpose name (take count bytes)) (drop count bytes) in
    let within : count ≤ length bytes = is.0 in
    let test : nat_lt (length bytes) count ≡ false = grind (arith, nat_tests) in
    let same : with_block (block purpose name count) bytes ≡ whole =
    ap (λ b. cond b cut_short whole) test in
    subst (λ f. IsRead f asked new) (sym same)
    (e ∙ ap (λ l. change (change_with purpose name l)) is.1, is.2)

-- the input ended in a block
pub Reads-cut : (purpose : Purpose) (name bytes : List ℕ) (count : ℕ) (new : Reader)
    → (length bytes < count) × (new.bytes ≡ Some [])
    → IsRead (with_block (block purpose name count) bytes) (refused InputEnded) new
Reads-cut purpose name bytes count new is =
    let short : length bytes < count = is.0 in
    let test : nat_lt (length bytes) count ≡ true = grind (arith, nat_tests) in
    let same : with_block (block purpose name count) bytes ≡ cut_short =
    ap (λ b. cond b cut_short
    (read_whole (change_with purpose name (take count bytes)) (drop count bytes))) test in
    subst (λ f. IsRead f (refused InputEnded) new) (sym same) (refl, is.1)
