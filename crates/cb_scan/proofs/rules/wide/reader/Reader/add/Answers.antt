-- A token of the code is read as the token that the pass sees.
use Rattle.std.proofs.Common.{◌∙◌, sym}
use Rattle.std.proofs.lemmas.Result.{IfOk-weaker}
use Rattle.cb_scan.specs.steps.wide.Reading.{item_of, taken_next, the_taken}
use Rattle.cb_scan.proofs.WideEnds.{taken_ended}
use Rattle.cb_scan.proofs.WideEnters.{closes_parts, nested_below, opens_parts, taken_entered, taken_left}
use Rattle.cb_scan.proofs.WideGlance.{read_glance, taken_glance}
use Rattle.cb_scan.proofs.rules.wide.reader.Reader.add.Goals as goal

pub returns-clause-taken : goal.returns-clause-taken
returns-clause-taken c =
    let r = c.args.self.now in
    let item = item_of c.args.text.now r c.args.token.now in
    IfOk-weaker c.read_after.result _ _
    (λ _ e. e
    ∙ (λ k. taken_next (c.are_in_block-in_block.ensures k)
    (record r { before = c.before_after-self.ensures k })
    (the_taken c.args.pass.now c.args.found.now) item))
    c.read_after.ensures.taken

-- in a block most tokens are only glanced at
pub returns-then-not-is_mark_of_blocks-clause-reader
    : goal.returns-then-not-is_mark_of_blocks-clause-reader
returns-then-not-is_mark_of_blocks-clause-reader c =
    (λ k. record c.args.self.now { before = c.before_after-self.ensures k; sight = c.glance.new.self })
    ∙ read_glance c.args.text.now c.args.self.now (the_taken c.args.pass.now c.args.found.now)
    c.args.token.now (sym c.are_in_block-in_block.ensures ∙ c.if-in_block.true) (sym c.is_mark_of_blocks.ensures ∙ c.if-not-is_mark_of_blocks.true) c.glance.new.self
    c.glance.ensures.value

pub returns-then-not-is_mark_of_blocks-clause-taken
    : goal.returns-then-not-is_mark_of_blocks-clause-taken
returns-then-not-is_mark_of_blocks-clause-taken c =
    taken_glance c.args.text.now c.args.self.now (the_taken c.args.pass.now c.args.found.now)
    c.args.token.now (sym c.are_in_block-in_block.ensures ∙ c.if-in_block.true) (sym c.is_mark_of_blocks.ensures ∙ c.if-not-is_mark_of_blocks.true)

-- a `;` in a block ends what a `{` would open
pub returns-then-not-is_in_file-clause-taken : goal.returns-then-not-is_in_file-clause-taken
returns-then-not-is_in_file-clause-taken c =
    (λ k. the_taken (c.open.ensures k) c.args.found.now)
    ∙ taken_ended c.args.text.now c.args.self.now (the_taken c.args.pass.now c.args.found.now)
    c.args.token.now (sym c.are_in_block-in_block.ensures ∙ c.if-in_block-2.true)
    (sym c.is_mark.ensures ∙ c.if-is_mark.true) (sym c.is_in_file.ensures ∙ c.if-not-is_in_file.true)

-- a `{` opens one more block
pub returns-then-not-is_in_file-2-clause-taken : goal.returns-then-not-is_in_file-2-clause-taken
returns-then-not-is_in_file-2-clause-taken c =
    let is = opens_parts _ _ _ (sym c.opens_block.ensures ∙ c.if-opens_block.true) in
    (λ k. the_taken (c.in_ok-enter.ensures k) c.args.found.now)
    ∙ taken_entered c.args.text.now c.args.self.now (the_taken c.args.pass.now c.args.found.now)
    c.args.token.now (sym c.are_in_block-in_block.ensures ∙ c.if-in_block-3.true)
    (sym c.is_in_file-then-opens_block.ensures ∙ c.if-not-is_in_file-2.true) is.0 is.1 is.2

-- and a `}` closes it
pub returns-then-is_nested-clause-taken : goal.returns-then-is_nested-clause-taken
returns-then-is_nested-clause-taken c =
    let is = closes_parts _ _ (sym c.closes_block.ensures ∙ c.if-closes_block.true) in
    let nested = c.is_nested.ensures c.if-is_nested.true in
    (λ k. the_taken (c.leave.ensures k) c.args.found.now)
    ∙ taken_left c.args.text.now c.args.self.now (the_taken c.args.pass.now c.args.found.now)
    c.args.token.now (sym c.are_in_block-in_block.ensures ∙ c.if-in_block-4.true)
    (nested_below c.args.pass.now.machine.depth nested) is.0 is.1 nested
