use Rattle.std.proofs.Common.{rules, ◌≡◌, false, Some}
use Rattle.std.specs.Option.{option_copied, option_map}
use Rattle.cb_lsp.proofs.Closed.{change-done, change-nothing, change-refused}
use Rattle.cb_lsp.proofs.workspace.Workspace.change_to.Goals as goal

pub returns-in-None : goal.returns-in-None
returns-in-None c =
    rw c.in-None.is (false, change-nothing c.args.self.now c.args.name.now)

pub returns-in-Ok : goal.returns-in-Ok
returns-in-Ok c =
    let text : option_map (λ t. t.items) c.args.text ≡ Some c.in-Some.text.items =
    search rules in
    let done = c.in-Ok.ensures in
    rw text (change-done done.0 c.args.self.now c.reload.new.self c.args.name.now
    c.in-Some.text.items c.requires.open done.1)

pub returns-in-Err : goal.returns-in-Err
returns-in-Err c =
    let text : option_map (λ t. t.items) c.args.text ≡ Some c.in-Some.text.items =
    search rules in
    let refused = c.in-Err.ensures in
    rw text (change-refused refused.0 c.args.self.now c.reload.new.self c.lose.new.self
    c.args.name.now c.in-Some.text.items c.text.result.now c.in-Err.refusal
    (option_copied c.lose.result) c.requires.open refused.1 c.lose.ensures.world
    c.lose.ensures.documents c.lose.ensures.told c.text.ensures)
