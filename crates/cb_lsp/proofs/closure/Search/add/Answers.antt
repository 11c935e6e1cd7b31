use Rattle.std.proofs.Common.{◌∙◌, sym}
use Rattle.cb_lsp.proofs.ClosureSearch.{finds_new, has_more, is_not, lent}
use Rattle.cb_lsp.proofs.closure.Search.add.Goals as goal

pub returns-in_ok-push : goal.returns-in_ok-push
returns-in_ok-push c = λ names among.
    finds_new names c.args.name c.args.self.now
    (record { found = c.insert.new.self; left = c.push.new.self })
    (λ name. has_more c.args.self.now.found c.insert.new.self c.args.name name
    (c.in_ok-insert.ensures.updates.0 (lent name)))
    c.in_ok-push.ensures.items
    (is_not _ (sym c.in_ok-insert.ensures.added ∙ c.if-branch.true)) among
