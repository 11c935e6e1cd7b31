use Rattle.std.proofs.Common.{◌≡◌, ◌∙◌, rules, sym, Some}
use Rattle.cb_index.proofs.tags.DefSearch.take.Goals as goal

pub returns : goal.returns
returns c =
    let is : c.first.result ≡ Some c.in_ok-entry.entry = search rules in
    c.args.self.now.goes_on c.args.self.now.last c.in_ok-entry.entry (sym c.first.ensures ∙ is)
