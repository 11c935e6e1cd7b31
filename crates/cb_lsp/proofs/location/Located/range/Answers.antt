use Rattle.std.proofs.Common.{◌∙◌, ◌+◌, sym, ap, length}
use Rattle.cb_lsp.specs.Places.{range_of}
use Rattle.cb_lsp.proofs.NoText.{no-range}
use Rattle.cb_lsp.proofs.location.Located.range.Goals as goal

pub returns-in-None-clause-range : goal.returns-in-None-clause-range
returns-in-None-clause-range c =
    let end = c.args.place + length c.args.name.now in
    c.start_of_file.ensures
    ∙ sym (ap (λ text. range_of c.args.self.now.client.encoding text c.args.place end)
    c.in-None.ensures.found
    ∙ no-range c.args.self.now.client.encoding c.args.place end)
