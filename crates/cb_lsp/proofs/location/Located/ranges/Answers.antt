use Rattle.std.proofs.Common.{◌∙◌, ◌+◌, sym, ap, length}
use Rattle.cb_lsp.specs.Places.{line_range, range_of}
use Rattle.cb_lsp.proofs.NoText.{no-line, no-range}
use Rattle.cb_lsp.proofs.location.Located.ranges.Goals as goal

pub returns-in-None-clause-line : goal.returns-in-None-clause-line
returns-in-None-clause-line c =
    let e = c.args.self.now.client.encoding in
    c.start_of_file.ensures
    ∙ sym (ap (λ text. line_range e text c.args.place) c.in-None.ensures.found
    ∙ no-line e c.args.place)

pub returns-in-None-clause-range : goal.returns-in-None-clause-range
returns-in-None-clause-range c =
    let e = c.args.self.now.client.encoding in
    let end = c.args.place + length c.args.name.now in
    c.start_of_file-in-None.ensures
    ∙ sym (ap (λ text. range_of e text c.args.place end) c.in-None.ensures.found
    ∙ no-range e c.args.place end)
