use Rattle.std.proofs.Common.{◌∙◌, ap}
use Rattle.cb_index.specs.Columns.{column_of}
use Rattle.cb_index.proofs.ColumnLemmas.{column_is}
use Rattle.cb_index.proofs.archive.Version.column.Goals as goal

pub returns : goal.returns
returns c =
    let sort = c.args.sort in
    c.of.ensures ∙ column_is sort c.self.inside.text c.self.inside.columns c.self.invariant
    ∙ ap (column_of sort) c.self.view_is
