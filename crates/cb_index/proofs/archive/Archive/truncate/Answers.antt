use Rattle.std.proofs.Common.{◌∙◌, map, take, sym, ap}
use Rattle.std.proofs.lemmas.List.{take-map}
use Rattle.cb_index.specs.Scanned.{Scanned}
use Rattle.cb_index.proofs.archive.Archive.truncate.Goals as goal

pub returns-clause-texts : goal.returns-clause-texts
returns-clause-texts c =
    ap (map (λ (v : Scanned). v.bytes)) c.truncate.ensures.items
    ∙ sym (take-map (λ (v : Scanned). v.bytes) c.args.versions c.self.inside.versions.items)
    ∙ ap (λ a. take c.args.versions a.texts) c.self.view_is

pub returns-clause-names : goal.returns-clause-names
returns-clause-names c =
    ap (map (λ n. n.items)) c.truncate-2.ensures.items
    ∙ sym (take-map (λ n. n.items) c.args.names c.self.inside.names.items)
    ∙ ap (λ a. take c.args.names a.names) c.self.view_is
