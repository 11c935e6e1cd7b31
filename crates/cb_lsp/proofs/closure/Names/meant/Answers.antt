use Rattle.std.proofs.Common.{◌∙◌, ap, filter, map, List, ℕ}
use Rattle.std.specs.Borrow.{Bor}
use Rattle.std.specs.Option.{option_map, option_or}
use Rattle.cb_desk.specs.Answer.{is_header}
use Rattle.cb_lsp.specs.Closures.{nearest_of}
use Rattle.cb_lsp.specs.Headers.{without_dots}
use Rattle.cb_lsp.specs.steps.Closures.{beside_among, last_of, listed}
use Rattle.cb_lsp.proofs.ClosureLasts.{meant_by, meant_none}
use Rattle.cb_lsp.proofs.closure.Names.meant.Goals as goal

pub returns-in_err-names : goal.returns-in_err-names
returns-in_err-names c =
    let self = c.args.self.now in
    let header = c.args.header.now in
    let listed_there =
    ap (listed self.lasts) (c.last_of.ensures ∙ ap last_of c.without_dots-rest.ensures)
    ∙ self.all (last_of (without_dots header)) in
    ap (option_map (λ (name : Bor (List ℕ)). name.now)) c.from_residual.ensures
    ∙ meant_none self.desk.now.timeline.present.files c.args.from.now header
    (c.in_err-names.ensures ∙ listed_there)

pub returns-in-Some : goal.returns-in-Some
returns-in-Some c =
    let self = c.args.self.now in
    let header = c.args.header.now in
    let listed_there =
    ap (listed self.lasts) (c.last_of.ensures ∙ ap last_of c.without_dots-rest.ensures)
    ∙ self.all (last_of (without_dots header)) in
    let names = map (λ (name : Bor (List ℕ)). name.now) c.in_ok-names.names.now in
    let near = nearest_of c.args.from.now (filter (is_header (without_dots header)) names) in
    ap (λ o. option_or o near)
    (c.in-Some.ensures ∙ ap (λ folder. beside_among names folder header) c.folder_of.ensures)
    ∙ meant_by self.desk.now.timeline.present.files c.args.from.now header names
    (c.in_ok-names.ensures ∙ listed_there)

pub returns-in-None : goal.returns-in-None
returns-in-None c =
    let self = c.args.self.now in
    let header = c.args.header.now in
    let listed_there =
    ap (listed self.lasts) (c.last_of.ensures ∙ ap last_of c.without_dots-rest.ensures)
    ∙ self.all (last_of (without_dots header)) in
    let names = map (λ (name : Bor (List ℕ)). name.now) c.in_ok-names.names.now in
    let near = nearest_of c.args.from.now (filter (is_header (without_dots header)) names) in
    c.nearest_named.ensures
    ∙ ap (λ rest. nearest_of c.args.from.now (filter (is_header rest) names))
    c.without_dots-rest.ensures
    ∙ ap (λ o. option_or o near)
    (c.in-None.ensures ∙ ap (λ folder. beside_among names folder header) c.folder_of.ensures)
    ∙ meant_by self.desk.now.timeline.present.files c.args.from.now header names
    (c.in_ok-names.ensures ∙ listed_there)
