use Rattle.std.proofs.Common.{◌∙◌, ap, sym, List, ℕ, None}
use Rattle.std.specs.Borrow.{Bor}
use Rattle.std.specs.Option.{option_map, option_map_or}
use Rattle.cb_lsp.specs.Closures.{folder_from}
use Rattle.cb_lsp.proofs.ClosureHeaders.{above, folder_from-once, not_above, once_from}
use Rattle.cb_lsp.proofs.closure.folder_from.Goals as goal

pub returns-in_err-base : goal.returns-in_err-base
returns-in_err-base c =
    let header = c.parts.rest.now in
    let folder = c.parts.base.now in
    let rest = c.in-Some.more.now in
    ap (option_map (λ (base : Bor (List ℕ)). base.now)) c.from_residual.ensures
    ∙ ap (λ o. option_map_or (folder_from rest) o None) c.in_err-base.ensures
    ∙ above header folder rest c.if-begins_above.ensures
    ∙ ap (once_from header folder) c.in-Some.ensures
    ∙ sym (folder_from-once header folder) ∙ c.parts.invariant

pub parts-preserved-in_ok-base : goal.parts-preserved-in_ok-base
parts-preserved-in_ok-base c =
    let header = c.parts.rest.now in
    let folder = c.parts.base.now in
    let rest = c.in-Some.more.now in
    ap (λ o. option_map_or (folder_from rest) o None) c.in_ok-base.ensures
    ∙ above header folder rest c.if-begins_above.ensures
    ∙ ap (once_from header folder) c.in-Some.ensures
    ∙ sym (folder_from-once header folder) ∙ c.parts.invariant

pub parts-preserved : goal.parts-preserved
parts-preserved c =
    let header = c.parts.rest.now in
    let folder = c.parts.base.now in
    not_above header folder c.in-Some.more.now c.if-begins_above.ensures
    ∙ ap (once_from header folder) c.in-Some.ensures
    ∙ sym (folder_from-once header folder) ∙ c.parts.invariant

pub returns : goal.returns
returns c =
    let header = c.parts.rest.now in
    let folder = c.parts.base.now in
    ap (once_from header folder) c.in_default.ensures
    ∙ sym (folder_from-once header folder) ∙ c.parts.invariant
