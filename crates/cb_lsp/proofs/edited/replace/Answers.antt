use Rattle.std.proofs.Common.{◌≡◌, ◌∙◌, ℕ, List, ap, map-id, sym}
use Rattle.std.proofs.lemmas.Iterator.{YieldsList-from_slice, items_from_drains}
use Rattle.std.proofs.lemmas.Iterator.Consumers.{YieldsList-from_copied}
use Rattle.cb_lsp.specs.Changes.{replaced}
use Rattle.cb_lsp.proofs.edited.replace.Goals as goal

pub returns-clause-ok : goal.returns-clause-ok
returns-clause-ok c =
    let made = c.in_ok-splice.ensures.items in
    let drains = made.3 in
    let rest =
    ap (λ s. s.iter.rest.now) made.2 ∙ ap (λ i. i.rest.now) c.copied.ensures.source
    ∙ c.iter.ensures.rest in
    let given : made.1 ≡ c.args.new.now = sym (map-id made.1)
    ∙ items_from_drains made.1 (drains.1.0, drains.1.1, λ _. (drains.0, drains.1.2))
    (YieldsList-from_copied {s = made.0} (YieldsList-from_slice c.args.new.now rest)) in
    ◌∙◌ {A = List ℕ} made.4
    (ap (λ xs. replaced c.args.start c.args.end xs c.args.text.now.items) given)
