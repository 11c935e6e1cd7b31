use Rattle.std.proofs.Common.{◌∙◌, [], ◌∷◌, sym, subst}
use Rattle.cb_scan.specs.Order.{AreOrdered}
use Rattle.cb_index.specs.Files.{AreApart, AreAscending}
use Rattle.cb_index.specs.declared.entry.Shown.{Shown}
use Rattle.cb_index.proofs.ListedLemmas.{apart_both, put_last}
use Rattle.cb_index.proofs.shelf.Shelf.show.Goals as goal

pub returns-clause-shown : goal.returns-clause-shown
unfolding AreOrdered
returns-clause-shown c =
    let a = c.args.self.now.archive in
    let one : Shown = record { name = c.args.name; version = c.args.version } in
    let up = subst (AreAscending a) c.shown.ensures.value c.shown.ensures.ascending in
    let apart : AreApart a (one ∷ []) = (tt, tt) in
    c.show_all.ensures.shown
    ∙ sym (put_last a c.args.self.now.shown one up
    (apart_both a c.args.self.now.shown (one ∷ []) up apart c.requires.other))
