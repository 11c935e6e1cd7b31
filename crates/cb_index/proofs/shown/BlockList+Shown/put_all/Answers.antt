use Rattle.std.proofs.Common.{rules, ◌≡◌, ◌≤◌, ◌<◌, ◌∙◌, ◌++◌, ◌∷◌, [], List, ap, sym, subst, refl, length}
use Rattle.std.proofs.Common.{get_or, arith}
use Rattle.cb_scan.specs.Order.{in_order}
use Rattle.cb_index.specs.Blocks.{Listing, joined}
use Rattle.cb_index.specs.Files.{AreApart, AreAscending, shown_name}
use Rattle.cb_index.specs.declared.entry.Shown.{Shown}
use Rattle.cb_index.proofs.ListedLemmas.{none_more, put_last}
use Rattle.cb_index.proofs.shown.BlockList+Shown.put_all.Goals as goal

only : (news : List Shown) (d : Shown) → 1 ≤ length news → length news < 2
    → news ≡ get_or news 0 d ∷ []
only [] d some few = absurd (omega (arith, some))
only (s ∷ []) d some few = refl
only (s ∷ t ∷ news) d some few = absurd (omega (arith, few))

empty : (news : List Shown) → length news ≡ 0 → news ≡ []
empty [] none = refl
empty (s ∷ news) none = absurd (omega (arith, none))

pub returns-then-is_empty-clause-files : goal.returns-then-is_empty-clause-files
returns-then-is_empty-clause-files c =
    let a = c.args.archive.now in
    let old = c.args.self.now.items in
    none_more a old c.requires.ascending
    ∙ ap (λ l. in_order (shown_name a) (old ++ l)) (sym (empty c.args.news.now (search rules)))

-- one is put at its place
pub returns-clause-files : goal.returns-clause-files
returns-clause-files c =
    let a = c.args.archive.now in
    let held = joined c.self.inside.blocks.used in
    let none : Shown = record { name = 0; version = 0 } in
    let one = only c.args.news.now none (search rules) (search rules) in
    let up = subst (λ (l : Listing Shown). AreAscending a l.items) (sym c.self.view_is)
    c.requires.ascending in
    let apart = subst (λ (l : Listing Shown). AreApart a (l.items ++ c.args.news.now))
    (sym c.self.view_is) c.requires.apart in
    c.try_put.ensures.put (search rules)
    ∙ put_last a held (get_or c.args.news.now 0 none) up
    (subst (λ l. AreApart a (held ++ l)) one apart)
    ∙ ap (λ l. in_order (shown_name a) (held ++ l)) (sym one)
    ∙ ap (λ (l : Listing Shown). in_order (shown_name a) (l.items ++ c.args.news.now)) c.self.view_is
