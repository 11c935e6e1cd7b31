use Rattle.std.proofs.Common.{rules, ◌≡◌, ◌<◌, ◌-◌, ℕ, false, true, sym, subst, arith, is_none}
use Rattle.cb_index.specs.Compact.{ShowsSame, shows_version}
use Rattle.cb_index.specs.Shelved.{Shelved}
use Rattle.cb_index.proofs.CompactLemmas.{found_shown, last_left, others_left, shows_left}
use Rattle.cb_index.proofs.shelf.Shelf.fill.Goals as goal

pub returns-then-is_none-clause-same : goal.returns-then-is_none-clause-same
returns-then-is_none-clause-same c =
    let hidden : shows_version c.args.version c.args.self.now.shown ≡ false = search rules in
    let is = c.remove.ensures in
    subst (ShowsSame c.args.self.now) (sym c.note_places.ensures)
    (shows_left c.args.self.now c.remove.new.self c.args.version c.with_version.ensures.there
    c.requires.there hidden is.profile is.names is.texts is.shown)

pub returns-then-is_none-clause-shown : goal.returns-then-is_none-clause-shown
returns-then-is_none-clause-shown c =
    let hidden : shows_version c.args.version c.args.self.now.shown ≡ false = search rules in
    let is = c.remove.ensures in
    subst (λ (t : Shelved). shows_version c.args.version t.shown ≡ true) (sym c.note_places.ensures)
    (last_left c.args.self.now c.remove.new.self c.args.version c.with_version.ensures.there
    c.requires.there hidden is.profile is.names is.texts is.shown c.requires.last)

below_last : (u v count : ℕ) → u < v → v < count → u ≡ count - 1 → ⊥
below_last u v count low there is = omega (arith, low, there, is)

pub returns-then-is_none-clause-below : goal.returns-then-is_none-clause-below
returns-then-is_none-clause-below c = λ u low shown.
    let hidden : shows_version c.args.version c.args.self.now.shown ≡ false = search rules in
    let is = c.remove.ensures in
    subst (λ (t : Shelved). shows_version u t.shown ≡ true) (sym c.note_places.ensures)
    (others_left c.args.self.now c.remove.new.self c.args.version c.with_version.ensures.there
    c.requires.there hidden is.profile is.names is.texts is.shown u
    (below_last u c.args.version _ low c.requires.there) shown)

pub returns-else-is_none-clause-shown : goal.returns-else-is_none-clause-shown
returns-else-is_none-clause-shown c =
    let some : is_none c.with_version.result ≡ false = search rules in
    found_shown c.args.version c.args.self.now.shown c.with_version.result
    c.with_version.ensures.found some
