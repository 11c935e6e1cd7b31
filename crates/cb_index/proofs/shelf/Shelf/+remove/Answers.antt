use Rattle.std.proofs.Common.{rules, ◌≡◌, ◌∙◌, ◌<◌, ◌-◌, false, [], sym, ap, subst, length}
use Rattle.std.proofs.Common.{arith, swap_remove, nat_eq}
use Rattle.std.specs.Prelude.{not}
use Rattle.cb_index.specs.Compact.{shows_version}
use Rattle.cb_index.specs.Files.{total}
use Rattle.cb_index.specs.Shelved.{Shelved}
use Rattle.cb_index.specs.declared.entry.Shown.{Shown}
use Rattle.cb_index.proofs.CompactLemmas.{FitsRoom, all_stay, can_again, count_others, hidden_among}
use Rattle.cb_index.proofs.CompactLemmas.{same_left, shown_again, stay_all, there_left, total_there}
use Rattle.cb_index.proofs.KeptLemmas.{keeps_trans, kept_same}
use Rattle.cb_index.proofs.TotalLemmas.{totals_by}
use Rattle.cb_index.proofs.shelf.Shelf.+remove.Goals as goal

-- nothing shows the last version
pub invariant_of-self : goal.invariant_of-self
invariant_of-self n c =
    let x = c.self.inside in
    let a = x.archive in
    let b = c.remove.new.self in
    let ss = x.shown.items in
    let v = c.args.version in
    let is = c.remove.ensures in
    let below : v < length a.texts =
    subst (λ (s : Shelved). v < length s.archive.texts) (sym c.self.view_is) c.requires.there in
    let hidden : shows_version v ss ≡ false =
    subst (λ (s : Shelved). shows_version v s.shown ≡ false) (sym c.self.view_is)
    c.requires.hidden in
    let none : shows_version (length a.texts - 1) ss ≡ false =
    subst (λ (s : Shelved). shows_version (length a.texts - 1) s.shown ≡ false) (sym c.self.view_is)
    (subst (λ k. shows_version (k - 1) c.args.self.now.shown ≡ false) c.version_count-last.ensures
    c.in-None.ensures.found) in (
      kept_same a b ss x.indexes
          (same_left a b v below is.profile is.names is.texts ss c.self.invariant.0.there hidden none)
          (there_left a b v below is.profile is.names is.texts ss c.self.invariant.0.there hidden
          none) c.self.invariant.0,
      totals_by a b ss ss x.totals
          (λ count. sym (total_there a b v below is.profile is.names is.texts count ss
          (all_stay a b v below is.profile is.names is.texts ss c.self.invariant.0.there hidden))
          ∙ ap (total count b) (stay_all (length a.texts - 1) v ss none)) c.self.invariant.1,
      c.self.invariant.2,
    )

pub returns-in-None-clause-shown : goal.returns-in-None-clause-shown
returns-in-None-clause-shown n c =
    let count = c.version_count-last.ensures ∙ ap (λ (s : Shelved). length s.archive.texts)
    c.self.view_is in
    ap (λ (s : Shelved). s.shown) c.self.view_is
    ∙ sym (stay_all (length c.args.self.now.archive.texts - 1) c.args.version c.args.self.now.shown
    (subst (λ k. shows_version (k - 1) c.args.self.now.shown ≡ false) count
    c.in-None.ensures.found))

pub remove-requires-2 : goal.remove-requires-2
remove-requires-2 n c =
    let one = c.in-Some.one in
    let ss = c.args.self.now.shown in
    let all =
    count_others c.args.self.now.archive one ss c.with_version.ensures.ascending
    c.in-Some.ensures.found.1 in
    let left = ap length c.hide.ensures.shown in (
      omega (arith, all, left),
      (
        subst (λ l. c.args.version < length l.texts) (sym c.hide.ensures.archive) c.requires.there,
        ap (shows_version c.args.version) c.hide.ensures.shown
            ∙ hidden_among (λ (s : Shown). not (nat_eq s.name one.name)) c.args.version ss
            c.requires.hidden,
      ),
    )

pub show-requires : goal.show-requires
show-requires n c =
    let s = c.args.self.now in
    let t = c.remove-2.new.self in
    let one = c.in-Some.one in
    let h = c.hide.ensures in
    let is = c.remove-2.ensures in
    let are = c.self.invariant.1 in
    let within = c.self.invariant.2 in
    let fits : FitsRoom s = subst FitsRoom c.self.view_is (record {
      entries = within.entries;
      defs = omega (arith, are.defs, within.defs);
      uses = omega (arith, are.uses, within.uses);
      calls = omega (arith, are.calls, within.calls);
    }) in
    let count = c.version_count-last.ensures ∙ ap (λ (r : Shelved). length r.archive.texts)
    c.self.view_is in
    can_again s t one c.args.version c.with_version.ensures.there c.with_version.ensures.ascending
    c.in-Some.ensures.found.1 (c.in-Some.ensures.found.0 ∙ ap (λ k. k - 1) count) c.requires.there
    c.requires.hidden (is.profile ∙ ap (λ a. a.profile) h.archive)
    (is.names ∙ ap (λ a. a.names) h.archive)
    (is.texts ∙ ap (λ a. swap_remove a.texts c.args.version []) h.archive)
    (is.shown ∙ search rules)
    fits.entries fits.defs fits.uses fits.calls
    (keeps_trans s c.hide.new.self t h.room is.room)

pub returns-clause-shown : goal.returns-clause-shown
returns-clause-shown n c =
    let s = c.args.self.now in
    let t = c.remove-2.new.self in
    let h = c.hide.ensures in
    let is = c.remove-2.ensures in
    let count = c.version_count-last.ensures ∙ ap (λ (r : Shelved). length r.archive.texts)
    c.self.view_is in
    ap (λ (r : Shelved). r.shown) c.self-2.view_is ∙ c.show.ensures.shown
    ∙ shown_again s t c.in-Some.one c.args.version c.with_version.ensures.there
    c.with_version.ensures.ascending c.in-Some.ensures.found.1
    (c.in-Some.ensures.found.0 ∙ ap (λ k. k - 1) count) c.requires.there
    c.requires.hidden (is.profile ∙ ap (λ a. a.profile) h.archive)
    (is.names ∙ ap (λ a. a.names) h.archive)
    (is.texts ∙ ap (λ a. swap_remove a.texts c.args.version []) h.archive)
    (is.shown ∙ search rules)
