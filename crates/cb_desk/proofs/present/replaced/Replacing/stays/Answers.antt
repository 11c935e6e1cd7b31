use Rattle.std.proofs.Common.{rules, ◌≡◌, ◌≤◌, ◌<◌, ◌∙◌, ap, sym, ℕ, true, false, [], ◌&&◌, nat_le}
use Rattle.std.proofs.Common.{length, get_or, arith, bytes_eq}
use Rattle.cb_scan.specs.Lines.{lines}
use Rattle.cb_index.specs.declared.entry.Shown.{Shown}
use Rattle.cb_desk.specs.steps.Records.{place_in}
use Rattle.cb_desk.proofs.StayingPlaces.{stays_at, stays_out}
use Rattle.cb_desk.proofs.present.replaced.Replacing.stays.Goals as goal
use Rattle.cb_desk.proofs.present.replaced.Replacing.stays.Goals.{else-index-changed-via-then-index-changed+else-eq}
use Rattle.cb_desk.proofs.present.replaced.Replacing.stays.Goals.{else-index-changed-via-else-index-changed}

abbrev none : Shown
none = record { name = 0; version = 0 }

above : (n m : ℕ) → 1 ≤ n → nat_le 1 n && nat_le n m ≡ nat_le n m
above n m within =
    let first : nat_le 1 n ≡ true = grind (arith, within) in ap (λ b. b && nat_le n m) first

below : (n : ℕ) → n < 1 → nat_le 1 n ≡ false
below n out = grind (arith, out)

none_below : (n m : ℕ) → n < 1 → nat_le 1 n && nat_le n m ≡ false
none_below n m out = ap (λ b. b && nat_le n m) (below n out)

pub returns-then-place-ge1 : goal.returns-then-place-ge1
returns-then-place-ge1 c =
    let name = c.name-name.result.now in
    let i = c.index_for-index.result in
    let parted = c.index_for-index.ensures.parted in
    let count : c.line_count.result ≡ length (lines c.source.result.now) = search rules in
    sym (stays_at c.args.self.archive.now c.args.self.marks.now c.args.self.old.now
    c.args.self.new.now c.args.changed.now c.requires.ascending
    (place_in c.args.self.archive.now c.args.place) name c.name-name.ensures i parted.0 parted.1
    none [] c.if-index-changed.true
    (sym (c.eq.ensures ∙ ap (λ n. bytes_eq n name) c.name.ensures) ∙ c.if-eq.true)
    ∙ above c.args.place.line _ c.if-place-ge1.true
    ∙ ap (λ t. nat_le c.args.place.line (length (lines t)))
    (sym (c.source.ensures ∙ ap (λ ts. get_or ts i []) c.requires.versions))
    ∙ ap (nat_le c.args.place.line) (sym count))

pub returns-else-place-ge1 : goal.returns-else-place-ge1
returns-else-place-ge1 c =
    let name = c.name-name.result.now in
    let parted = c.index_for-index.ensures.parted in
    below c.args.place.line c.if-place-ge1.false
    ∙ sym (stays_at c.args.self.archive.now c.args.self.marks.now c.args.self.old.now
    c.args.self.new.now c.args.changed.now c.requires.ascending
    (place_in c.args.self.archive.now c.args.place) name c.name-name.ensures
    c.index_for-index.result parted.0 parted.1 none [] c.if-index-changed.true
    (sym (c.eq.ensures ∙ ap (λ n. bytes_eq n name) c.name.ensures) ∙ c.if-eq.true)
    ∙ none_below c.args.place.line _ c.if-place-ge1.false)

pub returns-else-index-changed : goal.returns-else-index-changed
returns-else-index-changed c =
    let name = c.name-name.result.now in
    let parted = c.index_for-index.ensures.parted in
    sym (stays_out c.args.self.archive.now c.args.self.marks.now c.args.self.old.now
    c.args.self.new.now c.args.changed.now c.requires.ascending
    (place_in c.args.self.archive.now c.args.place) name c.name-name.ensures
    c.index_for-index.result parted.0 parted.1 none
    (elim c.else-index-changed.branch [
      | else-index-changed-via-then-index-changed+else-eq w ↦
          λ _. sym (w.eq.ensures ∙ ap (λ n. bytes_eq n name) w.name.ensures) ∙ w.if-eq.false
      | else-index-changed-via-else-index-changed w ↦
          λ within. let past = w.if-index-changed.false in absurd (omega (arith, within, past))
    ]))
