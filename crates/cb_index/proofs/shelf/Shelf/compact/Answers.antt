use Rattle.std.proofs.Common.{rules, ◌≡◌, ◌∙◌, ◌<◌, ◌-◌, ℕ, false, ap, length, arith, is_none}
use Rattle.cb_index.specs.Compact.{shows_version}
use Rattle.cb_index.proofs.CompactLemmas.{found_shown, left_length, others_left, shows_left, shows_through}
use Rattle.cb_index.proofs.KeptLemmas.{keeps_trans}
use Rattle.cb_index.proofs.shelf.Shelf.compact.Goals as goal

not_last : (u v count : ℕ) → u < v → v < count → u ≡ count - 1 → ⊥
not_last u v count low there is = omega (arith, low, there, is)

pub fill-requires-clause-last : goal.fill-requires-clause-last
fill-requires-clause-last c =
    let some : is_none c.with_version.result ≡ false = search rules in
    found_shown (length c.loop-version.self.archive.texts - 1) c.loop-version.self.shown
    c.with_version.result (search rules) some

pub loop-version-preserved-then-is_none : goal.loop-version-preserved-then-is_none
loop-version-preserved-then-is_none c =
    let s = c.loop-version.self in
    let t = c.remove.new.self in
    let v = c.version_count-last.result - 1 in
    let is = c.remove.ensures in
    let was = c.loop-version.invariant in
    let there = c.with_version.ensures.there in
    let below : v < length s.archive.texts = search rules in
    let hidden : shows_version v s.shown ≡ false = search rules in
    let within : c.loop-version.version < length s.archive.texts = search rules in
    let count = left_length s.archive.texts v below in
    let many = ap length is.texts in
    let fewer = was.fewer in
    record {
      same =
          shows_through c.note_places.new.self s t was.same
          (shows_left s t v there below hidden is.profile is.names is.texts is.shown);
      shown = λ u low.
          others_left s t v there below hidden is.profile is.names is.texts is.shown u
          (not_last u c.loop-version.version (length s.archive.texts) low within)
          (was.shown u low);
      fewer = omega (arith, count, many, fewer);
      turns = is.turns ∙ was.turns;
      room = keeps_trans c.note_places.new.self s t was.room is.room;
    }
