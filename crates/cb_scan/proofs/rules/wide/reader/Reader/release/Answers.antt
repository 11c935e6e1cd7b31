-- What is kept, and what is left, are what is kept of all.
use Rattle.std.proofs.Common.{◌≡◌, ◌∙◌, ◌≤◌, ◌++◌, ap, arith, length, sym}
use Rattle.std.proofs.lemmas.Bool.{eqb-true}
use Rattle.cb_scan.specs.declared.rules.wide.attribute.Attribute.TheVariants.{Outside}
use Rattle.cb_scan.specs.steps.wide.Attributes.{kept_from}
use Rattle.cb_scan.proofs.WideReading.{empty, none_kept, settled_keeps}
use Rattle.cb_scan.proofs.rules.wide.reader.Reader.release.Goals as goal

pub settled-preserved : goal.settled-preserved
settled-preserved c =
    let s = c.settled.self in
    let e = c.settle.ensures in
    let i = c.settled.invariant in
    let fewer = e.fewer in
    let some : 1 ≤ length s.window.raw = omega arith in
    record {
      kept = ap (λ r. r.window.bare ++ kept_from r.attribute r.window.raw) e.value
          ∙ settled_keeps s.window.bare s.attribute s.window.raw some ∙ i.kept;
      few = omega (arith, e.fewer, e.more, i.few);
      small = omega (arith, e.fewer, e.small, i.small);
      before = ap (λ r. r.before) e.value ∙ i.before;
      sight = ap (λ r. r.sight) e.value ∙ i.sight;
    }

pub returns-clause-value : goal.returns-clause-value
returns-clause-value c =
    let s = c.settled.self in
    let i = c.settled.invariant in
    let none : length s.window.raw ≡ 0 =
    sym (ap length c.raw.ensures)
    ∙ eqb-true (length c.raw.result.now) 0 (sym c.is_empty.ensures ∙ c.settled-test.false) in
    let raw = empty s.window.raw none in
    let bare = sym (none_kept s.window.bare s.attribute)
    ∙ ap (λ l. s.window.bare ++ kept_from s.attribute l) (sym raw) ∙ i.kept in
    (λ k. record { before = i.before k; attribute = Outside; sight = i.sight k; window = record { bare = bare k; raw = raw k } })
