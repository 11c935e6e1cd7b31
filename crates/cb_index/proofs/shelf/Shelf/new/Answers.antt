use Rattle.std.proofs.Common.{◌≡◌, ◌∷◌, [], ap, length, arith}
use Rattle.cb_index.specs.Kinds.{all_kinds}
use Rattle.cb_index.proofs.EachLemmas.{kinds_of}
use Rattle.cb_index.proofs.KeptLemmas.{has_none, kept_none}
use Rattle.cb_index.proofs.TotalLemmas.{totals_none}
use Rattle.cb_index.proofs.shelf.Shelf.new.Goals as goal

pub invariant_of-result : goal.invariant_of-result
invariant_of-result c =
    let xs = c.new-3.result ∷ c.new-4.result ∷ [] in
    let kinds : kinds_of xs ≡ all_kinds =
    λ i. c.new-3.ensures.kind i ∷ c.new-4.ensures.kind i ∷ [] in
    let none = ap length c.new-2.ensures in (
      kept_none c.new.result c.new-2.result.items xs c.new-2.ensures kinds (
        (c.new-3.ensures.held, c.new-3.ensures.pending),
        ((c.new-4.ensures.held, c.new-4.ensures.pending), tt),
      ),
      totals_none c.new.result c.new-2.result.items c.new-2.ensures,
      record {
        entries = omega (arith, none);
        defs = omega arith;
        uses = omega arith;
        calls = omega arith;
        listed = omega arith;
        each = has_none xs;
      },
    )
