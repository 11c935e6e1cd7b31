use Rattle.std.proofs.Common.{◌≡◌, refl}
use Rattle.std.specs.Ordering.{nat_cmp}
use Rattle.std.proofs.lemmas.Iterator.{YieldsList-from_slice}
use Rattle.std.proofs.lemmas.Iterator.Consumers.{YieldsList-from_chain}
use Rattle.std.proofs.lemmas.Iterator.Search.{cmp_from_yields_List}
use Rattle.cb_tags.proofs.tag_name.compare.Goals as goal

pub returns : goal.returns
returns c =
    cmp_from_yields_List (λ x y. y ≡ x) _ nat_cmp _ c.cmp.ensures.ran
    (YieldsList-from_chain (YieldsList-from_slice c.args.a.now.first.now cc)
    (YieldsList-from_slice c.args.a.now.rest.now cc) c.chain-a_bytes.ensures.first_done
    c.chain-a_bytes.ensures.second_done)
    (λ it e. YieldsList-from_chain {s = it} (YieldsList-from_slice c.args.b.now.first.now cc)
    (YieldsList-from_slice c.args.b.now.rest.now cc) (cc) (cc))
    (λ x y. refl)
