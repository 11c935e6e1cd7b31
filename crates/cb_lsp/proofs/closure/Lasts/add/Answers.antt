use Rattle.std.proofs.Common.{◌∙◌, ap, map, refl, subst, List, [], ℕ}
use Rattle.std.specs.Prelude.{IsSome, Some, cond}
use Rattle.std.specs.Borrow.{Bor}
use Rattle.std.specs.BTreeMap as tree
use Rattle.std.specs.Cmp.Lexicographic.{slice_cmp}
use Rattle.std.specs.Option.{option_map_or}
use Rattle.std.specs.Ordering.{is_eq, nat_cmp}
use Rattle.cb_lsp.proofs.ClosureLasts.{lists_one}
use Rattle.cb_lsp.proofs.ClosureSearch.{lent}
use Rattle.cb_lsp.proofs.closure.Lasts.add.Goals as goal

pub returns-in-Some : goal.returns-in-Some
returns-in-Some c =
    let old = c.args.self.now.names in
    let new = c.get_mut.follows.lender c.push.new.self in
    let known =
    (c.get_mut.follows.holds c.push.new.self).3 (subst IsSome c.in-Some.ensures.value refl) in
    lists_one (λ v. v.items)
    (λ (q : List ℕ). tree.get_by (λ (k : Bor (List ℕ)). slice_cmp nat_cmp q k.now) old)
    (λ (q : List ℕ). tree.get_by (λ (k : Bor (List ℕ)). slice_cmp nat_cmp q k.now) new)
    c.push.new.self c.in-Some.names.now.items c.last_of-last.result.now c.args.name
    c.last_of-last.ensures (λ q. known.0 (lent q)) c.in_ok-push.ensures.items
    (ap (λ o. option_map_or (λ v. map (λ (k : Bor (List ℕ)). k.now) v.items) o [])
    c.in-Some.ensures.value)

pub returns : goal.returns
returns c =
    let old = c.args.self.now.names in
    let new = c.insert.new.self in
    lists_one (λ v. v.items)
    (λ (q : List ℕ). tree.get_by (λ (k : Bor (List ℕ)). slice_cmp nat_cmp q k.now) old)
    (λ (q : List ℕ). tree.get_by (λ (k : Bor (List ℕ)). slice_cmp nat_cmp q k.now) new)
    c.push-2.new.self c.new-names.result.items c.last_of-last.result.now c.args.name
    c.last_of-last.ensures (λ q. c.in_ok-insert.ensures.updates.0 (lent q)
    ∙ ap (λ m. cond (is_eq (slice_cmp nat_cmp c.last_of-last.result.now q)) (Some c.push-2.new.self)
    (tree.get_by (λ (k : Bor (List ℕ)). slice_cmp nat_cmp q k.now) m))
    c.get_mut.follows.holds-at-none)
    c.in_ok-push-2.ensures.items
    (ap (map (λ (k : Bor (List ℕ)). k.now)) c.new-names.ensures.items
    ∙ ap (λ o. option_map_or (λ v. map (λ (k : Bor (List ℕ)). k.now) v.items) o [])
    c.in_default.ensures.value)
