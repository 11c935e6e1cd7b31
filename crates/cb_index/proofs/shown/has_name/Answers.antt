use Rattle.std.proofs.Common.{◌≡◌, ◌∙◌, ◌∷◌, true, false, sym, ap, subst, length, drop}
use Rattle.std.specs.List.{AllByRecursion, AllWithin, list_any}
use Rattle.std.specs.Str.{bytes_eq}
use Rattle.cb_index.specs.Archived.{name_of}
use Rattle.cb_index.specs.Files.{AreAscending}
use Rattle.cb_index.specs.steps.Bounds.{is_below}
use Rattle.cb_index.specs.steps.ShownIn.{shown_in}
use Rattle.cb_index.specs.declared.entry.Shown.{Shown}
use Rattle.cb_index.proofs.ListedLemmas.{any_from, first_settles, is_here}
use Rattle.cb_index.proofs.ShownLemmas.{ascending_later}
use Rattle.cb_index.proofs.SortedLemmas.{all_behind}
use Rattle.cb_index.proofs.shown.has_name.Goals as goal

-- the first that is not below settles it
pub returns-in-Some : goal.returns-in-Some
returns-in-Some c =
    let a = c.args.archive.now in
    let all = shown_in c.args.shown in
    let name = name_of a c.args.name in
    let one : Shown = record { name = c.args.name; version = 0 } in
    let first = c.in-Some.one in
    let more = shown_in c.in-Some.field-0-1 in
    let from = c.from_name.ensures in
    let split : drop from.0 all ≡ first ∷ more = sym from.2 ∙ c.in-Some.ensures in
    let before : AllWithin (λ t. is_below a name t ≡ true) all 0 from.0 =
    subst (λ n. AllWithin (λ t. is_below a n t ≡ true) all 0 from.0) c.name-name.ensures from.1.0 in
    let after : AllWithin (λ t. is_below a name t ≡ false) all from.0 (length all) =
    subst (λ n. AllWithin (λ t. is_below a n t ≡ false) all from.0 (length all))
    c.name-name.ensures from.1.1 in
    let here =
    subst (AllByRecursion (λ t. is_below a name t ≡ false)) split
    (all_behind (λ t. is_below a name t ≡ false) from.0 all after) in
    c.eq.ensures
    ∙ (λ i. bytes_eq (c.name-name.ensures i) (c.name.ensures i))
    ∙ first_settles a one first more
    (subst (AreAscending a) split (ascending_later a from.0 all c.requires)) here.0
    ∙ ap (list_any (is_here a one)) (sym split)
    ∙ sym (any_from a one from.0 all before)

-- all are below
pub returns-in-None : goal.returns-in-None
returns-in-None c =
    let a = c.args.archive.now in
    let all = shown_in c.args.shown in
    let name = name_of a c.args.name in
    let one : Shown = record { name = c.args.name; version = 0 } in
    let from = c.from_name.ensures in
    let before : AllWithin (λ t. is_below a name t ≡ true) all 0 from.0 =
    subst (λ n. AllWithin (λ t. is_below a n t ≡ true) all 0 from.0) c.name-name.ensures from.1.0 in
    ap (list_any (is_here a one)) (sym (sym from.2 ∙ c.in-None.ensures))
    ∙ sym (any_from a one from.0 all before)
