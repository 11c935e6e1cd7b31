use Rattle.std.proofs.Common.{◌∙◌, ap, map, sym}
use Rattle.std.specs.BTreeSet.{insert_key}
use Rattle.std.specs.Cmp.Lexicographic.{slice_cmp}
use Rattle.std.specs.Ordering.{nat_cmp}
use Rattle.std.specs.Prelude.{cond}
use Rattle.cb_lsp.specs.steps.Completions.{names_in}
use Rattle.cb_lsp.proofs.OwnNames.{name-inserted, name_of}
use Rattle.cb_lsp.proofs.visible.add_begun.Goals as goal

pub returns-in_ok-insert : goal.returns-in_ok-insert
returns-in_ok-insert c =
    let old = c.args.names.now in
    let name = c.args.name in
    ap (map name_of) c.in_ok-insert.ensures.keys
    ∙ name-inserted old.keys name
    ∙ sym (ap (λ b. cond b (insert_key (slice_cmp nat_cmp) (names_in old) name.now) (names_in old))
    (sym c.starts_with.ensures.value ∙ c.if-starts_with.true))
