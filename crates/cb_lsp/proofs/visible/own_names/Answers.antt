use Rattle.std.proofs.Common.{◌∙◌, ap, filter, fold, map, nat_eq}
use Rattle.std.specs.BTreeSet.{insert_key}
use Rattle.std.specs.Cmp.Lexicographic.{slice_cmp}
use Rattle.std.specs.List.{starts_with}
use Rattle.std.specs.Ordering.{nat_cmp}
use Rattle.cb_names.specs.Visible.{visible_names}
use Rattle.cb_scan.specs.lex.Tokens.{bytes_of}
use Rattle.cb_lsp.proofs.OwnNames.{name_of}
use Rattle.cb_lsp.proofs.visible.own_names.Goals as goal

pub returns : goal.returns
returns c =
    let spans_are = c.as_slice.ensures.value ∙ c.in_ok-spans.ensures
    ∙ ap (λ t. visible_names t c.args.start) c.in-Ok.ensures.code in
    c.in_ok-add_all.ensures
    ∙ (λ i. fold (insert_key (slice_cmp nat_cmp)) (map name_of (c.new-names.ensures.empty i))
    (filter (λ name. starts_with nat_eq name c.args.word.now)
    (map (bytes_of c.args.source.now) (spans_are i))))
