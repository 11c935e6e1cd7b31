-- What is left goes to what is there.
use Rattle.std.proofs.Common.{◌≡◌, drop, filter, fold, map, nat_eq}
use Rattle.std.specs.BTreeSet.{insert_key}
use Rattle.std.specs.Cmp.Lexicographic.{slice_cmp}
use Rattle.std.specs.List.{starts_with}
use Rattle.std.specs.Ordering.{nat_cmp}
use Rattle.cb_scan.specs.lex.Tokens.{bytes_of}
use Rattle.cb_lsp.specs.steps.Completions.{names_in}
use Rattle.cb_lsp.proofs.visible.add_all.Given as goal

abbrev pub invariant-loop-span : goal.invariant-loop-span
invariant-loop-span l =
    fold (insert_key (slice_cmp nat_cmp)) (names_in l.names)
    (filter (λ name. starts_with nat_eq name l.word)
    (map (bytes_of l.source) (drop l.span-index l.spans)))
    ≡ fold (insert_key (slice_cmp nat_cmp)) (names_in l.fn.names)
    (filter (λ name. starts_with nat_eq name l.word) (map (bytes_of l.source) l.spans))
