use Rattle.std.proofs.Common.{◌∙◌, ◌++◌, ◌∷◌, [], None, ap, filter, sym}
use Rattle.std.proofs.lemmas.List.{take_all}
use Rattle.std.specs.Prelude.{◌&&◌, cond, slice_index_or}
use Rattle.std.specs.Str.{bytes_eq}
use Rattle.cb_scan.specs.declared.facts.Use.{Use}
use Rattle.cb_scan.specs.lex.Tokens.{bytes_of}
use Rattle.cb_lsp.specs.Same.{is_same_at}
use Rattle.cb_lsp.proofs.SameStarts.{filter_more}
use Rattle.cb_lsp.proofs.same.same_among.Goals as goal

pub loop-i-preserved : goal.loop-i-preserved
loop-i-preserved c = λ ss are.
    let p = λ (u : Use). bytes_eq (bytes_of c.args.source.now u.name) c.args.name.now
    && is_same_at c.args.sort ss u.name.start in
    let us = c.args.uses.now in
    let i = c.loop-i.i in
    c.in_ok-push_if.ensures
    ∙ (λ j. c.loop-i.invariant ss are j
    ++ cond (c.is_same_use-is.ensures ss are j) (slice_index_or us i (record { name = record { start = 0; end = 0 }; line = 0; scope = None }) ∷ []) [])
    ∙ sym (filter_more p us i _ c.loop-i-test.true)

pub returns : goal.returns
returns c = λ ss are.
    let p = λ (u : Use). bytes_eq (bytes_of c.args.source.now u.name) c.args.name.now
    && is_same_at c.args.sort ss u.name.start in
    c.loop-i.invariant ss are ∙ ap (filter p) (take_all c.loop-i.i c.args.uses.now c.loop-i-test.false)
