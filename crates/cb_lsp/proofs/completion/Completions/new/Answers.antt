use Rattle.std.proofs.Common.{◌∙◌, ◌++◌, ℕ, List, filter, map, not}
use Rattle.std.specs.Borrow.{Bor}
use Rattle.cb_tags.specs.TagLines.{Tag}
use Rattle.cb_lsp.specs.Completions.{defined_names, local_item, session_item}
use Rattle.cb_lsp.specs.steps.Closures.{has_name}
use Rattle.cb_lsp.proofs.OwnNames.{completing-by}
use Rattle.cb_lsp.proofs.completion.Completions.new.Goals as goal

pub returns : goal.returns
returns c =
    let own = c.args.own.now in
    let w = c.args.desk.now.timeline.present in
    (λ i. map (λ (name : Bor (List ℕ)). local_item name.now) (c.iter.ensures.rest i)
    ++ map session_item (filter (λ (t : Tag). not (has_name own t.name)) (c.new.ensures i)))
    ∙ completing-by own (defined_names w c.args.word.now)
