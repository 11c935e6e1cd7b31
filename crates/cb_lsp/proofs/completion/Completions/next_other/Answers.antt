use Rattle.std.proofs.Common.{◌∙◌, ◌∷◌, ap, filter, not, sym}
use Rattle.std.specs.Prelude.{cond}
use Rattle.cb_index.specs.steps.Left.{tag_of_spot}
use Rattle.cb_tags.specs.TagLines.{Tag}
use Rattle.cb_lsp.specs.steps.Closures.{has_name}
use Rattle.cb_lsp.specs.steps.Completions.{names_left}
use Rattle.cb_lsp.proofs.completion.Completions.next_other.Goals as goal

pub returns-then-not-contains-clause-next : goal.returns-then-not-contains-clause-next
returns-then-not-contains-clause-next c =
    let all = c.names.self.all.now in
    let t = tag_of_spot c.in-Some.spot in
    let left = filter (λ (u : Tag). not (has_name all u.name)) (names_left c.next_name.new.self) in
    sym c.names.invariant.others
    ∙ ap (filter (λ (u : Tag). not (has_name all u.name))) c.in-Some.ensures
    ∙ ap (λ b. cond (not b) (t ∷ left) left)
    (ap (has_name all) (sym c.name.ensures) ∙ sym c.contains.ensures ∙ c.if-not-contains.true)

pub names-preserved : goal.names-preserved
names-preserved c =
    let all = c.names.self.all.now in
    let t = tag_of_spot c.in-Some.spot in
    let left = filter (λ (u : Tag). not (has_name all u.name)) (names_left c.next_name.new.self) in
    record {
      others =
          sym (ap (filter (λ (u : Tag). not (has_name all u.name))) c.in-Some.ensures
          ∙ ap (λ b. cond (not b) (t ∷ left) left)
          (ap (has_name all) (sym c.name.ensures) ∙ sym c.contains.ensures
          ∙ c.if-not-contains.false))
          ∙ c.names.invariant.others;
      own = c.names.invariant.own;
    }
