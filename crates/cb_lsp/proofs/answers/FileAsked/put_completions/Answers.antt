use Rattle.std.proofs.Common.{◌≤◌, ◌<◌, ◌∙◌, false, length, subst, sym}
use Rattle.cb_tags.specs.Writing.{Puts}
use Rattle.cb_wire.specs.Messages.{id_json}
use Rattle.cb_wire.specs.Texts.{frame}
use Rattle.cb_wire.specs.Trees.{result_reply}
use Rattle.cb_wire.specs.Values.{value_text}
use Rattle.cb_lsp.specs.Completions.{completing, completions_of, own_names, word_before, word_start}
use Rattle.cb_lsp.specs.Messages.{result_unless}
use Rattle.cb_lsp.proofs.Completed.{none-complete, some-complete}
use Rattle.cb_lsp.proofs.answers.FileAsked.put_completions.Goals as goal

pub returns-in-empty : goal.returns-in-empty
returns-in-empty g c =
    let w = c.args.self.now.desk.now.timeline.present in
    let text = c.args.self.now.source.now in
    let word = word_before text c.args.place in (
      false,
      subst (λ j. Puts c.args.out.now c.put_no_names.new.out c.put_no_names.result
          (frame (value_text (result_reply (id_json c.args.id) j))))
          (sym (none-complete w (own_names text (word_start text c.args.place) word) word
          (subst (λ l. length l < 1) c.word_before-word.ensures c.in-empty.len_below)))
          c.put_no_names.ensures,
    )

pub returns-in-len1-up : goal.returns-in-len1-up
returns-in-len1-up g c =
    let w = c.args.self.now.desk.now.timeline.present in
    let text = c.args.self.now.source.now in
    let word = word_before text c.args.place in
    let word_is = c.word_before-word.ensures in
    let start_is = c.word_start.ensures.value in
    let call = c.put_completing in (
      call.ensures.0,
      subst (λ j. Puts c.args.out.now call.new.out call.result
          (frame (value_text (result_unless call.ensures.0 (id_json c.args.id) j))))
          ((λ i. completions_of (completing w (own_names text (start_is i) (word_is i)) (word_is i)))
          ∙ some-complete w (own_names text (word_start text c.args.place) word) word
          (subst (λ l. 1 ≤ length l) word_is c.in-len1-up.len_at_least))
          call.ensures.1,
    )
