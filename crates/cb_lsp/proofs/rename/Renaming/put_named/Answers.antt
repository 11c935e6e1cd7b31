use Rattle.std.proofs.Common.{◌∙◌, ap, false, subst, sym, true}
use Rattle.std.specs.Option.{option_map}
use Rattle.cb_wire.specs.Messages.{id_json}
use Rattle.cb_lsp.specs.Bodies.{Replies}
use Rattle.cb_lsp.specs.Messages.{reply_unless}
use Rattle.cb_lsp.specs.NameRenames.{answer_unless, renamed_sort, unless_word}
use Rattle.cb_lsp.specs.WordUses.{word_sort}
use Rattle.cb_lsp.specs.steps.Located.{client_in}
use Rattle.cb_lsp.specs.steps.Renames.{reason_of, work_in}
use Rattle.cb_lsp.proofs.Notices.{quiet}
use Rattle.cb_lsp.proofs.rename.Renaming.put_named.Goals as goal

pub returns-in-Some : goal.returns-in-Some
returns-in-Some g c =
    let f = c.args.self.now in
    let k = client_in f.asked.forms in
    let w = work_in f in
    let name = f.asked.name.now in
    let text = f.asked.source.now in
    let word = c.args.word in
    let call = c.put_unedited in
    let why = ap (option_map reason_of) (sym c.in-Some.is) ∙ c.unless_word.ensures
    ∙ ap (λ old. unless_word w.world old f.new_name.now) c.bytes_of.ensures in (
      false,
      quiet,
      subst (λ r. Replies (g.D.Disk.finds c.args.disk.now) (reply_unless false (id_json c.args.id)
          (answer_unless r (renamed_sort quiet k w name text f.new_name.now
          (word_sort w.world name text c.args.space word) word))) c.args.out.now call.new.out call.result)
          why (call.ensures, tt),
    )

pub returns-in-Ok : goal.returns-in-Ok
returns-in-Ok g c =
    let f = c.args.self.now in
    let k = client_in f.asked.forms in
    let w = work_in f in
    let name = f.asked.name.now in
    let text = f.asked.source.now in
    let word = c.args.word in
    let call = c.put_sorted in
    let put = call.ensures in
    let why = ap (option_map reason_of) (sym c.in_default.is) ∙ c.unless_word.ensures
    ∙ ap (λ old. unless_word w.world old f.new_name.now) c.bytes_of.ensures in (
      put.0,
      put.1,
      subst (λ r. Replies (g.D.Disk.finds c.args.disk.now) (reply_unless put.0 (id_json c.args.id)
          (answer_unless r (renamed_sort put.1 k w name text f.new_name.now
          (word_sort w.world name text c.args.space word) word))) c.args.out.now call.new.out call.result)
          why
          (subst (λ s. Replies (g.D.Disk.finds c.args.disk.now) (reply_unless put.0 (id_json c.args.id)
          (renamed_sort put.1 k w name text f.new_name.now s word)) c.args.out.now call.new.out call.result)
          c.in-Ok.ensures put.2),
    )

pub returns-in-Err : goal.returns-in-Err
returns-in-Err g c = (true, quiet, (c.put_refusal.ensures, tt))
