use Rattle.std.proofs.Common.{◌∙◌, map, subst, take, true}
use Rattle.std.specs.Prelude.{codes}
use Rattle.cb_names.specs.declared.local.LocalUse.{LocalUse}
use Rattle.cb_tags.specs.Writing.{Puts}
use Rattle.cb_wire.specs.declared.list.TheConstants.{MOST_ELEMENTS}
use Rattle.cb_wire.specs.Edits.{edit_of, file_texts}
use Rattle.cb_wire.specs.Lists.{list_text}
use Rattle.cb_wire.specs.Replies.{result_body}
use Rattle.cb_wire.specs.Texts.{frame}
use Rattle.cb_wire.specs.Uris.{uri_of}
use Rattle.cb_lsp.specs.Places.{range_of}
use Rattle.cb_lsp.specs.steps.Located.{client_in}
use Rattle.cb_lsp.proofs.LocalEdits.{local-written}
use Rattle.cb_lsp.proofs.rename.Renaming.put_local_edits.Goals as goal

pub returns : goal.returns
returns g c =
    let f = c.args.self.now in
    let k = client_in f.asked.forms in
    subst (λ t. Puts c.args.out.now c.put_list_result.new.out c.put_list_result.result (frame t))
    ((λ i. result_body c.args.id (list_text (codes "{\"changes\":{") (codes ",") (codes "}}")
    (take MOST_ELEMENTS (file_texts true (uri_of k.root f.asked.name.now)
    (map (λ (u : LocalUse). edit_of (range_of (c.new.ensures.encoding i) (c.new.ensures.text i)
    u.name.start u.name.end) f.new_name.now) (c.told.ensures i))))))
    ∙ local-written c.args.id k f.asked.name.now f.asked.source.now f.new_name.now c.args.uses.now)
    c.put_list_result.ensures
