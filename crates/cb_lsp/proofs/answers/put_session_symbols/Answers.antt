use Rattle.std.proofs.Common.{subst, ap, ◌∙◌, sym, List, ◌++◌, map, take, filter, arith}
use Rattle.json.specs.Json.{array}
use Rattle.cb_tags.specs.TagLines.{Tag}
use Rattle.cb_tags.specs.Writing.{Puts}
use Rattle.cb_index.specs.Rows.{tags_named}
use Rattle.cb_wire.specs.Messages.{id_json}
use Rattle.cb_wire.specs.Texts.{frame}
use Rattle.cb_wire.specs.Trees.{result_reply}
use Rattle.cb_wire.specs.Values.{items_of, value_text}
use Rattle.cb_lsp.specs.Searches.{is_like}
use Rattle.cb_lsp.specs.Symbols.{session_symbol}
use Rattle.cb_lsp.specs.declared.symbols.TheConstants.{MOST_SYMBOLS}
use Rattle.cb_lsp.specs.steps.Located.{client_in}
use Rattle.cb_lsp.proofs.Listed.{take-front}
use Rattle.cb_lsp.proofs.answers.put_session_symbols.Goals as goal

pub returns-in-Some : goal.returns-in-Some
returns-in-Some g c =
    let w = c.args.desk.now.timeline.present in
    let query = c.args.query.now in
    let named = tags_named w.profile query w.files in
    let like : List Tag → List Tag = filter (is_like query) in
    subst (λ ts. Puts c.args.out.now c.put_kept.new.out c.put_kept.result
    (frame (value_text (result_reply (id_json c.args.id) (array (items_of
    (map (session_symbol (client_in c.args.forms) w.files) ts)))))))
    (ap (λ kept. take MOST_SYMBOLS (named ++ kept))
    (c.keep_like-count.ensures.kept ∙ ap (take MOST_SYMBOLS) (sym c.in-Some.ensures))
    ∙ take-front MOST_SYMBOLS MOST_SYMBOLS (omega arith) named (like c.tag_rows-rows.result)
    ∙ ap (λ ts. take MOST_SYMBOLS (named ++ like ts)) c.tag_rows-rows.ensures)
    c.put_kept.ensures

pub returns-in-None : goal.returns-in-None
returns-in-None g c =
    let w = c.args.desk.now.timeline.present in
    let query = c.args.query.now in
    let named = tags_named w.profile query w.files in
    let like : List Tag → List Tag = filter (is_like query) in
    subst (λ ts. Puts c.args.out.now c.put_kept-in-None.new.out c.put_kept-in-None.result
    (frame (value_text (result_reply (id_json c.args.id) (array (items_of
    (map (session_symbol (client_in c.args.forms) w.files) ts)))))))
    (ap (λ kept. take MOST_SYMBOLS (named ++ kept)) (sym c.in-None.ensures.0)
    ∙ ap (λ ts. take MOST_SYMBOLS (named ++ like ts)) c.tag_rows-rows.ensures)
    c.put_kept-in-None.ensures
