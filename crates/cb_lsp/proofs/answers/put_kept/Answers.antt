use Rattle.std.proofs.Common.{subst, ap, ◌∙◌, List, ◌++◌, map, take}
use Rattle.json.specs.Json.{array}
use Rattle.cb_tags.specs.TagLines.{Tag}
use Rattle.cb_tags.specs.Writing.{Puts}
use Rattle.cb_index.specs.steps.Left.{tag_of_spot}
use Rattle.cb_wire.specs.Messages.{id_json}
use Rattle.cb_wire.specs.Texts.{frame}
use Rattle.cb_wire.specs.Trees.{result_reply}
use Rattle.cb_wire.specs.Values.{items_of, value_text}
use Rattle.cb_lsp.specs.Symbols.{session_symbol}
use Rattle.cb_lsp.specs.declared.symbols.TheConstants.{MOST_SYMBOLS}
use Rattle.cb_lsp.specs.steps.Located.{Locating, client_in}
use Rattle.cb_lsp.proofs.Listed.{map-map, take-map}
use Rattle.cb_lsp.proofs.answers.put_kept.Goals as goal

pub returns : goal.returns
returns g c =
    let symbol = session_symbol (client_in c.args.forms) c.args.desk.now.timeline.present.files in
    let kept = map tag_of_spot c.args.kept.now in
    let found = c.definitions.result ++ kept in
    subst (λ js. Puts c.args.out.now c.put_first.new.out c.put_first.result
    (frame (value_text (result_reply (id_json c.args.id) (array (items_of js))))))
    (take-map symbol MOST_SYMBOLS found
    ∙ ap (λ (named : List Tag). map symbol (take MOST_SYMBOLS (named ++ kept)))
    c.definitions.ensures)
    (c.put_first.ensures (map symbol found)
    (ap (λ (l : Locating). map (λ t. value_text (session_symbol l.client l.files t)) found)
    c.new.ensures
    ∙ map-map value_text symbol found))
