use Rattle.std.proofs.Common.{subst, sym, ◌∙◌, ◌++◌}
use Rattle.std.specs.Prelude.{codes}
use Rattle.json.specs.Print.{escape}
use Rattle.cb_tags.specs.Writing.{Puts}
use Rattle.cb_wire.specs.Texts.{frame, id_text}
use Rattle.cb_wire.proofs.Welcomes.{welcome-text, welcome_end}
use Rattle.cb_wire.proofs.welcome.put_welcome.Goals as goal

pub returns : goal.returns
returns g c =
    subst (λ t. Puts c.args.out.now c.put_message.new.out c.put_message.result (frame t))
    ((λ i. codes "{\"jsonrpc\":\"2.0\",\"id\":" ++ (id_text c.args.id
    ++ (codes ",\"result\":{\"capabilities\":{\"positionEncoding\":\""
    ++ (escape (c.encoding_name.ensures i)
    ++ (codes "\",\"textDocumentSync\":{\"openClose\":true,\"change\":2,\"save\":true},"
    ++ (codes "\"hoverProvider\":true,\"completionProvider\":{},"
    ++ (codes "\"definitionProvider\":true,\"declarationProvider\":true,"
    ++ (codes "\"referencesProvider\":true,\"documentHighlightProvider\":true,"
    ++ (codes "\"documentSymbolProvider\":true,\"workspaceSymbolProvider\":true,"
    ++ (codes "\"renameProvider\":"
    ++ (c.renaming.ensures i ++ welcome_end c.args.version.now)))))))))))
    ∙ sym (welcome-text c.args.id c.args.encoding c.args.prepares c.args.version.now))
    c.put_message.ensures
