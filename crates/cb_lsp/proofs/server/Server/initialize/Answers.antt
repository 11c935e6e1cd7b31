use Rattle.std.proofs.Common.{true, false, refl, ◌∙◌}
use Rattle.cb_wire.specs.Messages.{id_json}
use Rattle.cb_lsp.specs.Messages.{out_of_memory_reply}
use Rattle.cb_lsp.specs.steps.Values.{seen}
use Rattle.cb_lsp.proofs.Answered.{does-one, initialized-does}
use Rattle.cb_lsp.proofs.server.Server.initialize.Goals as goal

pub returns-in-Err : goal.returns-in-Err
returns-in-Err g c = (
  true,
  does-one _ _ (out_of_memory_reply (id_json c.args.id)) _ _ _ c.in-Err.ensures
      c.put_refusal.ensures,
)

pub returns : goal.returns
returns g c = (
  false,
  initialized-does c.args.self.now _ _ (seen c.args.params) (id_json c.args.id) _ _ _ _
      c.as_bytes.result.now _ _ _ (c.self.view_is ∙ c.in-Ok.ensures)
      c.encoding_for-self-inside.ensures c.takes_trees-self-inside.ensures
      c.takes_watchers-self-inside.ensures
      c.prepares_renames-prepares.ensures c.as_bytes.ensures.value
      refl c.put_welcome.ensures,
)
