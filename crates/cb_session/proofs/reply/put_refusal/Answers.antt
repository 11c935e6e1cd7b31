use Rattle.std.proofs.Common.{◌∙◌}
use Rattle.cb_session.proofs.reply.put_refusal.Goals as goal

pub returns : goal.returns
returns g c = rw (c.as_bytes.ensures.value ∙ c.text.ensures) at c.put_all.ensures
