use Rattle.std.proofs.Common.{◌≡◌, false, refl, sym, true}
use Rattle.std.specs.Str.{is_utf8}
use Rattle.std.proofs.lemmas.Str.{IsUtf8-from_is_utf8, is_utf8-from_IsUtf8}
use Rattle.cb_lsp.proofs.alike.is_utf8.Goals as goal

pub returns-in-Ok : goal.returns-in-Ok
returns-in-Ok c = sym (is_utf8-from_IsUtf8 c.args.text.now c.in-Ok.ensures.cases.1)

pub returns-in-Err : goal.returns-in-Err
returns-in-Err c =
    (elim (is_utf8 c.args.text.now) as (λ b. is_utf8 c.args.text.now ≡ b → false ≡ b) [
      | true ↦ λ h. absurd (c.in-Err.ensures.cases.0 (IsUtf8-from_is_utf8 c.args.text.now h))
      | false ↦ λ h. refl
    ]) refl
