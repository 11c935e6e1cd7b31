-- Who calls, as a reply.
use Rattle.std.proofs.Common.{◌≡◌, ℕ, Bool, true, false, List, refl}
use Rattle.std.specs.Prelude.{None, Some, if◌then◌else◌}
use Rattle.json.specs.Json.{Json, null}
use Rattle.cb_desk.specs.World.{World, has_file, text_named, text_of_file}
use Rattle.cb_lsp.specs.Answers.{incoming_named, list_of}
use Rattle.cb_lsp.specs.Calls.{incoming_calls}
use Rattle.cb_lsp.specs.Clients.{Client}
use Rattle.cb_lsp.specs.Messages.{Serving}
use Rattle.cb_lsp.specs.Questions.{incoming}
use Rattle.cb_lsp.proofs.Asked.{Tells}

-- a file that is there, and one that is not
pub incoming-there : (c : Client) (w : World) (name file text : List ℕ)
    → Some text ≡ text_named w.files file
    → list_of (incoming_calls c w name file) ≡ incoming_named c w name (Some file)
incoming-there c w name file text found =
    (elim (has_file w.files file) as
    (λ b. Some text ≡ (if b then Some (text_of_file w.files file) else None)
    → list_of (incoming_calls c w name file)
    ≡ (if b then list_of (incoming_calls c w name file) else null)) [
      | true ↦ λ k. refl
      | false ↦ λ k. cc
    ]) found

pub incoming-missing : (c : Client) (w : World) (name file : List ℕ)
    → None ≡ text_named w.files file → null ≡ incoming_named c w name (Some file)
incoming-missing c w name file missing =
    (elim (has_file w.files file) as
    (λ b. None ≡ (if b then Some (text_of_file w.files file) else None)
    → null ≡ (if b then list_of (incoming_calls c w name file) else null)) [
      | true ↦ λ k. cc
      | false ↦ λ k. refl
    ]) missing

-- what is told of the file of a URI
pub incoming-tells : (no_memory : Bool) (s : Serving) (id : Json) (name uri : List ℕ)
    → Tells (λ c w file. incoming_named c w name file) no_memory s id uri (incoming name uri)
incoming-tells true s id name uri = refl
incoming-tells false s id name uri = refl
