-- What is folded of a file, as a reply.
use Rattle.std.proofs.Common.{◌≡◌, ℕ, Bool, true, false, List, ap, refl}
use Rattle.std.specs.Prelude.{None, Some, if◌then◌else◌}
use Rattle.json.specs.Json.{Json, null}
use Rattle.cb_desk.specs.World.{World, has_file, text_named, text_of_file}
use Rattle.cb_lsp.specs.Answers.{folds_named, list_of}
use Rattle.cb_lsp.specs.Folds.{folds_in}
use Rattle.cb_lsp.specs.Messages.{Serving}
use Rattle.cb_lsp.specs.Questions.{folds}
use Rattle.cb_lsp.proofs.Asked.{Tells}

-- a file that is there, and one that is not
pub folds-there : (w : World) (file text : List ℕ) → Some text ≡ text_named w.files file
    → list_of (folds_in w.profile.rules text) ≡ folds_named w (Some file)
folds-there w file text found =
    (elim (has_file w.files file) as
    (λ b. Some text ≡ (if b then Some (text_of_file w.files file) else None)
    → list_of (folds_in w.profile.rules text)
    ≡ (if b then list_of (folds_in w.profile.rules (text_of_file w.files file)) else null)) [
      | true ↦ λ k.
          let is : text ≡ text_of_file w.files file = cc in
          ap (λ t. list_of (folds_in w.profile.rules t)) is
      | false ↦ λ k. cc
    ]) found

pub folds-missing : (w : World) (file : List ℕ) → None ≡ text_named w.files file
    → null ≡ folds_named w (Some file)
folds-missing w file missing =
    (elim (has_file w.files file) as
    (λ b. None ≡ (if b then Some (text_of_file w.files file) else None)
    → null
    ≡ (if b then list_of (folds_in w.profile.rules (text_of_file w.files file)) else null)) [
      | true ↦ λ k. cc
      | false ↦ λ k. refl
    ]) missing

-- what is told of the file of a URI
pub folds-tells : (no_memory : Bool) (s : Serving) (id : Json) (uri : List ℕ)
    → Tells (λ c w file. folds_named w file) no_memory s id uri (folds uri)
folds-tells true s id uri = refl
folds-tells false s id uri = refl
