-- An editor that is served, from the files where the loads lead.
use Rattle.std.proofs.Common.{arith, ◌≡◌, ◌∙◌, ◌≤◌, ap, refl, sym, subst, ℕ, List, Option, Some, None}
use Rattle.std.proofs.Common.{Result, Err}
use Rattle.clap.specs.Words.{Row, Text}
use Rattle.cb_desk.specs.World.{World}
use Rattle.cb_lsp.specs.declared.run.RunFault.{RunFault}
use Rattle.cb_lsp.specs.declared.run.RunFault.TheVariants.{Memory}
use Rattle.cb_lsp.specs.declared.turn.Ending.{Ending}
use Rattle.cb_lsp.specs.Documents.{Looked}
use Rattle.cb_lsp.specs.Messages.{Serving}
use Rattle.cb_lsp.specs.Runs.{LeavesRun}
use Rattle.cb_session.specs.States.{State}
use Rattle.cb_tags.specs.Readers.{Reader, WhateverFollows}
use Rattle.cb_tags.specs.Writers.{Writer}
use Rattle.cb_tags.proofs.Follows.{Follows-nothing}
use Rattle.cb_words.specs.Jobs.{IsJobOf}
use Rattle.cb_words.specs.declared.job.Job.{Job}
use Rattle.cb_words.specs.declared.job.Job.TheVariants.{Line, Find, Tags, Lsp}
use Rattle.cbrowse.specs.Program.{IsReady, RunsServer, server_of}

-- memory was refused before there was a server
pub not_begun : (finds : Looked → Type 0) (root : Option (List ℕ)) (w : World) (feed : Reader) (out : Writer)
    → RunsServer finds root w feed feed out out (Err Memory)
not_begun finds root w feed out = (
  server_of root w,
  Follows-nothing feed (λ bytes left.
      LeavesRun finds bytes (server_of root w) (server_of root w) left out out (Err Memory))
      (λ bytes left is. (is, refl, refl)),
)

-- a server ran that began with the files of a session
pub has_served : (finds : Looked → Type 0) (root : Option (List ℕ)) (s t : State) (server next : Serving)
    (feed feed' : Reader) (out out' : Writer) (end : Result Ending RunFault)
    → server ≡ server_of root t.timeline.present → t ≡ s
    → WhateverFollows feed feed' (λ bytes left. LeavesRun finds bytes server next left out out' end)
    → RunsServer finds root s.timeline.present feed feed' out out' end
has_served finds root s t server next feed feed' out out' end is same served = (
  next,
  subst (λ v. WhateverFollows feed feed' (λ bytes left. LeavesRun finds bytes v next left out out' end))
      (is ∙ ap (λ (u : State). server_of root u.timeline.present) same) served,
)

-- a job that words ask for is ready
pub ready : (found : Option (Text × List Row)) (job : Job) → IsJobOf found job → IsReady job
ready None job is = absurd is
ready (Some found) (Line bounds rules list files) is = tt
ready (Some found) (Find bounds rules field pattern list files) is = is.7
ready (Some found) (Tags bounds rules listing tagsfile force format list files) is = tt
ready (Some found) (Lsp bounds rules root list files) is =
    subst (λ n. 1 ≤ n) (sym is.1.history) (omega arith)
