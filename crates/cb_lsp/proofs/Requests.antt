-- What requests lead to.
use Rattle.std.proofs.Common.{◌≡◌, ℕ, Bool, true, false, List, [], refl}
use Rattle.std.specs.Prelude.{codes, Option, Ok, Err}
use Rattle.std.specs.Str.{bytes_eq}
use Rattle.json.specs.Json.{Json, null}
use Rattle.cb_wire.specs.declared.reply.ErrorCode.TheVariants.{InvalidRequest}
use Rattle.cb_wire.specs.declared.reply.ErrorCode.TheVariants.{ServerNotInitialized}
use Rattle.cb_wire.specs.Trees.{error_reply, result_reply}
use Rattle.cb_lsp.specs.declared.question.Unasked.{Unasked}
use Rattle.cb_lsp.specs.declared.server.Stage.{Stage}
use Rattle.cb_lsp.specs.declared.server.Stage.TheVariants.{Fresh, Down}
use Rattle.cb_lsp.specs.Documents.{Oracle}
use Rattle.cb_lsp.specs.Messages.{Serving, answered, initialized, replies, requested, running}
use Rattle.cb_lsp.specs.Messages.{unasked_reply}
use Rattle.cb_lsp.specs.Questions.{Asked, asked_by}
use Rattle.cb_lsp.specs.steps.Works.{only}

pub running-again : (o : Oracle) (s : Serving) (id : Json) (method : List ℕ) (params : Option Json)
    → bytes_eq method (codes "initialize") ≡ true
    → replies s (error_reply id InvalidRequest (codes "initialized already"))
    ≡ running o s id method params
running-again o s id method params again = rw again

pub running-down : (o : Oracle) (s : Serving) (id : Json) (method : List ℕ) (params : Option Json)
    → bytes_eq method (codes "initialize") ≡ false → bytes_eq method (codes "shutdown") ≡ true
    → replies (record s { stage = Down }) (result_reply id null) ≡ running o s id method params
running-down o s id method params other down = rw (other, down)

pub running-unasked : (o : Oracle) (s : Serving) (id : Json) (method : List ℕ)
    (params : Option Json) (why : Unasked)
    → bytes_eq method (codes "initialize") ≡ false → bytes_eq method (codes "shutdown") ≡ false
    → Err why ≡ asked_by method params
    → replies s (unasked_reply id why) ≡ running o s id method params
running-unasked o s id method params why other up unasked = rw (other, up, ← unasked)

pub running-asked : (o : Oracle) (s : Serving) (id : Json) (method : List ℕ)
    (params : Option Json) (asked : Asked)
    → bytes_eq method (codes "initialize") ≡ false → bytes_eq method (codes "shutdown") ≡ false
    → Ok asked ≡ asked_by method params
    → answered o s id (Ok asked) ≡ running o s id method params
running-asked o s id method params asked other up is = rw (other, up, ← is)

-- nothing is read where a client says what it takes
pub nothing-begun : (m : Bool) (s : Serving) (id : Json) (params : Option Json)
    → (initialized m s id params).read ≡ []
nothing-begun true s id params = refl
nothing-begun false s id params = refl

pub requested-first : (stage : Stage) (m : Bool) (s : Serving) (id : Json) (method : List ℕ)
    (params : Option Json) → stage ≡ Fresh → bytes_eq method (codes "initialize") ≡ true
    → initialized m s id params ≡ requested stage (only m) s id method params
requested-first stage m s id method params fresh first = rw (fresh, first)

pub requested-early : (stage : Stage) (o : Oracle) (s : Serving) (id : Json) (method : List ℕ)
    (params : Option Json) → stage ≡ Fresh → bytes_eq method (codes "initialize") ≡ false
    → replies s (error_reply id ServerNotInitialized (codes "not initialized"))
    ≡ requested stage o s id method params
requested-early stage o s id method params fresh other = rw (fresh, other)

pub requested-late : (stage : Stage) (o : Oracle) (s : Serving) (id : Json) (method : List ℕ)
    (params : Option Json) → stage ≡ Down
    → replies s (error_reply id InvalidRequest (codes "shut down"))
    ≡ requested stage o s id method params
requested-late stage o s id method params down = rw down
