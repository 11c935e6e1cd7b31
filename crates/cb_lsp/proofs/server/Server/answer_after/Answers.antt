use Rattle.std.proofs.Common.{◌≡◌, ◌∙◌, [], ◌∷◌, ◌+◌, Err, List, ℕ, ap, drop, map, rules}
use Rattle.std.proofs.Common.{subst, sym}
use Rattle.std.specs.Prelude.{Ok}
use Rattle.cb_wire.specs.Messages.{id_json}
use Rattle.cb_lsp.specs.Messages.{asked_reply, refreshed}
use Rattle.cb_lsp.specs.Models.{asked_of}
use Rattle.cb_lsp.proofs.Answered.{by-reply}
use Rattle.cb_lsp.proofs.InTurn.{DoneSo, done-ends, done-fails, done-more, done-none}
use Rattle.cb_lsp.proofs.Refreshed.{answering, name-first, names-drop, names-end, no-name}
use Rattle.cb_lsp.proofs.server.Server.answer_after.Goals as goal

pub names-init : goal.names-init
names-init g c =
    done-none (answering (id_json c.args.id) (asked_of c.args.question))
    (g.D.Disk.finds c.args.disk.now) c.args.self.now c.args.out.now
    (map (λ name. name.items) c.args.names.now)

pub names-preserved : goal.names-preserved
names-preserved g c =
    let ns = c.args.names.now in
    let finds = g.D.Disk.finds c.args.disk.now in
    let all = answering (id_json c.args.id) (asked_of c.args.question) in
    let told = c.refresh.ensures in
    let left = map (λ name. name.items) (drop (c.names.name-index + 1) ns) in
    let so_far = subst (DoneSo all finds c.args.self.now c.names.self c.args.out.now c.names.out
    (map (λ name. name.items) ns)) (names-drop (λ name. name.items) ns c.names.name-index
    c.name-item.result c.names-test.true c.name-item.is
    ∙ ap (λ name. name ∷ left) (sym c.as_slice.ensures.value)) c.names.invariant in
    done-more (λ (n : List ℕ) ns. n ∷ ns) refreshed all
    (name-first (id_json c.args.id) (asked_of c.args.question)) finds c.args.self.now c.names.self
    c.refresh.new.self c.args.out.now c.names.out c.refresh.new.out (map (λ name. name.items) ns)
    left c.as_slice.result.now told.0 told.1 told.2 so_far c.refresh.result _ c.in_ok-refresh.was
    told.3

pub returns-in_err-refresh : goal.returns-in_err-refresh
returns-in_err-refresh g c =
    let ns = c.args.names.now in
    let finds = g.D.Disk.finds c.args.disk.now in
    let all = answering (id_json c.args.id) (asked_of c.args.question) in
    let told = c.refresh.ensures in
    let left = map (λ name. name.items) (drop (c.names.name-index + 1) ns) in
    let so_far = subst (DoneSo all finds c.args.self.now c.names.self c.args.out.now c.names.out
    (map (λ name. name.items) ns)) (names-drop (λ name. name.items) ns c.names.name-index
    c.name-item.result c.names-test.true c.name-item.is
    ∙ ap (λ name. name ∷ left) (sym c.as_slice.ensures.value)) c.names.invariant in
    let err : c.from_residual.result ≡ Err c.in_err-refresh.field-0.0 = search rules in
    done-fails (λ (n : List ℕ) ns. n ∷ ns) refreshed all
    (name-first (id_json c.args.id) (asked_of c.args.question)) finds c.args.self.now c.names.self
    c.refresh.new.self c.args.out.now c.names.out c.refresh.new.out (map (λ name. name.items) ns)
    left c.as_slice.result.now told.0 told.1 told.2 so_far c.refresh.result c.from_residual.result
    c.in_err-refresh.field-0.0 c.in_err-refresh.was err told.3

pub returns : goal.returns
returns g c =
    let ns = c.args.names.now in
    let finds = g.D.Disk.finds c.args.disk.now in
    let o = c.answer.ensures.put.0 in
    let id = id_json c.args.id in
    let asked = asked_of c.args.question in
    done-ends (answering id asked) finds c.args.self.now c.names.self c.answer.new.self
    c.args.out.now c.names.out c.answer.new.out (map (λ name. name.items) ns)
    (map (λ name. name.items) (drop c.names.name-index ns)) [] o c.answer.result
    (names-end (λ name. name.items) ns c.names.name-index c.names-test.false) c.names.invariant
    (by-reply finds (answering id asked o c.names.self []) c.names.self c.answer.new.self
    (asked_reply o c.names.self id (Ok asked)) c.names.out c.answer.new.out c.answer.result
    (no-name id asked o c.names.self) c.answer.ensures.same c.answer.ensures.put.1)
