use Rattle.std.proofs.Common.{◌≡◌, ◌≤◌, ◌∙◌, ◌-◌, ◌∷◌, [], List, ap, drop, get_or, length, map}
use Rattle.std.proofs.Common.{refl, sym, take, ℕ}
use Rattle.std.proofs.lemmas.Bool.{cond-false, ne_eqb}
use Rattle.std.proofs.lemmas.List.{length-map}
use Rattle.cb_wire.specs.Values.{value_text}
use Rattle.cb_lsp.specs.Outgoing.{Called, called_calls, cut_called, cut_calls}
use Rattle.cb_lsp.specs.declared.outgoing.CalledRow.{CalledRow}
use Rattle.cb_lsp.specs.steps.Located.{Locating}
use Rattle.cb_lsp.specs.steps.Outgoing.{called_in, called_rows, callee_in}
use Rattle.cb_lsp.proofs.Outgoings.{front}
use Rattle.cb_lsp.proofs.outgoing.OutgoingElements.next.Goals as goal

-- the texts of what is called, of which the first is written
text_of : Locating → Called → List ℕ
text_of l called = value_text (called_calls l.client l.files called)

texts : Locating → ℕ → List CalledRow → List (List ℕ)
texts l n rows = map (text_of l) (cut_calls n (called_rows rows))

none-left : (l : Locating) (n : ℕ) (rows : List CalledRow) → n ≡ 0 → texts l n rows ≡ []
unfolding texts
none-left l n [] is = refl
none-left l n (r ∷ rs) is = rw is refl

stepped : (old new : Locating) → new ≡ old → (n : ℕ) (rows : List CalledRow) (d cut : CalledRow)
    (text : List ℕ) → 1 ≤ length rows → (n ≡ 0 → ⊥)
    → called_in cut ≡ cut_called n (called_in (get_or rows 0 d))
    → text ≡ text_of old (called_in cut)
    → texts old n rows
    ≡ text ∷ texts new (n - length cut.calls.now) (take (length rows - 1) (drop 1 rows))
unfolding texts
stepped old new same n rows d cut text some left cuts is =
    let more = take (length rows - 1) (drop 1 rows) in
    let first = cut_called n (called_in (get_or rows 0 d)) in
    let size : length first.1 ≡ length cut.calls.now =
    ap (λ (c : Called). length c.1) (sym cuts) ∙ length-map cut.calls.now callee_in in
    ap (texts old n) (front rows d some)
    ∙ ap (map (text_of old)) (cond-false _ _ _ (ne_eqb n 0 left))
    ∙ (λ i. text_of old (sym cuts i)
    ∷ map (text_of (sym same i)) (cut_calls (n - size i) (called_rows more)))
    ∙ ap (λ t. t ∷ texts new (n - length cut.calls.now) more) (sym is)

pub returns-then-self-eq0 : goal.returns-then-self-eq0
unfolding texts text_of
returns-then-self-eq0 c =
    none-left c.args.self.now.places c.args.self.now.left c.args.self.now.rest.now c.if-self-eq0.true

pub returns-in-len1-up : goal.returns-in-len1-up
unfolding texts text_of
returns-in-len1-up c =
    stepped c.args.self.now.places _ c.calls_to.ensures.same c.args.self.now.left
    c.args.self.now.rest.now _ c.cut-cut.result _ c.in-len1-up.len_at_least c.if-self-eq0.false
    c.cut-cut.ensures.called c.calls_to.ensures.calls
