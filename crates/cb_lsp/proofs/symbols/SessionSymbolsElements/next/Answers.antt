use Rattle.std.proofs.Common.{◌≡◌, ◌≤◌, ◌∙◌, ◌-◌, List, [], ◌∷◌, ◌++◌, ℕ, ap, drop, get_or, length}
use Rattle.std.proofs.Common.{map, sym, take, arith}
use Rattle.std.proofs.Math.Seq.{take-length}
use Rattle.cb_tags.specs.TagLines.{Tag, tag_of}
use Rattle.cb_index.specs.steps.Left.{tag_of_spot}
use Rattle.cb_wire.specs.Values.{value_text}
use Rattle.cb_lsp.specs.Symbols.{session_symbol}
use Rattle.cb_lsp.specs.steps.Located.{Locating}
use Rattle.cb_lsp.proofs.symbols.SessionSymbolsElements.next.Goals as goal

-- the texts of some definitions, of which the first is written
texts : Locating → List Tag → List (List ℕ)
texts l ts = map (λ t. value_text (session_symbol l.client l.files t)) ts

stepped : (old new : Locating) → new ≡ old → (all rest : List Tag) (t : Tag) (first : List ℕ)
    → first ≡ value_text (session_symbol old.client old.files t) → all ≡ t ∷ rest
    → texts old all ≡ first ∷ texts new rest
unfolding texts
stepped old new same all rest t first is all_is =
    ap (texts old) all_is ∙ (λ i. sym is i ∷ texts (sym same i) rest)

-- a list is its first element and the others
front : {A : Type 0} (xs : List A) (x : A) → 1 ≤ length xs → x ≡ get_or xs 0 x
    → xs ≡ x ∷ take (length xs - 1) (drop 1 xs)
front [] x some is = grind (arith, some)
front (y ∷ ys) x some is = (λ i. sym is i ∷ sym (take-length ys) i)
    ∙ ap (λ n. x ∷ take n ys) (omega arith)

-- where none has the name, the first that was kept is the first
split : (named kept rest : List Tag) (t : Tag) (none : List Tag) → named ≡ [] → none ≡ []
    → kept ≡ t ∷ rest → named ++ kept ≡ t ∷ (none ++ rest)
split named kept rest t none is gone kept_is =
    (λ i. is i ++ kept_is i) ∙ (λ i. t ∷ (sym gone i ++ rest))

pub returns-in-len1-up : goal.returns-in-len1-up
unfolding texts
returns-in-len1-up c =
    let s = c.args.self.now in
    let call = c.session_symbol-in-len1-up in
    stepped s.places call.new.places call.ensures.same
    (s.named ++ map tag_of_spot s.kept.now) _ (tag_of c.row.result) _ call.ensures.symbol
    (split s.named (map tag_of_spot s.kept.now) _ (tag_of c.row.result) c.next.new.self
    c.in-None.ensures.steps.0 c.in-None.ensures.steps.1
    (ap (map tag_of_spot)
    (front s.kept.now c.spot-item.result c.in-len1-up.len_at_least c.spot-item.is)
    ∙ ap (λ t. t ∷ map tag_of_spot
    (take (length s.kept.now - 1) (drop 1 s.kept.now))) (sym c.row.ensures)))
