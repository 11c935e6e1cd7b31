-- The texts that changes lead to.
use Rattle.std.proofs.Common.{◌≡◌, ◌∙◌, sym, ap, refl, ℕ, true, List, [], ◌∷◌}
use Rattle.std.proofs.Common.{Option, None, Some}
use Rattle.std.specs.Prelude.{is_some}
use Rattle.cb_wire.specs.declared.units.Encoding.{Encoding}
use Rattle.cb_lsp.specs.Changes.{TextChange, or_else, part, text_by, text_from, text_with, whole}
use Rattle.cb_lsp.specs.Params.{with_change}
use Rattle.cb_lsp.specs.steps.Changed.{text_when}
use Rattle.cb_lsp.specs.Sync.{text_through}

-- ---- one change after another

pub changed-first : (e : Encoding) (before new : Option (List ℕ)) (o : Option TextChange)
    (rest : List TextChange)
    → text_from e before new (with_change o rest)
    ≡ text_from e before (text_when e before new o) rest
unfolding text_from
changed-first e before new None rest = refl
changed-first e before new (Some c) rest = refl

pub changed-last : (e : Encoding) (before new : Option (List ℕ)) (cs : List TextChange)
    → cs ≡ [] → text_from e before new cs ≡ new
unfolding text_from
changed-last e before new cs is = ap (text_from e before new) is

-- a text that is there has a text after a change
text_with-some : (e : Encoding) (c : TextChange) (before : Option (List ℕ)) (text : List ℕ)
    → is_some (text_with e c (or_else (Some text) before)) ≡ true
text_with-some e (whole new) before text = refl
text_with-some e (part r new) before text = refl

-- behind a new text there is always one
pub changed-some : (e : Encoding) (before new : Option (List ℕ)) (cs : List TextChange)
    → is_some new ≡ true → is_some (text_from e before new cs) ≡ true
unfolding text_from
changed-some e before new [] h = h
changed-some e before None (c ∷ cs) h = cc
changed-some e before (Some text) (c ∷ cs) h =
    changed-some e before (text_with e c (or_else (Some text) before)) cs
    (text_with-some e c before text)

-- a change is made
pub step-made : (e : Encoding) (before new made all : Option (List ℕ)) (o : Option TextChange)
    (cs rest : List TextChange) → cs ≡ with_change o rest → made ≡ text_when e before new o
    → text_from e before new cs ≡ all → text_from e before made rest ≡ all
step-made e before new made all o cs rest split makes so =
    ap (λ t. text_from e before t rest) makes ∙ sym (changed-first e before new o rest)
    ∙ ap (text_from e before new) (sym split) ∙ so

-- memory is refused to one
pub step-refused : (e : Encoding) (before new all : Option (List ℕ)) (o : Option TextChange)
    (cs rest : List TextChange) → cs ≡ with_change o rest
    → is_some (text_when e before new o) ≡ true → text_from e before new cs ≡ all
    → is_some all ≡ true
step-refused e before new all o cs rest split some so =
    ap is_some (sym so ∙ ap (text_from e before new) split ∙ changed-first e before new o rest)
    ∙ changed-some e before (text_when e before new o) rest some

-- ---- the text of a server and that of its client

-- where there was a text before, a change leads to one
kept-up : (e : Encoding) (c : TextChange) (before new : Option (List ℕ))
    → or_else (text_with e c (or_else new before)) before ≡ text_with e c (or_else new before)
kept-up e (whole t) before new = refl
kept-up e (part r t) before (Some text) = refl
kept-up e (part r t) (Some text) None = refl
kept-up e (part r t) None None = refl

through : (e : Encoding) (before new : Option (List ℕ)) (cs : List TextChange)
    → or_else (text_from e before new cs) before ≡ text_through e (or_else new before) cs
unfolding text_from text_through
through e before new [] = refl
through e before new (c ∷ cs) =
    through e before (text_with e c (or_else new before)) cs
    ∙ ap (λ o. text_through e o cs) (kept-up e c before new)

-- the changes of a client lead to the text that they lead to here, where its text was the same
pub same-text : (e : Encoding) (before : Option (List ℕ)) (cs : List TextChange)
    → text_through e before cs ≡ or_else (text_by e before cs) before
same-text e before cs = sym (through e before None cs)

-- where there was no text, what changes lead to does not depend on it
pub healed : (e : Encoding) (cs : List TextChange) (before : Option (List ℕ)) (bytes : List ℕ)
    → text_through e None cs ≡ Some bytes → text_through e before cs ≡ Some bytes
unfolding text_through
healed e [] before bytes h = cc
healed e (whole t ∷ cs) before bytes h = h
healed e (part r t ∷ cs) before bytes h = healed e cs (text_with e (part r t) before) bytes h
