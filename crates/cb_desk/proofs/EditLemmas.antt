-- Lemmas on edits of a list of places.
use Rattle.std.proofs.Common.{◌≡◌, ◌∙◌, sym, ap, refl, ℕ, suc, ◌+◌, Bool, true, false, List, []}
use Rattle.std.proofs.Common.{◌∷◌, ◌++◌, ◌≤◌, length, drop, arith, append-nil, append_assoc}
use Rattle.cb_desk.specs.declared.edits.Edit.{Edit}
use Rattle.cb_desk.specs.declared.places.FileLine.{FileLine}
use Rattle.cb_desk.specs.steps.Edits.{Begins, IsEachDifference, edited_each, turned_each}

-- edits after so many more places that stay
abbrev pub raised : ℕ → List Edit → List Edit
raised n [] = []
raised n (e ∷ es) = record e { kept = n + e.kept } ∷ es

pub raised_none : (es : List Edit) → raised 0 es ≡ es
raised_none [] = refl
raised_none (e ∷ es) =
    let z : 0 + e.kept ≡ e.kept = omega arith in ap (λ k. record e { kept = k } ∷ es) z

pub raised_more : (n : ℕ) (es : List Edit) → raised n (raised 1 es) ≡ raised (n + 1) es
raised_more n [] = refl
raised_more n (e ∷ es) =
    let m : n + (1 + e.kept) ≡ n + 1 + e.kept = omega arith in
    ap (λ k. record e { kept = k } ∷ es) m

-- a place that both lists begin with stays
pub edited_after : (p : FileLine) (es : List Edit) (ps : List FileLine)
    → edited_each (raised 1 es) (p ∷ ps) ≡ p ∷ edited_each es ps
edited_after p [] ps = refl
edited_after p (e ∷ es) ps =
    let s : 1 + e.kept ≡ suc e.kept = omega arith in
    ap (λ k. edited_each (record e { kept = k } ∷ es) (p ∷ ps)) s

turned_raised : (es : List Edit) → turned_each (raised 1 es) ≡ raised 1 (turned_each es)
turned_raised [] = refl
turned_raised (e ∷ es) = refl

pub both_begin : (p : FileLine) (es : List Edit) (old new : List FileLine)
    → IsEachDifference es old new → IsEachDifference (raised 1 es) (p ∷ old) (p ∷ new)
both_begin p es old new d = record {
  on = edited_after p es old ∙ ap (λ ps. p ∷ ps) d.on;
  back =
      ap (λ ts. edited_each ts (p ∷ new)) (turned_raised es) ∙ edited_after p (turned_each es) new
      ∙ ap (λ ps. p ∷ ps) d.back;
}

-- a place that is taken out, or put in, at the front
pub taken_first : (p : FileLine) (es : List Edit) (old new : List FileLine)
    → IsEachDifference es old new
    → IsEachDifference (record { kept = 0; place = p; is_put = false } ∷ es) (p ∷ old) new
taken_first p es old new d = record { on = d.on; back = ap (λ ps. p ∷ ps) d.back }

pub put_first : (p : FileLine) (es : List Edit) (old new : List FileLine)
    → IsEachDifference es old new
    → IsEachDifference (record { kept = 0; place = p; is_put = true } ∷ es) old (p ∷ new)
put_first p es old new d = record { on = ap (λ ps. p ∷ ps) d.on; back = d.back }

-- ---- the edits of a difference, step by step

-- what follows is a difference of what is left
abbrev pub Goes : (made : List Edit) (kept : ℕ) (olds news old new : List FileLine) → Type 0
Goes made kept olds news old new =
    (es : List Edit) → IsEachDifference es olds news
    → IsEachDifference (made ++ raised kept es) old new

pub goes_first : (old new : List FileLine) → Goes [] 0 old new old new
goes_first old new es d = rw (raised_none es) d

pub goes_kept : (made : List Edit) (kept : ℕ) (p : FileLine)
    (olds news old new : List FileLine)
    → Begins p olds → Begins p news → Goes made kept olds news old new
    → Goes made (kept + 1) (drop 1 olds) (drop 1 news) old new
goes_kept made kept p olds news old new o n goes es d =
    let later : IsEachDifference (raised 1 es) olds news =
    rw (o, n) (both_begin p es (drop 1 olds) (drop 1 news) d) in
    rw (raised_more kept es) at (goes (raised 1 es) later)

-- one edit more
one_more : (made : List Edit) (kept : ℕ) (p : FileLine) (b : Bool) (es : List Edit)
    → made ++ raised kept (record { kept = 0; place = p; is_put = b } ∷ es)
    ≡ (made ++ record { kept = kept; place = p; is_put = b } ∷ []) ++ raised 0 es
one_more made kept p b es =
    let z : kept + 0 ≡ kept = omega arith in
    ap (λ k. made ++ record { kept = k; place = p; is_put = b } ∷ es) z
    ∙ ap (λ xs. made ++ record { kept = kept; place = p; is_put = b } ∷ xs) (sym (raised_none es))
    ∙ sym (append_assoc made (record { kept = kept; place = p; is_put = b } ∷ []) (raised 0 es))

pub goes_taken : (made : List Edit) (kept : ℕ) (p : FileLine)
    (olds news old new : List FileLine)
    → Begins p olds → Goes made kept olds news old new
    → Goes (made ++ record { kept = kept; place = p; is_put = false } ∷ []) 0
    (drop 1 olds) news old new
goes_taken made kept p olds news old new o goes es d =
    let later : IsEachDifference (record { kept = 0; place = p; is_put = false } ∷ es) olds news =
    rw o (taken_first p es (drop 1 olds) news d) in
    rw (one_more made kept p false es) at (goes _ later)

pub goes_put : (made : List Edit) (kept : ℕ) (p : FileLine)
    (olds news old new : List FileLine)
    → Begins p news → Goes made kept olds news old new
    → Goes (made ++ record { kept = kept; place = p; is_put = true } ∷ []) 0 olds
    (drop 1 news) old new
goes_put made kept p olds news old new n goes es d =
    let later : IsEachDifference (record { kept = 0; place = p; is_put = true } ∷ es) olds news =
    rw n (put_first p es olds (drop 1 news) d) in
    rw (one_more made kept p true es) at (goes _ later)

pub goes_last : (made : List Edit) (kept : ℕ) (olds news old new : List FileLine)
    → IsEachDifference [] olds news → Goes made kept olds news old new
    → IsEachDifference made old new
goes_last made kept olds news old new d goes = rw (append-nil made) at (goes [] d)

pub shorter : (p : FileLine) (kept most : ℕ) (ps : List FileLine) → Begins p ps
    → kept + length ps ≤ most → kept + 1 + length (drop 1 ps) ≤ most
shorter p kept most [] b h = cc
shorter p kept most (q ∷ ps) b h = omega (arith, h)
