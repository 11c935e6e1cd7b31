-- The entries between two places.
use Rattle.std.proofs.Common.{◌≡◌, ◌∙◌, ◌≤◌, ◌<◌, ◌+◌, ℕ, zero, suc, List, [], ◌∷◌, ◌++◌, refl, sym}
use Rattle.std.proofs.Common.{ap, length, take, drop, drop_of_length-le, get_or, arith, ⊎_elim}
use Rattle.std.proofs.lemmas.Bool.{cases_lt}
use Rattle.std.proofs.lemmas.List.{append-nil, append_assoc, drop-append-le, length-append}
use Rattle.std.proofs.lemmas.List.{length-drop, length-take, length-take-le, take-take}
use Rattle.std.proofs.Math.Nat.{min-le_left, min-le_right}
use Rattle.std.proofs.Math.Seq.{drop-append-add}
use Rattle.std.specs.Prelude.{min}
use Rattle.cb_index.specs.Blocks.{before, joined}
use Rattle.cb_index.proofs.BlockLemmas.{Lists, back_at, front_at, parted_at}

-- a place in an earlier block
before_le : {T : Type 0} (bs : Lists T) (k j m i : ℕ) → k < m → k < length bs → j ≤ length (get_or bs k [])
    → before bs k j ≤ before bs m i
before_le [] k j m i less low within = absurd (omega (arith, low))
before_le (b ∷ bs) k j zero i less low within = absurd (omega (arith, less))
before_le (b ∷ bs) zero j (suc m) i less low within =
    let size = length-append b (joined (take m bs)) in omega (arith, size, within)
before_le (b ∷ bs) (suc k) j (suc m) i less low within =
    let one = length-append b (joined (take k bs)) in
    let other = length-append b (joined (take m bs)) in
    let later = before_le bs k j m i (omega (arith, less)) (omega (arith, low)) within in
    omega (arith, one, other, later)

-- what ends before it begins is empty
pub turned_between : {T : Type 0} (bs : Lists T) (k j m i : ℕ) → k < m → k < length bs
    → j ≤ length (get_or bs k [])
    → ◌≡◌ {A = List T} [] (drop (before bs m i) (take (before bs k j) (joined bs)))
turned_between bs k j m i less low within =
    let size = length-take (before bs k j) (joined bs) in
    let front = min-le_left (before bs k j) (length (joined bs)) in
    let upward = before_le bs k j m i less low within in
    sym (drop_of_length-le (take (before bs k j) (joined bs)) (omega (arith, size, front, upward)))

drop_min : {T : Type 0} (f t : ℕ) (es : List T) → drop (min f t) (take t es) ≡ drop f (take t es)
drop_min f t es =
    ⊎_elim
    (λ less. let same : min f t ≡ f = omega (arith, less) in ap (λ n. drop n (take t es)) same)
    (λ more.
    let same : min f t ≡ t = omega (arith, more) in
    let size = length-take t es in
    let front = min-le_left t (length es) in
    ap (λ n. drop n (take t es)) same ∙ drop_of_length-le (take t es) (omega (arith, size, front))
    ∙ sym (drop_of_length-le (take t es) (omega (arith, size, front, more))))
    (cases_lt f t)

-- both places in one block
pub inside_between : {T : Type 0} (bs : Lists T) (k f t : ℕ) → k < length bs → t ≤ length (get_or bs k [])
    → drop (min f t) (take t (get_or bs k [])) ++ (joined [] ++ [])
    ≡ drop (before bs k f) (take (before bs k t) (joined bs))
inside_between bs k f t low within =
    append-nil (drop (min f t) (take t (get_or bs k []))) ∙ drop_min f t (get_or bs k [])
    ∙ sym (drop-append-add (joined (take k bs)) (take t (get_or bs k [])) f)
    ∙ ap (drop (before bs k f)) (sym (front_at bs k t low within))

get_or_taken : {T : Type 0} (bs : Lists T) (k m : ℕ) → k < m → get_or (take m bs) k [] ≡ get_or bs k []
get_or_taken bs k zero less = absurd (omega (arith, less))
get_or_taken [] k (suc m) less = refl
get_or_taken (b ∷ bs) zero (suc m) less = refl
get_or_taken (b ∷ bs) (suc k) (suc m) less = get_or_taken bs k m (omega (arith, less))

-- places in two blocks
pub across_between : {T : Type 0} (bs : Lists T) (k f m t : ℕ) → k < m → m < length bs
    → f ≤ length (get_or bs k []) → t ≤ length (get_or bs m [])
    → drop f (get_or bs k []) ++ (joined (drop (k + 1) (take m bs)) ++ take t (get_or bs m []))
    ≡ drop (before bs k f) (take (before bs m t) (joined bs))
across_between bs k f m t less low inner within =
    let middle = joined (drop (suc k) (take m bs)) in
    let last = take t (get_or bs m []) in
    let front = joined (take k bs) in
    let block = get_or bs k [] in
    let next : k + 1 ≡ suc k = omega arith in
    let size : length (take m bs) ≡ m = length-take-le m bs (omega (arith, low)) in
    let whole : joined (take m bs) ≡ front ++ (block ++ middle) =
    parted_at (take m bs) k (omega (arith, size, less))
    ∙ (λ i.
    joined (take-take k m bs (omega (arith, less)) i) ++ (get_or_taken bs k m less i ++ middle)) in
    ap (λ n. drop f block ++ (joined (drop n (take m bs)) ++ last)) next
    ∙ sym (drop-append-le f block (middle ++ last) inner)
    ∙ sym (drop-append-add front (block ++ (middle ++ last)) f)
    ∙ ap (λ l. drop (before bs k f) (front ++ l)) (sym (append_assoc block middle last))
    ∙ ap (drop (before bs k f)) (sym (append_assoc front (block ++ middle) last))
    ∙ ap (λ l. drop (before bs k f) (l ++ last)) (sym whole)
    ∙ ap (drop (before bs k f)) (sym (front_at bs m t low within))

-- from a place on
pub from_place : {T : Type 0} (bs : Lists T) (k f : ℕ) → k < length bs
    → f ≤ length (get_or bs k [])
    → drop f (get_or bs k []) ++ (joined (drop (k + 1) bs) ++ [])
    ≡ drop (before bs k f) (joined bs)
from_place bs k f low within =
    let next : k + 1 ≡ suc k = omega arith in
    ap (λ l. drop f (get_or bs k []) ++ l) (append-nil (joined (drop (k + 1) bs)))
    ∙ ap (λ n. drop f (get_or bs k []) ++ joined (drop n bs)) next
    ∙ sym (back_at bs k f low within)

pub rest_fits : {T : Type 0} (m : ℕ) (es xs : List T) (most : ℕ) → xs ≡ drop m es
    → length es < most → length xs < most
rest_fits m es xs most is fits =
    let size : length xs ≡ length (drop m es) = ap length is in
    let dropped = length-drop m es in
    omega (arith, size, dropped, fits)

-- no more entries than all
pub between_fits : {T : Type 0} (m n : ℕ) (es xs : List T) (most : ℕ) → xs ≡ drop m (take n es)
    → length es < most → length xs < most
between_fits m n es xs most is fits =
    let size : length xs ≡ length (drop m (take n es)) = ap length is in
    let dropped = length-drop m (take n es) in
    let taken = length-take n es in
    let whole = min-le_right n (length es) in
    omega (arith, size, dropped, taken, whole, fits)
