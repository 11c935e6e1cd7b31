-- The marks that are walked beside the lines of a text mark the lines of their numbers.
use Rattle.std.proofs.Common.{◌≡◌, ◌∙◌, sym, ap, refl, subst, ℕ, suc, ◌+◌, ◌<◌, ◌≤◌, Bool, false}
use Rattle.std.proofs.Common.{◌||◌, ◌==◌, List, [], ◌∷◌, ◌++◌, length, arith, nat_lt, nat_cmp, Less}
use Rattle.std.proofs.Common.{⊎_elim}
use Rattle.std.specs.List.{list_any, flat_map}
use Rattle.std.specs.List.Sorted.{IsStrictlySortedBy}
use Rattle.std.proofs.lemmas.Bool.{cases_Bool, cases_eq, cond-true, cond-false, eq-eqb, ne_eqb}
use Rattle.std.proofs.lemmas.Bool.{ltb-true}
use Rattle.bstr.specs.Text.{lines_of}
use Rattle.cb_scan.proofs.LineTable.{lines-few, lines-whole}
use Rattle.cb_desk.specs.Replacement.{marked_from}
use Rattle.cb_desk.specs.steps.MarkedLines.{Rises, leads, without_first}

rises-from : (j k : ℕ) (ns : List ℕ) → j ≤ k → Rises k ns → Rises j ns
unfolding Rises
rises-from j k [] le up = tt
rises-from j k (n ∷ ns) le up = (omega (arith, up.0), up.1)

below-from : (x y : ℕ) → nat_cmp x y ≡ Less → x < y
below-from x y e =
    ⊎_elim (λ t. ltb-true x y t) (λ f. absurd (grind (arith, e, f))) (cases_Bool (nat_lt x y))

-- numbers that ascend rise from the first on
rises-sorted : (n : ℕ) (ns : List ℕ) → IsStrictlySortedBy nat_cmp (n ∷ ns) → Rises n (n ∷ ns)
unfolding Rises IsStrictlySortedBy
rises-sorted n [] up = (omega arith, tt)
rises-sorted n (m ∷ ns) up =
    let more = rises-sorted m ns up.1 in
    (omega arith, (let below = below-from n m up.0.0 in omega arith, more.1))

pub rises-ascending : (ns : List ℕ) → IsStrictlySortedBy nat_cmp ns → Rises 0 ns
unfolding Rises
rises-ascending [] up = tt
rises-ascending (n ∷ ns) up = rises-from 0 n (n ∷ ns) (omega arith) (rises-sorted n ns up)

-- the numbers after a line rise from the next one on
pub rises-next : (k : ℕ) (ns : List ℕ) → Rises k ns → Rises (k + 1) (without_first k ns)
unfolding Rises
rises-next k [] up = tt
rises-next k (n ∷ ns) up = ⊎_elim
    (λ same. subst (Rises (k + 1)) (sym (cond-true (n == k) ns (n ∷ ns) (eq-eqb n k same)))
    (rises-from (k + 1) (n + 1) ns (omega arith) up.1))
    (λ other. subst (Rises (k + 1)) (sym (cond-false (n == k) ns (n ∷ ns) (ne_eqb n k other)))
    (let low = up.0 in omega arith, up.1))
    (cases_eq n k)

-- a number below all of them is not among them
none-below : (k first : ℕ) (ns : List ℕ) → k < first → Rises first ns
    → list_any (λ m. m == k) ns ≡ false
unfolding Rises
none-below k first [] low up = refl
none-below k first (n ∷ ns) low up =
    let above = up.0 in
    ap (λ b. b || list_any (λ m. m == k) ns) (ne_eqb n k (λ same. absurd (omega arith)))
    ∙ none-below k (n + 1) ns (omega arith) up.1

any-leads : (k : ℕ) (ns : List ℕ) → Rises k ns → list_any (λ m. m == k) ns ≡ leads k ns
unfolding Rises
any-leads k [] up = refl
any-leads k (n ∷ ns) up = ⊎_elim
    (λ same. let e = eq-eqb n k same in rw e refl)
    (λ other. let e = ne_eqb n k other in let above = up.0 in
    rw e (none-below k (n + 1) ns (omega arith) up.1))
    (cases_eq n k)

-- a line that was passed marks none after it
any-passed : (k n : ℕ) (ns : List ℕ) → k < n
    → list_any (λ m. m == n) (without_first k ns) ≡ list_any (λ m. m == n) ns
any-passed k n [] low = refl
any-passed k n (m ∷ ns) low = ⊎_elim
    (λ same. ap (list_any (λ i. i == n)) (cond-true (m == k) ns (m ∷ ns) (eq-eqb m k same))
    ∙ sym (ap (λ b. b || list_any (λ i. i == n) ns) (ne_eqb m n (λ e. absurd (omega arith)))))
    (λ other. ap (list_any (λ i. i == n)) (cond-false (m == k) ns (m ∷ ns) (ne_eqb m k other)))
    (cases_eq m k)

pub marked-passed : (k first : ℕ) (ns : List ℕ) (ls : List (List ℕ)) → k < first
    → marked_from (without_first k ns) first ls ≡ marked_from ns first ls
marked-passed k first ns [] low = refl
marked-passed k first ns (l ∷ ls) low =
    (λ i. (l, any-passed k first ns low i) ∷ marked-passed k (first + 1) ns ls (omega arith) i)

-- the next line, and those after it
pub marked-next : (k : ℕ) (ns : List ℕ) (l : List ℕ) (ls : List (List ℕ)) → Rises k ns
    → marked_from ns k (l ∷ ls) ≡ (l, leads k ns) ∷ marked_from (without_first k ns) (k + 1) ls
marked-next k ns l ls up =
    ap (λ b. (l, b) ∷ marked_from ns (k + 1) ls) (any-leads k ns up)
    ∙ ap (λ ms. (l, leads k ns) ∷ ms) (sym (marked-passed k (k + 1) ns ls (omega arith)))

pub length-marked : (ns : List ℕ) (first : ℕ) (ls : List (List ℕ))
    → length (marked_from ns first ls) ≡ length ls
length-marked ns first [] = refl
length-marked ns first (l ∷ ls) = ap suc (length-marked ns (first + 1) ls)

-- the bytes of lines, marked or not
abbrev pub first-part : List (List ℕ × Bool) → List ℕ
first-part ls = flat_map (λ (l : List ℕ × Bool). l.0) ls

bytes-marked : (ns : List ℕ) (first : ℕ) (ls : List (List ℕ))
    → first-part (marked_from ns first ls) ≡ flat_map (λ l. l) ls
bytes-marked ns first [] = refl
bytes-marked ns first (l ∷ ls) = ap (λ bs. l ++ bs) (bytes-marked ns (first + 1) ls)

pub few-marked : (ns : List ℕ) (text : List ℕ)
    → length (marked_from ns 1 (lines_of text)) ≤ length text
few-marked ns text = omega (arith, length-marked ns 1 (lines_of text), lines-few text)

-- the bytes of all lines are those of the text
pub bytes-of : (ns : List ℕ) (text : List ℕ) → first-part (marked_from ns 1 (lines_of text)) ≡ text
bytes-of ns text = bytes-marked ns 1 (lines_of text) ∙ lines-whole text
