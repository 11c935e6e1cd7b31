-- What the writer of a text with its escapes has written, and what it still owes.
use Rattle.std.proofs.Common.{◌≡◌, ℕ, suc, ◌+◌, ◌-◌, ◌<◌, ◌≤◌, true, false, cond, List, [], ◌∷◌}
use Rattle.std.proofs.Common.{◌++◌, length, take, drop, get_or, Result, sym, ap, ◌∙◌, subst}
use Rattle.std.proofs.Common.{append_assoc, append-nil, length-drop, arith}
use Rattle.std.specs.List.{flat_map}
use Rattle.std.proofs.lemmas.Grind.{flat_map-append}
use Rattle.std.proofs.lemmas.List.{take_more, take_all, get_or-drop}
use Rattle.cb_tags.specs.declared.sink.WriteFault.{WriteFault}
use Rattle.cb_tags.specs.Addresses.{is_escaped, escaped, escape}
use Rattle.cb_tags.specs.Writers.{Writer}
use Rattle.cb_tags.specs.Writing.{PutsAll, PutsPrefix, Puts}
use Rattle.cb_tags.proofs.Prefixes.{PutsAll-after, PutsPrefix-more, PutsPrefix-after, Puts-after}
use Rattle.cb_tags.proofs.Prefixes.{flat_map-at}

-- the bytes from one place up to another
abbrev pub piece : ℕ → ℕ → List ℕ → List ℕ
piece start end text = take (end - start) (drop start text)

-- what was written, and then the bytes from start up to i, is the first i bytes with their escapes
abbrev pub Owes : Writer → Writer → List ℕ → ℕ → ℕ → Type 0
Owes a b text start i =
    (w : List ℕ) × PutsAll a b w × (w ++ piece start i text ≡ escape (take i text))

piece-next : (text : List ℕ) (start i d : ℕ) → start ≤ i → i < length text
    → piece start (i + 1) text ≡ piece start i text ++ get_or text i d ∷ []
piece-next text start i d s h =
    let e : i + 1 - start ≡ i - start + 1 = omega arith in
    let at : start + (i - start) ≡ i = omega arith in
    ap (λ n. take n (drop start text)) e
    ∙ take_more (drop start text) (i - start) d (omega (arith, length-drop start text))
    ∙ ap (λ x. piece start i text ++ x ∷ [])
    (get_or-drop start text (i - start) d ∙ ap (λ n. get_or text n d) at)

escape-next : (text : List ℕ) (i d : ℕ) → i < length text
    → escape (take (i + 1) text) ≡ escape (take i text) ++ escaped (get_or text i d)
unfolding escape
escape-next text i d h =
    ap (flat_map escaped) (take_more text i d h)
    ∙ flat_map-append escaped (take i text) (get_or text i d ∷ [])
    ∙ ap (λ t. flat_map escaped (take i text) ++ t) (append-nil (escaped (get_or text i d)))

-- a byte that is not escaped
pub Owes-own : (a b : Writer) (text : List ℕ) (start i d : ℕ) → start ≤ i → i < length text
    → is_escaped (get_or text i d) ≡ false
    → Owes a b text start i → Owes a b text start (i + 1)
Owes-own a b text start i d s h own p =
    let x = get_or text i d in (
      p.0,
      p.1,
      ap (λ t. p.0 ++ t) (piece-next text start i d s h)
          ∙ sym (append_assoc p.0 (piece start i text) (x ∷ []))
          ∙ ap (λ t. t ++ x ∷ []) p.2
          ∙ ap (λ e. escape (take i text) ++ cond e (92 ∷ x ∷ []) (x ∷ [])) (sym own)
          ∙ sym (escape-next text i d h),
    )

-- a byte that is escaped: the bytes before it and a `\` are written
pub Owes-escaped : (a b c : Writer) (text : List ℕ) (start i d : ℕ) → start ≤ i → i < length text
    → is_escaped (get_or text i d) ≡ true
    → Owes a b text start i → PutsAll b c (piece start i text ++ 92 ∷ []) → Owes a c text i (i + 1)
Owes-escaped a b c text start i d s h esc p q =
    let x = get_or text i d in
    let owed = piece start i text ++ 92 ∷ [] in
    let still : i - i ≡ 0 = omega arith in
    let none : piece i i text ≡ [] = ap (λ n. take n (drop i text)) still in (
      p.0 ++ owed,
      PutsAll-after a b c p.0 owed p.1 q,
      ap (λ t. (p.0 ++ owed) ++ t)
          (piece-next text i i d (omega arith) h ∙ ap (λ t. t ++ x ∷ []) none)
          ∙ ap (λ t. t ++ x ∷ [])
          (sym (append_assoc p.0 (piece start i text) (92 ∷ [])) ∙ ap (λ t. t ++ 92 ∷ []) p.2)
          ∙ append_assoc (escape (take i text)) (92 ∷ []) (x ∷ [])
          ∙ ap (λ e. escape (take i text) ++ cond e (92 ∷ x ∷ []) (x ∷ [])) (sym esc)
          ∙ sym (escape-next text i d h),
    )

-- the fault of a writer that was given the bytes before an escaped byte and a `\`
pub Owes-stopped : (a b c : Writer) (text : List ℕ) (start i d : ℕ) → i < length text
    → is_escaped (get_or text i d) ≡ true
    → Owes a b text start i → PutsPrefix b c (piece start i text ++ 92 ∷ [])
    → PutsPrefix a c (escape text)
unfolding escape
Owes-stopped a b c text start i d h esc p q =
    let x = get_or text i d in
    let owed = piece start i text ++ 92 ∷ [] in
    let rest = flat_map escaped (drop (suc i) text) in
    let whole : flat_map escaped text ≡ (p.0 ++ owed) ++ x ∷ rest =
    flat_map-at escaped text i d h
    ∙ ap (λ e. flat_map escaped (take i text) ++ (cond e (92 ∷ x ∷ []) (x ∷ []) ++ rest)) esc
    ∙ ap (λ t. t ++ 92 ∷ x ∷ rest) (sym p.2)
    ∙ sym (append_assoc (p.0 ++ piece start i text) (92 ∷ []) (x ∷ rest))
    ∙ ap (λ t. t ++ x ∷ rest) (append_assoc p.0 (piece start i text) (92 ∷ [])) in
    subst (λ t. PutsPrefix a c t) (sym whole)
    (PutsPrefix-more a c (p.0 ++ owed) (x ∷ rest) (PutsPrefix-after a b c p.0 owed p.1 q))

-- the rest is written
pub Owes-done : (old mid new : Writer) (r : Result (Unit {0}) WriteFault)
    (text : List ℕ) (start : ℕ)
    → Owes old mid text start (length text) → Puts mid new r (piece start (length text) text)
    → Puts old new r (escape text)
Owes-done old mid new r text start p q =
    subst (λ t. Puts old new r t) (p.2 ∙ ap escape (take_all (length text) text (omega arith)))
    (Puts-after old mid new r p.0 (piece start (length text) text) p.1 q)
