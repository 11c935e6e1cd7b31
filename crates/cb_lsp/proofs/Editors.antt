-- Changes of the bytes of a text are those of its units.
use Rattle.std.proofs.Common.{◌≡◌, ◌∙◌, sym, ap, ap₂, refl, subst, ℕ, ◌≤◌, max, List, [], ◌∷◌}
use Rattle.std.proofs.Common.{◌++◌, length, drop, flat_map, Option, None, Some, arith}
use Rattle.std.proofs.Common.{append_assoc}
use Rattle.std.proofs.Common.{length-append, take_at, drop_at, slice_index}
use Rattle.std.specs.List.{AllByRecursion}
use Rattle.std.specs.Option.{option_map}
use Rattle.std.proofs.lemmas.Grind.{flat_map-append}
use Rattle.cb_scan.proofs.Rising.{all-prefix}
use Rattle.cb_scan.proofs.WithinLemmas.{all-append}
use Rattle.cb_wire.specs.declared.position.Range.{Range}
use Rattle.cb_wire.specs.declared.units.Encoding.{Encoding}
use Rattle.cb_wire.specs.Offsets.{IsText, offset, units}
use Rattle.cb_wire.specs.Positions.{place}
use Rattle.cb_wire.proofs.Cells.{AreCodes, IsCode, bytes_all, bytes_for, units_all, units_for}
use Rattle.cb_wire.proofs.Cells.{units-of}
use Rattle.cb_wire.proofs.Offsets.{Paired, paired-join, splits, text-of}
use Rattle.cb_lsp.specs.Changes.{TextChange, part, replaced, splice, text_with, whole}
use Rattle.cb_lsp.specs.Editors.{BringsText, EditorsCountUnits, put_units, units_through}
use Rattle.cb_lsp.specs.Editors.{units_with}
use Rattle.cb_lsp.specs.Sync.{text_through}

-- ---- a list with another one in the place of a part

module _ (xs zs new : List ℕ) where
  replaced-between : (ys : List ℕ)
      → replaced (length xs) (max (length xs) (length (xs ++ ys))) new (xs ++ (ys ++ zs))
      ≡ xs ++ (new ++ zs)
  replaced-between ys =
      let long = length-append xs ys in
      let top : max (length xs) (length (xs ++ ys)) ≡ length (xs ++ ys) = omega (arith, long) in
      ap (λ n. replaced (length xs) n new (xs ++ (ys ++ zs))) top
      ∙ ap₂ (λ a b. a ++ (new ++ b)) (take_at xs (ys ++ zs) (length xs) refl)
      (ap (drop (length (xs ++ ys))) (sym (append_assoc xs ys zs))
      ∙ drop_at (xs ++ ys) zs (length (xs ++ ys)) refl)

  replaced-at : (n : ℕ) → n ≤ length xs
      → replaced (length xs) (max (length xs) n) new (xs ++ zs) ≡ xs ++ (new ++ zs)
  replaced-at n few =
      let top : max (length xs) n ≡ length xs = omega (arith, few) in
      ap (λ m. replaced (length xs) m new (xs ++ zs)) top
      ∙ ap₂ (λ a b. a ++ (new ++ b)) (take_at xs zs (length xs) refl)
      (drop_at xs zs (length xs) refl)

-- the same of what characters give
module _ (f : ℕ → List ℕ) (cs front back ns : List ℕ) (s t : ℕ) (text new : List ℕ)
    (text_is : text ≡ flat_map f cs) (s_is : s ≡ length (flat_map f front))
    (new_is : new ≡ flat_map f ns)
  where
    joined : flat_map f front ++ (flat_map f ns ++ flat_map f back)
        ≡ flat_map f (front ++ (ns ++ back))
    joined =
        sym (flat_map-append f front (ns ++ back)
        ∙ ap (λ l. flat_map f front ++ l) (flat_map-append f ns back))

    made-between : (m : List ℕ) → cs ≡ front ++ (m ++ back)
        → t ≡ length (flat_map f (front ++ m))
        → replaced s (max s t) new text ≡ flat_map f (front ++ (ns ++ back))
    made-between m is t_is =
        let split = text_is ∙ ap (flat_map f) is ∙ flat_map-append f front (m ++ back)
        ∙ ap (λ l. flat_map f front ++ l) (flat_map-append f m back) in
        let end = t_is ∙ ap length (flat_map-append f front m) in
        (λ i. replaced (s_is i) (max (s_is i) (end i)) (new_is i) (split i))
        ∙ replaced-between (flat_map f front) (flat_map f back) (flat_map f ns) (flat_map f m)
        ∙ joined

    made-at : cs ≡ front ++ back → t ≤ length (flat_map f front)
        → replaced s (max s t) new text ≡ flat_map f (front ++ (ns ++ back))
    made-at is few =
        let split = text_is ∙ ap (flat_map f) is ∙ flat_map-append f front back in
        (λ i. replaced (s_is i) (max (s_is i) t) (new_is i) (split i))
        ∙ replaced-at (flat_map f front) (flat_map f back) (flat_map f ns) t few ∙ joined

-- ---- two fronts of one list

data Order (a b c d : List ℕ) : Type 0 where
  behind : (m : List ℕ) → c ≡ a ++ m → b ≡ m ++ d → Order a b c d
  ahead : (m : List ℕ) → a ≡ c ++ m → Order a b c d

longer : (x y : ℕ) (a b c d : List ℕ) → x ≡ y → Order a b c d → Order (x ∷ a) b (y ∷ c) d
longer x y a b c d is (behind m p q) = behind m (ap₂ (λ z l. z ∷ l) (sym is) p) q
longer x y a b c d is (ahead m p) = ahead m (ap₂ (λ z l. z ∷ l) is p)

order : (a b c d : List ℕ) → a ++ b ≡ c ++ d → Order a b c d
order [] b c d is = behind c refl is
order (x ∷ a) b [] d is = ahead (x ∷ a) refl
order (x ∷ a) b (y ∷ c) d is =
    longer x y a b c d (ap (λ l. slice_index l 0) is) (order a b c d (ap (drop 1) is))

-- a front of a front gives no more
few-of : (f : ℕ → List ℕ) (front m all : List ℕ) → all ≡ front ++ m
    → length (flat_map f front) ≤ length (flat_map f all)
few-of f front m all is =
    let long = ap length (ap (flat_map f) is ∙ flat_map-append f front m)
    ∙ length-append (flat_map f front) (flat_map f m) in
    omega (arith, long)

-- ---- a text and what an editor has of it

pub record Same (e : Encoding) (text us : List ℕ) : Type 0 where
  cs : List ℕ
  codes : AreCodes e cs
  paired : Paired cs
  bytes : text ≡ bytes_all e cs
  counted : us ≡ units_all e cs

pub same : (e : Encoding) (text : List ℕ) → IsText text → Same e text (units e text)
same e text is =
    let t = text-of e text is in
    record {
      cs = t.cs;
      codes = t.reads.codes;
      paired = t.paired;
      bytes = t.reads.bytes;
      counted = ap (units e) t.reads.bytes ∙ units-of e t.cs t.reads.codes;
    }

same-units : (e : Encoding) (text us : List ℕ) → Same e text us → units e text ≡ us
same-units e text us s = ap (units e) s.bytes ∙ units-of e s.cs s.codes ∙ sym s.counted

same-spliced : (e : Encoding) (text us new : List ℕ) (r : Range) → Same e text us
    → Same e new (units e new) → Same e (splice e text r new) (put_units us r (units e new))
same-spliced e text us new r s n =
    let a = splits e r.start.line r.start.character s.cs s.codes s.paired in
    let b = splits e r.end.line r.end.character s.cs s.codes s.paired in
    let place_start = ap (λ l. place e l r.start) s.bytes ∙ a.place_is in
    let place_end = ap (λ l. place e l r.end) s.bytes ∙ b.place_is in
    let offset_start = ap (λ l. offset l r.start) s.counted ∙ a.offset_is in
    let offset_end = ap (λ l. offset l r.end) s.counted ∙ b.offset_is in
    let codes_a = all-prefix (IsCode e) a.front a.back (subst (AreCodes e) a.whole s.codes) in
    let codes_b = all-prefix (IsCode e) b.front b.back (subst (AreCodes e) b.whole s.codes) in
    elim (order a.front a.back b.front b.back (sym a.whole ∙ b.whole))
    as (λ _. Same e (splice e text r new) (put_units us r (units e new))) [
      | behind m p q ↦ let is = a.whole ∙ ap (λ l. a.front ++ l) q in
          record {
            cs = a.front ++ (n.cs ++ b.back);
            codes = all-append (IsCode e) a.front (n.cs ++ b.back) codes_a.0
                (all-append (IsCode e) n.cs b.back n.codes codes_b.1);
            paired = paired-join a.front (n.cs ++ b.back) a.front_paired
                (paired-join n.cs b.back n.paired b.back_paired);
            bytes = made-between (bytes_for e) s.cs a.front b.back n.cs (place e text r.start)
                (place e text r.end) text new s.bytes place_start n.bytes m is
                (place_end ∙ ap (λ l. length (bytes_all e l)) p);
            counted = made-between (units_for e) s.cs a.front b.back n.cs (offset us r.start)
                (offset us r.end) us (units e new) s.counted offset_start n.counted m is
                (offset_end ∙ ap (λ l. length (units_all e l)) p);
          }
      | ahead m p ↦ record {
        cs = a.front ++ (n.cs ++ a.back);
        codes = all-append (IsCode e) a.front (n.cs ++ a.back) codes_a.0
            (all-append (IsCode e) n.cs a.back n.codes codes_a.1);
        paired = paired-join a.front (n.cs ++ a.back) a.front_paired
            (paired-join n.cs a.back n.paired a.back_paired);
        bytes = made-at (bytes_for e) s.cs a.front a.back n.cs (place e text r.start)
            (place e text r.end) text new s.bytes place_start n.bytes a.whole
            (omega (arith, place_end, few-of (bytes_for e) b.front m a.front p));
        counted = made-at (units_for e) s.cs a.front a.back n.cs (offset us r.start)
            (offset us r.end) us (units e new) s.counted offset_start n.counted a.whole
            (omega (arith, offset_end, few-of (units_for e) b.front m a.front p));
      }
    ]

-- ---- changes, one after another

-- of one document, where it is open
abbrev pub AreSame : Encoding → Option (List ℕ) → Option (List ℕ) → Type 0
AreSame e None None = Unit {0}
AreSame e None (Some us) = ⊥
AreSame e (Some text) None = ⊥
AreSame e (Some text) (Some us) = Same e text us

brought : (e : Encoding) (c : TextChange) (a b : Option (List ℕ)) → AreSame e a b → BringsText c
    → AreSame e (text_with e c a) (units_with e b c)
brought e (whole new) a b h is = same e new is
brought e (part r new) None None h is = tt
brought e (part r new) None (Some us) h is = absurd h
brought e (part r new) (Some text) None h is = absurd h
brought e (part r new) (Some text) (Some us) h is =
    same-spliced e text us new r h (same e new is)

pub through-same : (e : Encoding) (cs : List TextChange) (a b : Option (List ℕ)) → AreSame e a b
    → AllByRecursion BringsText cs → AreSame e (text_through e a cs) (units_through e b cs)
unfolding text_through
through-same e [] a b h all = h
through-same e (c ∷ cs) a b h all =
    through-same e cs (text_with e c a) (units_with e b c) (brought e c a b h all.0) all.1

-- the units of what is the same
pub held-units : (e : Encoding) (a b : Option (List ℕ)) → AreSame e a b
    → option_map (units e) a ≡ b
held-units e None None h = refl
held-units e None (Some us) h = absurd h
held-units e (Some text) None h = absurd h
held-units e (Some text) (Some us) h = ap Some (same-units e text us h)

pub editors_count_units : EditorsCountUnits
editors_count_units e text cs is all =
    held-units e (text_through e (Some text) cs) (units_through e (Some (units e text)) cs)
    (through-same e cs (Some text) (Some (units e text)) (same e text is) all)
