-- Lists of values, as texts.
use Rattle.std.proofs.Common.{◌≡◌, ◌≤◌, ℕ, zero, suc, List, [], ◌∷◌, ◌++◌, take, map, refl, sym}
use Rattle.std.proofs.Common.{ap, ap₂, ◌∙◌, arith}
use Rattle.std.specs.Prelude.{codes}
use Rattle.json.specs.Print.{escape, escape_byte}
use Rattle.cb_wire.specs.declared.position.Range.{Range}
use Rattle.cb_wire.specs.Lists.{joined, list_text}
use Rattle.cb_wire.specs.Values.{range_tree, value_text}
use Rattle.cb_wire.proofs.Lists.{escape-joined}
use Rattle.cb_wire.proofs.Printed.{value_text-is, value_text-then}
use Rattle.cb_lsp.specs.Hovers.{hover_of, hover_shown}
use Rattle.cb_lsp.specs.declared.hover.TheConstants.{MOST_HOVERS}

pub take-map : {A B : Type 0} (f : A → B) (n : ℕ) (xs : List A)
    → take n (map f xs) ≡ map f (take n xs)
take-map f zero xs = refl
take-map f (suc n) [] = refl
take-map f (suc n) (x ∷ xs) = ap (λ ys. f x ∷ ys) (take-map f n xs)

pub map-map : {A B C : Type 0} (f : B → C) (g : A → B) (xs : List A)
    → map (λ x. f (g x)) xs ≡ map f (map g xs)
map-map f g [] = refl
map-map f g (x ∷ xs) = ap (λ ys. f (g x) ∷ ys) (map-map f g xs)

-- of the first of a list the first
take-take : {A : Type 0} (n m : ℕ) → n ≤ m → (xs : List A) → take n (take m xs) ≡ take n xs
take-take zero m le xs = refl
take-take (suc n) zero le xs = grind (arith, le)
take-take (suc n) (suc m) le [] = refl
take-take (suc n) (suc m) le (x ∷ xs) =
    ap (λ ys. x ∷ ys) (take-take n m (omega (arith, le)) xs)

pub take-front : {A : Type 0} (n m : ℕ) → n ≤ m → (xs ys : List A)
    → take n (xs ++ take m ys) ≡ take n (xs ++ ys)
take-front n m le [] ys = take-take n m le ys
take-front zero m le (x ∷ xs) ys = refl
take-front (suc n) m le (x ∷ xs) ys =
    ap (λ zs. x ∷ zs) (take-front n m (omega (arith, le)) xs ys)

-- a hover as it is written, and the value that it is
hover-printed : (text : List ℕ) (r : Range)
    → value_text (hover_of text r)
    ≡ codes "{\"contents\":{\"kind\":\"plaintext\",\"value\":\"" ++ (escape text
    ++ (codes "\"},\"range\":" ++ (value_text (range_tree r) ++ codes "}")))
unfolding escape_byte
hover-printed text r =
    value_text-is (hover_of text r)
    ∙ ap (λ t. codes "{\"contents\":{\"kind\":\"plaintext\",\"value\":\"" ++ (escape text
    ++ (codes "\"},\"range\":" ++ t)))
    (sym (value_text-then (range_tree r) (codes "}")))

line_feeds : escape (codes "\n\n") ≡ codes "\\n\\n"
unfolding escape_byte
line_feeds = refl

texts-escaped : (ts : List (List ℕ))
    → joined (codes "\\n\\n") (take MOST_HOVERS (map escape ts)) ≡ escape (hover_shown ts)
texts-escaped ts =
    let first = take MOST_HOVERS ts in
    ap₂ joined (sym line_feeds) (take-map escape MOST_HOVERS ts)
    ∙ sym (escape-joined (codes "\n\n") first)

pub hover-written : (xs ts : List (List ℕ)) (r : Range) → xs ≡ map escape ts
    → list_text (codes "{\"contents\":{\"kind\":\"plaintext\",\"value\":\"") (codes "\\n\\n")
    (codes "\"},\"range\":" ++ (value_text (range_tree r) ++ codes "}")) (take MOST_HOVERS xs)
    ≡ value_text (hover_of (hover_shown ts) r)
hover-written xs ts r e =
    ap (λ t. codes "{\"contents\":{\"kind\":\"plaintext\",\"value\":\"" ++ (t
    ++ (codes "\"},\"range\":" ++ (value_text (range_tree r) ++ codes "}"))))
    (ap (λ ys. joined (codes "\\n\\n") (take MOST_HOVERS ys)) e ∙ texts-escaped ts)
    ∙ sym (hover-printed (hover_shown ts) r)
