-- Lists in order to which elements come one after another.
use Rattle.std.proofs.Common.{◌≡◌, ◌∙◌, ◌+◌, ℕ, List, [], ◌∷◌, ◌++◌, sym, ap, length, arith}
use Rattle.std.proofs.lemmas.List.{append-nil, length-append}
use Rattle.std.proofs.lemmas.List.Sums.{sum_by-append, sum_by-cons}
use Rattle.cb_scan.specs.Order.{in_order}
use Rattle.cb_scan.proofs.OrderLemmas.{in_order_sum}
use Rattle.cb_index.proofs.InOrderLemmas.{length_in_order, same_order}
use Rattle.cb_index.proofs.SortedLemmas.{order_again}

module _ {X : Type 0} (key : X → List ℕ) where
  -- lists that are one in order have one length
  pub length_same : (xs ys : List X) → in_order key xs ≡ in_order key ys → length xs ≡ length ys
  length_same xs ys same = sym (length_in_order key xs) ∙ ap length same ∙ length_in_order key ys

  module _ (exact : (x y : X) → key x ≡ key y → x ≡ y) where
    -- what is in order is in order once more
    pub again_in_order : (xs ys : List X) → xs ≡ in_order key ys → xs ≡ in_order key xs
    again_in_order xs ys is = is ∙ order_again key exact ys ∙ ap (in_order key) (sym is)

    pub order_turned : (xs ys : List X) → in_order key (xs ++ ys) ≡ in_order key (ys ++ xs)
    order_turned xs ys =
        same_order key exact (xs ++ ys) (ys ++ xs)
        (λ f. let one = sum_by-append f xs ys in let other = sum_by-append f ys xs in
        omega (arith, one, other))

    -- what came in before others
    pub order_front : (held more later : List X)
        → in_order key (in_order key (held ++ more) ++ later)
        ≡ in_order key (held ++ (more ++ later))
    order_front held more later =
        same_order key exact (in_order key (held ++ more) ++ later) (held ++ (more ++ later))
        (λ f.
        let whole = sum_by-append f (in_order key (held ++ more)) later in
        let sorted = in_order_sum key f (held ++ more) in
        let first = sum_by-append f held more in
        let other = sum_by-append f held (more ++ later) in
        let parts = sum_by-append f more later in
        omega (arith, whole, sorted, first, other, parts))

    -- the last of the new ones is put
    pub put_next : (held news all after : List X) (one : X)
        → in_order key (held ++ (news ++ one ∷ [])) ≡ in_order key all
        → after ≡ in_order key (held ++ one ∷ []) → in_order key (after ++ news) ≡ in_order key all
    put_next held news all after one same is =
        ap (λ l. in_order key (l ++ news)) is
        ∙ same_order key exact (in_order key (held ++ one ∷ []) ++ news)
        (held ++ (news ++ one ∷ []))
        (λ f.
        let whole = sum_by-append f (in_order key (held ++ one ∷ [])) news in
        let sorted = in_order_sum key f (held ++ one ∷ []) in
        let first = sum_by-append f held (one ∷ []) in
        let other = sum_by-append f held (news ++ one ∷ []) in
        let parts = sum_by-append f news (one ∷ []) in
        omega (arith, whole, sorted, first, other, parts))
        ∙ same

    -- none is left to be put
    pub put_done : (held all : List X) → held ≡ in_order key held
        → in_order key (held ++ []) ≡ in_order key all → held ≡ in_order key all
    put_done held all order same = order ∙ ap (in_order key) (sym (append-nil held)) ∙ same

    -- the last of those that go is taken
    pub take_next : (gone rest : List X) (one : X)
        → in_order key ((gone ++ one ∷ []) ++ rest) ≡ in_order key (one ∷ (gone ++ rest))
    take_next gone rest one =
        same_order key exact ((gone ++ one ∷ []) ++ rest) (one ∷ (gone ++ rest))
        (λ f.
        let whole = sum_by-append f (gone ++ one ∷ []) rest in
        let first = sum_by-append f gone (one ∷ []) in
        let single = sum_by-cons f one [] in
        let other = sum_by-cons f one (gone ++ rest) in
        let parts = sum_by-append f gone rest in
        omega (arith, whole, first, single, other, parts))

-- ---- how many there are
module _ {X : Type 0} (key : X → List ℕ) where
  -- as many in two parts
  pub parts_same : (a b c d : List X) → in_order key (a ++ b) ≡ in_order key (c ++ d)
      → length a + length b ≡ length c + length d
  parts_same a b c d same =
      let whole = length_same key (a ++ b) (c ++ d) same in
      let one = length-append a b in
      let other = length-append c d in
      omega (arith, whole, one, other)

  pub parts_length : (xs a b : List X) → xs ≡ in_order key (a ++ b)
      → length xs ≡ length a + length b
  parts_length xs a b is = ap length is ∙ length_in_order key (a ++ b) ∙ length-append a b

-- nothing is in order
pub none_in_order : {X : Type 0} (key : X → List ℕ) (xs : List X) → xs ≡ [] → xs ≡ in_order key xs
unfolding in_order
none_in_order key xs none = none ∙ sym (ap (in_order key) none)
