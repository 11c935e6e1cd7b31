-- Line feeds are counted a few bytes at a time.
use Rattle.std.proofs.Common.{◌≡◌, ◌≤◌, ◌+◌, ◌-◌, ℕ, List, length, take, drop, cond, count_by, ap, arith}
use Rattle.std.proofs.lemmas.List.{take_rest}
use Rattle.std.proofs.lemmas.List.Sums.{count_by-le-length, sum_by-take-drop}
use Rattle.cb_scan.specs.steps.Lined.{is_feed}

-- those of the first bytes and those of the others
split : (n : ℕ) (xs : List ℕ) → count_by is_feed (take n xs) + count_by is_feed (drop n xs) ≡ count_by is_feed xs
split n xs = sum_by-take-drop (λ x. cond (is_feed x) 1 0) xs n

-- what was counted before, the first bytes, and the others are all
pub one_turn : (count here all : ℕ) (xs : List ℕ) → count + count_by is_feed xs ≡ all
    → here ≡ count_by is_feed (take 16 xs)
    → (count + here) + count_by is_feed (take (length xs - 16) (drop 16 xs)) ≡ all
one_turn count here all xs was is =
    let parts : count_by is_feed (take 16 xs) + count_by is_feed (drop 16 xs) ≡ count_by is_feed xs = split 16 xs in
    let others : count_by is_feed (take (length xs - 16) (drop 16 xs)) ≡ count_by is_feed (drop 16 xs) =
    ap (count_by is_feed) (take_rest xs 16) in
    omega (arith, was, is, parts, others)

-- there are no more than bytes
pub few_so_far : (count here : ℕ) (xs bytes : List ℕ) → count + count_by is_feed xs ≡ count_by is_feed bytes
    → here ≡ count_by is_feed (take 16 xs) → count + here ≤ length bytes
few_so_far count here xs bytes was is =
    let parts : count_by is_feed (take 16 xs) + count_by is_feed (drop 16 xs) ≡ count_by is_feed xs = split 16 xs in
    let most : count_by is_feed bytes ≤ length bytes = count_by-le-length is_feed bytes in
    omega (arith, was, is, parts, most)

pub few_in_all : (count here : ℕ) (xs bytes : List ℕ) → count + count_by is_feed xs ≡ count_by is_feed bytes
    → here ≡ count_by is_feed xs → count + here ≤ length bytes
few_in_all count here xs bytes was is =
    let most : count_by is_feed bytes ≤ length bytes = count_by-le-length is_feed bytes in
    omega (arith, was, is, most)
