use Rattle.std.proofs.Common.{◌≡◌, ◌≤◌, ◌<◌, ◌-◌, ◌++◌, ◌∷◌, [], ◌∙◌, ap, sym, ℕ, List}
use Rattle.std.proofs.Common.{refl, Some, zero, suc, length, take, slice_get, arith}
use Rattle.std.specs.Option.{option_map}
use Rattle.std.proofs.lemmas.Option.{slice_get-get_or}
use Rattle.cb_scan.specs.Profiles.{facts_in}
use Rattle.cb_desk.proofs.plan.facts_at.Goals as goal

-- the texts of which the first `n` are others'
after_front : (n : ℕ) (xs ys : List (List ℕ)) (i : ℕ) → n ≤ length xs → n ≤ i
    → slice_get (take n xs ++ ys) i ≡ slice_get ys (i - n)
after_front zero xs ys i long past =
    let all : i ≡ i - 0 = omega arith in ap (slice_get ys) all
after_front (suc n) [] ys i long past = absurd (omega (arith, long))
after_front (suc n) (x ∷ xs) ys zero long past = absurd (omega (arith, past))
after_front (suc n) (x ∷ xs) ys (suc i) long past =
    let less : i - n ≡ suc i - suc n = omega arith in
    after_front n xs ys i (omega (arith, long)) (omega (arith, past)) ∙ ap (slice_get ys) less

in_front : (n : ℕ) (xs ys : List (List ℕ)) (i : ℕ) → n ≤ length xs → i < n
    → slice_get (take n xs ++ ys) i ≡ slice_get xs i
in_front zero xs ys i long below = absurd (omega (arith, below))
in_front (suc n) [] ys i long below = absurd (omega (arith, long))
in_front (suc n) (x ∷ xs) ys zero long below = refl
in_front (suc n) (x ∷ xs) ys (suc i) long below =
    in_front n xs ys i (omega (arith, long)) (omega (arith, below))

pub returns-then-version-kept : goal.returns-then-version-kept
returns-then-version-kept c =
    let a = c.args.archive.now in
    let i = c.args.version in
    let kept = c.requires.kept in
    let below = c.if-version-kept.true in
    ap Some c.facts.ensures
    ∙ sym (ap (option_map (facts_in a.profile))
    (in_front c.args.kept a.texts c.args.news.now.texts i kept below
    ∙ slice_get-get_or a.texts i [] (omega (arith, kept, below))))

pub returns : goal.returns
returns c =
    let a = c.args.archive.now in
    let news = c.args.news.now in
    let past = c.if-version-kept.false in
    c.facts-2.ensures
    ∙ ap (λ p. option_map (facts_in p) (slice_get news.texts (c.args.version - c.args.kept)))
    c.requires.profile
    ∙ sym (ap (option_map (facts_in a.profile))
    (after_front c.args.kept a.texts news.texts c.args.version c.requires.kept past))
