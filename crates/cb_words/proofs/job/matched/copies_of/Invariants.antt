use Rattle.std.proofs.Common.{◌≡◌, ℕ, List, map, string_bytes, take, Bor}
use Rattle.cb_words.proofs.job.matched.copies_of.Given as goal

abbrev pub invariant-loop-text : goal.invariant-loop-text
invariant-loop-text l =
    map string_bytes l.copies.items
    ≡ map (λ (text : Bor (List ℕ)). text.now) (take l.text-index l.texts)
