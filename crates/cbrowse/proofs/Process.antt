-- The words of a process, and what is done with them.
use Rattle.std.proofs.Common.{◌≡◌, ◌∙◌, ◌⊎◌, ◌++◌, ap, inr, refl, sym, subst, take, ℕ, List, []}
use Rattle.std.proofs.Common.{Option, None, Some, Result, Ok, Err, String, map, string_bytes}
use Rattle.std.specs.Prelude.{IfOk, IfSome}
use Rattle.std.specs.Option.{option_map}
use Rattle.std.specs.Io.Take.{take_inner, take_limit, take_remaining}
use Rattle.std.specs.declared.io.traits.Take.{Take}
use Rattle.std.proofs.lemmas.Iterator.{IsCollectResult, items_from_collect}
use Rattle.std.proofs.lemmas.Iterator.Adapters.{YieldsList-from_vec}
use Rattle.std.specs.Global.{Global}
use Rattle.std.specs.declared.io.Error.{Error}
use Rattle.std.specs.declared.vec.IntoIter.{IntoIter}
use Rattle.std.specs.declared.vec.Vec.{Vec}
use Rattle.std.specs.Vec.Iter.{into_iter_items, into_iter_steps}
use Rattle.cb_tags.specs.Readers.{Reader}
use Rattle.cb_tags.specs.Writers.{Writer}
use Rattle.cb_words.specs.declared.job.Usage.{Usage}
use Rattle.cbrowse.specs.Endings.{EndsJob, EndsProcess, EndsUsage, TakesWords}
use Rattle.cbrowse.specs.Files.{Disk}
use Rattle.cbrowse.specs.Messages.{Says, usage_said, usage_status}
use Rattle.cb_words.specs.Usages.{IsUsageOf}

-- the words were taken
pub process_ran : (disk : Disk) (words : Result (IntoIter (String Global) Global) Error)
    (taken : Vec (String Global) Global) (slice : List (String Global)) (status : ℕ)
    (feed feed' : Reader)
    (out out' errors errors' : Writer) → TakesWords words (Ok taken) → slice ≡ taken.items
    → EndsJob disk (map string_bytes slice) status feed feed' out out' errors errors'
    ⊎ EndsUsage disk (map string_bytes slice) status feed feed' out out' errors errors'
    → EndsProcess disk words status feed feed' out out' errors errors'
process_ran disk (Ok given) taken slice status feed feed' out out' errors errors' t same e =
    subst (λ ws. EndsJob disk (map string_bytes ws) status feed feed' out out' errors errors'
    ⊎ EndsUsage disk (map string_bytes ws) status feed feed' out out' errors errors') (same ∙ t) e
process_ran disk (Err error) taken slice status feed feed' out out' errors errors' t same e =
    absurd t

-- there are none
pub process_refused : (disk : Disk) (words : Result (IntoIter (String Global) Global) Error)
    (usage : Usage) (status : ℕ) (feed : Reader)
    (out errors errors' : Writer) → TakesWords words (Err usage) → disk.done []
    → status ≡ usage_status usage → Says errors errors' (usage_said usage)
    → EndsProcess disk words status feed feed out out errors errors'
process_refused disk (Ok given) usage status feed out errors errors' t none is says =
    inr (
      usage,
      subst (IsUsageOf (map string_bytes (into_iter_items given))) (sym t) tt,
      ((refl, refl), none, is, says),
    )
process_refused disk (Err error) usage status feed out errors errors' t none is says =
    (usage, t, ((refl, refl), none, is, says))

-- the words are collected
pub collected : (given : IntoIter (String Global) Global) {E : Type 0}
    (r : Result (Vec (String Global) Global) E)
    → IsCollectResult into_iter_steps given r
    → IfOk r (λ taken. taken.items ≡ into_iter_items given)
collected given r k =
    items_from_collect r k (YieldsList-from_vec (into_iter_items given) refl given.rest.ok.0)

-- all that is left is read, up to a limit
rest_of : (known : Option (List ℕ)) (limit : ℕ) (before got : List ℕ) → before ≡ []
    → IfSome (option_map (take limit) known) (λ xs. got ≡ before ++ xs)
    → IfSome known (λ left. got ≡ take limit left)
rest_of None limit before got e h = tt
rest_of (Some xs) limit before got e h = h ∙ ap (λ b. b ++ take limit xs) e

pub read_all : {F : Type 0} (remaining : F → Option (List ℕ)) (t : Take F) (file : F)
    (before got : List ℕ)
    → (most : ℕ) → take_limit t ≡ most → take_inner t ≡ file → before ≡ []
    → IfSome (take_remaining remaining t) (λ xs. got ≡ before ++ xs)
    → IfSome (remaining file) (λ left. got ≡ take most left)
read_all remaining t file before got most limit inner e h =
    subst (λ f. IfSome (remaining f) (λ left. got ≡ take most left)) inner
    (subst (λ n. IfSome (remaining (take_inner t)) (λ left. got ≡ take n left)) limit
    (rest_of (remaining (take_inner t)) (take_limit t) before got e h))
