-- What clap's errors say of the words.
use Rattle.std.proofs.Common.{◌≡◌, ◌⊎◌, inl, inr, List, ◌∷◌, [], Option, None, Some, Global, String}
use Rattle.std.proofs.Common.{codes, map, subst}
use Rattle.std.specs.Borrow.{Bor}
use Rattle.clap.specs.Words.{App, IsAmong, Row, Text, fault_of, subcommand_of}
use Rattle.clap.specs.declared.error.kind.ErrorKind.{ErrorKind}
use Rattle.clap.specs.declared.error.kind.ErrorKind.TheVariants.{OutOfMemory}
use Rattle.cb_words.specs.Commands.{browse_app_of}
use Rattle.cb_words.specs.Jobs.{browse_app}
use Rattle.cb_words.specs.Usages.{IsBadSearch, IsUsageOf, ShowsText, TellsKind}
use Rattle.cb_words.specs.declared.job.Usage.{Usage}
use Rattle.cb_words.specs.declared.job.Usage.TheVariants.{Help, Wrong, BadField, NoPattern, Memory}

-- want of memory shows no text
no-memory : (kind : ErrorKind) → kind ≡ OutOfMemory → ShowsText kind → ⊥
no-memory kind none (inl help) = cc
no-memory kind none (inr version) = cc

-- a usage that tells a kind which clap gives for the words
pub usage_from_kind : (words : List Text) (app : App) (choices : Bor (List (Bor Text)))
    (kind : ErrorKind) (usage : Usage)
    → map (λ text. text.now) choices.now ≡ codes "1" ∷ codes "2" ∷ [] → app ≡ browse_app_of choices
    → TellsKind kind usage → (kind ≡ OutOfMemory) ⊎ IsAmong kind (fault_of app words)
    → IsUsageOf words usage
usage_from_kind words app choices kind Memory texts same tells has = tt
usage_from_kind words app choices kind BadField texts same tells has = absurd tells
usage_from_kind words app choices kind NoPattern texts same tells has = absurd tells
usage_from_kind words app choices kind (Help t) texts same tells (inl none) =
    absurd (no-memory kind none tells)
usage_from_kind words app choices kind (Help t) texts same tells (inr among) =
    (kind, tells, (choices, texts, subst (λ a. IsAmong kind (fault_of a words)) same among))
usage_from_kind words app choices kind (Wrong t) texts same tells (inl none) = absurd (tells.2 none)
usage_from_kind words app choices kind (Wrong t) texts same tells (inr among) =
    inl (
      kind,
      tells.0,
      tells.1,
      (choices, texts, subst (λ a. IsAmong kind (fault_of a words)) same among),
    )

-- a bad search is no help and no wrong words
no-help : (found : Option (Text × List Row)) (t : String Global) → IsBadSearch found (Help t) → ⊥
no-help None t bad = bad
no-help (Some found) t bad = bad

no-wrong : (found : Option (Text × List Row)) (t : String Global) → IsBadSearch found (Wrong t) → ⊥
no-wrong None t bad = bad
no-wrong (Some found) t bad = bad

-- a bad search that was found in the words
pub usage_from_search : (words : List Text) (found : Option (Text × List Row)) (usage : Usage)
    → found ≡ subcommand_of browse_app words
    → IsBadSearch found usage → IsUsageOf words usage
usage_from_search words found (Help t) same bad = absurd (no-help found t bad)
usage_from_search words found (Wrong t) same bad = absurd (no-wrong found t bad)
usage_from_search words found BadField same bad = subst (λ o. IsBadSearch o BadField) same bad
usage_from_search words found NoPattern same bad = subst (λ o. IsBadSearch o NoPattern) same bad
usage_from_search words found Memory same bad = tt
