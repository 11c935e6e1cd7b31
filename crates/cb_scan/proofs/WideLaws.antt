-- What the rules share: all of them find the same includes, their scopes aside.
use Rattle.std.proofs.Common.{◌≡◌, ℕ, List, [], ◌∷◌, Option, None, refl, ap, map}
use Rattle.cb_scan.specs.declared.facts.Include.{Include}
use Rattle.cb_scan.specs.declared.lex.piece.Span.{Span}
use Rattle.cb_scan.specs.declared.profile.Rules.{Rules}
use Rattle.cb_scan.specs.declared.profile.Rules.TheVariants.{Standard}
use Rattle.cb_scan.specs.Definitions.{calls, facts_of}
use Rattle.cb_scan.specs.Profiles.{all_facts}
use Rattle.cb_scan.specs.rules.Uses.{includes, uses}

-- the standard rules find what they did before there were others
pub standard_is : (text : List ℕ) → all_facts Standard text ≡ facts_of text
unfolding uses calls includes
standard_is text = refl

-- an include without its scope
abbrev pub include_alone : Include → Include
include_alone i = record i { scope = None }

includes_alike : (s r : ℕ → Option Span) (is : List Include)
    → map include_alone (map (λ (i : Include). record i { scope = s i.header.start }) is)
    ≡ map include_alone (map (λ (i : Include). record i { scope = r i.header.start }) is)
includes_alike s r [] = refl
includes_alike s r (i ∷ is) = ap (λ l. include_alone i ∷ l) (includes_alike s r is)

pub same_includes : (rules : Rules) (text : List ℕ)
    → map include_alone (all_facts rules text).includes ≡ map include_alone (all_facts Standard text).includes
same_includes rules text = includes_alike _ _ _
