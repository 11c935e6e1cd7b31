-- The includes that are lent are those of the files.
use Rattle.std.proofs.Common.{◌≡◌, List, [], ◌∷◌, ◌++◌, refl, map}
use Rattle.std.specs.List.{AllByRecursion}
use Rattle.cb_scan.specs.declared.facts.Include.{Include}
use Rattle.cb_scan.specs.declared.profile.Profile.{Profile}
use Rattle.cb_scan.specs.Profiles.{facts_in}
use Rattle.cb_scan.specs.Definitions.{IsScopeWithin, IsWithin}
use Rattle.cb_scan.proofs.FactsWithin.{facts_lie}
use Rattle.cb_index.specs.Files.{File}
use Rattle.cb_index.specs.Includes.{all_includes, include_in}
use Rattle.cb_index.specs.Shelved.{with_facts}
use Rattle.cb_index.specs.steps.Includes.{include_at, includes_in}
use Rattle.cb_index.proofs.FactLemmas.{scope_is}
use Rattle.cb_index.proofs.RowLemmas.{cut_is}

module _ (f : File) where
  includes_from : (is : List Include)
      → AllByRecursion
      (λ (i : Include). IsWithin f.bytes i.header × IsScopeWithin f.bytes i.scope) is
      → map (include_at f.name f.bytes) is ≡ map (include_in f) is
  includes_from [] within = refl
  includes_from (i ∷ is) within =
      let header = cut_is f.bytes i.header within.0.0 in
      let scope = scope_is f.bytes i.scope within.0.1 in
      let later = includes_from is within.1 in
      λ k. record (include_in f i) { name = header k; scope = scope k } ∷ later k

pub includes_are : (p : Profile) (fs : List File)
    → includes_in (map (with_facts p) fs) ≡ all_includes p fs
unfolding all_includes
includes_are p [] = refl
includes_are p (f ∷ fs) =
    let here = includes_from f (facts_in p f.bytes).includes (facts_lie p f.bytes).includes in
    let later = includes_are p fs in
    λ k. here k ++ later k
