-- The calls of a name that is asked for stand where they say.
use Rattle.std.proofs.Common.{◌≡◌, ℕ, true, Bool, List, filter, subst, sym}
use Rattle.std.specs.List.{AllByRecursion}
use Rattle.std.specs.Str.{bytes_eq}
use Rattle.cb_desk.proofs.PlaceLemmas.{same-name}
use Rattle.cb_desk.proofs.Valid.{all-both, all-passed}
use Rattle.cb_desk.specs.World.{File, IsAscending, World}
use Rattle.cb_index.specs.Rows.{Fact, call_in, calls_of, file_calls_of, tags_named}
use Rattle.cb_scan.proofs.FactsWithin.{facts_lie}
use Rattle.cb_scan.proofs.NamedLists.{all-flat, all-made}
use Rattle.cb_scan.proofs.WithinLemmas.{all-filter}
use Rattle.cb_scan.specs.Definitions.{IsWithin}
use Rattle.cb_scan.specs.Profiles.{facts_in}
use Rattle.cb_scan.specs.declared.facts.Call.{Call}
use Rattle.cb_scan.specs.declared.profile.Profile.{Profile}
use Rattle.cb_scan.specs.lex.Reserved.{is_name}
use Rattle.cb_scan.specs.lex.Tokens.{bytes_of}
use Rattle.cb_lsp.specs.Calls.{calls_reached}
use Rattle.cb_lsp.specs.Meaning.{reaches}
use Rattle.cb_lsp.specs.Ranges.{IsUseIn, StandsIn}
use Rattle.cb_lsp.proofs.NamedTags.{IsOwn, name-stands, own-texts}

module _ (files : List File) (p : Profile) (name : List ℕ) (is : is_name name ≡ true) where
  -- a call of the name, which lies in the text of its file
  call-named : (f : File) → IsOwn files f → (c : Call)
      → IsWithin f.bytes c.callee × (name ≡ bytes_of f.bytes c.callee)
      → IsUseIn files name (call_in f c)
  call-named f own c met = (
    sym met.1,
    subst (λ n. StandsIn files f.name n c.callee.start) (sym met.1)
        (name-stands files f own c.callee
        (met.0, subst (λ n. is_name n ≡ true) met.1 is)),
  )

  file-named : (f : File) → IsOwn files f
      → AllByRecursion (IsUseIn files name) (file_calls_of p name f)
  file-named f own =
      let test : Call → Bool = λ (c : Call). bytes_eq name (bytes_of f.bytes c.callee) in
      let calls : List Call = (facts_in p f.bytes).calls in
      all-made (λ (c : Call). IsWithin f.bytes c.callee × (name ≡ bytes_of f.bytes c.callee))
      (IsUseIn files name) (call_in f) (call-named f own) (filter test calls)
      (all-both _ (λ (c : Call). test c ≡ true)
      (λ (c : Call). IsWithin f.bytes c.callee × (name ≡ bytes_of f.bytes c.callee))
      (filter test calls)
      (λ c lies same. (lies.0, same-name name (bytes_of f.bytes c.callee) same))
      (all-filter _ test calls (facts_lie p f.bytes).calls) (all-passed test calls))

  calls-named : (fs : List File) → AllByRecursion (IsOwn files) fs
      → AllByRecursion (IsUseIn files name) (calls_of p name fs)
  unfolding calls_of
  calls-named fs own =
      all-flat (IsOwn files) (IsUseIn files name) (file_calls_of p name) file-named fs own

pub reached-named : (w : World) (name from : List ℕ) → IsAscending w.files
    → is_name name ≡ true → AllByRecursion (IsUseIn w.files name) (calls_reached w name from)
reached-named w name from up is =
    all-filter (IsUseIn w.files name)
    (λ (u : Fact). reaches (tags_named w.profile name w.files) from u.file)
    (calls_of w.profile name w.files)
    (calls-named w.files w.profile name is w.files (own-texts w.files up))
