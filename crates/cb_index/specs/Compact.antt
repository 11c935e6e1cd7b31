-- What a shelf shows when it keeps nothing else.
use Rattle.std.specs.Prelude.{ℕ, ◌≡◌, ◌<◌, Bool, true, List, length, nat_eq}
use Rattle.std.specs.List.{list_any}
use Rattle.cb_index.specs.Files.{call_count, def_count, total, use_count}
use Rattle.cb_index.specs.Names.{names_of}
use Rattle.cb_index.specs.Shelved.{Shelved, files}
use Rattle.cb_index.specs.declared.entry.Shown.{Shown}

-- whether a version is shown
abbrev pub shows_version : ℕ → List Shown → Bool
shows_version v shown = list_any (λ (s : Shown). nat_eq s.version v) shown

-- the same files are shown, under the same numbers of names, and with as many facts
pub record ShowsSame (old new : Shelved) : Type 0 where
  pub profile : new.archive.profile ≡ old.archive.profile
  pub names : new.archive.names ≡ old.archive.names
  pub numbers : names_of new.shown ≡ names_of old.shown
  pub files : files new ≡ files old
  pub defs : total def_count new.archive new.shown ≡ total def_count old.archive old.shown
  pub uses : total use_count new.archive new.shown ≡ total use_count old.archive old.shown
  pub calls : total call_count new.archive new.shown ≡ total call_count old.archive old.shown

-- each version that is kept is shown
abbrev pub ShowsAll : Shelved → Type 0
ShowsAll s = (v : ℕ) → v < length s.archive.texts → shows_version v s.shown ≡ true
