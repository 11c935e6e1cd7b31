-- To which declaration a name is bound, by what is known of each token.
use Rattle.std.specs.Prelude.{ℕ, zero, suc, Bool, false, ◌&&◌, List, nat_le, nat_lt}
use Rattle.std.specs.Prelude.{if◌then◌else◌, slice_index_or}
use Rattle.std.specs.Str.{bytes_eq}
use Rattle.cb_scan.specs.lex.Tokens.{bytes_of}
use Rattle.cb_names.specs.Labels.{span}
use Rattle.cb_names.specs.Pairs.{at}
use Rattle.cb_names.specs.declared.scopes.Scope.{Scope}
use Rattle.cb_names.specs.declared.word.Item.{Item}
use Rattle.cb_names.specs.steps.Naming.{is_ordinary_by}

-- index k is an ordinary name with these bytes, where it is known with which tokens a statement begins
abbrev pub named_by : List ℕ → List Item → List Bool → List ℕ → ℕ → Bool
named_by text xs starts name k =
    is_ordinary_by xs starts k && bytes_eq (bytes_of text (span (at xs k))) name

-- it declares the name, where it is known which do
abbrev pub declares_by : List ℕ → List Item → List Bool → List Bool → List ℕ → ℕ → Bool
declares_by text xs starts declares name k =
    named_by text xs starts name k && slice_index_or declares k false

-- its scope
abbrev pub no_scope : Scope
no_scope = record { first = 0; last = 0 }

abbrev pub scope_by : List Scope → ℕ → Scope
scope_by scopes k = slice_index_or scopes k no_scope

abbrev pub larger : ℕ → ℕ → ℕ
larger a b = if nat_lt a b then b else a

-- behind which index the declarations before index n are seen no more, of those in scopes that begin
-- at an index or behind it
unfoldable pub far : (ℕ → Bool) → (ℕ → Scope) → (first n : ℕ) → ℕ
far declares scope first zero = 0
far declares scope first (suc d) =
    if declares d && nat_le first (scope d).first
    then larger (far declares scope first d) (suc (scope d).last)
    else far declares scope first d
