-- Headers, a step of a walk at a time.
use Rattle.std.proofs.Common.{◌≡◌, ◌++◌, ◌&&◌, ℕ, List, [], ◌∷◌, Bool, true, false, length}
use Rattle.std.proofs.Common.{Option, Some, None, take, drop, refl, arith}
use Rattle.std.specs.Str.{bytes_eq}
use Rattle.cb_lsp.specs.Headers.{after_dots, without_dots}

-- a file in a folder is what follows the folder
folder-append : (folder header name : List ℕ)
    → bytes_eq name (folder ++ header)
    ≡ (bytes_eq (take (length folder) name) folder && bytes_eq (drop (length folder) name) header)
folder-append [] header name = grind arith
folder-append (f ∷ fs) header [] = grind arith
folder-append (f ∷ fs) header (b ∷ bs) = grind (arith, folder-append fs header bs)

pub beside-found : (folder header name rest : List ℕ) (r : Bool)
    → bytes_eq (take (length folder) name) folder ≡ true → rest ≡ drop (length folder) name
    → r ≡ bytes_eq rest header → r ≡ bytes_eq name (folder ++ header)
beside-found folder header name rest r e after is =
    rw (folder-append folder header name, e, ← after) is

pub beside-other : (folder header name : List ℕ)
    → bytes_eq (take (length folder) name) folder ≡ false
    → false ≡ bytes_eq name (folder ++ header)
beside-other folder header name e = rw (folder-append folder header name, e)

-- one `./` or `../`
abbrev pub once_without : List ℕ → Option (List ℕ) → List ℕ
once_without header None = header
once_without header (Some rest) = without_dots rest

pub without_dots-once : (header : List ℕ)
    → without_dots header ≡ once_without header (after_dots header)
unfolding without_dots
without_dots-once [] = refl
without_dots-once (a ∷ []) = refl
without_dots-once (a ∷ b ∷ []) = grind arith
without_dots-once (a ∷ b ∷ c ∷ rest) = grind arith
