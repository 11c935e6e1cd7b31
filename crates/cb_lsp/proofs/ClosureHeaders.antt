-- The file that a header means, a step of a walk at a time.
use Rattle.std.proofs.Common.{◌≡◌, ◌∙◌, ◌++◌, ◌||◌, ℕ, List, [], ◌∷◌, Bool, true, false, ap, sym}
use Rattle.std.proofs.Common.{Option, Some, None, filter, get_or, length, map, refl, subst}
use Rattle.std.proofs.Common.{◌<◌, arith, ⊎_elim}
use Rattle.std.specs.Prelude.{cond, fold, nat_lt, if◌then◌else◌}
use Rattle.std.specs.List.{list_any}
use Rattle.std.specs.Option.{option_map_or, option_or}
use Rattle.std.specs.Str.{bytes_eq}
use Rattle.std.specs.Borrow.{Bor}
use Rattle.std.proofs.lemmas.Bool.{or_cases}
use Rattle.std.proofs.lemmas.List.Folds.{list_any_at}
use Rattle.std.proofs.lemmas.Slice.Eq.{bytes_eq-Decides}
use Rattle.cb_desk.specs.Answer.{is_header}
use Rattle.cb_desk.specs.World.{File, has_file}
use Rattle.cb_lsp.specs.Closures.{beside, folder_around, folder_from, if_there, meant, nearer}
use Rattle.cb_lsp.specs.Closures.{nearest_of}
use Rattle.cb_lsp.specs.Headers.{after_dots, files_named, folder_of, without_dots}
use Rattle.cb_lsp.specs.Nearest.{apart}
use Rattle.cb_lsp.specs.steps.Closures.{begins_above, if_among, is_one_of, names_of}
use Rattle.cb_lsp.proofs.Truths.{itself, or_first, or_second}

-- ---- `./` and `../`

-- one of them leads to the folder around or to this one
abbrev pub once_from : (header folder : List ℕ) → Option (List ℕ) → Option (List ℕ)
once_from header folder None = Some folder
once_from header folder (Some rest) =
    if begins_above header then option_map_or (folder_from rest) (folder_around folder) None
    else folder_from rest folder

pub folder_from-once : (header folder : List ℕ)
    → folder_from header folder ≡ once_from header folder (after_dots header)
unfolding folder_from
folder_from-once [] folder = refl
folder_from-once (a ∷ []) folder = refl
folder_from-once (a ∷ b ∷ []) folder = grind arith
folder_from-once (a ∷ b ∷ c ∷ rest) folder = grind arith

pub above : (header folder rest : List ℕ) → true ≡ begins_above header
    → option_map_or (folder_from rest) (folder_around folder) None
    ≡ once_from header folder (Some rest)
above header folder rest is =
    ap (λ b. if b then option_map_or (folder_from rest) (folder_around folder) None
    else folder_from rest folder) is

pub not_above : (header folder rest : List ℕ) → false ≡ begins_above header
    → folder_from rest folder ≡ once_from header folder (Some rest)
not_above header folder rest is =
    ap (λ b. if b then option_map_or (folder_from rest) (folder_around folder) None
    else folder_from rest folder) is

-- ---- files by their names
pub named-found : (name : List ℕ) (fs : List File) → has_file fs name ≡ is_one_of (names_of fs) name
named-found name [] = refl
named-found name (f ∷ fs) = ap (λ b. bytes_eq f.name name || b) (named-found name fs)

pub named-filter : (header : List ℕ) (fs : List File)
    → files_named header fs ≡ filter (is_header header) (names_of fs)
named-filter header [] = refl
named-filter header (f ∷ fs) =
    ap (λ names. if is_header header f.name then f.name ∷ names else names) (named-filter header fs)

any_lent : (names : List (Bor (List ℕ))) (target : List ℕ)
    → list_any (λ (name : Bor (List ℕ)). bytes_eq name.now target) names
    ≡ is_one_of (map (λ (name : Bor (List ℕ)). name.now) names) target
any_lent [] target = refl
any_lent (n ∷ ns) target = ap (λ b. bytes_eq n.now target || b) (any_lent ns target)

pub named_at : (names : List (Bor (List ℕ))) (i : ℕ) (d : Bor (List ℕ)) (target : List ℕ)
    → i < length names → true ≡ bytes_eq (get_or names i d).now target
    → Some (get_or names i d).now
    ≡ if_among (map (λ (name : Bor (List ℕ)). name.now) names) target
named_at names i d target low is =
    ap Some ((bytes_eq-Decides (get_or names i d).now target).0 (sym is))
    ∙ ap (λ b. if b then Some target else None)
    (sym (list_any_at (λ (name : Bor (List ℕ)). bytes_eq name.now target) names i d low (sym is))
    ∙ any_lent names target)

-- ---- what a header means is one of the files
filtered : (p : List ℕ → Bool) (names : List (List ℕ)) (name : List ℕ)
    → is_one_of (filter p names) name ≡ true → is_one_of names name ≡ true
filtered p [] name is = is
filtered p (n ∷ ns) name is = by_test (p n) (filtered p ns name) is
  where
    by_test : (b : Bool) → (is_one_of (filter p ns) name ≡ true → is_one_of ns name ≡ true)
        → is_one_of (cond b (n ∷ filter p ns) (filter p ns)) name ≡ true
        → is_one_of (n ∷ ns) name ≡ true
    by_test true rest is = ⊎_elim
        (λ (first : bytes_eq n name ≡ true). or_first (bytes_eq n name) (is_one_of ns name) first)
        (λ (later : is_one_of (filter p ns) name ≡ true).
        or_second (bytes_eq n name) (is_one_of ns name) (rest later))
        (or_cases (bytes_eq n name) (is_one_of (filter p ns) name) is)
    by_test false rest is = or_second (bytes_eq n name) (is_one_of ns name) (rest is)

nearest_among : (from one : List ℕ) (names : List (List ℕ))
    → is_one_of (one ∷ names) (fold (nearer from) one names) ≡ true
nearest_among from one [] = or_first (bytes_eq one one) false (itself one)
nearest_among from one (n ∷ ns) =
    by_test (nat_lt (apart from n) (apart from one)) (nearest_among from n ns)
    (nearest_among from one ns)
  where
    by_test : (b : Bool) → is_one_of (n ∷ ns) (fold (nearer from) n ns) ≡ true
        → is_one_of (one ∷ ns) (fold (nearer from) one ns) ≡ true
        → is_one_of (one ∷ n ∷ ns) (fold (nearer from) (if b then n else one) ns) ≡ true
    by_test true of_n of_one =
        let r = fold (nearer from) n ns in
        or_second (bytes_eq one r) (bytes_eq n r || is_one_of ns r) of_n
    by_test false of_n of_one =
        let r = fold (nearer from) one ns in ⊎_elim
        (λ (first : bytes_eq one r ≡ true).
        or_first (bytes_eq one r) (bytes_eq n r || is_one_of ns r) first)
        (λ (later : is_one_of ns r ≡ true).
        or_second (bytes_eq one r) (bytes_eq n r || is_one_of ns r)
        (or_second (bytes_eq n r) (is_one_of ns r) later))
        (or_cases (bytes_eq one r) (is_one_of ns r) of_one)

nearest_is_one : (from name : List ℕ) (names : List (List ℕ))
    → nearest_of from names ≡ Some name → is_one_of names name ≡ true
nearest_is_one from name [] is = absurd cc
nearest_is_one from name (n ∷ ns) is =
    let same : fold (nearer from) n ns ≡ name = cc in
    subst (λ r. is_one_of (n ∷ ns) r ≡ true) same (nearest_among from n ns)

there_is_one : (fs : List File) (target name : List ℕ) → if_there fs target ≡ Some name
    → has_file fs name ≡ true
there_is_one fs target name is = by_test (has_file fs target) refl is
  where
    by_test : (b : Bool) → has_file fs target ≡ b → (if b then Some target else None) ≡ Some name
        → has_file fs name ≡ true
    by_test true has is =
        let same : target ≡ name = cc in subst (λ r. has_file fs r ≡ true) same has
    by_test false has is = absurd cc

beside_is_one : (fs : List File) (folder header name : List ℕ) → beside fs folder header ≡ Some name
    → has_file fs name ≡ true
beside_is_one fs folder header name is = by_base (folder_from header folder) is
  where
    by_base : (o : Option (List ℕ))
        → option_map_or (λ (base : List ℕ). if_there fs (base ++ without_dots header)) o None
        ≡ Some name → has_file fs name ≡ true
    by_base None is = absurd cc
    by_base (Some base) is = there_is_one fs (base ++ without_dots header) name is

pub meant_is_one : (fs : List File) (from header name : List ℕ) → meant fs from header ≡ Some name
    → is_one_of (names_of fs) name ≡ true
meant_is_one fs from header name is = by_beside (beside fs (folder_of from) header) refl is
  where
    near : Option (List ℕ)
    near = nearest_of from (files_named (without_dots header) fs)

    by_beside : (o : Option (List ℕ)) → beside fs (folder_of from) header ≡ o
        → option_or o near ≡ Some name → is_one_of (names_of fs) name ≡ true
    by_beside (Some n) found is =
        sym (named-found name fs) ∙ beside_is_one fs (folder_of from) header name (found ∙ is)
    by_beside None found is =
        filtered (is_header (without_dots header)) (names_of fs) name
        (subst (λ names. is_one_of names name ≡ true) (named-filter (without_dots header) fs)
        (nearest_is_one from name (files_named (without_dots header) fs) is))
