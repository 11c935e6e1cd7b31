-- What a search finds at a step, and that it ends with the closure.
use Rattle.std.proofs.Common.{◌≡◌, ◌∙◌, ◌&&◌, ◌||◌, ◌+◌, ◌≤◌, ◌<◌, ℕ, List, [], ◌∷◌, ◌++◌}
use Rattle.std.proofs.Common.{Bool, true, false, not, ap, sym, refl, subst, filter}
use Rattle.std.proofs.Common.{length, arith, ⊎_elim}
use Rattle.std.specs.Prelude.{cond}
use Rattle.std.specs.Borrow.{Bor}
use Rattle.std.specs.BTreeSet.{BTreeSet}
use Rattle.std.specs.Cmp.Lexicographic.{slice_cmp}
use Rattle.std.specs.List.{list_any}
use Rattle.std.specs.Ordering.{is_eq, nat_cmp}
use Rattle.std.specs.Str.{bytes_eq}
use Rattle.std.proofs.lemmas.Bool.{or_cases}
use Rattle.std.proofs.lemmas.List.Folds.{list_any-append}
use Rattle.std.proofs.lemmas.Map.Text.{is_eq-slice_cmp}
use Rattle.std.proofs.lemmas.Slice.Eq.{bytes_eq-Decides}
use Rattle.cb_desk.specs.World.{World}
use Rattle.cb_lsp.specs.Closures.{includes, is_in_closure}
use Rattle.cb_lsp.specs.declared.closure.Search.{Search}
use Rattle.cb_lsp.specs.steps.Closures.{Finds, has_name, is_found, is_left, is_one_of, names_of}
use Rattle.cb_lsp.proofs.ClosureReach.{all_held, goes_on, to_itself}
use Rattle.cb_lsp.proofs.Truths.{and_second, and_true, either_way, impossible, or_first}
use Rattle.cb_lsp.proofs.Truths.{or_second, same_truth}

-- ---- steps
no_more : (a b : Bool) → b ≡ false → a ≡ (a || b)
no_more true b is = refl
no_more false b is = sym is

none_left : (a b c : Bool) → c ≡ false → a ≡ (a || (not b && c))
none_left true b c is = refl
none_left false true c is = refl
none_left false false c is = sym is

-- the same, by another test
pub finds_same : (names : List (List ℕ)) (p q : List ℕ → Bool) (old new : Search)
    → ((name : List ℕ) → p name ≡ q name) → Finds names p old new → Finds names q old new
finds_same names p q old new same finds = record {
  found = λ name. finds.found name ∙ ap (λ b. is_found old name || b) (same name);
  left = λ name. finds.left name
      ∙ ap (λ b. is_left old name || (not (is_found old name) && b)) (same name);
  ahead = finds.ahead;
}

or_both : (a b c : Bool) → ((a || b) || c) ≡ (a || (b || c))
or_both true b c = refl
or_both false b c = refl

left_both : (l a b c : Bool)
    → ((l || (not a && b)) || (not (a || b) && c)) ≡ (l || (not a && (b || c)))
left_both true a b c = refl
left_both false true b c = refl
left_both false false true c = refl
left_both false false false c = refl

-- two steps are one
pub finds_then : (names : List (List ℕ)) (p q : List ℕ → Bool) (a b c : Search)
    → Finds names p a b → Finds names q b c → Finds names (λ name. p name || q name) a c
finds_then names p q a b c first second = record {
  found = λ name. second.found name ∙ ap (λ f. f || q name) (first.found name)
      ∙ or_both (is_found a name) (p name) (q name);
  left = λ name. second.left name
      ∙ (λ i. first.left name i || (not (first.found name i) && q name))
      ∙ left_both (is_left a name) (is_found a name) (p name) (q name);
  ahead = omega (arith, first.ahead, second.ahead);
}

-- ---- one file is found
abbrev pub lent : List ℕ → Bor (List ℕ)
lent name = record { ref_ptr = (0, 0); now = name }

pub is_not : (b : Bool) → not b ≡ true → b ≡ false
is_not true is = sym is
is_not false is = refl

module _ (names_old names_new : BTreeSet (Bor (List ℕ))) (key : Bor (List ℕ)) where
  cond_or : (b c : Bool) → cond b true c ≡ (c || b)
  cond_or true true = refl
  cond_or true false = refl
  cond_or false true = refl
  cond_or false false = refl

  pub has_more : (name : List ℕ)
      → has_name names_new name
      ≡ cond (is_eq (slice_cmp nat_cmp key.now name)) true (has_name names_old name)
      → has_name names_new name ≡ (has_name names_old name || bytes_eq name key.now)
  has_more name is =
      is ∙ cond_or (is_eq (slice_cmp nat_cmp key.now name)) (has_name names_old name)
      ∙ ap (λ b. has_name names_old name || b)
      (is_eq-slice_cmp key.now name ∙ either_way key.now name)

-- fewer names pass a narrower test, and fewer by one where one of them passed alone
kept_fewer : (p q : List ℕ → Bool) (names : List (List ℕ))
    → ((name : List ℕ) → q name ≡ true → p name ≡ true)
    → length (filter q names) ≤ length (filter p names)
kept_fewer p q [] narrow = omega arith
kept_fewer p q (n ∷ ns) narrow =
    by_tests (p n) (q n) (narrow n) (kept_fewer p q ns narrow)
  where
    by_tests : (b c : Bool) → (c ≡ true → b ≡ true)
        → length (filter q ns) ≤ length (filter p ns)
        → length (cond c (n ∷ filter q ns) (filter q ns))
        ≤ length (cond b (n ∷ filter p ns) (filter p ns))
    by_tests true true down rest = omega (arith, rest)
    by_tests true false down rest = omega (arith, rest)
    by_tests false true down rest = impossible (down refl)
    by_tests false false down rest = rest

one_fewer : (p q : List ℕ → Bool) (one : List ℕ) (names : List (List ℕ))
    → ((name : List ℕ) → q name ≡ true → p name ≡ true) → p one ≡ true → q one ≡ false
    → is_one_of names one ≡ true → length (filter q names) < length (filter p names)
one_fewer p q one [] narrow was is among = impossible among
one_fewer p q one (n ∷ ns) narrow was is among = ⊎_elim
    (λ (first : bytes_eq n one ≡ true).
    let same : n ≡ one = (bytes_eq-Decides n one).0 first in
    at_it (p n) (q n) (ap p same ∙ was) (ap q same ∙ is))
    (λ (later : is_one_of ns one ≡ true).
    past_it (p n) (q n) (narrow n) (one_fewer p q one ns narrow was is later))
    (or_cases (bytes_eq n one) (is_one_of ns one) among)
  where
    at_it : (b c : Bool) → b ≡ true → c ≡ false
        → length (cond c (n ∷ filter q ns) (filter q ns))
        < length (cond b (n ∷ filter p ns) (filter p ns))
    at_it true false b_is c_is =
        let rest = kept_fewer p q ns narrow in omega (arith, rest)
    at_it true true b_is c_is = impossible (sym c_is)
    at_it false c b_is c_is = impossible b_is

    past_it : (b c : Bool) → (c ≡ true → b ≡ true)
        → length (filter q ns) < length (filter p ns)
        → length (cond c (n ∷ filter q ns) (filter q ns))
        < length (cond b (n ∷ filter p ns) (filter p ns))
    past_it true true down less = omega (arith, less)
    past_it true false down less = omega (arith, less)
    past_it false true down less = impossible (down refl)
    past_it false false down less = less

narrower : (a b : Bool) → not (a || b) ≡ true → not a ≡ true
narrower true b is = is
narrower false b is = refl

new_one : (a b : Bool) → a ≡ false → (l : Bool) → (l || b) ≡ (l || (not a && b))
new_one false b is l = refl
new_one true b is l = impossible (sym is)

length_end : (key : Bor (List ℕ)) (keys : List (Bor (List ℕ)))
    → length (keys ++ key ∷ []) ≡ length keys + 1
length_end key [] = refl
length_end key (k ∷ ks) = let more = length_end key ks in omega (arith, more)

-- one that is new
pub finds_new : (names : List (List ℕ)) (key : Bor (List ℕ)) (old new : Search)
    → ((name : List ℕ) → is_found new name ≡ (is_found old name || bytes_eq name key.now))
    → new.left.items ≡ old.left.items ++ key ∷ []
    → is_found old key.now ≡ false → is_one_of names key.now ≡ true
    → Finds names (λ name. bytes_eq name key.now) old new
finds_new names key old new found left fresh among = record {
  found = found;
  left = λ name. ap (list_any (λ (k : Bor (List ℕ)). bytes_eq k.now name)) left
      ∙ list_any-append (λ (k : Bor (List ℕ)). bytes_eq k.now name) old.left.items (key ∷ [])
      ∙ ap (λ b. is_left old name || b) (no_end (bytes_eq key.now name) ∙ either_way key.now name)
      ∙ by_name name (bytes_eq name key.now) refl;
  ahead =
      let less = one_fewer (λ name. not (is_found old name)) (λ name. not (is_found new name))
      key.now names
      (λ name is. narrower (is_found old name) (bytes_eq name key.now)
      (sym (ap not (found name)) ∙ is))
      (ap not fresh)
      (ap not (found key.now ∙ or_last (is_found old key.now) (bytes_eq key.now key.now)
      ((bytes_eq-Decides key.now key.now).1 refl)))
      among in
      let more : length new.left.items ≡ length old.left.items + 1 =
      ap length left ∙ length_end key old.left.items in omega (arith, less, more);
}
  where
    no_end : (b : Bool) → (b || false) ≡ b
    no_end true = refl
    no_end false = refl

    or_last : (a b : Bool) → b ≡ true → (a || b) ≡ true
    or_last true b is = refl
    or_last false b is = is

    by_name : (name : List ℕ) (b : Bool) → bytes_eq name key.now ≡ b
        → (is_left old name || bytes_eq name key.now)
        ≡ (is_left old name || (not (is_found old name) && bytes_eq name key.now))
    by_name name true is =
        let same : name ≡ key.now = (bytes_eq-Decides name key.now).0 is in
        new_one (is_found old name) (bytes_eq name key.now) (ap (is_found old) same ∙ fresh)
        (is_left old name)
    by_name name false is =
        sym (no_more (is_left old name) (bytes_eq name key.now) is)
        ∙ none_left (is_left old name) (is_found old name) (bytes_eq name key.now) is

-- ---- the whole search

-- the file is found, and what is left; what is found is in its closure; and what a file includes
-- that is found and not left is found
pub record Closes (w : World) (from : List ℕ) (s : Search) : Type 0 where
  pub first : is_found s from ≡ true
  pub left : (name : List ℕ) → is_left s name ≡ true → is_found s name ≡ true
  pub sound : (name : List ℕ) → is_found s name ≡ true → is_in_closure w from name ≡ true
  pub closed : (a b : List ℕ) → is_found s a ≡ true → includes w a b ≡ true
      → (is_left s a || is_found s b) ≡ true

-- the file alone
pub closes_first : (w : World) (from : List ℕ) (none s : Search) → none.found.keys ≡ []
    → none.left.items ≡ []
    → ((names : List (List ℕ)) → is_one_of names from ≡ true
    → Finds names (λ name. bytes_eq name from) none s) → Closes w from s
closes_first w from none s no_name no_left adds = record {
  first = found from ∙ itself;
  left = λ name is. found name ∙ sym (left name) ∙ is;
  sound = λ name is.
      let same : name ≡ from = (bytes_eq-Decides name from).0 (sym (found name) ∙ is) in
      subst (λ n. is_in_closure w from n ≡ true) (sym same) (to_itself w w.files from);
  closed = λ a b is more.
      or_first (is_left s a) (is_found s b) (left a ∙ sym (found a) ∙ is);
}
  where
    itself : bytes_eq from from ≡ true
    itself = (bytes_eq-Decides from from).1 refl

    finds : Finds (from ∷ []) (λ name. bytes_eq name from) none s
    finds = adds (from ∷ []) (or_first (bytes_eq from from) false itself)

    not_found : (name : List ℕ) → is_found none name ≡ false
    not_found name =
        ap (list_any (λ (k : Bor (List ℕ)). is_eq (slice_cmp nat_cmp name k.now))) no_name

    not_left : (name : List ℕ) → is_left none name ≡ false
    not_left name = ap (list_any (λ (k : Bor (List ℕ)). bytes_eq k.now name)) no_left

    found : (name : List ℕ) → is_found s name ≡ bytes_eq name from
    found name = finds.found name ∙ ap (λ b. b || bytes_eq name from) (not_found name)

    left : (name : List ℕ) → is_left s name ≡ bytes_eq name from
    left name =
        finds.left name
        ∙ (λ i. not_left name i || (not (not_found name i) && bytes_eq name from))

-- one file is looked at
module _ (w : World) (from : List ℕ) (key : Bor (List ℕ)) (old mid new : Search)
    (closes : Closes w from old) (same : mid.found ≡ old.found)
    (rest : old.left.items ≡ mid.left.items ++ key ∷ [])
    (finds : Finds (names_of w.files) (includes w key.now) mid new) where
  was_left : (name : List ℕ) → is_left old name ≡ (is_left mid name || bytes_eq key.now name)
  was_left name =
      ap (list_any (λ (k : Bor (List ℕ)). bytes_eq k.now name)) rest
      ∙ list_any-append (λ (k : Bor (List ℕ)). bytes_eq k.now name) mid.left.items (key ∷ [])
      ∙ ap (λ b. is_left mid name || b) (sym (no_more (bytes_eq key.now name) false refl))

  was_found : (name : List ℕ) → is_found mid name ≡ is_found old name
  was_found name = ap (λ s. has_name s name) same

  kept : (name : List ℕ) → is_found old name ≡ true → is_found new name ≡ true
  kept name is =
      finds.found name
      ∙ or_first (is_found mid name) (includes w key.now name) (was_found name ∙ is)

  key_found : is_found old key.now ≡ true
  key_found =
      closes.left key.now (was_left key.now
      ∙ or_second (is_left mid key.now) (bytes_eq key.now key.now)
      ((bytes_eq-Decides key.now key.now).1 refl))

  left_found : (name : List ℕ) → is_left new name ≡ true → is_found new name ≡ true
  left_found name is = ⊎_elim
      (λ (was : is_left mid name ≡ true).
      kept name (closes.left name
      (was_left name ∙ or_first (is_left mid name) (bytes_eq key.now name) was)))
      (λ (more : (not (is_found mid name) && includes w key.now name) ≡ true).
      finds.found name ∙ or_second (is_found mid name) (includes w key.now name)
      (and_second (not (is_found mid name)) (includes w key.now name) more))
      (or_cases (is_left mid name) (not (is_found mid name) && includes w key.now name)
      (sym (finds.left name) ∙ is))

  of_left : (a b : List ℕ) → includes w a b ≡ true → is_left old a ≡ true
      → (is_left new a || is_found new b) ≡ true
  of_left a b more is = ⊎_elim
      (λ (was : is_left mid a ≡ true).
      or_first (is_left new a) (is_found new b) (finds.left a
      ∙ or_first (is_left mid a) (not (is_found mid a) && includes w key.now a) was))
      (λ (it : bytes_eq key.now a ≡ true).
      let is_key : key.now ≡ a = (bytes_eq-Decides key.now a).0 it in
      or_second (is_left new a) (is_found new b) (finds.found b
      ∙ or_second (is_found mid b) (includes w key.now b)
      (ap (λ n. includes w n b) is_key ∙ more)))
      (or_cases (is_left mid a) (bytes_eq key.now a) (sym (was_left a) ∙ is))

  by_old : (a b : List ℕ) → includes w a b ≡ true → (o : Bool) → is_found mid a ≡ o
      → is_found new a ≡ true → (is_left new a || is_found new b) ≡ true
  by_old a b more true was is = ⊎_elim
      (λ (left : is_left old a ≡ true). of_left a b more left)
      (λ (found : is_found old b ≡ true).
      or_second (is_left new a) (is_found new b) (kept b found))
      (or_cases (is_left old a) (is_found old b)
      (closes.closed a b (sym (was_found a) ∙ was) more))
  by_old a b more false was is =
      or_first (is_left new a) (is_found new b) (finds.left a
      ∙ or_second (is_left mid a) (not (is_found mid a) && includes w key.now a)
      (and_true (not (is_found mid a)) (includes w key.now a) (ap not was)
      (ap (λ f. f || includes w key.now a) (sym was) ∙ sym (finds.found a) ∙ is)))

  pub closes_more : Closes w from new
  closes_more = record {
    first = kept from closes.first;
    left = left_found;
    sound = λ name is. ⊎_elim
        (λ (was : is_found mid name ≡ true). closes.sound name (sym (was_found name) ∙ was))
        (λ (more : includes w key.now name ≡ true).
        goes_on w from key.now name (closes.sound key.now key_found) more)
        (or_cases (is_found mid name) (includes w key.now name) (sym (finds.found name) ∙ is));
    closed = λ a b is more. by_old a b more (is_found mid a) refl is;
  }

-- no file is left
pub no_items : (keys : List (Bor (List ℕ))) → length keys ≡ 0 → keys ≡ []
no_items [] is = refl
no_items (k ∷ ks) is = absurd (omega (arith, is))

pub closes_all : (w : World) (from name : List ℕ) (s : Search) → Closes w from s
    → s.left.items ≡ [] → is_found s name ≡ is_in_closure w from name
closes_all w from name s closes none =
    same_truth (is_found s name) (is_in_closure w from name) (closes.sound name)
    (all_held w (is_found s)
    (λ a b is more. ap (λ l. l || is_found s b) (sym (not_left a)) ∙ closes.closed a b is more)
    w.files from name closes.first)
  where
    not_left : (n : List ℕ) → is_left s n ≡ false
    not_left n = ap (list_any (λ (k : Bor (List ℕ)). bytes_eq k.now n)) none
