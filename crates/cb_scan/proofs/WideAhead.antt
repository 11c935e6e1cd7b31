-- What is ahead of a token matters only up to a mark that no rule looks for.
use Rattle.std.proofs.Common.{◌≡◌, ◌∙◌, ℕ, Bool, true, false, List, [], ◌∷◌, Option, Some}
use Rattle.std.proofs.Common.{None, refl, sym, ap, subst, ⊎_elim}
use Rattle.std.proofs.lemmas.Bool.{cases_Bool}
use Rattle.std.specs.Prelude.{◌&&◌, ◌||◌, not, cond, if◌then◌else◌}
use Rattle.std.specs.Option.{is_some, option_map}
use Rattle.cb_scan.specs.declared.rules.wide.called.CalledName.{CalledName}
use Rattle.cb_scan.specs.declared.rules.wide.called.Calls.{Calls}
use Rattle.cb_scan.specs.declared.rules.wide.called.Enclosed.{Enclosed}
use Rattle.cb_scan.specs.declared.rules.wide.part.Part.{Part}
use Rattle.cb_scan.specs.declared.rules.wide.pointer.Pointer.{Pointer}
use Rattle.cb_scan.specs.declared.rules.wide.pointer.Pointer.TheVariants.{Nothing, Sought, Found}
use Rattle.cb_scan.specs.declared.rules.wide.role.WideRole.{WideRole}
use Rattle.cb_scan.specs.declared.rules.wide.role.WideRole.TheVariants as wide
use Rattle.cb_scan.specs.declared.rules.wide.tail.Tail.{Tail}
use Rattle.cb_scan.specs.declared.rules.wide.token.WideToken.{WideToken}
use Rattle.cb_scan.specs.rules.wide.Levels.{Numbered, is_byte}
use Rattle.cb_scan.specs.rules.wide.Words.{is_sign, is_specifier, is_text, is_underscored, is_wide_name}
use Rattle.cb_scan.specs.rules.wide.Words.{is_wide_word}
use Rattle.cb_scan.specs.steps.wide.Ahead.{encloses_name, first_is, first_is_word, opens_twice}
use Rattle.cb_scan.specs.steps.wide.Along.{items}
use Rattle.cb_scan.specs.steps.wide.Called.{after_enclosed, enclosed_start, is_more, next_calls}
use Rattle.cb_scan.specs.steps.wide.Called.{next_enclosed}
use Rattle.cb_scan.specs.steps.wide.Parts as parts
use Rattle.cb_scan.specs.steps.wide.Parts.{grown_part}
use Rattle.cb_scan.specs.steps.wide.Pointers.{next_pointer}
use Rattle.cb_scan.specs.steps.wide.Tails as tails
use Rattle.cb_scan.specs.steps.wide.Tails.{name_before, next_tail, or_first}

no_name : (r : WideRole) → is_wide_word r ≡ false → is_wide_name r ≡ false
no_name wide.Name is = is
no_name wide.Underscored is = is
no_name wide.Struct is = refl
no_name wide.Union is = refl
no_name wide.Enum is = refl
no_name wide.Typedef is = refl
no_name wide.Extern is = refl
no_name wide.Static is = refl
no_name wide.Specifier is = refl
no_name wide.Attribute is = refl
no_name wide.Statement is = refl
no_name wide.Reserved is = refl
no_name wide.Str is = refl
no_name wide.Number is = refl
no_name wide.Character is = refl
no_name (wide.Mark x) is = refl

second_false : (a c d : Bool) → (a && false && c && d) ≡ false
second_false true c d = refl
second_false false c d = refl

middle_false : (a b : Bool) → (a && false && b) ≡ false
middle_false true b = refl
middle_false false b = refl

third_false : (a b d : Bool) → (a && b && false && d) ≡ false
third_false true true d = refl
third_false true false d = refl
third_false false b d = refl

-- tokens of which the second is no name, or the third no `)`, enclose none
second_no_name : (a b : WideToken) (xs : List WideToken) → is_wide_name b.role ≡ false
    → encloses_name (a ∷ b ∷ xs) ≡ false
second_no_name a b [] is = refl
second_no_name a b (c ∷ xs) is =
    ap (λ n. is_sign 40 a.role && n && is_sign 41 c.role && first_is 40 xs) is
    ∙ second_false (is_sign 40 a.role) (is_sign 41 c.role) (first_is 40 xs)

abbrev the_name : WideToken → Bool → CalledName
the_name name starred = record { name = name; starred = starred }

abbrev calls_of : Option Enclosed → Option CalledName → Calls
calls_of e f = record { enclosed = e; found = f }

second_of : List WideToken → Option WideToken
second_of [] = None
second_of (y ∷ ys) = Some y

abbrev by_tests : Bool → Option WideToken → Bool → WideToken → Option WideToken
by_tests e second c name = cond e second (cond c (Some name) None)

prototype_form : (t : Tail) (x : WideToken) (l : List WideToken)
    → tails.prototype_at t (x ∷ l)
    ≡ by_tests (t.typed && encloses_name (x ∷ l)) (second_of l) (tails.is_called t (x ∷ l))
    (tails.declared_by t (x ∷ l) x)
unfolding second_of
prototype_form t x [] =
    elim (t.typed) as (λ b. by_tests false None (tails.is_called t (x ∷ [])) (tails.declared_by t (x ∷ []) x)
    ≡ by_tests (b && false) None (tails.is_called t (x ∷ [])) (tails.declared_by t (x ∷ []) x))
    [ true ↦ refl | false ↦ refl ]
prototype_form t x (y ∷ ys) = refl

no_second : (b : Bool) (u v r : Option WideToken) → cond (b && false) u r ≡ cond (b && false) v r
no_second true u v r = refl
no_second false u v r = refl

-- the tail after a token outside, by what is known of the token
abbrev outer_by : Tail → WideToken → Bool → Option WideToken → Tail
outer_by t x c p = record t {
  trailed = tails.trails t x || (c && not (is_underscored x.role));
  name = if c && not (tails.trails t x) then Some x else t.name;
  prototype = or_first t.prototype p;
}

-- the tokens up to the first that passes a test
abbrev pub cut_at : (Numbered → Bool) → List Numbered → List Numbered
cut_at stop [] = []
cut_at stop (x ∷ xs) = cond (stop x) [] (x ∷ cut_at stop xs)

module _ (stop : Numbered → Bool)
    (no_open : (x : Numbered) → stop x ≡ true → is_byte 40 x ≡ false)
    (no_close : (x : Numbered) → stop x ≡ true → is_byte 41 x ≡ false)
    (no_star : (x : Numbered) → stop x ≡ true → is_byte 42 x ≡ false)
    (no_word : (x : Numbered) → stop x ≡ true → is_wide_word x.item.role ≡ false) where
  abbrev cut : List Numbered → List Numbered
  cut xs = cut_at stop xs

  cut_true : (x : Numbered) (xs : List Numbered) → stop x ≡ true → cut (x ∷ xs) ≡ []
  cut_true x xs is = ap (λ b. cond b [] (x ∷ cut xs)) is

  cut_false : (x : Numbered) (xs : List Numbered) → stop x ≡ false → cut (x ∷ xs) ≡ x ∷ cut xs
  cut_false x xs isnt = ap (λ b. cond b [] (x ∷ cut xs)) isnt

  -- what is ahead is the same without what follows
  first_same : (b : ℕ) → ((x : Numbered) → stop x ≡ true → is_byte b x ≡ false) → (xs : List Numbered)
      → first_is b (items xs) ≡ first_is b (items (cut xs))
  first_same b none [] = refl
  first_same b none (x ∷ xs) =
      ⊎_elim
      (λ is. none x is ∙ sym (ap (λ l. first_is b (items l)) (cut_true x xs is)))
      (λ isnt. sym (ap (λ l. first_is b (items l)) (cut_false x xs isnt)))
      (cases_Bool (stop x))

  word_same : (xs : List Numbered) → first_is_word (items xs) ≡ first_is_word (items (cut xs))
  word_same [] = refl
  word_same (x ∷ xs) =
      ⊎_elim
      (λ is. no_word x is ∙ sym (ap (λ l. first_is_word (items l)) (cut_true x xs is)))
      (λ isnt. sym (ap (λ l. first_is_word (items l)) (cut_false x xs isnt)))
      (cases_Bool (stop x))

  open_same : (xs : List Numbered) → first_is 40 (items xs) ≡ first_is 40 (items (cut xs))
  open_same xs = first_same 40 no_open xs

  twice_same : (x : Numbered) (xs : List Numbered)
      → opens_twice (items (x ∷ xs)) ≡ opens_twice (items (x ∷ cut xs))
  twice_same x [] = refl
  twice_same x (y ∷ ys) =
      ⊎_elim
      (λ is.
      ap (λ b. b && first_is 40 (items ys)) (no_open y is)
      ∙ sym (ap (λ l. opens_twice (items (x ∷ l))) (cut_true y ys is)))
      (λ isnt.
      ap (λ b. is_byte 40 y && b) (open_same ys)
      ∙ sym (ap (λ l. opens_twice (items (x ∷ l))) (cut_false y ys isnt)))
      (cases_Bool (stop y))

  enclosed_same : (x : Numbered) (xs : List Numbered)
      → encloses_name (items (x ∷ xs)) ≡ encloses_name (items (x ∷ cut xs))
  enclosed_same x [] = refl
  enclosed_same x (y ∷ []) =
      ⊎_elim
      (λ is. sym (ap (λ l. encloses_name (items (x ∷ l))) (cut_true y [] is)))
      (λ isnt. sym (ap (λ l. encloses_name (items (x ∷ l))) (cut_false y [] isnt)))
      (cases_Bool (stop y))
  enclosed_same x (y ∷ z ∷ zs) =
      ⊎_elim
      (λ is.
      second_no_name x.item y.item (items (z ∷ zs)) (no_name y.item.role (no_word y is))
      ∙ sym (ap (λ l. encloses_name (items (x ∷ l))) (cut_true y (z ∷ zs) is)))
      (λ isnt.
      ⊎_elim
      (λ is.
      ap (λ b. is_byte 40 x && is_wide_name y.item.role && b && first_is 40 (items zs))
      (no_close z is)
      ∙ third_false (is_byte 40 x) (is_wide_name y.item.role) (first_is 40 (items zs))
      ∙ sym (ap (λ l. encloses_name (items (x ∷ y ∷ l))) (cut_true z zs is)))
      (λ not_z.
      ap (λ b. is_byte 40 x && is_wide_name y.item.role && is_byte 41 z && b) (open_same zs)
      ∙ sym (ap (λ l. encloses_name (items (x ∷ y ∷ l))) (cut_false z zs not_z)))
      (cases_Bool (stop z))
      ∙ sym (ap (λ l. encloses_name (items (x ∷ l))) (cut_false y (z ∷ zs) isnt)))
      (cases_Bool (stop y))

  stop_encloses : (x : Numbered) (xs : List Numbered) → stop x ≡ true
      → encloses_name (items (x ∷ xs)) ≡ false
  stop_encloses x [] is = refl
  stop_encloses x (y ∷ []) is = refl
  stop_encloses x (y ∷ z ∷ zs) is =
      ap (λ b. b && is_wide_name y.item.role && is_byte 41 z && first_is 40 (items zs)) (no_open x is)

  rest_same : (xs : List Numbered) → encloses_name (items xs) ≡ encloses_name (items (cut xs))
  rest_same [] = refl
  rest_same (x ∷ xs) =
      ⊎_elim
      (λ is. stop_encloses x xs is ∙ sym (ap (λ l. encloses_name (items l)) (cut_true x xs is)))
      (λ isnt. enclosed_same x xs ∙ sym (ap (λ l. encloses_name (items l)) (cut_false x xs isnt)))
      (cases_Bool (stop x))

  -- ---- so each machine goes on the same
  pointer_same : (p : Pointer) (o : Bool) (x : Numbered) (xs : List Numbered)
      → next_pointer p o (items (x ∷ xs)) x.item ≡ next_pointer p o (items (x ∷ cut xs)) x.item
  pointer_same Nothing o x xs =
      ap (λ b. if o && is_byte 40 x && b then Sought else Nothing) (first_same 42 no_star xs)
  pointer_same Sought o x xs =
      ap (λ b. if is_wide_name x.item.role && not b then Found x.item (first_is 40 (items xs)) else Sought)
      (word_same xs)
      ∙ ap (λ b. if is_wide_name x.item.role && not (first_is_word (items (cut xs)))
      then Found x.item b else Sought) (open_same xs)
  pointer_same (Found name called) o x xs = refl

  enclosed_next : (e : Option Enclosed) (x : Numbered) (xs : List Numbered)
      → after_enclosed e (items (x ∷ xs)) x.item ≡ after_enclosed e (items (x ∷ cut xs)) x.item
  enclosed_next None x xs = refl
  enclosed_next (Some e) x xs =
      let out : Option CalledName = option_map (λ (name : WideToken).
      the_name name e.starred) e.last in
      ap (λ b. if is_wide_word x.item.role || is_byte 42 x
      then calls_of (Some (next_enclosed e x.item)) None
      else calls_of None (if is_more e.amount && is_byte 41 x && b then out else None)) (open_same xs)

  calls_same : (c : Calls) (o : Bool) (x : Numbered) (xs : List Numbered)
      → next_calls c o (items (x ∷ xs)) x.item ≡ next_calls c o (items (x ∷ cut xs)) x.item
  calls_same c o x xs =
      ap (λ d. if is_some c.found then c
      else (if o && is_byte 40 x then calls_of (Some enclosed_start) None else d))
      (enclosed_next c.enclosed x xs)

  candidate_same : (t : Tail) (x : Numbered) (xs : List Numbered)
      → tails.is_candidate t (items (x ∷ xs)) ≡ tails.is_candidate t (items (x ∷ cut xs))
  candidate_same t x xs =
      ap (λ b. is_wide_name x.item.role && t.typed && not b && not (tails.is_barred t)) (open_same xs)

  called_same : (t : Tail) (x : Numbered) (xs : List Numbered)
      → tails.is_called t (items (x ∷ xs)) ≡ tails.is_called t (items (x ∷ cut xs))
  called_same t x xs =
      ap (λ b. is_wide_name x.item.role && t.typed && b && not (tails.trails t x.item)
      && not (encloses_name (items xs)) && tails.follows_type t) (open_same xs)
      ∙ ap (λ b. is_wide_name x.item.role && t.typed && first_is 40 (items (cut xs))
      && not (tails.trails t x.item) && not b && tails.follows_type t) (rest_same xs)

  declared_same : (t : Tail) (x : Numbered) (xs : List Numbered)
      → tails.declared_by t (items (x ∷ xs)) x.item
      ≡ tails.declared_by t (items (x ∷ cut xs)) x.item
  declared_same t x xs = ap (λ b. name_before t.last b x.item) (twice_same x xs)

  second_same : (t : Tail) (x : Numbered) (xs : List Numbered) (r : Option WideToken)
      → cond (t.typed && encloses_name (items (x ∷ cut xs))) (second_of (items xs)) r
      ≡ cond (t.typed && encloses_name (items (x ∷ cut xs))) (second_of (items (cut xs))) r
  unfolding second_of
  second_same t x [] r = refl
  second_same t x (y ∷ ys) r =
      ⊎_elim
      (λ is. subst (λ l. cond (t.typed && encloses_name (items (x ∷ l))) (Some y.item) r
      ≡ cond (t.typed && encloses_name (items (x ∷ l))) (second_of (items l)) r) (sym (cut_true y ys is))
      (no_second t.typed (Some y.item) None r))
      (λ isnt. subst (λ l. cond (t.typed && encloses_name (items (x ∷ l))) (Some y.item) r
      ≡ cond (t.typed && encloses_name (items (x ∷ l))) (second_of (items l)) r) (sym (cut_false y ys isnt)) refl)
      (cases_Bool (stop y))

  prototype_same : (t : Tail) (x : Numbered) (xs : List Numbered)
      → tails.prototype_at t (items (x ∷ xs)) ≡ tails.prototype_at t (items (x ∷ cut xs))
  prototype_same t x xs =
      let after = cut xs in
      prototype_form t x.item (items xs)
      ∙ ap (λ e. by_tests (t.typed && e) (second_of (items xs)) (tails.is_called t (items (x ∷ xs)))
      (tails.declared_by t (items (x ∷ xs)) x.item)) (enclosed_same x xs)
      ∙ ap (λ c. by_tests (t.typed && encloses_name (items (x ∷ after))) (second_of (items xs)) c
      (tails.declared_by t (items (x ∷ xs)) x.item)) (called_same t x xs)
      ∙ ap (λ n. by_tests (t.typed && encloses_name (items (x ∷ after))) (second_of (items xs))
      (tails.is_called t (items (x ∷ after))) n) (declared_same t x xs)
      ∙ second_same t x xs (cond (tails.is_called t (items (x ∷ after)))
      (Some (tails.declared_by t (items (x ∷ after)) x.item)) None)
      ∙ sym (prototype_form t x.item (items after))

  tail_same : (t : Tail) (o : Bool) (x : Numbered) (xs : List Numbered)
      → next_tail t o (items (x ∷ xs)) x.item ≡ next_tail t o (items (x ∷ cut xs)) x.item
  tail_same t o x xs =
      let last : Tail → Tail = λ u. record (if tails.is_end o x.item
      then record t { trailed = x.item.counted; name = None; prototype = None }
      else (if o then u else record t { trailed = false })) {
        typed = t.typed || not (is_specifier x.item.role || is_text x.item.role);
        last = Some x.item;
      } in
      ap (λ c. last (outer_by t x.item c (tails.prototype_at t (items (x ∷ xs))))) (candidate_same t x xs)
      ∙ ap (λ p. last (outer_by t x.item (tails.is_candidate t (items (x ∷ cut xs))) p))
      (prototype_same t x xs)

  pub grown_same : (p : Part) (o : Bool) (x : Numbered) (xs : List Numbered)
      → grown_part p o (items (x ∷ xs)) x.item ≡ grown_part p o (items (x ∷ cut xs)) x.item
  grown_same p o x xs =
      let l = items (x ∷ xs) in
      let m = items (x ∷ cut xs) in
      let made : Calls → Pointer → Tail → Part = λ c q t. record p {
        calls = c;
        pointer = q;
        tail = t;
        is_stray = p.is_stray || parts.is_stray o x.item;
      } in
      ap (λ c. made c (next_pointer p.pointer o l x.item) (next_tail p.tail o l x.item)) (calls_same p.calls o x xs)
      ∙ ap (λ q. made (next_calls p.calls o m x.item) q (next_tail p.tail o l x.item))
      (pointer_same p.pointer o x xs)
      ∙ ap (λ t. made (next_calls p.calls o m x.item) (next_pointer p.pointer o m x.item) t)
      (tail_same p.tail o x xs)

  -- ---- at such a mark nothing that is ahead matters
  module _ (x : Numbered) (is : stop x ≡ true) where
    pointer_alone : (p : Pointer) (o : Bool) (xs : List Numbered)
        → next_pointer p o (items (x ∷ xs)) x.item ≡ next_pointer p o (items (x ∷ [])) x.item
    pointer_alone Nothing o xs =
        let by : Bool → Pointer = λ b. if b then Sought else Nothing in
        ap by (ap (λ b. o && b && first_is 42 (items xs)) (no_open x is)
        ∙ middle_false o (first_is 42 (items xs))
        ∙ sym (ap (λ b. o && b && false) (no_open x is) ∙ middle_false o false))
    pointer_alone Sought o xs =
        ap (λ b. if b && not (first_is_word (items xs)) then Found x.item (first_is 40 (items xs)) else Sought)
        (no_name x.item.role (no_word x is))
        ∙ sym (ap (λ b. if b && true then Found x.item false else Sought)
        (no_name x.item.role (no_word x is)))
    pointer_alone (Found name called) o xs = refl

    enclosed_alone : (e : Option Enclosed) (xs : List Numbered)
        → after_enclosed e (items (x ∷ xs)) x.item ≡ after_enclosed e (items (x ∷ [])) x.item
    enclosed_alone None xs = refl
    enclosed_alone (Some e) xs =
        let out : Option CalledName = option_map (λ (name : WideToken).
        the_name name e.starred) e.last in
        let by : Bool → Calls = λ b.
        if is_wide_word x.item.role || is_byte 42 x
        then calls_of (Some (next_enclosed e x.item)) None
        else calls_of None (if b then out else None) in
        ap by (ap (λ b. is_more e.amount && b && first_is 40 (items xs)) (no_close x is)
        ∙ middle_false (is_more e.amount) (first_is 40 (items xs))
        ∙ sym (ap (λ b. is_more e.amount && b && false) (no_close x is)
        ∙ middle_false (is_more e.amount) false))

    calls_alone : (c : Calls) (o : Bool) (xs : List Numbered)
        → next_calls c o (items (x ∷ xs)) x.item ≡ next_calls c o (items (x ∷ [])) x.item
    calls_alone c o xs =
        ap (λ d. if is_some c.found then c
        else (if o && is_byte 40 x then calls_of (Some enclosed_start) None else d))
        (enclosed_alone c.enclosed xs)

    no_candidate : (t : Tail) (xs : List Numbered) → tails.is_candidate t (items (x ∷ xs)) ≡ false
    no_candidate t xs =
        ap (λ b. b && t.typed && not (first_is 40 (items xs)) && not (tails.is_barred t))
        (no_name x.item.role (no_word x is))

    no_called : (t : Tail) (xs : List Numbered) → tails.is_called t (items (x ∷ xs)) ≡ false
    no_called t xs =
        ap (λ b. b && t.typed && first_is 40 (items xs) && not (tails.trails t x.item)
        && not (encloses_name (items xs)) && tails.follows_type t)
        (no_name x.item.role (no_word x is))

    none : (b : Bool) (u : Option WideToken) → cond (b && false) u None ≡ None
    none true u = refl
    none false u = refl

    no_prototype : (t : Tail) (xs : List Numbered) → tails.prototype_at t (items (x ∷ xs)) ≡ None
    no_prototype t xs =
        let name = tails.declared_by t (items (x ∷ xs)) x.item in
        prototype_form t x.item (items xs)
        ∙ ap (λ e. by_tests (t.typed && e) (second_of (items xs)) (tails.is_called t (items (x ∷ xs))) name)
        (stop_encloses x xs is)
        ∙ ap (λ c. by_tests (t.typed && false) (second_of (items xs)) c name) (no_called t xs)
        ∙ none t.typed (second_of (items xs))

    tail_alone : (t : Tail) (o : Bool) (xs : List Numbered)
        → next_tail t o (items (x ∷ xs)) x.item ≡ next_tail t o (items (x ∷ [])) x.item
    tail_alone t o xs =
        let last : Tail → Tail = λ u. record (if tails.is_end o x.item
        then record t { trailed = x.item.counted; name = None; prototype = None }
        else (if o then u else record t { trailed = false })) {
          typed = t.typed || not (is_specifier x.item.role || is_text x.item.role);
          last = Some x.item;
        } in
        ap (λ c. last (outer_by t x.item c (tails.prototype_at t (items (x ∷ xs))))) (no_candidate t xs)
        ∙ ap (λ p. last (outer_by t x.item false p)) (no_prototype t xs)
        ∙ sym (ap (λ c. last (outer_by t x.item c (tails.prototype_at t (items (x ∷ []))))) (no_candidate t [])
        ∙ ap (λ p. last (outer_by t x.item false p)) (no_prototype t []))

    pub grown_alone : (p : Part) (o : Bool) (xs : List Numbered)
        → grown_part p o (items (x ∷ xs)) x.item ≡ grown_part p o (items (x ∷ [])) x.item
    grown_alone p o xs =
        let l = items (x ∷ xs) in
        let m = items (x ∷ []) in
        let made : Calls → Pointer → Tail → Part = λ c q t. record p {
          calls = c;
          pointer = q;
          tail = t;
          is_stray = p.is_stray || parts.is_stray o x.item;
        } in
        ap (λ c. made c (next_pointer p.pointer o l x.item) (next_tail p.tail o l x.item)) (calls_alone p.calls o xs)
        ∙ ap (λ q. made (next_calls p.calls o m x.item) q (next_tail p.tail o l x.item))
        (pointer_alone p.pointer o xs)
        ∙ ap (λ t. made (next_calls p.calls o m x.item) (next_pointer p.pointer o m x.item) t)
        (tail_alone p.tail o xs)
