-- A level looks no further ahead than the next brace or `;`.
use Rattle.std.proofs.Common.{◌≡◌, ◌∙◌, ℕ, Bool, true, false, List, [], ◌∷◌, refl, sym, ap, ⊎_elim}
use Rattle.std.proofs.lemmas.Bool.{cases_Bool, false≢true}
use Rattle.std.specs.Prelude.{◌&&◌, ◌||◌, ◌==◌, cond, not, if◌then◌else◌}
use Rattle.cb_scan.specs.declared.rules.wide.declaration.Declaration.{Declaration}
use Rattle.cb_scan.specs.declared.rules.wide.enumeration.Enumeration.{Enumeration}
use Rattle.cb_scan.specs.declared.rules.wide.level.Level.{Level}
use Rattle.cb_scan.specs.declared.rules.wide.level.Level.TheVariants.{Block, Enumerators, Members}
use Rattle.cb_scan.specs.declared.rules.wide.part.Part.{Part}
use Rattle.cb_scan.specs.declared.rules.wide.role.WideRole.{WideRole}
use Rattle.cb_scan.specs.declared.rules.wide.role.WideRole.TheVariants as wrole
use Rattle.cb_scan.specs.declared.facts.Kind.TheVariants as kind
use Rattle.cb_scan.specs.declared.rules.wide.token.WideToken.{WideToken}
use Rattle.cb_scan.specs.rules.Typedefs.{nesting_after}
use Rattle.cb_scan.specs.rules.wide.Attributes.{ends_attribute}
use Rattle.cb_scan.specs.rules.wide.Kinds.{def_in}
use Rattle.cb_scan.specs.rules.wide.Levels.{Numbered, numbered}
use Rattle.cb_scan.specs.rules.wide.Words.{is_sign, is_wide_name, is_wide_word}
use Rattle.cb_scan.specs.steps.wide.Ahead.{first_is, seen, up_to_mark}
use Rattle.cb_scan.specs.steps.wide.Along.{items}
use Rattle.cb_scan.specs.steps.wide.Contents.{level_out, next_level}
use Rattle.cb_scan.specs.steps.wide.Declarations.{closes, ends_part, grown, next_member, noted}
use Rattle.cb_scan.specs.steps.wide.Enumerators.{is_enumerator}
use Rattle.cb_scan.specs.steps.wide.Parts as parts
use Rattle.cb_scan.specs.steps.wide.Parts.{grown_part, next_part}
use Rattle.cb_scan.proofs.WideAhead.{cut_at, grown_alone, grown_same}
use Rattle.cb_scan.proofs.WideHeads.{items_are}
use Rattle.cb_scan.proofs.WideTails.{sign_is}

-- ---- a brace or a `;`

-- a test on roles that none of the three passes
pub mark_fails : (test : WideRole → Bool) (r : WideRole)
    → test (wrole.Mark 59) ≡ false → test (wrole.Mark 123) ≡ false → test (wrole.Mark 125) ≡ false
    → ends_attribute r ≡ true → test r ≡ false
mark_fails test r s o c is =
    by_sign (is_sign 59 r) (is_sign 123 r) (is_sign 125 r) is
    (λ e. ap test (sign_is 59 r e) ∙ s) (λ e. ap test (sign_is 123 r e) ∙ o)
    (λ e. ap test (sign_is 125 r e) ∙ c)
  where
    by_sign : (a b d : Bool) → (a || b || d) ≡ true → (a ≡ true → test r ≡ false)
        → (b ≡ true → test r ≡ false) → (d ≡ true → test r ≡ false) → test r ≡ false
    by_sign true b d is by_a by_b by_d = by_a refl
    by_sign false true d is by_a by_b by_d = by_b refl
    by_sign false false true is by_a by_b by_d = by_d refl
    by_sign false false false is by_a by_b by_d = absurd (false≢true is)

pub mark_is_not : (b : ℕ) (r : WideRole) → (59 == b) ≡ false → (123 == b) ≡ false → (125 == b) ≡ false
    → ends_attribute r ≡ true → is_sign b r ≡ false
mark_is_not b r = mark_fails (is_sign b) r

pub mark_is_no_word : (r : WideRole) → ends_attribute r ≡ true → is_wide_word r ≡ false
mark_is_no_word r = mark_fails is_wide_word r refl refl refl

pub mark_is_no_name : (r : WideRole) → ends_attribute r ≡ true → is_wide_name r ≡ false
mark_is_no_name r = mark_fails is_wide_name r refl refl refl

-- ---- the tokens up to the next one
abbrev stop : Numbered → Bool
stop m = ends_attribute m.item.role

cut_is : (n : ℕ) (xs : List WideToken) → items (cut_at stop (numbered n xs)) ≡ up_to_mark xs
unfolding numbered
cut_is n [] = refl
cut_is n (x ∷ xs) =
    let rest = cut_at stop (numbered (nesting_after x.token n) xs) in
    elim (ends_attribute x.role) as (λ b.
    items (cond b [] (record { item = x; count = n } ∷ rest)) ≡ cond b [] (x ∷ up_to_mark xs))
    [ true ↦ refl | false ↦ ap (λ l. x ∷ l) (cut_is (nesting_after x.token n) xs) ]

first_same : (b : ℕ) → (59 == b) ≡ false → (123 == b) ≡ false → (125 == b) ≡ false → (xs : List WideToken)
    → first_is b xs ≡ first_is b (up_to_mark xs)
first_same b s o c [] = refl
first_same b s o c (x ∷ xs) =
    ⊎_elim
    (λ is. mark_is_not b x.role s o c is
    ∙ sym (ap (λ e. first_is b (cond e [] (x ∷ up_to_mark xs))) is))
    (λ isnt. sym (ap (λ e. first_is b (cond e [] (x ∷ up_to_mark xs))) isnt))
    (cases_Bool (ends_attribute x.role))

-- ---- a part, and what is made of it
pub part_seen : (p : Part) (o : Bool) (x : WideToken) (xs : List WideToken)
    → next_part p o (x ∷ xs) x ≡ next_part p o (seen (x ∷ xs)) x
part_seen p o x xs =
    let m : Numbered = record { item = x; count = 0 } in
    let ns = numbered 0 xs in
    let by : Part → Part = λ g. if p.has_value then p
    else (if parts.begins_value o x then record p { has_value = true } else g) in
    ap (λ l. by (grown_part p o (x ∷ l) x)) (sym (items_are 0 xs))
    ∙ ap by (⊎_elim
    (λ is.
    grown_alone stop (λ y e. mark_is_not 40 y.item.role refl refl refl e)
    (λ y e. mark_is_not 41 y.item.role refl refl refl e)
    (λ y e. mark_is_not 42 y.item.role refl refl refl e) (λ y e. mark_is_no_word y.item.role e) m is p o ns
    ∙ ap (λ b. grown_part p o (x ∷ cond b [] (up_to_mark xs)) x) (sym is))
    (λ isnt.
    grown_same stop (λ y e. mark_is_not 40 y.item.role refl refl refl e)
    (λ y e. mark_is_not 41 y.item.role refl refl refl e)
    (λ y e. mark_is_not 42 y.item.role refl refl refl e) (λ y e. mark_is_no_word y.item.role e) p o m ns
    ∙ ap (λ l. grown_part p o (x ∷ l) x) (cut_is 0 xs)
    ∙ ap (λ b. grown_part p o (x ∷ cond b [] (up_to_mark xs)) x) (sym isnt))
    (cases_Bool (ends_attribute x.role)))

pub grown_seen : (d : Declaration) (x : WideToken) (xs : List WideToken)
    → grown d (x ∷ xs) x ≡ grown d (seen (x ∷ xs)) x
grown_seen d x xs =
    let with : Part → Declaration = λ p. record (if d.count == 0 then noted d x else d) {
      part = p;
      closes = closes x;
      count = nesting_after x.token d.count;
    } in
    ap with (part_seen d.part (d.count == 0) x xs)

-- ---- a level
enumerator_seen : (e : Enumeration) (x : WideToken) (xs : List WideToken)
    → is_enumerator e (x ∷ xs) ≡ is_enumerator e (seen (x ∷ xs))
enumerator_seen e x xs =
    ⊎_elim
    (λ is.
    none (first_is 40 xs) is ∙ sym (none false is)
    ∙ ap (λ b. is_enumerator e (x ∷ cond b [] (up_to_mark xs))) (sym is))
    (λ isnt.
    ap (λ b. e.expects && is_wide_name x.role && not b) (first_same 40 refl refl refl xs)
    ∙ ap (λ b. is_enumerator e (x ∷ cond b [] (up_to_mark xs))) (sym isnt))
    (cases_Bool (ends_attribute x.role))
  where
    no_third : (a b : Bool) → (a && false && b) ≡ false
    no_third true b = refl
    no_third false b = refl

    none : (f : Bool) → ends_attribute x.role ≡ true → (e.expects && is_wide_name x.role && not f) ≡ false
    none f is = ap (λ b. e.expects && b && not f) (mark_is_no_name x.role is) ∙ no_third e.expects (not f)

pub out_seen : (l : Level) (x : WideToken) (xs : List WideToken)
    → level_out l (x ∷ xs) x ≡ level_out l (seen (x ∷ xs)) x
out_seen (Members tag d) x xs = refl
out_seen (Enumerators tag e) x xs =
    ap (λ b. if b then def_in kind.Enumerator tag x.token ∷ [] else []) (enumerator_seen e x xs)
out_seen Block x xs = refl

pub next_seen : (l : Level) (x : WideToken) (xs : List WideToken)
    → next_level l (x ∷ xs) x ≡ next_level l (seen (x ∷ xs)) x
next_seen (Members tag d) x xs =
    ap (λ g. Members tag (if ends_part d x then next_member d x else g)) (grown_seen d x xs)
next_seen (Enumerators tag e) x xs = refl
next_seen Block x xs = refl
