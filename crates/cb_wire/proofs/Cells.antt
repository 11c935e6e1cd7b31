-- A text as a list of characters: the bytes of each, and its units.
use Rattle.std.proofs.Common.{◌≡◌, ◌∙◌, sym, ap, refl, subst, ℕ, ◌+◌, ◌-◌, ◌/◌, ◌%◌, ◌<◌, ◌≤◌}
use Rattle.std.proofs.Common.{true, false, cond, ◌==◌, nat_lt, List, [], ◌∷◌, ◌++◌}
use Rattle.std.proofs.Common.{length, flat_map, chars, IsUtf8, arith, inl, inr}
use Rattle.std.proofs.Common.{◌⊎◌, ⊎_elim, encode_utf8_all}
use Rattle.std.specs.Char.{IsScalar, encode_utf8}
use Rattle.std.specs.Char.Escape.{encode_utf16}
use Rattle.std.specs.Char.Utf16.{is_low_surrogate}
use Rattle.std.specs.List.{AllByRecursion}
use Rattle.std.specs.Str.{all_scalars}
use Rattle.std.proofs.lemmas.Bool.{and_from, and_parts, cases_lt, cond-true, cond-false}
use Rattle.std.proofs.lemmas.Bool.Decides.{nat_tests}
use Rattle.std.proofs.lemmas.Str.{chars-encodes, encode_ascii, length-encode}
use lib.Utf8.{scalar_cases}
use Rattle.bstr.specs.Utf8.{Decoded}
use Rattle.bstr.proofs.lemmas.EncodeLemmas.{decoded-encode}
use Rattle.cb_scan.proofs.FunctionsRise.{all_implied}
use Rattle.cb_scan.proofs.WithinLemmas.{all-append}
use Rattle.cb_wire.specs.declared.units.Encoding.{Encoding}
use Rattle.cb_wire.specs.declared.units.Encoding.TheVariants.{Utf8, Utf16}
use Rattle.cb_wire.specs.Offsets.{ends_line, units}
use Rattle.cb_wire.specs.Units.{first, sequence}

-- a list without an end of a line
abbrev pub HasNoEnd : List ℕ → Type 0
HasNoEnd us = AllByRecursion (λ u. ends_line u ≡ false) us

-- the bytes of a character, and its units: in UTF-8 each byte counts as a character
abbrev pub bytes_for : Encoding → ℕ → List ℕ
bytes_for Utf8 b = b ∷ []
bytes_for Utf16 c = encode_utf8 c

abbrev pub units_for : Encoding → ℕ → List ℕ
units_for Utf8 b = b ∷ []
units_for Utf16 c = encode_utf16 c

abbrev pub IsCode : Encoding → ℕ → Type 0
IsCode Utf8 b = b < 256
IsCode Utf16 c = IsScalar c

-- one unit, or a pair of surrogates
pub data AreUnits (us : List ℕ) : Type 0 where
  one : (u : ℕ) → us ≡ u ∷ [] → is_low_surrogate u ≡ false → AreUnits us
  two : (u v : ℕ) → us ≡ u ∷ v ∷ [] → is_low_surrogate u ≡ false → is_low_surrogate v ≡ true
      → AreUnits us

pub record IsCell (e : Encoding) (c : ℕ) : Type 0 where
  pub counts : (rest : List ℕ) → first e (bytes_for e c ++ rest)
      ≡ record { bytes = length (bytes_for e c); units = length (units_for e c) }
  pub some : 0 < length (bytes_for e c)
  pub is_units : AreUnits (units_for e c)
  pub ends : ends_line c ≡ true → (bytes_for e c ≡ c ∷ []) × (units_for e c ≡ c ∷ [])
  pub goes_on : ends_line c ≡ false → HasNoEnd (bytes_for e c) × HasNoEnd (units_for e c)

-- ---- units

not_low : (u : ℕ) → (u < 0xDC00) ⊎ (0xE000 ≤ u) → is_low_surrogate u ≡ false
not_low u (inl h) = grind (arith, nat_tests)
not_low u (inr h) = grind (arith, nat_tests)

low : (u : ℕ) → 0xDC00 ≤ u → u < 0xE000 → is_low_surrogate u ≡ true
low u p q = grind (arith, nat_tests)

far : (u : ℕ) → 14 ≤ u → ends_line u ≡ false
far u p = grind (arith, nat_tests)

-- ---- characters in UTF-8 and in UTF-16

module _ (c : ℕ) where
  narrow-units : c < 0x1_0000 → encode_utf16 c ≡ c ∷ []
  narrow-units p = cond-true (nat_lt c 0x1_0000) _ _ (grind (arith, nat_tests))

  wide-units : 0x1_0000 ≤ c → encode_utf16 c
      ≡ (0xD800 + (c - 0x1_0000) / 0x400) ∷ (0xDC00 + (c - 0x1_0000) % 0x400) ∷ []
  wide-units p = cond-false (nat_lt c 0x1_0000) _ _ (grind (arith, nat_tests))

  narrow-length : c < 0x1_0000 → (length (encode_utf8 c) == 4) ≡ false
  narrow-length p = let n = length-encode c in grind (arith, nat_tests)

  wide-length : 0x1_0000 ≤ c → (length (encode_utf8 c) == 4) ≡ true
  wide-length p = let n = length-encode c in grind (arith, nat_tests)

  units-length : cond (length (encode_utf8 c) == 4) 2 1 ≡ length (encode_utf16 c)
  units-length = ⊎_elim
      (λ (p : c < 0x1_0000). cond-false _ _ _ (narrow-length p) ∙ ap length (sym (narrow-units p)))
      (λ (p : 0x1_0000 ≤ c). cond-true _ _ _ (wide-length p) ∙ ap length (sym (wide-units p)))
      (cases_lt c 0x1_0000)

  -- from 128 on, all bytes are
  module _ (p : 128 ≤ c) where
    abbrev IsWide : ℕ → Type 0
    IsWide b = (128 ≤ b) × (b < 256)

    bytes-wide : IsScalar c → AllByRecursion IsWide (encode_utf8 c)
    unfolding encode_utf8
    bytes-wide is =
        let range = scalar_cases c is in
        let top : c < 1114112 = ⊎_elim (λ h. omega arith) (λ h. h.1) range in
        let not_one : nat_lt c 128 ≡ false = grind (arith, nat_tests) in
        ⊎_elim
        (λ (two : c < 2048).
        let yes : nat_lt c 2048 ≡ true = grind (arith, nat_tests) in
        subst (AllByRecursion IsWide)
        (sym (cond-false (nat_lt c 128) _ _ not_one ∙ cond-true (nat_lt c 2048) _ _ yes))
        ((omega arith, omega arith), ((omega arith, omega arith), tt)))
        (λ (more : 2048 ≤ c).
        let not_two : nat_lt c 2048 ≡ false = grind (arith, nat_tests) in
        ⊎_elim
        (λ (three : c < 65536).
        let yes : nat_lt c 65536 ≡ true = grind (arith, nat_tests) in
        subst (AllByRecursion IsWide)
        (sym (cond-false (nat_lt c 128) _ _ not_one ∙ cond-false (nat_lt c 2048) _ _ not_two
        ∙ cond-true (nat_lt c 65536) _ _ yes)) (
          (omega arith, omega arith),
          ((omega arith, omega arith), ((omega arith, omega arith), tt)),
        ))
        (λ (four : 65536 ≤ c).
        let not_three : nat_lt c 65536 ≡ false = grind (arith, nat_tests) in
        subst (AllByRecursion IsWide)
        (sym (cond-false (nat_lt c 128) _ _ not_one ∙ cond-false (nat_lt c 2048) _ _ not_two
        ∙ cond-false (nat_lt c 65536) _ _ not_three)) (
          (omega arith, omega arith),
          ((omega arith, omega arith), ((omega arith, omega arith), ((omega arith, omega arith), tt))),
        ))
        (cases_lt c 65536))
        (cases_lt c 2048)

module _ (c : ℕ) (is : IsScalar c) where
  top : c < 1114112
  top = ⊎_elim (λ h. omega arith) (λ h. h.1) (scalar_cases c is)

  utf16-units : AreUnits (encode_utf16 c)
  utf16-units = ⊎_elim
      (λ (p : c < 0x1_0000).
      one c (narrow-units c p) (not_low c (⊎_elim (λ h. inl (omega arith)) (λ h. inr h.0)
      (scalar_cases c is))))
      (λ (p : 0x1_0000 ≤ c).
      let t = top in
      let u = 0xD800 + (c - 0x1_0000) / 0x400 in
      let v = 0xDC00 + (c - 0x1_0000) % 0x400 in
      let u_low : u < 0xDC00 = omega (arith, t) in
      let v_high : 0xDC00 ≤ v = omega arith in
      let v_low : v < 0xE000 = omega arith in
      two u v (wide-units c p) (not_low u (inl u_low)) (low v v_high v_low))
      (cases_lt c 0x1_0000)

  utf8-no_end : ends_line c ≡ false → HasNoEnd (encode_utf8 c)
  utf8-no_end bare = ⊎_elim
      (λ (p : c < 128). subst HasNoEnd (sym (encode_ascii c p)) (bare, tt))
      (λ (p : 128 ≤ c). all_implied _ _ (λ u h. far u (omega (arith, h.0))) (encode_utf8 c)
      (bytes-wide c p is))
      (cases_lt c 128)

  utf16-no_end : ends_line c ≡ false → HasNoEnd (encode_utf16 c)
  utf16-no_end bare = ⊎_elim
      (λ (p : c < 0x1_0000). subst HasNoEnd (sym (narrow-units c p)) (bare, tt))
      (λ (p : 0x1_0000 ≤ c).
      let u = 0xD800 + (c - 0x1_0000) / 0x400 in
      let v = 0xDC00 + (c - 0x1_0000) % 0x400 in
      let u_far : 14 ≤ u = omega arith in
      let v_far : 14 ≤ v = omega arith in
      subst HasNoEnd (sym (wide-units c p)) (far u u_far, (far v v_far, tt)))
      (cases_lt c 0x1_0000)

  utf16-counts : (rest : List ℕ) → first Utf16 (encode_utf8 c ++ rest)
      ≡ record { bytes = length (encode_utf8 c); units = length (encode_utf16 c) }
  utf16-counts rest =
      ap (λ (d : Decoded). sequence d.char d.size) (decoded-encode c rest is)
      ∙ ap (λ n. record { bytes = length (encode_utf8 c); units = n }) (units-length c)

small-end : (c : ℕ) → ends_line c ≡ true → c < 14
small-end c h = grind (arith, nat_tests)

pub cell : (e : Encoding) (c : ℕ) → IsCode e c → IsCell e c
cell Utf8 b p = record {
  counts = λ rest. refl;
  some = omega arith;
  is_units = one b refl (not_low b (inl (omega arith)));
  ends = λ h. (refl, refl);
  goes_on = λ h. ((h, tt), (h, tt));
}
cell Utf16 c p = record {
  counts = utf16-counts c p;
  some = let n = length-encode c in grind (arith, nat_tests);
  is_units = utf16-units c p;
  ends = λ h.
      let s = small-end c h in (encode_ascii c (omega arith), narrow-units c (omega arith));
  goes_on = λ h. (utf8-no_end c p h, utf16-no_end c p h);
}

-- ---- texts

abbrev pub AreCodes : Encoding → List ℕ → Type 0
AreCodes e cs = AllByRecursion (IsCode e) cs

abbrev pub bytes_all : Encoding → List ℕ → List ℕ
bytes_all e cs = flat_map (bytes_for e) cs

abbrev pub units_all : Encoding → List ℕ → List ℕ
units_all e cs = flat_map (units_for e) cs

single : (xs : List ℕ) → xs ≡ flat_map (λ x. x ∷ []) xs
single [] = refl
single (x ∷ xs) = ap (λ l. x ∷ l) (single xs)

encodes-all : (cs : List ℕ) → encode_utf8_all cs ≡ flat_map encode_utf8 cs
encodes-all [] = refl
encodes-all (c ∷ cs) = ap (λ l. encode_utf8 c ++ l) (encodes-all cs)

scalars-all : (cs : List ℕ) → all_scalars cs ≡ true → AllByRecursion IsScalar cs
scalars-all [] h = tt
scalars-all (c ∷ cs) h = let both = and_parts _ _ h in (both.0, scalars-all cs both.1)

-- the bytes of characters are bytes
small-bytes : (c : ℕ) → IsScalar c → AllByRecursion (λ b. b < 256) (encode_utf8 c)
small-bytes c is = ⊎_elim
    (λ (p : c < 128).
    subst (AllByRecursion (λ b. b < 256)) (sym (encode_ascii c p)) (omega arith, tt))
    (λ (p : 128 ≤ c). all_implied _ _ (λ u h. h.1) (encode_utf8 c) (bytes-wide c p is))
    (cases_lt c 128)

all-bytes : (cs : List ℕ) → AllByRecursion IsScalar cs
    → AllByRecursion (λ b. b < 256) (encode_utf8_all cs)
all-bytes [] all = tt
all-bytes (c ∷ cs) all =
    all-append (λ b. b < 256) (encode_utf8 c) (encode_utf8_all cs) (small-bytes c all.0)
    (all-bytes cs all.1)

all-scalars : (cs : List ℕ) → AllByRecursion IsScalar cs → all_scalars cs ≡ true
all-scalars [] all = refl
all-scalars (c ∷ cs) all = and_from _ _ all.0 (all-scalars cs all.1)

-- the units of the bytes of characters are those of the characters
pub units-of : (e : Encoding) (cs : List ℕ) → AreCodes e cs
    → units e (bytes_all e cs) ≡ units_all e cs
units-of Utf8 cs codes = refl
units-of Utf16 cs codes =
    ap (λ l. flat_map encode_utf16 (chars l)) (sym (encodes-all cs))
    ∙ ap (flat_map encode_utf16) (chars-encodes cs (all-scalars cs codes))

-- a text, by its characters
pub record Reads (e : Encoding) (text cs : List ℕ) : Type 0 where
  pub codes : AreCodes e cs
  pub bytes : text ≡ bytes_all e cs

-- a text in UTF-8 has characters
pub characters-of : (e : Encoding) (text : List ℕ) → IsUtf8 text → (cs : List ℕ) × Reads e text cs
characters-of Utf8 text is =
    let all = all-bytes is.0 (scalars-all is.0 is.1.0) in (
      text,
      record {
        codes = subst (AllByRecursion (λ b. b < 256)) is.1.1 all;
        bytes = single text;
      },
    )
characters-of Utf16 text is = (
  is.0,
  record {
    codes = scalars-all is.0 is.1.0;
    bytes = sym is.1.1 ∙ encodes-all is.0;
  },
)
